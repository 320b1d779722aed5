-- The laws of `skiplist`: its roles give what the plain functions give, and these are those of a map.
use Rattle.std.proofs.Common.{◌≡◌, ℕ, suc, ◌+◌, ◌*◌, ◌≤◌, length, is_some, if◌then◌else◌, refl, ap, sym, ◌∙◌, arith}
use Rattle.core_terms.specs.Values.{UnitV, IntV, PairV, NoV, AndV}
use Rattle.ideal_meaning.specs.Headline.{call_values}
use Rattle.ads_library.specs.Entries.{Entry}
use Rattle.ads_library.specs.Maps.{argument_of, answer, IsMapOf, AnyNumber}
use Rattle.ads_library.specs.SkipList.{Lane, bare, find, insert, entries, reach, IsSkipList, lane_value, empty_role, get_role, put_role, SkipListRoles, SkipListKeepsMap}
use Rattle.ads_library.specs.SkipListProgram.{skiplist}
use Rattle.ads_library.proofs.Settled.{computes}
use Rattle.ads_library.proofs.Maps.{map_law}
use Rattle.ads_library.proofs.SkipList.{skip_list_is_map}
use Rattle.ads_library.proofs.SkipListRuns.{get_runs, put_runs, bare_runs}

pub skip_list_roles : SkipListRoles
skip_list_roles = record {
  empty = computes skiplist empty_role (AndV UnitV NoV) (lane_value (bare 17)) 0 19 bare_runs;
  get = λ t key.
      computes skiplist get_role (call_values (lane_value t) (IntV key)) (answer (find t key)) 0 (reach t + 2)
      (get_runs t key 0 (reach t + 2) (omega arith));
  put = λ t e int.
      computes skiplist put_role (call_values (lane_value t) (argument_of e)) (PairV (lane_value (insert t e.key e.value)) UnitV) 0 (2 * reach t + 21)
      (put_runs t e.key e.value 0 (2 * reach t + 21) int (omega arith));
}

-- what is known of a lane with n keys
record Keeps (t : Lane) (n : ℕ) : Type 0 where
  invariants : IsSkipList t
  count : length (entries t) ≡ n

cost : Lane → ℕ
cost t = 2 * reach t + 21

cost_fits : (t : Lane) (n : ℕ) → Keeps t n → AnyNumber n → cost t ≤ 100 * (n + 20)
unfolding cost
cost_fits t n h few = let low = skip_list_is_map.reach_bound t h.invariants in omega (arith, low, h.count)

adds : (t : Lane) (n : ℕ) → Keeps t n → (e : Entry) → Keeps (insert t e.key e.value) (if is_some (find t e.key) then n else suc n)
adds t n h e = record {
  invariants = skip_list_is_map.kept t e.key e.value h.invariants;
  count = skip_list_is_map.counted t e.key e.value h.invariants ∙ ap (λ c. if is_some (find t e.key) then c else suc c) h.count;
}

pub skip_list_keeps_map : SkipListKeepsMap
unfolding cost
skip_list_keeps_map =
    let law = map_law skiplist empty_role get_role put_role 100 (λ n. 100 * (n + 20)) AnyNumber refl refl refl
    Lane lane_value (bare 17) (λ t e. insert t e.key e.value) find Keeps cost cost_fits (refl, omega arith)
    (λ t n h key int. get_runs t key 0 (2 * reach t + 21) (omega arith))
    (λ t n h e ints. put_runs t e.key e.value 0 (2 * reach t + 21) ints.0 (omega arith))
    (record { invariants = skip_list_is_map.empty.0; count = ap length skip_list_is_map.empty.1 }) skip_list_is_map.nothing adds
    (λ t n h e key. skip_list_is_map.found t e.key e.value key h.invariants) in
    record {
      map = law.map;
      states = λ puts state ints after.
          let h = law.kept puts state ints after in
          let is_map : IsMapOf puts (entries h.tree) = record {
            values = λ key. sym (skip_list_is_map.listed h.tree key h.keeps.invariants) ∙ h.finds_all key;
            count = h.keeps.count;
          } in
          (h.tree, h.value, h.keeps.invariants, is_map);
    }
