-- The laws of `redblack`: its roles give what the plain functions give, and these are those of a map.
use Rattle.std.proofs.Common.{◌≡◌, ℕ, suc, ◌+◌, ◌*◌, ◌^◌, ◌≤◌, ◌<◌, length, is_some, if◌then◌else◌, refl, ap, sym, ◌∙◌, arith}
use Rattle.core_terms.specs.Values.{UnitV, IntV, PairV, NoV, AndV}
use Rattle.ideal_meaning.specs.Headline.{call_values}
use Rattle.ads_library.specs.Entries.{Entry}
use Rattle.ads_library.specs.Maps.{argument_of, answer, IsMapOf}
use Rattle.ads_library.specs.RedBlackTree.{Tree, Leaf, find, insert, entries, height, IsRedBlack, tree_value, empty_role, get_role, put_role, RedBlackRoles, RedBlackKeepsMap}
use Rattle.ads_library.specs.RedBlackProgram.{redblack}
use Rattle.ads_library.proofs.Settled.{computes}
use Rattle.ads_library.proofs.Maps.{map_law}
use Rattle.ads_library.proofs.RedBlackTree.{red_black_is_map, at_most_60}
use Rattle.ads_library.proofs.RedBlackRuns.{get_runs, put_runs}

pub red_black_roles : RedBlackRoles
red_black_roles = record {
  empty = computes redblack empty_role (AndV UnitV NoV) (tree_value Leaf) 0 1 (refl, omega arith);
  get = λ t key.
      computes redblack get_role (call_values (tree_value t) (IntV key)) (answer (find t key)) 0 (height t + 2)
      (get_runs t key 0 (height t + 2) (omega arith));
  put = λ t e.
      computes redblack put_role (call_values (tree_value t) (argument_of e)) (PairV (tree_value (insert t e.key e.value)) UnitV) 0 (2 * height t + 3)
      (put_runs t e.key e.value 0 (2 * height t + 3) (omega arith));
}

-- what is known of a tree with n keys
record Keeps (t : Tree) (n : ℕ) : Type 0 where
  invariants : IsRedBlack t
  count : length (entries t) ≡ n

cost : Tree → ℕ
cost t = 2 * height t + 3

cost_fits : (t : Tree) (n : ℕ) → Keeps t n → n < 2 ^ 30 → cost t ≤ 1000
unfolding cost
cost_fits t n h few = let low = at_most_60 t h.invariants (omega (arith, h.count, few)) in omega (arith, low)

adds : (t : Tree) (n : ℕ) → Keeps t n → (e : Entry) → Keeps (insert t e.key e.value) (if is_some (find t e.key) then n else suc n)
adds t n h e = record {
  invariants = red_black_is_map.kept t e.key e.value h.invariants;
  count = red_black_is_map.counted t e.key e.value h.invariants ∙ ap (λ c. if is_some (find t e.key) then c else suc c) h.count;
}

pub red_black_keeps_map : RedBlackKeepsMap
unfolding cost
red_black_keeps_map =
    let law = map_law redblack empty_role get_role put_role 100 (λ n. 1000) (λ n. n < 2 ^ 30) refl refl refl
    Tree tree_value Leaf (λ t e. insert t e.key e.value) find Keeps cost cost_fits (refl, omega arith)
    (λ t n h key int. get_runs t key 0 (2 * height t + 3) (omega arith))
    (λ t n h e ints. put_runs t e.key e.value 0 (2 * height t + 3) (omega arith))
    (record { invariants = red_black_is_map.empty; count = refl }) red_black_is_map.nothing adds
    (λ t n h e key. red_black_is_map.found t e.key e.value key h.invariants) in
    record {
      map = law.map;
      states = λ puts state ints after.
          let h = law.kept puts state ints after in
          let is_map : IsMapOf puts (entries h.tree) = record {
            values = λ key. sym (red_black_is_map.listed h.tree key h.keeps.invariants) ∙ h.finds_all key;
            count = h.keeps.count;
          } in
          (h.tree, h.value, h.keeps.invariants, is_map);
    }
