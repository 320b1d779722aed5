-- From a plain tree that is a map to the law of a program that keeps one.
use Rattle.std.proofs.Common.{◌≡◌, ℕ, suc, ◌≤◌, List, [], ◌∷◌, codes, ℤ, Option, Some, None, is_some, int_eq, if◌then◌else◌, ap, subst, ◌∙◌, arith}
use Rattle.core_terms.specs.Values.{Value, UnitV, IntV, PairV, NoV, AndV}
use Rattle.core_terms.specs.Terms.{Program}
use Rattle.core_terms.specs.Roles.{role_named}
use Rattle.ideal_meaning.specs.Ideal.{ideal, outcome, Done}
use Rattle.ideal_meaning.specs.Headline.{call_values}
use Rattle.ads_library.specs.Entries.{Entry, IsInt, HasInts, AllHaveInts}
use Rattle.ads_library.specs.Maps.{argument_of, last_value, distinct_keys, answer, IsAfter, GivesAfter, KeepsMap}
use Rattle.ads_library.proofs.Stepping.{Leaves}
use Rattle.ads_library.proofs.Settled.{gives_only, gives_with, computes, same_value}

-- the program, the numbers of its roles, and fuel
module _ (P : Program) (empty_role get_role put_role fuel_of_empty : ℕ) (fuel : ℕ → ℕ) (AreFew : ℕ → Type 0)
    (empty_is_named : role_named P (codes "empty") ≡ Some empty_role)
    (get_is_named : role_named P (codes "get") ≡ Some get_role)
    (put_is_named : role_named P (codes "put") ≡ Some put_role)
    -- a plain tree, the value that it is, and its functions; `Keeps t n` is what is known of a tree with n keys
    (Tree : Type 0) (value_of : Tree → Value) (start : Tree) (add : Tree → Entry → Tree) (find : Tree → ℤ → Option ℤ)
    (Keeps : Tree → ℕ → Type 0)
    -- fuel that is enough on this tree
    (cost : Tree → ℕ) (cost_fits : (t : Tree) (n : ℕ) → Keeps t n → AreFew n → cost t ≤ fuel n)
    -- the roles give what the plain functions give
    (empty_runs : Leaves (value_of start) 0 (ideal P empty_role (AndV UnitV NoV) fuel_of_empty))
    (get_runs : (t : Tree) (n : ℕ) → Keeps t n → (key : ℤ) → IsInt key
    → Leaves (answer (find t key)) 0 (ideal P get_role (call_values (value_of t) (IntV key)) (cost t)))
    (put_runs : (t : Tree) (n : ℕ) → Keeps t n → (e : Entry) → HasInts e
    → Leaves (PairV (value_of (add t e)) UnitV) 0 (ideal P put_role (call_values (value_of t) (argument_of e)) (cost t)))
    -- the plain functions are those of a map
    (starts : Keeps start 0) (nothing : (key : ℤ) → find start key ≡ None)
    (adds : (t : Tree) (n : ℕ) → Keeps t n → (e : Entry) → Keeps (add t e) (if is_some (find t e.key) then n else suc n))
    (finds : (t : Tree) (n : ℕ) → Keeps t n → (e : Entry) (key : ℤ)
    → find (add t e) key ≡ (if int_eq key e.key then Some e.value else find t key))
  where
    -- the tree behind a state
    pub record IsKept (puts : List Entry) (state : Value) : Type 0 where
      pub tree : Tree
      pub value : state ≡ value_of tree
      pub keeps : Keeps tree (distinct_keys puts)
      pub finds_all : (key : ℤ) → find tree key ≡ last_value puts key

    abbrev first_of_pair : Value → Value → Value
    first_of_pair v (PairV a b) = a
    first_of_pair v u = v

    kept_after : (puts : List Entry) (state : Value) → AllHaveInts puts → IsAfter P empty_role put_role UnitV puts state → IsKept puts state
    kept_after [] state ints (k, e) = record {
      tree = start;
      value = same_value P empty_role (AndV UnitV NoV) (value_of start) 0 fuel_of_empty empty_runs k state e;
      keeps = starts;
      finds_all = nothing;
    }
    kept_after (newest ∷ earlier) state ints (before, reply, k, after, is) = by (kept_after earlier before ints.1 after)
      where
        by : IsKept earlier before → IsKept (newest ∷ earlier) state
        by h =
            let on_tree = subst (λ (v : Value). outcome (ideal P put_role (call_values v (argument_of newest)) k) ≡ Done (PairV state reply)) h.value is in
            let runs = put_runs h.tree _ h.keeps newest ints.0 in
            let same : PairV state reply ≡ PairV (value_of (add h.tree newest)) UnitV =
            same_value P put_role (call_values (value_of h.tree) (argument_of newest)) _ 0 (cost h.tree) runs k (PairV state reply) on_tree in
            let grown = λ (o : Option ℤ). Keeps (add h.tree newest) (if is_some o then distinct_keys earlier else suc (distinct_keys earlier)) in
            record {
              tree = add h.tree newest;
              value = ap (first_of_pair state) same;
              keeps = subst grown (h.finds_all newest.key) (adds h.tree _ h.keeps newest);
              finds_all = λ key.
                  finds h.tree _ h.keeps newest key ∙ ap (λ (o : Option ℤ). if int_eq key newest.key then Some newest.value else o) (h.finds_all key);
            }

    -- there is a state after any puts
    put_done : (state : Value) (t : Tree) (n : ℕ) → state ≡ value_of t → Keeps t n → (e : Entry) → HasInts e
        → outcome (ideal P put_role (call_values state (argument_of e)) (cost t)) ≡ Done (PairV (value_of (add t e)) UnitV)
    put_done state t n is keeps e ints = rw is (gives_with P put_role _ _ 0 (cost t) (put_runs t n keeps e ints) (cost t) (omega arith))

    reached : (puts : List Entry) → AllHaveInts puts → (state : Value) × IsAfter P empty_role put_role UnitV puts state
    reached [] ints = (value_of start, (fuel_of_empty, gives_with P empty_role _ _ 0 fuel_of_empty empty_runs fuel_of_empty (omega arith)))
    reached (newest ∷ earlier) ints = by (reached earlier ints.1)
      where
        by : (state : Value) × IsAfter P empty_role put_role UnitV earlier state
            → (state : Value) × IsAfter P empty_role put_role UnitV (newest ∷ earlier) state
        by (before, after) =
            let h = kept_after earlier before ints.1 after in
            (value_of (add h.tree newest), (before, UnitV, cost h.tree, after, put_done before h.tree _ h.value h.keeps newest ints.0))

    -- a get and a put on a state that is a tree
    get_on : (puts : List Entry) (state : Value) (t : Tree) (o : Option ℤ) → state ≡ value_of t → Keeps t (distinct_keys puts)
        → (key : ℤ) → IsInt key → find t key ≡ o → GivesAfter P fuel AreFew puts get_role (call_values state (IntV key)) (answer o)
    get_on puts state t o is keeps key int found =
        let known = get_runs t (distinct_keys puts) keeps key int in
        rw (is, ← found) (
          gives_only P get_role _ _ 0 (cost t) known,
          λ few k enough. gives_with P get_role _ _ 0 (cost t) known k (omega (arith, cost_fits t (distinct_keys puts) keeps few, enough)),
        )

    put_on : (puts : List Entry) (state : Value) (t : Tree) → state ≡ value_of t → Keeps t (distinct_keys puts) → (e : Entry) → HasInts e
        → GivesAfter P fuel AreFew puts put_role (call_values state (argument_of e)) (PairV (value_of (add t e)) UnitV)
    put_on puts state t is keeps e ints =
        let known = put_runs t (distinct_keys puts) keeps e ints in
        rw is (
          gives_only P put_role _ _ 0 (cost t) known,
          λ few k enough. gives_with P put_role _ _ 0 (cost t) known k (omega (arith, cost_fits t (distinct_keys puts) keeps few, enough)),
        )

    -- the law of the map, and the tree behind each state
    pub record MapLaw : Type 0 where
      pub map : KeepsMap P empty_role get_role put_role fuel_of_empty fuel AreFew
      pub kept : (puts : List Entry) (state : Value) → AllHaveInts puts → IsAfter P empty_role put_role UnitV puts state → IsKept puts state

    pub map_law : MapLaw
    map_law = record {
      map = record {
        empty_is_named = empty_is_named;
        get_is_named = get_is_named;
        put_is_named = put_is_named;
        empty = (value_of start, computes P empty_role _ _ 0 fuel_of_empty empty_runs);
        reached = reached;
        get = λ puts state ints after key int. let h = kept_after puts state ints after in get_on puts state h.tree _ h.value h.keeps key int (h.finds_all key);
        put = λ puts state ints after e int. let h = kept_after puts state ints after in
            (value_of (add h.tree e), put_on puts state h.tree h.value h.keeps e int);
      };
      kept = kept_after;
    }
