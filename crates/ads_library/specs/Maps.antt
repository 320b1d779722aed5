-- What it means that a program keeps a map from ints to ints.
use Rattle.std.specs.Prelude.{◌≡◌, ℕ, suc, List, [], ◌∷◌, length, codes, ℤ, Option, Some, None, if◌then◌else◌}
use Rattle.std.specs.Option.{is_some}
use Rattle.core_terms.specs.Values.{Value, UnitV, IntV, PairV, ConV, Values, NoV, AndV}
use Rattle.core_terms.specs.Terms.{Program}
use Rattle.core_terms.specs.Roles.{role_named}
use Rattle.ideal_meaning.specs.Ideal.{Done, ideal, outcome}
use Rattle.ideal_meaning.specs.Headline.{call_values}
use Rattle.ads_library.specs.Calls.{GivesOnly, GivesWith, Computes}
use Rattle.ads_library.specs.Entries.{Entry, IsInt, HasInts, AllHaveInts, lookup}

-- the argument of a put: the pair of key and value
abbrev pub argument_of : Entry → Value
argument_of e = PairV (IntV e.key) (IntV e.value)

-- the answer of a get, of the type `Missing | Found(int)`
abbrev pub answer : Option ℤ → Value
answer None = ConV 0 NoV
answer (Some value) = ConV 1 (AndV (IntV value) NoV)

module _ (P : Program) (init update : ℕ) (start : Value) where
  -- The state is left by a call of `init` on `start` and then by a call of `update` for each of these puts, of which the newest stands
  -- first. Each call was done, with whatever fuel it had and whatever it replied.
  abbrev pub IsAfter : (puts : List Entry) (state : Value) → Type 0
  IsAfter [] state = (k : ℕ) × (outcome (ideal P init (AndV start NoV) k) ≡ Done state)
  IsAfter (newest ∷ earlier) state =
      (before reply : Value) × (k : ℕ) × IsAfter earlier before
      × (outcome (ideal P update (call_values before (argument_of newest)) k) ≡ Done (PairV state reply))

-- Of puts, the newest first: the value that was put last for a key; none where none was put.
abbrev pub last_value : (puts : List Entry) (key : ℤ) → Option ℤ
last_value puts key = lookup puts key

-- how many distinct keys were put
abbrev pub distinct_keys : List Entry → ℕ
distinct_keys [] = 0
distinct_keys (newest ∷ earlier) =
    if is_some (last_value earlier newest.key) then distinct_keys earlier else suc (distinct_keys earlier)

-- These entries are the map that the puts leave: under each key the value that was put last for it, and one entry for each key.
pub record IsMapOf (puts entries : List Entry) : Type 0 where
  pub values : (key : ℤ) → lookup entries key ≡ last_value puts key
  pub count : length entries ≡ distinct_keys puts

-- every number of keys is few
abbrev pub AnyNumber : ℕ → Type 0
AnyNumber n = Unit {0}

module _ (P : Program) (fuel : ℕ → ℕ) (AreFew : ℕ → Type 0) where
  -- After these puts the call gives this value and nothing else; and where the n keys that were put are few, fuel n is enough for it.
  abbrev pub GivesAfter : (puts : List Entry) (role : ℕ) → Values → Value → Type 0
  GivesAfter puts role args v =
      GivesOnly P role args v × (AreFew (distinct_keys puts) → GivesWith P role args v (fuel (distinct_keys puts)))

-- The functions with these numbers are the roles `empty`, `get` and `put` of a program, and keep a map from ints to ints. No call of them
-- traps. Fuel `fuel_of_empty` is enough for `empty`, and `fuel n` for `get` and `put` where n distinct keys were put, and these are few.
pub record KeepsMap (P : Program) (empty_role get_role put_role fuel_of_empty : ℕ) (fuel : ℕ → ℕ) (AreFew : ℕ → Type 0) : Type 0 where
  pub empty_is_named : role_named P (codes "empty") ≡ Some empty_role
  pub get_is_named : role_named P (codes "get") ≡ Some get_role
  pub put_is_named : role_named P (codes "put") ≡ Some put_role
  -- `empty` gives a state
  pub empty : (state : Value) × Computes P empty_role (AndV UnitV NoV) state fuel_of_empty
  -- there is a state after `empty` and any puts
  pub reached : (puts : List Entry) → AllHaveInts puts → (state : Value) × IsAfter P empty_role put_role UnitV puts state
  -- on each such state `get` answers with the value that was put last for the key, and that it is missing where none was put
  pub get : (puts : List Entry) (state : Value) → AllHaveInts puts → IsAfter P empty_role put_role UnitV puts state
      → (key : ℤ) → IsInt key
      → GivesAfter P fuel AreFew puts get_role (call_values state (IntV key)) (answer (last_value puts key))
  -- and `put` gives the next state
  pub put : (puts : List Entry) (state : Value) → AllHaveInts puts → IsAfter P empty_role put_role UnitV puts state
      → (e : Entry) → HasInts e
      → (next : Value) × GivesAfter P fuel AreFew puts put_role (call_values state (argument_of e)) (PairV next UnitV)
