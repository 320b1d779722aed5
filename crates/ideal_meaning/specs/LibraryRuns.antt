-- What the library's programs do on small states. Each equation holds by computing both sides, with the most fuel a call may have.
use Rattle.std.specs.Prelude.{◌≡◌, ℕ, zero, suc, List, [], ◌∷◌, length, codes, ℤ, pos, negsuc, true, Some, None, refl}
use Rattle.core_terms.specs.Types.{UnitTy, IntTy, PairTy}
use Rattle.core_terms.specs.Values.{Value, UnitV, IntV, PairV, ConV, NoV}
use Rattle.core_terms.specs.Terms.{Query, Update, Program}
use Rattle.core_terms.specs.Typing.{is_typed}
use Rattle.core_terms.specs.Roles.{role_named}
use Rattle.core_terms.specs.RoleTypes.{IsPlain, IsRole}
use Rattle.ideal_meaning.specs.Run.{Run, Gives, Ends, first_in, state_of}
use Rattle.ideal_meaning.specs.Ideal.{Opened, Outcome, Done, ideal, outcome}
use Rattle.ideal_meaning.specs.Headline.{call_values}
use Rattle.ideal_meaning.specs.Examples.{values}
use Rattle.ideal_meaning.specs.Library.{bst, merkle, found}

pub bst_is_typed : is_typed bst ≡ true
bst_is_typed = refl

pub merkle_is_typed : is_typed merkle ≡ true
merkle_is_typed = refl

-- the roles of both, by name
pub bst_get_is_found : role_named bst (codes "get") ≡ Some 3
bst_get_is_found = refl

pub bst_put_is_found : role_named bst (codes "put") ≡ Some 4
bst_put_is_found = refl

pub bst_look_is_no_role : role_named bst (codes "look") ≡ None
bst_look_is_no_role = refl

pub merkle_put_is_found : role_named merkle (codes "put") ≡ Some 6
merkle_put_is_found = refl

pub int_is_plain : IsPlain bst.types IntTy
int_is_plain zero = refl
int_is_plain (suc opened) = refl

pub ints_are_plain : IsPlain bst.types (PairTy IntTy IntTy)
ints_are_plain zero = refl
ints_are_plain (suc opened) = refl

pub bst_get_is_a_query : IsRole bst 3 Query IntTy found
bst_get_is_a_query = record { function = _; there = refl; entered = refl; of_kind = refl; parameters = refl; result = refl; plain = int_is_plain }

pub bst_put_is_an_update : IsRole bst 4 Update (PairTy IntTy IntTy) UnitTy
bst_put_is_an_update = record { function = _; there = refl; entered = refl; of_kind = refl; parameters = refl; result = refl; plain = ints_are_plain }

-- a key with its value, as the argument of a put
abbrev pub entry : ℤ → ℤ → Value
entry key value = PairV (IntV key) (IntV value)

-- the value that a run gives; unit where it ends before
abbrev pub given : Run ⊥ (List Opened) Value → Value
given (Gives v k seen) = v
given (Ends stop k seen) = UnitV

-- the state after these calls of an update, one after another
abbrev pub after : Program → ℕ → Value → List Value → Value
after P f state [] = state
after P f state (argument ∷ later) = after P f (first_in (given (ideal P f (call_values state argument) 1000000000000))) later

-- how a query ends on a state
abbrev pub asked : Program → ℕ → Value → Value → Outcome
asked P f state argument = outcome (ideal P f (call_values state argument) 1000000000000)

-- the two answers of a get
abbrev pub is_missing : Outcome
is_missing = Done (ConV 0 NoV)

abbrev pub is_found : ℤ → Outcome
is_found value = Done (ConV 1 (values (IntV value ∷ [])))

-- Eight puts on an empty tree, among them the key 5 twice and the key -1 twice.
abbrev pub empty_tree : Value
empty_tree = given (ideal bst 2 (values (UnitV ∷ [])) 1)

abbrev pub after_eight : Value
after_eight = after bst 4 empty_tree (
    entry (pos 5) (pos 50) ∷ entry (negsuc 0) (pos 10) ∷ entry (pos 8) (pos 80) ∷ entry (pos 5) (pos 51)
    ∷ entry (pos 6) (pos 60) ∷ entry (pos 3) (negsuc 29) ∷ entry (negsuc 0) (pos 11) ∷ entry (pos 9) (pos 90) ∷ [])

pub nothing_is_in_the_empty_tree : asked bst 3 empty_tree (IntV (pos 5)) ≡ is_missing
nothing_is_in_the_empty_tree = refl

pub last_put_is_found : asked bst 3 after_eight (IntV (pos 5)) ≡ is_found (pos 51)
last_put_is_found = refl

pub last_put_of_a_negative_key_is_found : asked bst 3 after_eight (IntV (negsuc 0)) ≡ is_found (pos 11)
last_put_of_a_negative_key_is_found = refl

pub key_put_once_is_found : asked bst 3 after_eight (IntV (pos 3)) ≡ is_found (negsuc 29)
key_put_once_is_found = refl

pub key_never_put_is_missing : asked bst 3 after_eight (IntV (pos 7)) ≡ is_missing
key_never_put_is_missing = refl

-- a get opens one node on each level: the root's key at once, the key 9 behind 5 and 8
pub root_is_opened_alone : length (state_of (ideal bst 3 (call_values after_eight (IntV (pos 5))) 1000000000000)) ≡ 1
root_is_opened_alone = refl

pub three_nodes_are_opened : length (state_of (ideal bst 3 (call_values after_eight (IntV (pos 9))) 1000000000000)) ≡ 3
three_nodes_are_opened = refl

-- Four places that hold 7, and then 40 at place 2.
abbrev pub four_sevens : Value
four_sevens = given (ideal merkle 4 (values (entry (pos 2) (pos 7) ∷ [])) 1000000000000)

abbrev pub one_changed : Value
one_changed = after merkle 6 four_sevens (entry (pos 2) (pos 40) ∷ [])

pub four_places_are_made : first_in four_sevens ≡ IntV (pos 4)
four_places_are_made = refl

pub each_place_is_filled : asked merkle 5 four_sevens (IntV (pos 3)) ≡ is_found (pos 7)
each_place_is_filled = refl

pub changed_place_is_found : asked merkle 5 one_changed (IntV (pos 2)) ≡ is_found (pos 40)
changed_place_is_found = refl

pub place_beside_is_kept : asked merkle 5 one_changed (IntV (pos 3)) ≡ is_found (pos 7)
place_beside_is_kept = refl

pub place_behind_is_missing : asked merkle 5 one_changed (IntV (pos 4)) ≡ is_missing
place_behind_is_missing = refl

pub negative_place_is_missing : asked merkle 5 one_changed (IntV (negsuc 0)) ≡ is_missing
negative_place_is_missing = refl

pub put_outside_changes_nothing : after merkle 6 one_changed (entry (pos 4) (pos 0) ∷ []) ≡ one_changed
put_outside_changes_nothing = refl

-- an exponent below 0 counts as 0
pub one_place_is_made : first_in (given (ideal merkle 4 (values (entry (negsuc 4) (pos 7) ∷ [])) 1000000000000)) ≡ IntV (pos 1)
one_place_is_made = refl
