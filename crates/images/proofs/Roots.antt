-- The root of an image: the last record, of the state's type, with nothing behind it.
use Rattle.std.proofs.Common.{◌≡◌, ◌==◌, ℕ, ◌-◌, Bool, true, false, List, [], ◌∷◌, length, None, Some, slice_get, nat_eq, refl, sym, ap, ◌∙◌, subst, if◌then◌else◌, arith, eqb-true}
use Rattle.core_terms.specs.ProgramTypes.{types_by_number, types_meaning}
use Rattle.core_terms.specs.Types.{same_type}
use Rattle.core_terms.specs.Values.{Value}
use Rattle.core_terms.specs.declared.program_types.Types.{Types}
use Rattle.core_terms.specs.declared.types.TyId.{TyId}
use Rattle.core_terms.proofs.SameTypes.{same_sound}
use Rattle.images.specs.Images.{Entry, Image, Leftover, Refused, Root, RootType, last, rooted}
use Rattle.value_store.specs.Markings.{Marking, kind_of, seen_as}
use Rattle.value_store.specs.Nodes.{Node}
use Rattle.value_store.specs.Standing.{StandsFor}
use Rattle.images.specs.StoredRecords.{AreStored, IsStored}
use Rattle.images.specs.declared.stored.StoredRecord.{StoredRecord}
use Rattle.images.proofs.StoredLists.{none_there, same_length, stored_there}
use Rattle.images.proofs.TypeNumbers.{same_types}

-- a root that is there, by whether it is of the state's type
abbrev rooted_by : (same : Bool) (v : Value) (rest : List ℕ) → Image
rooted_by same v [] = if same then Root v else Refused RootType
rooted_by same v (b ∷ rest) = if same then Refused (Leftover (length (b ∷ rest))) else Refused RootType

-- no bytes, and some
pub is_none : {A : Type 0} (rest : List A) (b : Bool) → b ≡ (length rest == 0) → b ≡ true → rest ≡ []
is_none [] b is empty = refl
is_none (x ∷ xs) b is empty = let zero = eqb-true (length (x ∷ xs)) 0 (sym is ∙ empty) in absurd (omega arith)

pub is_some : (rest : List ℕ) (b : Bool) → b ≡ (length rest == 0) → b ≡ false → rest ≡ [] → ⊥
is_some [] b is empty none = cc
is_some (x ∷ xs) b is empty none = cc

-- no records
pub no_root : (marking : Marking) (p : Types) (nodes : List Node) (records : List StoredRecord) (entries : List Entry)
    → AreStored marking (types_meaning p) (types_by_number p) nodes records entries → (rest : List ℕ) → slice_get records (length records - 1) ≡ None
    → rooted (types_meaning p).state (last entries) rest ≡ Refused RootType
no_root marking p nodes records entries stored rest none =
    ap (λ o. rooted (types_meaning p).state o rest)
    (ap (λ n. slice_get entries (n - 1)) (sym (same_length marking (types_meaning p) (types_by_number p) nodes records entries stored))
    ∙ none_there marking (types_meaning p) (types_by_number p) nodes records entries stored (length records - 1) none)

module _ (marking : Marking) (p : Types) (nodes : List Node) (records : List StoredRecord) (entries : List Entry)
    (stored : AreStored marking (types_meaning p) (types_by_number p) nodes records entries) (rest : List ℕ) (r : StoredRecord) (at : slice_get records (length records - 1) ≡ Some r)
    (state : TyId) (is_state : slice_get (types_by_number p) state.0 ≡ Some (types_meaning p).state) (b : Bool) (same : b ≡ nat_eq r.ty.0 state.0) where
  root_entry : (e : Entry) × (slice_get entries (length records - 1) ≡ Some e) × IsStored marking (types_meaning p) (types_by_number p) nodes r e
  root_entry = stored_there marking (types_meaning p) (types_by_number p) nodes records entries stored (length records - 1) r at

  last_is : last entries ≡ Some root_entry.0
  last_is = ap (λ n. slice_get entries (n - 1)) (sym (same_length marking (types_meaning p) (types_by_number p) nodes records entries stored)) ∙ root_entry.1

  type_tested : same_type root_entry.0.of_type (types_meaning p).state ≡ b
  type_tested = same_types p r.ty.0 state.0 root_entry.0.of_type (types_meaning p).state root_entry.2.of_type is_state ∙ sym same

  root_is : (rest : List ℕ) → rooted (types_meaning p).state (last entries) rest ≡ rooted_by b root_entry.0.value rest
  root_is [] = ap (λ o. rooted (types_meaning p).state o []) last_is ∙ ap (λ same. rooted_by same root_entry.0.value []) type_tested
  root_is (x ∷ xs) = ap (λ o. rooted (types_meaning p).state o (x ∷ xs)) last_is ∙ ap (λ same. rooted_by same root_entry.0.value (x ∷ xs)) type_tested

  pub other_root : b ≡ false → rooted (types_meaning p).state (last entries) rest ≡ Refused RootType
  other_root differs = root_is rest ∙ ap (λ same. rooted_by same root_entry.0.value rest) differs ∙ by rest
    where
      by : (rest : List ℕ) → rooted_by false root_entry.0.value rest ≡ Refused RootType
      by [] = refl
      by (x ∷ xs) = refl

  pub left_over : b ≡ true → (rest ≡ [] → ⊥) → rooted (types_meaning p).state (last entries) rest ≡ Refused (Leftover (length rest))
  left_over is_same some = root_is rest ∙ ap (λ same. rooted_by same root_entry.0.value rest) is_same ∙ by rest some
    where
      by : (rest : List ℕ) → (rest ≡ [] → ⊥) → rooted_by true root_entry.0.value rest ≡ Refused (Leftover (length rest))
      by [] some = absurd (some refl)
      by (x ∷ xs) some = refl

  pub root_found : b ≡ true → rest ≡ [] → (v : Value) × (rooted (types_meaning p).state (last entries) rest ≡ Root v)
      × StandsFor (kind_of marking (types_meaning p)) (types_meaning p).types nodes r.value.0 (types_meaning p).state (seen_as marking (types_meaning p) (types_meaning p).state v)
  root_found is_same none = (
    root_entry.0.value,
    root_is rest ∙ ap (λ same. rooted_by same root_entry.0.value rest) is_same ∙ ap (rooted_by true root_entry.0.value) none,
    subst (λ t. StandsFor (kind_of marking (types_meaning p)) (types_meaning p).types nodes r.value.0 t (seen_as marking (types_meaning p) t root_entry.0.value))
        (same_sound root_entry.0.of_type (types_meaning p).state (type_tested ∙ is_same)) root_entry.2.stands,
  )
