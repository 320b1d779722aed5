-- Operands that are taken off, one by one.
use Rattle.std.specs.Option.{option_and_then}
use Rattle.std.specs.Prelude.{reverse}
use Rattle.core_terms.specs.Kinds.{without_one, without}
use Rattle.std.proofs.Common.{◌≡◌, Bool, true, false, List, [], ◌∷◌, ◌++◌, Option, Some, None, IsTrue, refl, sym, ap, ◌∙◌, subst, if◌then◌else◌}
use Rattle.std.proofs.lemmas.List.{reverse-append}
use Rattle.std.proofs.lemmas.Option.{get_or_from_slice_get}
use Rattle.core_terms.specs.Types.{Ty, UnitTy, same_type}
use Rattle.core_terms.proofs.SameTypes.{same_sound}
use Rattle.core_terms.proofs.TypingComplete.{same_complete}
use Rattle.core_terms.specs.TypeTables.{type_at}
use Rattle.core_terms.specs.declared.types.TyId.{TyId}
use Rattle.code_check.specs.declared.lists.Top.{Top}
use Rattle.code_check.specs.TypeLists.{IsList, IsTop}
use Rattle.code_check.specs.TypeLists.{IsLeft, taken_by}

module _ (types : List Ty) (takes operands : TyId) (take operand : Top) (r : Option TyId)
    (tops : (ts : List Ty) → IsList types takes ts → IsTop types ts (Some take)) (tops' : (os : List Ty) → IsList types operands os → IsTop types os (Some operand)) where
  pub goes_on : type_at types take.first ≡ type_at types operand.first → ((ts os : List Ty) → IsList types take.others ts → IsList types operand.others os → IsLeft types (taken_by ts os) r)
      → (ts os : List Ty) → IsList types takes ts → IsList types operands os → IsLeft types (taken_by ts os) r
  goes_on e go ts os h k = by ts os (tops ts h) (tops' os k)
    where
      by : (ts os : List Ty) → IsTop types ts (Some take) → IsTop types os (Some operand) → IsLeft types (taken_by ts os) r
      by [] os h k = elim h [ ]
      by (t ∷ ts) [] h k = elim k [ ]
      by (t ∷ ts) (o ∷ os) h k =
          let same = same_complete t o (sym (get_or_from_slice_get types take.first.0 t UnitTy h.0) ∙ e ∙ get_or_from_slice_get types operand.first.0 o UnitTy k.0) in
          subst (λ os. IsLeft types os r) (sym (ap (λ b. if b then taken_by ts os else None) same)) (go ts os h.1 k.1)

  pub ends : (b : Bool) → (IsTrue b → type_at types take.first ≡ type_at types operand.first) × (type_at types take.first ≡ type_at types operand.first → IsTrue b) → b ≡ false
      → (ts os : List Ty) → IsList types takes ts → IsList types operands os → IsLeft types (taken_by ts os) None
  ends b is f ts os h k = by ts os (tops ts h) (tops' os k)
    where
      by : (ts os : List Ty) → IsTop types ts (Some take) → IsTop types os (Some operand) → IsLeft types (taken_by ts os) None
      by [] os h k = elim h [ ]
      by (t ∷ ts) [] h k = elim k [ ]
      by (t ∷ ts) (o ∷ os) h k = step (same_type t o) refl
        where
          untrue : b ≡ true → b ≡ false → ⊥
          untrue e f = cc

          step : (c : Bool) → same_type t o ≡ c → IsLeft types (if c then taken_by ts os else None) None
          step false e = tt
          step true e = absurd (untrue (is.1 (get_or_from_slice_get types take.first.0 t UnitTy h.0 ∙ same_sound t o e ∙ sym (get_or_from_slice_get types operand.first.0 o UnitTy k.0))) f)

-- as it is said in the definition, whose lists stand last last
taken_append : (ts us os : List Ty) → taken_by (ts ++ us) os ≡ option_and_then (taken_by us) (taken_by ts os)
taken_append [] us os = refl
taken_append (t ∷ ts) us [] = refl
taken_append (t ∷ ts) us (o ∷ os) = step (same_type t o) (taken_append ts us os)
  where
    step : (c : Bool) → taken_by (ts ++ us) os ≡ option_and_then (taken_by us) (taken_by ts os) → (if c then taken_by (ts ++ us) os else None) ≡ option_and_then (taken_by us) (if c then taken_by ts os else None)
    step true go = go
    step false go = refl

taken_one : (t : Ty) (os : List Ty) → taken_by (t ∷ []) os ≡ without_one t os
taken_one t [] = refl
taken_one t (o ∷ os) = refl

pub without_is : (ts os : List Ty) → without ts os ≡ taken_by (reverse ts) os
without_is [] os = refl
without_is (t ∷ ts) os =
    ap (option_and_then (without_one t)) (without_is ts os)
    ∙ then_same (taken_by (reverse ts) os)
    ∙ sym (taken_append (reverse ts) (t ∷ []) os)
    ∙ ap (λ l. taken_by l os) (sym (reverse-append (t ∷ []) ts))
  where
    then_same : (o : Option (List Ty)) → option_and_then (without_one t) o ≡ option_and_then (taken_by (t ∷ [])) o
    then_same None = refl
    then_same (Some os) = sym (taken_one t os)
