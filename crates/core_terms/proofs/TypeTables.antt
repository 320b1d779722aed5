-- The types of a table of forms, by number.
use Rattle.std.proofs.Common.{◌≡◌, ℕ, zero, suc, ◌+◌, ◌<◌, nat_lt, true, List, [], ◌∷◌, ◌++◌, length, slice_index_or, unwrap_or, refl, sym, ap, ◌∙◌, arith, length-append, add-zero, zero-add, ltb-true}
use Rattle.std.proofs.Math.ListN.{get_or-append}
use Rattle.std.proofs.Math.Seq.{get_or-append_seam}
use Rattle.std.proofs.lemmas.Option.{unwrap_or-slice_get, slice_get_past}
use Rattle.std.proofs.lemmas.Grind.{common_steps}
use Rattle.core_terms.specs.Types.{Ty, UnitTy, AuthTy, PairTy, VecTy}
use Rattle.core_terms.specs.TypeTables.{type_of_form, types_behind, types_of_forms, stands_behind, is_in_order}
use Rattle.core_terms.proofs.SameTypes.{first_of, second_of}
use Rattle.core_terms.specs.declared.types.TyForm.{TyForm}
use Rattle.core_terms.specs.declared.types.TyForm.TheVariants.{UnitForm, BoolForm, IntForm, TextForm, AuthForm, PairForm, NamedForm, VecForm}

-- the types in front stay
pub types_behind-front : (before : List Ty) (forms : List TyForm) (i : ℕ) → i < length before → slice_index_or (types_behind before forms) i UnitTy ≡ slice_index_or before i UnitTy
types_behind-front before [] i h = refl
types_behind-front before (f ∷ fs) i h =
    let more : i < length (before ++ type_of_form before f ∷ []) = rw length-append (grind (arith, common_steps, h)) in
    types_behind-front (before ++ type_of_form before f ∷ []) fs i more ∙ get_or-append before (type_of_form before f ∷ []) UnitTy i h

pub length-types_behind : (before : List Ty) (forms : List TyForm) → length (types_behind before forms) ≡ length before + length forms
length-types_behind before [] = sym (add-zero (length before))
length-types_behind before (f ∷ fs) =
    let e = length-types_behind (before ++ type_of_form before f ∷ []) fs in
    let l = length-append before (type_of_form before f ∷ []) in
    grind (arith, common_steps, e, l)

-- a form among these parts means the same among these and more
pub more_parts : (before : List Ty) (forms : List TyForm) (f : TyForm) → stands_behind (length before) f ≡ true → type_of_form (types_behind before forms) f ≡ type_of_form before f
more_parts before forms UnitForm h = refl
more_parts before forms BoolForm h = refl
more_parts before forms IntForm h = refl
more_parts before forms TextForm h = refl
more_parts before forms (NamedForm named) h = refl
more_parts before forms (AuthForm part) h = ap AuthTy (types_behind-front before forms part.0 (ltb-true part.0 (length before) h))
more_parts before forms (VecForm n part) h = ap (VecTy n) (types_behind-front before forms part.0 (ltb-true part.0 (length before) (first_of _ _ h)))
more_parts before forms (PairForm first second) h =
    ap (λ a. PairTy a (slice_index_or (types_behind before forms) second.0 UnitTy)) (types_behind-front before forms first.0 (ltb-true first.0 (length before) (first_of _ _ h)))
    ∙ ap (PairTy (slice_index_or before first.0 UnitTy)) (types_behind-front before forms second.0 (ltb-true second.0 (length before) (second_of (nat_lt first.0 (length before)) _ h)))

-- past the end there is `unit`
past_end : (types : List Ty) (i : ℕ) → slice_index_or types (length types + i) UnitTy ≡ UnitTy
past_end types i = sym (unwrap_or-slice_get types (length types + i) UnitTy) ∙ ap (λ o. unwrap_or o UnitTy) (slice_get_past types (length types + i) (grind (arith, common_steps)))

-- the form with a number means the type with that number
form_behind : (before : List Ty) (forms : List TyForm) (i : ℕ) → is_in_order (length before) forms ≡ true
    → type_of_form (types_behind before forms) (slice_index_or forms i UnitForm) ≡ slice_index_or (types_behind before forms) (length before + i) UnitTy
form_behind before [] i h = sym (past_end before i)
form_behind before (f ∷ fs) zero h =
    let next = before ++ type_of_form before f ∷ [] in
    let here : length before < length next = rw length-append (grind (arith, common_steps)) in
    let one : stands_behind (length before) f ≡ true = first_of _ _ h in
    more_parts before (f ∷ fs) f one
    ∙ sym (ap (λ n. slice_index_or (types_behind next fs) n UnitTy) (add-zero (length before)) ∙ types_behind-front next fs (length before) here ∙ get_or-append_seam before (type_of_form before f) [] UnitTy)
form_behind before (f ∷ fs) (suc i) h =
    let next = before ++ type_of_form before f ∷ [] in
    let n : length next ≡ length before + 1 = length-append before (type_of_form before f ∷ []) in
    let rest : is_in_order (length next) fs ≡ true = rw n (second_of (stands_behind (length before) f) _ h) in
    let e : length next + i ≡ length before + suc i = grind (arith, common_steps, n) in
    form_behind next fs i rest ∙ ap (λ n. slice_index_or (types_behind next fs) n UnitTy) e

pub form_means : (forms : List TyForm) (ty : ℕ) → is_in_order 0 forms ≡ true
    → type_of_form (types_of_forms forms) (slice_index_or forms ty UnitForm) ≡ slice_index_or (types_of_forms forms) ty UnitTy
form_means forms ty h = form_behind [] forms ty h ∙ ap (λ n. slice_index_or (types_of_forms forms) n UnitTy) (zero-add ty)
