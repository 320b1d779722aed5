-- A table of types with one form more.
use Rattle.std.proofs.Common.{◌≡◌, ◌≢◌, ◌⊎◌, inl, inr, ℕ, zero, suc, ◌+◌, ◌<◌, ◌≤◌, Bool, true, false, nat_lt, List, [], ◌∷◌, ◌++◌, length, slice_index_or, Option, Some, None, IfSome, IsNone, is_some, slice_get, refl, sym, ap, ◌∙◌, subst, arith, length-append, zero-add, ltb-true, lt-ltb, eq-eqb, nat_eq, if◌then◌else◌}
use Rattle.std.proofs.Math.ListN.{get_or-append}
use Rattle.std.proofs.Math.Seq.{get_or-append_seam}
use Rattle.std.proofs.lemmas.Bool.{ltb-false, eqb-true}
use Rattle.std.proofs.lemmas.List.{get_or_past}
use Rattle.std.proofs.lemmas.Option.{slice_get-get_or, slice_get_within, get_or_from_slice_get}
use Rattle.std.specs.List.{list_all, list_any, position}
use Rattle.core_terms.specs.declared.format.Format.{Format}
use Rattle.std.proofs.lemmas.List.Quantifiers.{position-Some}
use Rattle.std.proofs.lemmas.List.Folds.{list_any_at}
use Rattle.indexmap.specs.IndexSet.{insert_key}
use Rattle.core_terms.specs.contracts.types.TyFormPartialEq.TheImpl.{eq-value}
use Rattle.core_terms.specs.Types.{Ty, UnitTy, BoolTy, IntTy, TextTy, PairTy, NamedTy, AuthTy, VecTy}
use Rattle.core_terms.specs.TypeTables.{type_of_form, types_behind, types_of_forms, HasNoNumber, HasOneNumber, IsWithForm, is_form_in, stands_behind, is_in_order}
use Rattle.core_terms.specs.declared.types.TyForm.{TyForm}
use Rattle.core_terms.specs.declared.types.TyForm.TheVariants.{UnitForm, BoolForm, IntForm, TextForm, AuthForm, PairForm, NamedForm, VecForm}
use Rattle.core_terms.proofs.TypeTables.{length-types_behind, form_means, more_parts}
use Rattle.core_terms.proofs.SameTypes.{first_of, second_of}
use Rattle.core_terms.proofs.TypingComplete.{both}

no_truth : false ≡ true → ⊥
no_truth e = absurd (cc)

types_behind-push : (before : List Ty) (forms : List TyForm) (form : TyForm)
    → types_behind before (forms ++ form ∷ []) ≡ types_behind before forms ++ type_of_form (types_behind before forms) form ∷ []
types_behind-push before [] form = refl
types_behind-push before (f ∷ fs) form = types_behind-push (before ++ type_of_form before f ∷ []) fs form

pub types_push : (forms : List TyForm) (form : TyForm) → types_of_forms (forms ++ form ∷ []) ≡ types_of_forms forms ++ type_of_form (types_of_forms forms) form ∷ []
types_push forms form = types_behind-push [] forms form

pub length-types : (forms : List TyForm) → length (types_of_forms forms) ≡ length forms
length-types forms = length-types_behind [] forms ∙ zero-add (length forms)

in_order-push : (n : ℕ) (forms : List TyForm) (form : TyForm) → is_in_order n forms ≡ true → stands_behind (n + length forms) form ≡ true → is_in_order n (forms ++ form ∷ []) ≡ true
in_order-push n [] form h s = both _ _ (let e : n + 0 ≡ n = omega arith in subst (λ m. stands_behind m form ≡ true) e s) refl
in_order-push n (f ∷ fs) form h s =
    let e : n + length (f ∷ fs) ≡ (n + 1) + length fs = omega arith in
    both _ _ (first_of _ _ h) (in_order-push (n + 1) fs form (second_of (stands_behind n f) _ h) (subst (λ m. stands_behind m form ≡ true) e s))

pub in_order_push : (forms : List TyForm) (form : TyForm) → is_in_order 0 forms ≡ true → stands_behind (length (types_of_forms forms)) form ≡ true → is_in_order 0 (forms ++ form ∷ []) ≡ true
in_order_push forms form h s = in_order-push 0 forms form h (subst (λ m. stands_behind m form ≡ true) (length-types forms ∙ sym (zero-add (length forms))) s)

-- a form stands behind its parts wherever it stands behind fewer types
stands_later : (m n : ℕ) (form : TyForm) → m ≤ n → stands_behind m form ≡ true → stands_behind n form ≡ true
stands_later m n (AuthForm part) h s = lt-ltb part.0 n (omega (arith, h, ltb-true part.0 m s))
stands_later m n (PairForm first second) h s =
    both _ _ (lt-ltb first.0 n (omega (arith, h, ltb-true first.0 m (first_of _ _ s)))) (lt-ltb second.0 n (omega (arith, h, ltb-true second.0 m (second_of (nat_lt first.0 m) _ s))))
stands_later m n (NamedForm named) h s = refl
stands_later m n (VecForm len part) h s = both _ _ (lt-ltb part.0 n (omega (arith, h, ltb-true part.0 m (first_of _ _ s)))) (second_of (nat_lt part.0 m) _ s)
stands_later m n UnitForm h s = refl
stands_later m n BoolForm h s = refl
stands_later m n IntForm h s = refl
stands_later m n TextForm h s = refl

stands_at : (n : ℕ) (forms : List TyForm) (i : ℕ) (form : TyForm) → is_in_order n forms ≡ true → slice_get forms i ≡ Some form → stands_behind (n + i) form ≡ true
stands_at n [] i form h at = absurd (cc)
stands_at n (f ∷ fs) zero form h at =
    let same : f ≡ form = cc in
    let e : n ≡ n + 0 = omega arith in
    subst (λ m. stands_behind m form ≡ true) e (subst (λ f. stands_behind n f ≡ true) same (first_of _ _ h))
stands_at n (f ∷ fs) (suc i) form h at =
    let e : (n + 1) + i ≡ n + suc i = omega arith in
    subst (λ m. stands_behind m form ≡ true) e (stands_at (n + 1) fs i form (second_of (stands_behind n f) _ h) at)

-- types of two kinds are two
kind_of : Ty → ℕ
kind_of UnitTy = 0
kind_of BoolTy = 1
kind_of IntTy = 2
kind_of TextTy = 3
kind_of (PairTy a b) = 4
kind_of (NamedTy n) = 5
kind_of (AuthTy a) = 6
kind_of (VecTy n t) = 7

apart : (s t : Ty) → nat_eq (kind_of s) (kind_of t) ≡ false → s ≡ t → ⊥
apart s t differ e = let same : nat_eq (kind_of s) (kind_of t) ≡ true = eq-eqb (kind_of s) (kind_of t) (ap kind_of e) in no_truth (sym differ ∙ same)

-- two forms of one type are one, where types have one number
one_form : (types : List Ty) → HasOneNumber types → (f g : TyForm) → stands_behind (length types) f ≡ true → stands_behind (length types) g ≡ true
    → type_of_form types f ≡ type_of_form types g → f ≡ g
unfolding kind_of
one_form types one UnitForm UnitForm s t e = refl
one_form types one BoolForm BoolForm s t e = refl
one_form types one IntForm IntForm s t e = refl
one_form types one TextForm TextForm s t e = refl
one_form types one (AuthForm p) (AuthForm q) s t e =
    let part : slice_index_or types p.0 UnitTy ≡ slice_index_or types q.0 UnitTy = cc in
    let same : p.0 ≡ q.0 = one p.0 q.0 (ltb-true p.0 (length types) s) (ltb-true q.0 (length types) t) part in
    ap (λ n. AuthForm (record { 0 = n })) same
one_form types one (PairForm p p') (PairForm q q') s t e =
    let first : slice_index_or types p.0 UnitTy ≡ slice_index_or types q.0 UnitTy = cc in
    let second : slice_index_or types p'.0 UnitTy ≡ slice_index_or types q'.0 UnitTy = cc in
    let n = length types in
    let same : p.0 ≡ q.0 = one p.0 q.0 (ltb-true p.0 n (first_of _ _ s)) (ltb-true q.0 n (first_of _ _ t)) first in
    let same' : p'.0 ≡ q'.0 = one p'.0 q'.0 (ltb-true p'.0 n (second_of (nat_lt p.0 n) _ s)) (ltb-true q'.0 n (second_of (nat_lt q.0 n) _ t)) second in
    ap (λ n. PairForm (record { 0 = n }) p') same ∙ ap (λ n. PairForm q (record { 0 = n })) same'
one_form types one (NamedForm p) (NamedForm q) s t e =
    let same : p.0 ≡ q.0 = cc in
    ap (λ n. NamedForm (record { 0 = n })) same
one_form types one (VecForm m p) (VecForm n q) s t e =
    let part : slice_index_or types p.0 UnitTy ≡ slice_index_or types q.0 UnitTy = cc in
    let len : m ≡ n = cc in
    let same : p.0 ≡ q.0 = one p.0 q.0 (ltb-true p.0 (length types) (first_of _ _ s)) (ltb-true q.0 (length types) (first_of _ _ t)) part in
    ap (λ m. VecForm m p) len ∙ ap (λ i. VecForm n (record { 0 = i })) same
one_form types one f g s t e = absurd (apart (type_of_form types f) (type_of_form types g) refl e)

-- the number of a form that is there is that of its type
pub type_there : (forms : List TyForm) (i : ℕ) (form : TyForm) → is_in_order 0 forms ≡ true → slice_get forms i ≡ Some form
    → slice_get (types_of_forms forms) i ≡ Some (type_of_form (types_of_forms forms) form)
type_there forms i form h at =
    let inside : i < length (types_of_forms forms) = rw (length-types forms) (slice_get_within forms i form at) in
    let means = form_means forms i h in
    slice_get-get_or (types_of_forms forms) i UnitTy inside ∙ ap Some (sym means ∙ ap (type_of_form (types_of_forms forms)) (get_or_from_slice_get forms i form UnitForm at))

-- a form that isn't there is that of no type which is
pub no_type : (forms : List TyForm) (form : TyForm) → is_in_order 0 forms ≡ true → HasOneNumber (types_of_forms forms) → ((i : ℕ) → slice_get forms i ≢ Some form)
    → HasNoNumber (types_of_forms forms) form
no_type forms form h one new s i at =
    let types = types_of_forms forms in
    let inside : i < length types = slice_get_within types i (type_of_form types form) at in
    let there : slice_get forms i ≡ Some (slice_index_or forms i UnitForm) = slice_get-get_or forms i UnitForm (rw (← length-types forms) inside) in
    let behind : stands_behind (length types) (slice_index_or forms i UnitForm) ≡ true =
    stands_later (0 + i) (length types) (slice_index_or forms i UnitForm) (omega (arith, inside)) (stands_at 0 forms i (slice_index_or forms i UnitForm) h there) in
    new i (there ∙ ap Some (one_form types one (slice_index_or forms i UnitForm) form behind s (form_means forms i h ∙ get_or_from_slice_get types i (type_of_form types form) UnitTy at)))

-- a form that isn't there brings a new type
pub one_number_push : (forms : List TyForm) (form : TyForm) → is_in_order 0 forms ≡ true → HasOneNumber (types_of_forms forms) → stands_behind (length (types_of_forms forms)) form ≡ true
    → ((i : ℕ) → slice_get forms i ≢ Some form) → HasOneNumber (types_of_forms (forms ++ form ∷ []))
one_number_push forms form h one s new = subst HasOneNumber (sym (types_push forms form)) pushed
  where
    types : List Ty
    types = types_of_forms forms

    t : Ty
    t = type_of_form (types_of_forms forms) form

    differs : (i : ℕ) → i < length (types_of_forms forms) → slice_index_or (types_of_forms forms) i UnitTy ≢ type_of_form (types_of_forms forms) form
    differs i inside e = no_type forms form h one new s i (slice_get-get_or (types_of_forms forms) i UnitTy inside ∙ ap Some e)

    front : (i : ℕ) → i < length (types_of_forms forms)
        → slice_index_or (types_of_forms forms ++ type_of_form (types_of_forms forms) form ∷ []) i UnitTy ≡ slice_index_or (types_of_forms forms) i UnitTy
    front i inside = get_or-append (types_of_forms forms) (type_of_form (types_of_forms forms) form ∷ []) UnitTy i inside

    last : (i : ℕ) → i < length (types_of_forms forms ++ type_of_form (types_of_forms forms) form ∷ []) → nat_lt i (length (types_of_forms forms)) ≡ false → i ≡ length (types_of_forms forms)
    last i inside q = omega (arith, inside, ltb-false i (length (types_of_forms forms)) q, length-append (types_of_forms forms) (type_of_form (types_of_forms forms) form ∷ []))

    at_last : (i : ℕ) → i ≡ length (types_of_forms forms)
        → slice_index_or (types_of_forms forms ++ type_of_form (types_of_forms forms) form ∷ []) i UnitTy ≡ type_of_form (types_of_forms forms) form
    at_last i e =
        ap (λ i. slice_index_or (types_of_forms forms ++ type_of_form (types_of_forms forms) form ∷ []) i UnitTy) e
        ∙ get_or-append_seam (types_of_forms forms) (type_of_form (types_of_forms forms) form) [] UnitTy

    pushed : HasOneNumber (types_of_forms forms ++ type_of_form (types_of_forms forms) form ∷ [])
    pushed i j a b e = by (nat_lt i (length (types_of_forms forms))) refl (nat_lt j (length (types_of_forms forms))) refl
      where
        by : (x : Bool) → nat_lt i (length (types_of_forms forms)) ≡ x → (y : Bool) → nat_lt j (length (types_of_forms forms)) ≡ y → i ≡ j
        by true p true q = one i j (ltb-true _ _ p) (ltb-true _ _ q) (sym (front i (ltb-true _ _ p)) ∙ e ∙ front j (ltb-true _ _ q))
        by true p false q = absurd (differs i (ltb-true _ _ p) (sym (front i (ltb-true _ _ p)) ∙ e ∙ at_last j (last j b q)))
        by false p true q = absurd (differs j (ltb-true _ _ q) (sym (front j (ltb-true _ _ q)) ∙ sym e ∙ at_last i (last i a p)))
        by false p false q = last i a p ∙ sym (last j b q)

-- the same of a table to which a form was added or wasn't
all_push : (format : Format) (old : List TyForm) (form : TyForm) → list_all (is_form_in format) old ≡ true → is_form_in format form ≡ true → list_all (is_form_in format) (old ++ form ∷ []) ≡ true
all_push format [] form h s = rw s refl
all_push format (f ∷ fs) form h s = rw (first_of (is_form_in format f) _ h, all_push format fs form (second_of (is_form_in format f) _ h) s) refl

pub format_either : (format : Format) (old new : List TyForm) (form : TyForm) → IsWithForm old form new → list_all (is_form_in format) old ≡ true → is_form_in format form ≡ true
    → list_all (is_form_in format) new ≡ true
format_either format old new form (inl e) h s = subst (λ l. list_all (is_form_in format) l ≡ true) (sym e) h
format_either format old new form (inr e) h s = subst (λ l. list_all (is_form_in format) l ≡ true) (sym e.0) (all_push format old form h s)

pub in_order_either : (old new : List TyForm) (form : TyForm) → IsWithForm old form new → is_in_order 0 old ≡ true
    → stands_behind (length (types_of_forms old)) form ≡ true → is_in_order 0 new ≡ true
in_order_either old new form (inl e) h s = subst (λ l. is_in_order 0 l ≡ true) (sym e) h
in_order_either old new form (inr e) h s = subst (λ l. is_in_order 0 l ≡ true) (sym e.0) (in_order_push old form h s)

pub one_number_either : (old new : List TyForm) (form : TyForm) → IsWithForm old form new → is_in_order 0 old ≡ true → HasOneNumber (types_of_forms old)
    → stands_behind (length (types_of_forms old)) form ≡ true
    → HasOneNumber (types_of_forms new)
one_number_either old new form (inl e) h one s = subst (λ l. HasOneNumber (types_of_forms l)) (sym e) one
one_number_either old new form (inr e) h one s = subst (λ l. HasOneNumber (types_of_forms l)) (sym e.0) (one_number_push old form h one s e.1)

-- the parts of the form with a number stand before it
pub parts_before : (forms : List TyForm) (i : ℕ) → is_in_order 0 forms ≡ true → stands_behind i (slice_index_or forms i UnitForm) ≡ true
parts_before forms i h = by (nat_lt i (length forms)) refl
  where
    by : (b : Bool) → nat_lt i (length forms) ≡ b → stands_behind i (slice_index_or forms i UnitForm) ≡ true
    by true e =
        subst (λ n. stands_behind n (slice_index_or forms i UnitForm) ≡ true) (zero-add i)
        (stands_at 0 forms i (slice_index_or forms i UnitForm) h (slice_get-get_or forms i UnitForm (ltb-true i (length forms) e)))
    by false e = subst (λ f. stands_behind i f ≡ true) (sym (get_or_past forms i UnitForm (ltb-false i (length forms) e))) refl

-- a form that is equal to none of these is none of them
pub absent : (eq : TyForm → TyForm → Bool) → ((f : TyForm) → eq f f ≡ true) → (forms : List TyForm) (form : TyForm) → list_any (eq form) forms ≡ false
    → (i : ℕ) → slice_get forms i ≢ Some form
absent eq own forms form none i at =
    let found : list_any (eq form) forms ≡ true =
    list_any_at (eq form) forms i UnitForm (slice_get_within forms i form at) (subst (λ f. eq form f ≡ true) (sym (get_or_from_slice_get forms i form UnitForm at)) (own form)) in
    absurd (cc)

pub with_form : (eq : TyForm → TyForm → Bool) → ((f : TyForm) → eq f f ≡ true) → (forms : List TyForm) (form : TyForm) → IsWithForm forms form (insert_key eq forms form)
with_form eq own forms form = by (list_any (eq form) forms) refl
  where
    by : (b : Bool) → list_any (eq form) forms ≡ b → IsWithForm forms form (if b then forms else forms ++ form ∷ [])
    by true e = inl refl
    by false e = inr (refl, absent eq own forms form e)

-- the test of two forms says yes of one and the same
pub own_form : (f : TyForm) → eq-value.it f f ≡ true
own_form UnitForm = refl
own_form BoolForm = refl
own_form IntForm = refl
own_form TextForm = refl
own_form (AuthForm part) = eq-eqb part.0 part.0 refl
own_form (PairForm first second) = both _ _ (eq-eqb first.0 first.0 refl) (eq-eqb second.0 second.0 refl)
own_form (NamedForm named) = eq-eqb named.0 named.0 refl
own_form (VecForm n part) = both _ _ (eq-eqb n n refl) (eq-eqb part.0 part.0 refl)

-- the types of a table to which a form was added or wasn't
pub types_either : (old new : List TyForm) (form : TyForm) → IsWithForm old form new
    → (types_of_forms new ≡ types_of_forms old) ⊎ (types_of_forms new ≡ types_of_forms old ++ type_of_form (types_of_forms old) form ∷ [])
types_either old new form (inl e) = inl (ap types_of_forms e)
types_either old new form (inr e) = inr (ap types_of_forms e.0 ∙ types_push old form)

-- a form that stands behind its parts means the same in the larger table
pub form_either : (old new : List TyForm) (form : TyForm) → IsWithForm old form new → stands_behind (length (types_of_forms old)) form ≡ true
    → type_of_form (types_of_forms new) form ≡ type_of_form (types_of_forms old) form
form_either old new form (inl e) s = ap (λ l. type_of_form (types_of_forms l) form) e
form_either old new form (inr e) s = ap (λ l. type_of_form l form) (ap types_of_forms e.0 ∙ types_push old form) ∙ more_parts (types_of_forms old) (form ∷ []) form s

-- a table never shrinks
pub grows_either : (old new : List TyForm) (form : TyForm) → IsWithForm old form new → length (types_of_forms old) ≤ length (types_of_forms new)
grows_either old new form (inl e) = let same : length (types_of_forms old) ≡ length (types_of_forms new) = ap (λ l. length (types_of_forms l)) (sym e) in omega (arith, same)
grows_either old new form (inr e) =
    let more : length (types_of_forms new) ≡ length (types_of_forms old ++ type_of_form (types_of_forms old) form ∷ []) = ap length (ap types_of_forms e.0 ∙ types_push old form) in
    let one : length (types_of_forms old ++ type_of_form (types_of_forms old) form ∷ []) ≡ length (types_of_forms old) + 1 =
    length-append (types_of_forms old) (type_of_form (types_of_forms old) form ∷ []) in
    omega (arith, more, one)

-- it says yes of no other
same_form : (f g : TyForm) → eq-value.it f g ≡ true → f ≡ g
same_form UnitForm UnitForm e = refl
same_form BoolForm BoolForm e = refl
same_form IntForm IntForm e = refl
same_form TextForm TextForm e = refl
same_form (AuthForm p) (AuthForm q) e = ap (λ n. AuthForm (record { 0 = n })) (eqb-true p.0 q.0 e)
same_form (PairForm p p') (PairForm q q') e =
    ap (λ n. PairForm (record { 0 = n }) p') (eqb-true p.0 q.0 (first_of _ _ e))
    ∙ ap (λ n. PairForm q (record { 0 = n })) (eqb-true p'.0 q'.0 (second_of (nat_eq p.0 q.0) _ e))
same_form (NamedForm p) (NamedForm q) e = ap (λ n. NamedForm (record { 0 = n })) (eqb-true p.0 q.0 e)
same_form (VecForm m p) (VecForm n q) e =
    ap (λ n. VecForm n p) (eqb-true m n (first_of _ _ e))
    ∙ ap (λ q. VecForm n (record { 0 = q })) (eqb-true p.0 q.0 (second_of (nat_eq m n) _ e))
same_form f g e = absurd (no_truth e)

-- the form at the first place where the test says yes
placed_form : (forms : List TyForm) (form : TyForm) (place : ℕ) → position (eq-value.it form) forms ≡ Some place → slice_get forms place ≡ Some form
placed_form forms form place e =
    let there = position-Some (eq-value.it form) forms place UnitForm e in
    slice_get-get_or forms place UnitForm there.0 ∙ ap Some (sym (same_form form (slice_index_or forms place UnitForm) there.1))

pub form_placed : (forms : List TyForm) (form : TyForm) (found : Option ℕ) → found ≡ position (eq-value.it form) forms → IfSome found (λ place. slice_get forms place ≡ Some form)
form_placed forms form None e = tt
form_placed forms form (Some place) e = placed_form forms form place (sym e)

pub form_missing : (forms : List TyForm) (form : TyForm) (found : Option ℕ) → is_some found ≡ list_any (eq-value.it form) forms → IsNone found
    → (i : ℕ) → slice_get forms i ≢ Some form
form_missing forms form None e none = absent eq-value.it own_form forms form (sym e)
form_missing forms form (Some place) e none = absurd (cc)
