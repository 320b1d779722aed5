-- Types keep their numbers where more types stand behind them.
use Rattle.std.proofs.Common.{◌≡◌, ◌⊎◌, inl, inr, ℕ, zero, suc, ◌<◌, List, [], ◌∷◌, ◌++◌, length, map, Some, slice_get, slice_index_or, refl, sym, ap, ◌∙◌, subst, arith, length-append, append_assoc}
use Rattle.std.proofs.Math.ListN.{get_or-append}
use Rattle.std.proofs.lemmas.Option.{slice_get-get_or, slice_get_within, get_or_from_slice_get}
use Rattle.std.proofs.lemmas.List.{append-nil}
use Rattle.core_terms.specs.Types.{Ty, UnitTy}
use Rattle.core_terms.specs.TypeTables.{type_at}
use Rattle.core_terms.specs.declared.types.TyId.{TyId}
use Rattle.declared_types.specs.Checking.{Checking, Sound}
use Rattle.declared_types.specs.OverTypes.{AreNumbers, Grows, Shows}

pub type_stays : (types : List Ty) (i : ℕ) (t : Ty) → slice_get types i ≡ Some t → (more : List Ty) → slice_index_or (types ++ more) i UnitTy ≡ t
type_stays types i t h more = get_or-append types more UnitTy i (slice_get_within types i t h) ∙ get_or_from_slice_get types i t UnitTy h

pub number_stays : (types more : List Ty) (i : ℕ) (t : Ty) → slice_get types i ≡ Some t → slice_get (types ++ more) i ≡ Some t
number_stays types more i t h =
    let inside : i < length types = slice_get_within types i t h in
    let more_inside : i < length (types ++ more) = rw length-append (omega (arith, inside)) in
    slice_get-get_or (types ++ more) i UnitTy more_inside ∙ ap Some (type_stays types i t h more)

pub numbers_stay : (types more : List Ty) (ids : List TyId) (ts : List Ty) → AreNumbers types ids ts → AreNumbers (types ++ more) ids ts
numbers_stay types more [] [] h = refl
numbers_stay types more [] (t ∷ ts) h = absurd (cc)
numbers_stay types more (id ∷ ids) [] h = absurd (cc)
numbers_stay types more (id ∷ ids) (t ∷ ts) h =
    let first : slice_get types id.0 ≡ Some t = cc in
    let others : AreNumbers types ids ts = cc in
    let first' = number_stays types more id.0 t first in
    let others' = numbers_stay types more ids ts others in
    cc

-- the type with one of these numbers
pub number_at : (types : List Ty) (ids : List TyId) (ts : List Ty) (i : ℕ) (d : TyId) → AreNumbers types ids ts → i < length ts
    → slice_get types (slice_index_or ids i d).0 ≡ Some (slice_index_or ts i UnitTy)
number_at types [] [] i d h inside = absurd (omega arith)
number_at types [] (t ∷ ts) i d h inside = absurd (cc)
number_at types (id ∷ ids) [] i d h inside = absurd (cc)
number_at types (id ∷ ids) (t ∷ ts) zero d h inside = cc
number_at types (id ∷ ids) (t ∷ ts) (suc i) d h inside = let others : AreNumbers types ids ts = cc in number_at types ids ts i d others (omega arith)

-- the types with these numbers
pub numbers_types : (types : List Ty) (ids : List TyId) (ts : List Ty) → AreNumbers types ids ts → map (type_at types) ids ≡ ts
numbers_types types [] [] h = refl
numbers_types types [] (t ∷ ts) h = absurd (cc)
numbers_types types (id ∷ ids) [] h = absurd (cc)
numbers_types types (id ∷ ids) (t ∷ ts) h =
    let first : slice_get types id.0 ≡ Some t = cc in
    let others : AreNumbers types ids ts = cc in
    let here : type_at types id ≡ t = get_or_from_slice_get types id.0 t UnitTy first in
    let behind = numbers_types types ids ts others in
    cc

pub grows_self : (types : List Ty) → Grows types types
grows_self types = ([], sym (append-nil types))

pub grows_on : (a b c : List Ty) → Grows a b → Grows b c → Grows a c
grows_on a b c (m, e) (n, f) = (m ++ n, f ∙ ap (λ l. l ++ n) e ∙ append_assoc a m n)

pub grows_either : (a b : List Ty) (t : Ty) → (b ≡ a) ⊎ (b ≡ a ++ t ∷ []) → Grows a b
grows_either a b t (inl e) = ([], e ∙ sym (append-nil a))
grows_either a b t (inr e) = (t ∷ [], e)

-- the numbers of types stay those of the types
pub numbers_grow : (a b : List Ty) (ids : List TyId) (ts : List Ty) → Grows a b → AreNumbers a ids ts → AreNumbers b ids ts
numbers_grow a b ids ts (m, e) h = subst (λ l. AreNumbers l ids ts) (sym e) (numbers_stay a m ids ts h)

-- what is shown over a table is shown over a larger one, and over the table itself
pub shows_grow : {A B : Type 0} (a b : List Ty) (view : List Ty → A → B) (found : Checking B) (value : A) → Grows a b → Shows a view found value
    → Shows b view found value
shows_grow a b view found value (m, g) h =
    λ more. h (m ++ more) ∙ ap (λ l. Sound (view l value)) (sym (ap (λ l. l ++ more) g ∙ append_assoc a m more))

pub shows_now : {A B : Type 0} (types : List Ty) (view : List Ty → A → B) (found : Checking B) (value : A) → Shows types view found value
    → found ≡ Sound (view types value)
shows_now types view found value h = h [] ∙ ap (λ l. Sound (view l value)) (append-nil types)

-- one number more, of one type more
pub numbers_push : (types : List Ty) (ids : List TyId) (ts : List Ty) (id : TyId) (t : Ty) → AreNumbers types ids ts → slice_get types id.0 ≡ Some t
    → AreNumbers types (ids ++ id ∷ []) (ts ++ t ∷ [])
numbers_push types [] [] id t h e = cc
numbers_push types [] (u ∷ ts) id t h e = absurd (cc)
numbers_push types (i ∷ ids) [] id t h e = absurd (cc)
numbers_push types (i ∷ ids) (u ∷ ts) id t h e =
    let first : slice_get types i.0 ≡ Some u = cc in
    let others : AreNumbers types ids ts = cc in
    let pushed = numbers_push types ids ts id t others e in
    cc
