-- Lists of types, each behind its parts: what is listed, and what one more type changes.
use Rattle.std.proofs.Common.{◌≡◌, ◌≤◌, ℕ, suc, Bool, true, false, List, [], ◌∷◌, ◌++◌, length, Option, Some, None, option_map, refl, sym, ap, ◌∙◌, subst, arith, length-append, if◌then◌else◌}
use Rattle.std.specs.Option.{is_some}
use Rattle.core_terms.specs.Types.{Ty, UnitTy, BoolTy, IntTy, TextTy, PairTy, NamedTy, AuthTy, VecTy, Table, same_type}
use Rattle.core_terms.specs.Instructions as code
use Rattle.core_terms.specs.Bodies.{FunctionCode}
use Rattle.core_terms.proofs.SameTypes.{same_sound}
use Rattle.core_terms.proofs.TypingComplete.{same_self}
use Rattle.object_meaning.specs.WrittenObjects.{place_of, once, with_type, with_types, types_named, with_instructions, with_functions, named_from, with_fields, with_all_fields}
use Rattle.object_meaning.proofs.ListedTypes.{place_in_front}
use Rattle.object_writer.specs.Numberings.{AreTooMany, IsListed, HasListedParts}
use Rattle.object_writer.specs.declared.fault.WriteFault.{WriteFault}
use Rattle.object_writer.specs.declared.fault.WriteFault.TheVariants.{TooLong, NoMemory}

some_none : {A : Type 0} {a : A} → Some a ≡ None → ⊥
some_none e = cc

no_truth : false ≡ true → ⊥
no_truth e = absurd (cc)

pub listed_at : (types : List Ty) (t : Ty) → IsListed types t → (i : ℕ) × (place_of types t ≡ Some i)
listed_at types t h = by (place_of types t) refl h
  where
    by : (o : Option ℕ) → place_of types t ≡ o → is_some o ≡ true → (i : ℕ) × (place_of types t ≡ Some i)
    by (Some i) e h = (i, e)
    by None e h = absurd (no_truth h)

pub not_listed : (types : List Ty) (t : Ty) → is_some (place_of types t) ≡ false → place_of types t ≡ None
not_listed types t h = by (place_of types t) refl h
  where
    by : (o : Option ℕ) → place_of types t ≡ o → is_some o ≡ false → place_of types t ≡ None
    by (Some i) e h = absurd (no_truth (sym h))
    by None e h = e

-- ONE TYPE MORE
pub push_other : (types : List Ty) (t u : Ty) → same_type t u ≡ false → place_of (types ++ t ∷ []) u ≡ place_of types u
push_other [] t u d = ap (λ b. if b then Some 0 else None) d
push_other (x ∷ xs) t u d = ap (λ o. if same_type x u then Some 0 else option_map suc o) (push_other xs t u d)

pub push_same : (types : List Ty) (t : Ty) → place_of types t ≡ None → place_of (types ++ t ∷ []) t ≡ Some (length types)
push_same [] t e = ap (λ b. if b then Some 0 else None) (same_self t)
push_same (x ∷ xs) t e = by (same_type x t) refl (place_of xs t) refl (λ r. push_same xs t r)
  where
    by : (b : Bool) → same_type x t ≡ b → (o : Option ℕ) → place_of xs t ≡ o → (place_of xs t ≡ None → place_of (xs ++ t ∷ []) t ≡ Some (length xs)) → place_of (x ∷ (xs ++ t ∷ [])) t ≡ Some (suc (length xs))
    by true s o r go = absurd (some_none (sym (ap (λ b. if b then Some 0 else option_map suc (place_of xs t)) s) ∙ e))
    by false s None r go = ap (λ b. if b then Some 0 else option_map suc (place_of (xs ++ t ∷ []) t)) s ∙ ap (option_map suc) (go r)
    by false s (Some j) r go = absurd (some_none (sym (ap (λ b. if b then Some 0 else option_map suc (place_of xs t)) s ∙ ap (option_map suc) r) ∙ e))

pub front : (xs ys : List Ty) (t : Ty) → IsListed xs t → IsListed (xs ++ ys) t
front xs ys t h = let p = listed_at xs t h in ap is_some (place_in_front xs ys t p.0 p.1)

-- a fact of the list with a type behind it, where it isn't among the others
pub once_as : (types : List Ty) (t : Ty) (P : List Ty → Type 0) → (IsListed types t → P types) → (place_of types t ≡ None → P (types ++ t ∷ [])) → P (once types t)
once_as types t P there new = by (place_of types t) refl
  where
    by : (o : Option ℕ) → place_of types t ≡ o → P (if is_some o then types else types ++ t ∷ [])
    by (Some i) e = there (ap is_some e)
    by None e = new e

pub once_there : (types : List Ty) (t : Ty) → IsListed types t → once types t ≡ types
once_there types t h = ap (λ b. if b then types else types ++ t ∷ []) h

pub once_new : (types : List Ty) (t : Ty) → place_of types t ≡ None → once types t ≡ types ++ t ∷ []
once_new types t e = ap (λ o. if is_some o then types else types ++ t ∷ []) e

pub once_in : (types : List Ty) (t : Ty) → IsListed (once types t) t
once_in types t = once_as types t (λ l. IsListed l t) (λ h. h) (λ e. ap is_some (push_same types t e))

pub once_keeps : (types : List Ty) (t u : Ty) → IsListed types u → IsListed (once types t) u
once_keeps types t u h = once_as types t (λ l. IsListed l u) (λ there. h) (λ e. front types (t ∷ []) u h)

pub once_grows : (types : List Ty) (t : Ty) → length types ≤ length (once types t)
once_grows types t = once_as types t (λ l. length types ≤ length l) (λ there. omega arith) (λ e. omega (arith, length-append types (t ∷ [])))

-- A TYPE AND ITS PARTS
pub type_keeps : (types : List Ty) (t u : Ty) → IsListed types u → IsListed (with_type types t) u
type_keeps types (PairTy a b) u h = once_keeps (with_type (with_type types a) b) (PairTy a b) u (type_keeps (with_type types a) b u (type_keeps types a u h))
type_keeps types (AuthTy a) u h = once_keeps (with_type types a) (AuthTy a) u (type_keeps types a u h)
type_keeps types UnitTy u h = once_keeps types UnitTy u h
type_keeps types BoolTy u h = once_keeps types BoolTy u h
type_keeps types IntTy u h = once_keeps types IntTy u h
type_keeps types TextTy u h = once_keeps types TextTy u h
type_keeps types (NamedTy n) u h = once_keeps types (NamedTy n) u h
type_keeps types (VecTy n a) u h = once_keeps types (VecTy n a) u h

pub type_in : (types : List Ty) (t : Ty) → IsListed (with_type types t) t
type_in types (PairTy a b) = once_in (with_type (with_type types a) b) (PairTy a b)
type_in types (AuthTy a) = once_in (with_type types a) (AuthTy a)
type_in types UnitTy = once_in types UnitTy
type_in types BoolTy = once_in types BoolTy
type_in types IntTy = once_in types IntTy
type_in types TextTy = once_in types TextTy
type_in types (NamedTy n) = once_in types (NamedTy n)
type_in types (VecTy n a) = once_in types (VecTy n a)

-- the parts of listed types are listed
abbrev pub HasAllParts : List Ty → Type 0
HasAllParts types = (t : Ty) → IsListed types t → HasListedParts types t

-- so a listed type changes nothing
pub type_there : (types : List Ty) (t : Ty) → HasAllParts types → IsListed types t → with_type types t ≡ types
type_there types (PairTy a b) all h =
    let parts = all (PairTy a b) h in
    let first = type_there types a all parts.0 in
    let second = type_there types b all parts.1 in
    ap (λ l. once (with_type l b) (PairTy a b)) first ∙ ap (λ l. once l (PairTy a b)) second ∙ once_there types (PairTy a b) h
type_there types (AuthTy a) all h = ap (λ l. once l (AuthTy a)) (type_there types a all (all (AuthTy a) h)) ∙ once_there types (AuthTy a) h
type_there types UnitTy all h = once_there types UnitTy h
type_there types BoolTy all h = once_there types BoolTy h
type_there types IntTy all h = once_there types IntTy h
type_there types TextTy all h = once_there types TextTy h
type_there types (NamedTy n) all h = once_there types (NamedTy n) h
type_there types (VecTy n a) all h = once_there types (VecTy n a) h

parts_front : (xs ys : List Ty) (t : Ty) → HasListedParts xs t → HasListedParts (xs ++ ys) t
parts_front xs ys (PairTy a b) h = (front xs ys a h.0, front xs ys b h.1)
parts_front xs ys (AuthTy a) h = front xs ys a h
parts_front xs ys UnitTy h = tt
parts_front xs ys BoolTy h = tt
parts_front xs ys IntTy h = tt
parts_front xs ys TextTy h = tt
parts_front xs ys (NamedTy n) h = tt
parts_front xs ys (VecTy n a) h = tt

pub parts_pushed : (types : List Ty) (t : Ty) → HasAllParts types → HasListedParts types t → HasAllParts (types ++ t ∷ [])
parts_pushed types t all parts u h = by (same_type t u) refl
  where
    by : (b : Bool) → same_type t u ≡ b → HasListedParts (types ++ t ∷ []) u
    by true s = subst (HasListedParts (types ++ t ∷ [])) (same_sound t u s) (parts_front types (t ∷ []) t parts)
    by false s = parts_front types (t ∷ []) u (all u (sym (ap is_some (push_other types t u s)) ∙ h))

-- THE NAMED TYPES ALONE
pub unlike : (n : ℕ) (table : Table) (t : Ty) → ((m : ℕ) → same_type (NamedTy m) t ≡ false) → place_of (named_from n table) t ≡ None
unlike n [] t differs = refl
unlike n (cs ∷ table) t differs =
    ap (λ b. if b then Some 0 else option_map suc (place_of (named_from (suc n) table) t)) (differs n) ∙ ap (option_map suc) (unlike (suc n) table t differs)

pub named_parts : (table : Table) → HasAllParts (named_from 0 table)
named_parts table (PairTy a b) h = absurd (no_truth (sym (ap is_some (unlike 0 table (PairTy a b) (λ m. refl))) ∙ h))
named_parts table (AuthTy a) h = absurd (no_truth (sym (ap is_some (unlike 0 table (AuthTy a) (λ m. refl))) ∙ h))
named_parts table UnitTy h = tt
named_parts table BoolTy h = tt
named_parts table IntTy h = tt
named_parts table TextTy h = tt
named_parts table (NamedTy n) h = tt
named_parts table (VecTy n a) h = tt

pub length-named : (n : ℕ) (table : Table) → length (named_from n table) ≡ length table
length-named n [] = refl
length-named n (cs ∷ table) = ap suc (length-named (suc n) table)

-- HOW LISTS GROW
-- too many types are too many with more
pub too_many_more : (xs ys : List Ty) (fault : WriteFault) → length xs ≤ length ys → AreTooMany xs fault → AreTooMany ys fault
too_many_more xs ys TooLong h many = omega (arith, h, many)
too_many_more xs ys NoMemory h many = tt

pub type_grows : (types : List Ty) (t : Ty) → length types ≤ length (with_type types t)
type_grows types (PairTy a b) =
    omega (arith, type_grows types a, type_grows (with_type types a) b, once_grows (with_type (with_type types a) b) (PairTy a b))
type_grows types (AuthTy a) = omega (arith, type_grows types a, once_grows (with_type types a) (AuthTy a))
type_grows types UnitTy = once_grows types UnitTy
type_grows types BoolTy = once_grows types BoolTy
type_grows types IntTy = once_grows types IntTy
type_grows types TextTy = once_grows types TextTy
type_grows types (NamedTy n) = once_grows types (NamedTy n)
type_grows types (VecTy n a) = once_grows types (VecTy n a)

pub types_grow : (types ts : List Ty) → length types ≤ length (with_types types ts)
types_grow types [] = omega arith
types_grow types (t ∷ ts) = omega (arith, type_grows types t, types_grow (with_type types t) ts)

pub fields_grow : (types : List Ty) (cs : List (List Ty)) → length types ≤ length (with_fields types cs)
fields_grow types [] = omega arith
fields_grow types (ts ∷ cs) = omega (arith, types_grow types ts, fields_grow (with_types types ts) cs)

pub all_fields_grow : (types : List Ty) (table : Table) → length types ≤ length (with_all_fields types table)
all_fields_grow types [] = omega arith
all_fields_grow types (cs ∷ table) = omega (arith, fields_grow types cs, all_fields_grow (with_fields types cs) table)

pub code_grows : (types : List Ty) (is : List code.Instruction) → length types ≤ length (with_instructions types is)
code_grows types [] = omega arith
code_grows types (i ∷ is) = omega (arith, types_grow types (types_named i), code_grows (with_types types (types_named i)) is)

pub function_grows : (types : List Ty) (g : FunctionCode) → length types ≤ length (with_instructions (with_type (with_types types g.parameters) g.result) g.code)
function_grows types g =
    let before = with_types types g.parameters in
    omega (arith, types_grow types g.parameters, type_grows before g.result, code_grows (with_type before g.result) g.code)

pub functions_grow : (types : List Ty) (gs : List FunctionCode) → length types ≤ length (with_functions types gs)
functions_grow types [] = omega arith
functions_grow types (g ∷ gs) =
    omega (arith, function_grows types g, functions_grow (with_instructions (with_type (with_types types g.parameters) g.result) g.code) gs)
