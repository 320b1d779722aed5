-- The types that an object lists of a program: each once and parts first, all that are asked for among them.
use Rattle.std.proofs.Common.{◌≡◌, ◌<◌, ℕ, zero, suc, ◌+◌, Bool, true, false, List, [], ◌∷◌, ◌++◌, length, Option, Some, None, option_map, slice_index_or, unwrap_or, refl, sym, ap, ◌∙◌, subst, arith, append_assoc, append-nil, eq-eqb, eqb-true, nat_eq, if◌then◌else◌}
use Rattle.std.specs.Option.{is_some}
use Rattle.core_terms.specs.Types.{Ty, UnitTy, BoolTy, IntTy, TextTy, PairTy, NamedTy, AuthTy, VecTy, Table, same_type}
use Rattle.core_terms.proofs.SameTypes.{same_sound}
use Rattle.core_terms.proofs.TypingComplete.{same_self}
use Rattle.core_terms.specs.Instructions as code
use Rattle.core_terms.specs.Bodies.{FunctionCode}
use Rattle.object_meaning.specs.WrittenObjects.{place_of, number_in, once, with_type, with_types, types_named, with_instructions, with_functions, named_from, with_fields, with_all_fields}
use Rattle.object_meaning.specs.ClosedPrograms.{IsClosed, AreClosed, FieldsAreClosed, TableIsClosed, IsClosedAt, CodeIsClosed, FunctionsAreClosed}

pub some_none : {A : Type 0} {a : A} → Some a ≡ None → ⊥
some_none e = cc

pub none_some : {A : Type 0} {a : A} → None ≡ Some a → ⊥
none_some e = cc

pub some_is : {A : Type 0} {a b : A} → Some a ≡ Some b → a ≡ b
some_is e = cc

unequal : (a b : ℕ) → (a ≡ b → ⊥) → nat_eq a b ≡ false
unequal a b h = by (nat_eq a b) refl
  where
    by : (c : Bool) → nat_eq a b ≡ c → nat_eq a b ≡ false
    by true e = absurd (h (eqb-true a b e))
    by false e = e

-- the type is listed
abbrev pub In : List Ty → Ty → Type 0
In types t = (i : ℕ) × (place_of types t ≡ Some i)

pub place_found : (types : List Ty) (t : Ty) (i : ℕ) → place_of types t ≡ Some i → (slice_index_or types i UnitTy ≡ t) × (i < length types)
place_found [] t i e = absurd (cc)
place_found (u ∷ us) t i e = by (same_type u t) refl e (place_of us t) refl (λ j r. place_found us t j r)
  where
    by : (b : Bool) → same_type u t ≡ b → (if b then Some 0 else option_map suc (place_of us t)) ≡ Some i → (o : Option ℕ) → place_of us t ≡ o
        → ((j : ℕ) → place_of us t ≡ Some j → (slice_index_or us j UnitTy ≡ t) × (j < length us)) → (slice_index_or (u ∷ us) i UnitTy ≡ t) × (i < length (u ∷ us))
    by true s e o r go = subst (λ i. (slice_index_or (u ∷ us) i UnitTy ≡ t) × (i < length (u ∷ us))) (some_is e) (same_sound u t s, omega arith)
    by false s e (Some j) r go =
        let g = go j r in
        let h : suc j < suc (length us) = omega (arith, g.1) in
        subst (λ i. (slice_index_or (u ∷ us) i UnitTy ≡ t) × (i < length (u ∷ us))) (some_is (sym (ap (option_map suc) r) ∙ e)) (g.0, h)
    by false s e None r go = let f = sym (ap (option_map suc) r) ∙ e in absurd (cc (f))

pub place_in_front : (xs ys : List Ty) (t : Ty) (i : ℕ) → place_of xs t ≡ Some i → place_of (xs ++ ys) t ≡ Some i
place_in_front [] ys t i e = absurd (cc)
place_in_front (x ∷ xs) ys t i e = by (same_type x t) refl (place_of xs t) refl (λ j r. place_in_front xs ys t j r)
  where
    by : (b : Bool) → same_type x t ≡ b → (o : Option ℕ) → place_of xs t ≡ o → ((j : ℕ) → place_of xs t ≡ Some j → place_of (xs ++ ys) t ≡ Some j) → place_of (x ∷ (xs ++ ys)) t ≡ Some i
    by true s o r go = ap (λ b. if b then Some 0 else option_map suc (place_of (xs ++ ys) t)) s ∙ sym (ap (λ b. if b then Some 0 else option_map suc (place_of xs t)) s) ∙ e
    by false s (Some j) r go =
        ap (λ b. if b then Some 0 else option_map suc (place_of (xs ++ ys) t)) s
        ∙ ap (option_map suc) (go j r ∙ sym r)
        ∙ sym (ap (λ b. if b then Some 0 else option_map suc (place_of xs t)) s) ∙ e
    by false s None r go = let f = sym (ap (λ b. if b then Some 0 else option_map suc (place_of xs t)) s ∙ ap (option_map suc) r) ∙ e in absurd (cc (f))

place_at_end : (xs : List Ty) (t : Ty) → place_of xs t ≡ None → place_of (xs ++ t ∷ []) t ≡ Some (length xs)
place_at_end [] t e = ap (λ b. if b then Some 0 else None) (same_self t)
place_at_end (x ∷ xs) t e = by (same_type x t) refl (place_of xs t) refl (λ r. place_at_end xs t r)
  where
    by : (b : Bool) → same_type x t ≡ b → (o : Option ℕ) → place_of xs t ≡ o → (place_of xs t ≡ None → place_of (xs ++ t ∷ []) t ≡ Some (length xs)) → place_of (x ∷ (xs ++ t ∷ [])) t ≡ Some (suc (length xs))
    by true s o r go = let f = sym (ap (λ b. if b then Some 0 else option_map suc (place_of xs t)) s) ∙ e in absurd (cc (f))
    by false s None r go = ap (λ b. if b then Some 0 else option_map suc (place_of (xs ++ t ∷ []) t)) s ∙ ap (option_map suc) (go r)
    by false s (Some j) r go = let f = sym (ap (λ b. if b then Some 0 else option_map suc (place_of xs t)) s ∙ ap (option_map suc) r) ∙ e in absurd (cc (f))

-- the type with its number
pub number_found : (types : List Ty) (t : Ty) → In types t → slice_index_or types (number_in types t) UnitTy ≡ t
number_found types t h = ap (λ o. slice_index_or types (unwrap_or o 0) UnitTy) h.1 ∙ (place_found types t h.0 h.1).0

-- the parts of a type are listed, and it isn't a named one or an array
abbrev pub HasParts : List Ty → Ty → Type 0
HasParts types (PairTy a b) = In types a × In types b
HasParts types (NamedTy n) = ⊥
HasParts types (AuthTy t) = In types t
HasParts types (VecTy n t) = ⊥
HasParts types t = Unit {0}

-- types behind others, each new, with its parts before it
abbrev pub Behind : List Ty → List Ty → Type 0
Behind before [] = Unit {0}
Behind before (t ∷ ts) = (place_of before t ≡ None) × HasParts before t × Behind (before ++ t ∷ []) ts

behind_more : (before ts : List Ty) (t : Ty) → Behind before ts → place_of (before ++ ts) t ≡ None → HasParts (before ++ ts) t → Behind before (ts ++ t ∷ [])
behind_more before [] t h e p = (subst (λ l. place_of l t ≡ None) (append-nil before) e, subst (λ l. HasParts l t) (append-nil before) p, tt)
behind_more before (u ∷ ts) t h e p = (
  h.0,
  h.1,
  behind_more (before ++ u ∷ []) ts t h.2 (subst (λ l. place_of l t ≡ None) (sym (append_assoc before (u ∷ []) ts)) e) (subst (λ l. HasParts l t) (sym (append_assoc before (u ∷ []) ts)) p),
)

module _ (table : Table) where
  abbrev named : List Ty
  named = named_from 0 table

  -- the named types, and others behind them
  pub record Listing (types : List Ty) : Type 0 where
    pub more : List Ty
    pub is : types ≡ named ++ more
    pub behind : Behind named more

  -- the second list is the first with more behind it
  abbrev Grows : List Ty → List Ty → Type 0
  Grows xs ys = (zs : List Ty) × (ys ≡ xs ++ zs)

  grows_not : (xs : List Ty) → Grows xs xs
  grows_not xs = ([], sym (append-nil xs))

  grows_on : (xs ys zs : List Ty) → Grows xs ys → Grows ys zs → Grows xs zs
  grows_on xs ys zs g h = (g.0 ++ h.0, h.1 ∙ ap (λ l. l ++ h.0) g.1 ∙ append_assoc xs g.0 h.0)

  pub in_more : (xs ys : List Ty) (t : Ty) → Grows xs ys → In xs t → In ys t
  in_more xs ys t g h = (h.0, ap (λ l. place_of l t) g.1 ∙ place_in_front xs g.0 t h.0 h.1)

  -- what adding types leads to
  pub record Added (before after : List Ty) (Asked : List Ty → Type 0) : Type 0 where
    pub listing : Listing after
    pub grows : Grows before after
    pub asked : Asked after

  pub named_in : (n m : ℕ) (types : Table) → m < length types → place_of (named_from n types) (NamedTy (n + m)) ≡ Some m
  named_in n m [] h = absurd (omega (arith, h))
  named_in n zero (cs ∷ types) h = let e : n + 0 ≡ n = omega arith in ap (λ b. if b then Some 0 else option_map suc (place_of (named_from (suc n) types) (NamedTy (n + 0)))) (eq-eqb n (n + 0) (sym e))
  named_in n (suc m) (cs ∷ types) h =
      let l : m < length types = omega (arith, h) in
      let e : n + suc m ≡ suc n + m = omega arith in
      let other : same_type (NamedTy n) (NamedTy (n + suc m)) ≡ false = unequal n (n + suc m) (λ q. omega (arith, q)) in
      ap (λ b. if b then Some 0 else option_map suc (place_of (named_from (suc n) types) (NamedTy (n + suc m)))) other
      ∙ ap (λ k. option_map suc (place_of (named_from (suc n) types) (NamedTy k))) e
      ∙ ap (option_map suc) (named_in (suc n) m types l)

  once_added : (types : List Ty) (t : Ty) → Listing types → HasParts types t → Added types (once types t) (λ l. In l t)
  once_added types t h p = by (place_of types t) refl
    where
      by : (o : Option ℕ) → place_of types t ≡ o → Added types (if is_some o then types else types ++ t ∷ []) (λ l. In l t)
      by (Some i) e = record { listing = h; grows = grows_not types; asked = (i, e) }
      by None e = record {
        listing = record {
          more = h.more ++ t ∷ [];
          is = ap (λ l. l ++ t ∷ []) h.is ∙ append_assoc named h.more (t ∷ []);
          behind = behind_more named h.more t h.behind (subst (λ l. place_of l t ≡ None) h.is e) (subst (λ l. HasParts l t) h.is p);
        };
        grows = (t ∷ [], refl);
        asked = (length types, place_at_end types t e);
      }

  once_there : (types : List Ty) (t : Ty) → In types t → once types t ≡ types
  once_there types t h = ap (λ o. if is_some o then types else types ++ t ∷ []) h.1

  type_added : (types : List Ty) (t : Ty) → Listing types → IsClosed (length table) t → Added types (with_type types t) (λ l. In l t)
  type_added types UnitTy h c = once_added types UnitTy h tt
  type_added types BoolTy h c = once_added types BoolTy h tt
  type_added types IntTy h c = once_added types IntTy h tt
  type_added types TextTy h c = once_added types TextTy h tt
  type_added types (VecTy n t) h c = elim c [ ]
  type_added types (NamedTy n) h c =
      let z : 0 + n ≡ n = omega arith in
      let first : place_of named (NamedTy n) ≡ Some n = ap (λ m. place_of named (NamedTy m)) (sym z) ∙ named_in 0 n table c in
      let i : In types (NamedTy n) = (n, ap (λ l. place_of l (NamedTy n)) h.is ∙ place_in_front named h.more (NamedTy n) n first) in
      subst (λ l. Added types l (λ l. In l (NamedTy n))) (sym (once_there types (NamedTy n) i)) (record { listing = h; grows = grows_not types; asked = i })
  type_added types (PairTy a b) h c =
      let A = type_added types a h c.0 in
      let B = type_added (with_type types a) b A.listing c.1 in
      let two = with_type (with_type types a) b in
      let O = once_added two (PairTy a b) B.listing (in_more (with_type types a) two a B.grows A.asked, B.asked) in
      record { listing = O.listing; grows = grows_on types two (once two (PairTy a b)) (grows_on types (with_type types a) two A.grows B.grows) O.grows; asked = O.asked }
  type_added types (AuthTy t) h c =
      let A = type_added types t h c in
      let O = once_added (with_type types t) (AuthTy t) A.listing A.asked in
      record { listing = O.listing; grows = grows_on types (with_type types t) (once (with_type types t) (AuthTy t)) A.grows O.grows; asked = O.asked }

  -- all of some
  abbrev pub AllIn : List Ty → List Ty → Type 0
  AllIn types [] = Unit {0}
  AllIn types (t ∷ ts) = In types t × AllIn types ts

  all_more : (xs ys : List Ty) (ts : List Ty) → Grows xs ys → AllIn xs ts → AllIn ys ts
  all_more xs ys [] g h = tt
  all_more xs ys (t ∷ ts) g h = (in_more xs ys t g h.0, all_more xs ys ts g h.1)

  types_added : (types ts : List Ty) → Listing types → AreClosed (length table) ts → Added types (with_types types ts) (λ l. AllIn l ts)
  types_added types [] h c = record { listing = h; grows = grows_not types; asked = tt }
  types_added types (t ∷ ts) h c =
      let A = type_added types t h c.0 in
      let B = types_added (with_type types t) ts A.listing c.1 in
      let end = with_types (with_type types t) ts in
      record { listing = B.listing; grows = grows_on types (with_type types t) end A.grows B.grows; asked = (in_more (with_type types t) end t B.grows A.asked, B.asked) }

  abbrev pub AllFieldsIn : List Ty → List (List Ty) → Type 0
  AllFieldsIn types [] = Unit {0}
  AllFieldsIn types (ts ∷ cs) = AllIn types ts × AllFieldsIn types cs

  fields_more : (xs ys : List Ty) (cs : List (List Ty)) → Grows xs ys → AllFieldsIn xs cs → AllFieldsIn ys cs
  fields_more xs ys [] g h = tt
  fields_more xs ys (ts ∷ cs) g h = (all_more xs ys ts g h.0, fields_more xs ys cs g h.1)

  fields_added : (types : List Ty) (cs : List (List Ty)) → Listing types → FieldsAreClosed (length table) cs → Added types (with_fields types cs) (λ l. AllFieldsIn l cs)
  fields_added types [] h c = record { listing = h; grows = grows_not types; asked = tt }
  fields_added types (ts ∷ cs) h c =
      let A = types_added types ts h c.0 in
      let B = fields_added (with_types types ts) cs A.listing c.1 in
      let end = with_fields (with_types types ts) cs in
      record { listing = B.listing; grows = grows_on types (with_types types ts) end A.grows B.grows; asked = (all_more (with_types types ts) end ts B.grows A.asked, B.asked) }

  abbrev pub TableIn : List Ty → Table → Type 0
  TableIn types [] = Unit {0}
  TableIn types (cs ∷ more) = AllFieldsIn types cs × TableIn types more

  pub table_more : (xs ys : List Ty) (t : Table) → Grows xs ys → TableIn xs t → TableIn ys t
  table_more xs ys [] g h = tt
  table_more xs ys (cs ∷ more) g h = (fields_more xs ys cs g h.0, table_more xs ys more g h.1)

  pub all_fields_added : (types : List Ty) (t : Table) → Listing types → TableIsClosed (length table) t → Added types (with_all_fields types t) (λ l. TableIn l t)
  all_fields_added types [] h c = record { listing = h; grows = grows_not types; asked = tt }
  all_fields_added types (cs ∷ more) h c =
      let A = fields_added types cs h c.0 in
      let B = all_fields_added (with_fields types cs) more A.listing c.1 in
      let end = with_all_fields (with_fields types cs) more in
      record { listing = B.listing; grows = grows_on types (with_fields types cs) end A.grows B.grows; asked = (fields_more (with_fields types cs) end cs B.grows A.asked, B.asked) }

  -- the types that code names
  abbrev pub CodeIn : List Ty → List code.Instruction → Type 0
  CodeIn types [] = Unit {0}
  CodeIn types (i ∷ is) = AllIn types (types_named i) × CodeIn types is

  code_more : (xs ys : List Ty) (is : List code.Instruction) → Grows xs ys → CodeIn xs is → CodeIn ys is
  code_more xs ys [] g h = tt
  code_more xs ys (i ∷ is) g h = (all_more xs ys (types_named i) g h.0, code_more xs ys is g h.1)

  named_closed : (i : code.Instruction) → IsClosedAt (length table) i → AreClosed (length table) (types_named i)
  named_closed (code.Auth t) c = (c, tt)
  named_closed (code.Unauth t) c = (c, tt)
  named_closed _ c = tt

  code_added : (types : List Ty) (is : List code.Instruction) → Listing types → CodeIsClosed (length table) is → Added types (with_instructions types is) (λ l. CodeIn l is)
  code_added types [] h c = record { listing = h; grows = grows_not types; asked = tt }
  code_added types (i ∷ is) h c =
      let A = types_added types (types_named i) h (named_closed i c.0) in
      let B = code_added (with_types types (types_named i)) is A.listing c.1 in
      let end = with_instructions (with_types types (types_named i)) is in
      record { listing = B.listing; grows = grows_on types (with_types types (types_named i)) end A.grows B.grows; asked = (all_more (with_types types (types_named i)) end (types_named i) B.grows A.asked, B.asked) }

  pub record FunctionIn (types : List Ty) (g : FunctionCode) : Type 0 where
    pub parameters : AllIn types g.parameters
    pub result : In types g.result
    pub code : CodeIn types g.code

  abbrev pub FunctionsIn : List Ty → List FunctionCode → Type 0
  FunctionsIn types [] = Unit {0}
  FunctionsIn types (g ∷ gs) = FunctionIn types g × FunctionsIn types gs

  pub functions_added : (types : List Ty) (gs : List FunctionCode) → Listing types → FunctionsAreClosed (length table) gs → Added types (with_functions types gs) (λ l. FunctionsIn l gs)
  functions_added types [] h c = record { listing = h; grows = grows_not types; asked = tt }
  functions_added types (g ∷ gs) h c =
      let first = with_types types g.parameters in
      let second = with_type first g.result in
      let third = with_instructions second g.code in
      let end = with_functions third gs in
      let A = types_added types g.parameters h c.0.parameters in
      let B = type_added first g.result A.listing c.0.result in
      let C = code_added second g.code B.listing c.0.code in
      let D = functions_added third gs C.listing c.1 in
      let last : Grows third end = D.grows in
      record {
        listing = D.listing;
        grows = grows_on types first end A.grows (grows_on first second end B.grows (grows_on second third end C.grows last));
        asked = (
          record {
            parameters = all_more first end g.parameters (grows_on first second end B.grows (grows_on second third end C.grows last)) A.asked;
            result = in_more second end g.result (grows_on second third end C.grows last) B.asked;
            code = code_more third end g.code last C.asked;
          },
          D.asked,
        );
      }

  pub at_first : Listing named
  at_first = record { more = []; is = sym (append-nil named); behind = tt }

  pub state_added : (types : List Ty) (t : Ty) → Listing types → IsClosed (length table) t → Added types (with_type types t) (λ l. In l t)
  state_added = type_added
