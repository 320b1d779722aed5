-- The numbers of types agree with the places of the listed ones: at first, and where one is listed.
use Rattle.std.proofs.Common.{◌≡◌, ◌≢◌, ◌≤◌, ◌<◌, ℕ, zero, suc, ◌+◌, Bool, true, false, List, [], ◌∷◌, ◌++◌, length, map, set, nat_eq, nat_lt, get_or, slice_get, slice_index_or, Option, Some, None, option_map, refl, sym, ap, ◌∙◌, subst, arith, append_assoc, length-append, length-set, eqb-true, eq-eqb, leb-true, ltb-true, get_or-set_same, get_or-set_other, if◌then◌else◌}
use Rattle.std.proofs.Math.ListN.{get_or-append}
use Rattle.std.proofs.Math.Seq.{get_or-append_seam}
use Rattle.std.proofs.lemmas.Bool.{ltb-false}
use Rattle.std.proofs.lemmas.List.{append-nil, get_or-map, get_or_past, length-map, map-append}
use Rattle.std.proofs.lemmas.Option.{slice_get-get_or, slice_get_within, get_or_from_slice_get}
use Rattle.core_terms.specs.Types.{Ty, UnitTy, BoolTy, IntTy, TextTy, PairTy, NamedTy, AuthTy, VecTy, Table, same_type}
use Rattle.core_terms.specs.TypeTables.{type_at, type_of_form, HasOneNumber}
use Rattle.core_terms.specs.ProgramTrees.{types_at}
use Rattle.core_terms.specs.ProgramTypes.{named_table, types_by_number}
use Rattle.core_terms.proofs.SameTypes.{same_sound}
use Rattle.core_terms.specs.declared.program_types.Types.{Types}
use Rattle.core_terms.specs.declared.types.TyId.{TyId}
use Rattle.core_terms.specs.declared.types.TyForm.{TyForm}
use Rattle.core_terms.specs.declared.types.TyForm.TheVariants.{UnitForm, BoolForm, IntForm, TextForm, AuthForm, PairForm, NamedForm, VecForm}
use Rattle.object_meaning.specs.Objects.{most_listed_types}
use Rattle.object_meaning.specs.WrittenObjects.{place_of, once, named_from}
use Rattle.object_meaning.proofs.ListedTypes.{named_in}
use Rattle.object_writer.specs.NamedNumbers.{named_place}
use Rattle.object_writer.specs.Numberings.{HasListedParts, IsNumbering, Numbers, listed}
use Rattle.object_writer.specs.declared.numbering.Numbering.{Numbering}
use Rattle.object_writer.proofs.ListedParts.{HasAllParts, push_other, push_same, once_new, named_parts, parts_pushed, unlike, length-named}

not_true : (b : Bool) → (b ≡ true → ⊥) → b ≡ false
not_true true h = absurd (h refl)
not_true false h = refl

-- NAMED TYPES
named_out : (n m : ℕ) (table : Table) → length table ≤ m → place_of (named_from n table) (NamedTy (n + m)) ≡ None
named_out n m [] h = refl
named_out n zero (cs ∷ table) h = absurd (omega (arith, h))
named_out n (suc m) (cs ∷ table) h =
    let e : n + suc m ≡ suc n + m = omega arith in
    let other : same_type (NamedTy n) (NamedTy (n + suc m)) ≡ false = not_true (nat_eq n (n + suc m)) (λ q. let same = eqb-true n (n + suc m) q in absurd (omega (arith, same))) in
    ap (λ b. if b then Some 0 else option_map suc (place_of (named_from (suc n) table) (NamedTy (n + suc m)))) other
    ∙ ap (λ k. option_map suc (place_of (named_from (suc n) table) (NamedTy k))) e
    ∙ ap (option_map suc) (named_out (suc n) m table (omega (arith, h)))

-- the place of a form's type among the named ones
pub place_named : (types : List Ty) (table : Table) (form : TyForm) → place_of (named_from 0 table) (type_of_form types form) ≡ named_place (length table) form
place_named types table (NamedForm named) = by (nat_lt named.0 (length table)) refl
  where
    none : 0 + named.0 ≡ named.0
    none = omega arith

    by : (b : Bool) → nat_lt named.0 (length table) ≡ b → place_of (named_from 0 table) (NamedTy named.0) ≡ (if b then Some named.0 else None)
    by true e = ap (λ k. place_of (named_from 0 table) (NamedTy k)) (sym none) ∙ named_in table 0 named.0 table (ltb-true named.0 (length table) e)
    by false e = ap (λ k. place_of (named_from 0 table) (NamedTy k)) (sym none) ∙ named_out 0 named.0 table (ltb-false named.0 (length table) e)
place_named types table UnitForm = unlike 0 table UnitTy (λ m. refl)
place_named types table BoolForm = unlike 0 table BoolTy (λ m. refl)
place_named types table IntForm = unlike 0 table IntTy (λ m. refl)
place_named types table TextForm = unlike 0 table TextTy (λ m. refl)
place_named types table (AuthForm part) = unlike 0 table (AuthTy (type_at types part)) (λ m. refl)
place_named types table (PairForm a b) = unlike 0 table (PairTy (type_at types a) (type_at types b)) (λ m. refl)
place_named types table (VecForm n part) = unlike 0 table (VecTy n (type_at types part)) (λ m. refl)

-- AT FIRST
module _ (types : Types) (n : Numbering) (none : n.order.items ≡ []) where
  abbrev all : List Ty
  all = types_by_number types

  abbrev named : List Ty
  named = named_from 0 (named_table types)

  one : HasOneNumber all
  one = types.table.one_number

  only_named : listed types n ≡ named
  only_named = ap (λ ids. named ++ types_at all ids) none ∙ append-nil named

  placed : (i : ℕ) → i < length all → get_or (map (place_of named) all) i None ≡ place_of named (slice_index_or all i UnitTy)
  placed i inside = get_or-map (place_of named) all i UnitTy None inside

  few : length (listed types n) ≤ most_listed_types
  few =
      let table = leb-true (length (named_table types)) 256 types.numbers in
      omega (arith, table, ap length only_named, length-named 0 (named_table types))

  parts : HasAllParts (listed types n)
  parts = subst HasAllParts (sym only_named) (named_parts (named_table types))

  -- `unit` is a type of the table
  pub with_unit : n.numbers.items ≡ map (place_of named) all → slice_get all n.unit.0 ≡ Some UnitTy → Numbers types named n
  with_unit numbers there =
      let count : length n.numbers.items ≡ length all = ap length numbers ∙ length-map all (place_of named) in
      record {
        right = record {
          numbers = λ i inside. ap (λ l. get_or l i None) numbers ∙ placed i (omega (arith, inside, count)) ∙ ap (λ l. place_of l (slice_index_or all i UnitTy)) (sym only_named);
          covers = omega (arith, count);
          unit_within = omega (arith, count, slice_get_within all n.unit.0 UnitTy there);
          unit = get_or_from_slice_get all n.unit.0 UnitTy UnitTy there;
          one_number = λ i j a b e. one i j (omega (arith, a, count)) (omega (arith, b, count)) e;
          parts = parts;
          few = few;
        };
        all = only_named;
      }

  abbrev places : List (Option ℕ)
  places = map (place_of named) all

  long : length places ≡ length all
  long = length-map all (place_of named)

  -- it is none, and has a number of its own
  module _ (numbers : n.numbers.items ≡ places ++ None ∷ []) (last : n.unit.0 ≡ length all) (absent : (i : ℕ) → slice_get all i ≢ Some UnitTy) where
    one_more : length n.numbers.items ≡ length all + 1
    one_more = ap length numbers ∙ length-append places (None ∷ []) ∙ ap (λ k. k + 1) long

    place_in : (i : ℕ) → i < length n.numbers.items → (b : Bool) → nat_lt i (length all) ≡ b → slice_index_or n.numbers.items i None ≡ place_of (listed types n) (slice_index_or all i UnitTy)
    place_in i inside true e =
        let low = ltb-true i (length all) e in
        ap (λ l. get_or l i None) numbers ∙ get_or-append places (None ∷ []) None i (omega (arith, low, long))
        ∙ placed i low ∙ ap (λ l. place_of l (slice_index_or all i UnitTy)) (sym only_named)
    place_in i inside false e =
        let high = ltb-false i (length all) e in
        let at : i ≡ length places = omega (arith, high, inside, one_more, long) in
        ap (λ l. get_or l i None) numbers ∙ ap (λ k. get_or (places ++ None ∷ []) k None) at ∙ get_or-append_seam places None [] None
        ∙ sym (unlike 0 (named_table types) UnitTy (λ m. refl))
        ∙ ap (place_of named) (sym (get_or_past all i UnitTy high))
        ∙ ap (λ l. place_of l (slice_index_or all i UnitTy)) (sym only_named)

    differs : (i j : ℕ) → i < length all → length all ≤ j → slice_index_or all i UnitTy ≡ slice_index_or all j UnitTy → ⊥
    differs i j low high e = absent i (slice_get-get_or all i UnitTy low ∙ ap Some (e ∙ get_or_past all j UnitTy high))

    single : (i j : ℕ) → i < length n.numbers.items → j < length n.numbers.items → slice_index_or all i UnitTy ≡ slice_index_or all j UnitTy
        → (b : Bool) → nat_lt i (length all) ≡ b → (c : Bool) → nat_lt j (length all) ≡ c → i ≡ j
    single i j a b e true p true q = one i j (ltb-true i (length all) p) (ltb-true j (length all) q) e
    single i j a b e true p false q = absurd (differs i j (ltb-true i (length all) p) (ltb-false j (length all) q) e)
    single i j a b e false p true q = absurd (differs j i (ltb-true j (length all) q) (ltb-false i (length all) p) (sym e))
    single i j a b e false p false q = let g = ltb-false i (length all) p in let h = ltb-false j (length all) q in omega (arith, a, b, g, h, one_more)

    pub with_own_unit : Numbers types named n
    with_own_unit = record {
      right = record {
        numbers = λ i inside. place_in i inside (nat_lt i (length all)) refl;
        covers = omega (arith, one_more);
        unit_within = omega (arith, one_more, last);
        unit = get_or_past all n.unit.0 UnitTy (omega (arith, last));
        one_number = λ i j a b e. single i j a b e (nat_lt i (length all)) refl (nat_lt j (length all)) refl;
        parts = parts;
        few = few;
      };
      all = only_named;
    }

-- HOW MANY TYPES ARE LISTED
pub length-listed : (types : Types) (n : Numbering) → length (listed types n) ≡ length types.named.items + length n.order.items
length-listed types n =
    let all = types_by_number types in
    length-append (named_from 0 (named_table types)) (types_at all n.order.items)
    ∙ ap (λ k. k + length (types_at all n.order.items)) (length-named 0 (named_table types) ∙ length-map types.named.items _)
    ∙ ap (λ k. length types.named.items + k) (length-map n.order.items (type_at all))

-- ONE TYPE IS LISTED
module _ (types : Types) (n m : Numbering) (ty : TyId) (right : IsNumbering types n) (within : ty.0 < length n.numbers.items)
    (part : HasListedParts (listed types n) (type_at (types_by_number types) ty)) (new : place_of (listed types n) (type_at (types_by_number types) ty) ≡ None)
    (numbers : m.numbers.items ≡ set n.numbers.items ty.0 (Some (length (listed types n)))) (order : m.order.items ≡ n.order.items ++ ty ∷ []) (unit : m.unit ≡ n.unit)
    (room : length (listed types n) < most_listed_types) where
  abbrev others : List Ty
  others = listed types n

  abbrev t : Ty
  t = type_at (types_by_number types) ty

  longer : listed types m ≡ others ++ t ∷ []
  longer =
      let all = types_by_number types in
      ap (λ ids. named_from 0 (named_table types) ++ types_at all ids) order
      ∙ ap (λ l. named_from 0 (named_table types) ++ l) (map-append (type_at all) n.order.items (ty ∷ []))
      ∙ sym (append_assoc (named_from 0 (named_table types)) (types_at all n.order.items) (t ∷ []))

  count : length m.numbers.items ≡ length n.numbers.items
  count = ap length numbers ∙ length-set n.numbers.items ty.0 (Some (length others))

  elsewhere : (i : ℕ) → nat_eq i ty.0 ≡ false → i ≡ ty.0 → ⊥
  elsewhere i e same = let f = eq-eqb i ty.0 same in absurd (cc)

  place_now : (i : ℕ) → i < length n.numbers.items → (b : Bool) → nat_eq i ty.0 ≡ b → slice_index_or m.numbers.items i None ≡ place_of (others ++ t ∷ []) (slice_index_or (types_by_number types) i UnitTy)
  place_now i inside true e =
      let at : i ≡ ty.0 = eqb-true i ty.0 e in
      ap (λ l. get_or l i None) numbers ∙ ap (λ k. get_or (set n.numbers.items ty.0 (Some (length others))) k None) at
      ∙ get_or-set_same n.numbers.items ty.0 (Some (length others)) None within
      ∙ sym (push_same others t new)
      ∙ ap (λ k. place_of (others ++ t ∷ []) (slice_index_or (types_by_number types) k UnitTy)) (sym at)
  place_now i inside false e =
      let apart : i ≢ ty.0 = elsewhere i e in
      let u = slice_index_or (types_by_number types) i UnitTy in
      ap (λ l. get_or l i None) numbers ∙ get_or-set_other n.numbers.items ty.0 i (Some (length others)) None apart
      ∙ right.numbers i inside
      ∙ sym (push_other others t u (not_true (same_type t u) (λ s. apart (right.one_number i ty.0 inside within (sym (same_sound t u s))))))

  pub is_listed : Numbers types (once others t) m
  is_listed = record {
    right = record {
      numbers = λ i inside. subst (λ l. slice_index_or m.numbers.items i None ≡ place_of l (slice_index_or (types_by_number types) i UnitTy)) (sym longer) (place_now i (omega (arith, inside, count)) (nat_eq i ty.0) refl);
      covers = omega (arith, count, right.covers);
      unit_within = subst (λ u. u.0 < length m.numbers.items) (sym unit) (omega (arith, count, right.unit_within));
      unit = ap (λ u. slice_index_or (types_by_number types) u.0 UnitTy) unit ∙ right.unit;
      one_number = λ i j a b e. right.one_number i j (omega (arith, a, count)) (omega (arith, b, count)) e;
      parts = subst HasAllParts (sym longer) (parts_pushed others t right.parts part);
      few = omega (arith, ap length longer, length-append others (t ∷ []), room);
    };
    all = longer ∙ sym (once_new others t new);
  }
