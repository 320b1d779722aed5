-- The levels on which an `auth` is found in types.
use Rattle.std.proofs.Common.{◌≡◌, ℕ, zero, suc, ◌+◌, ◌-◌, ◌<◌, Bool, true, false, ◌||◌, List, [], ◌∷◌, ◌++◌, map, length, slice_get, slice_index_or, unwrap_or, refl, sym, ap, ap₂, ◌∙◌, arith, nat_lt, ltb-true, ◌≤◌, replicate}
use Rattle.std.specs.Cmp.Lexicographic.{pointwise}
use Rattle.std.proofs.lemmas.Bool.{ltb-false}
use Rattle.std.proofs.lemmas.List.{get_or_past, length-map, get_or-replicate, length-replicate}
use Rattle.std.proofs.lemmas.Slice.Eq.{slice_eq-Decides}
use Rattle.std.specs.Cmp.{booleans_Decides}
use Rattle.std.proofs.Math.Bool.{beq}
use Rattle.std.proofs.Math.ListN.{get_or-append}
use Rattle.std.proofs.Math.Seq.{get_or-append_seam}
use Rattle.std.specs.List.{list_any}
use Rattle.core_terms.specs.Types.{Ty, UnitTy, BoolTy, IntTy, TextTy, PairTy, NamedTy, AuthTy, VecTy, Table}
use Rattle.core_terms.specs.Roles.{some_passes, has_auth_within}
use Rattle.core_terms.specs.TypeTables.{stands_behind, type_at, type_of_form}
use Rattle.core_terms.specs.ProgramTrees.{table_of, types_at}
use Rattle.core_terms.specs.AuthMarks.{AreAuthMarks, AreLevelMarks, AreOpenedMarks, is_marked_field, is_marked_type, mark_of_form}
use Rattle.core_terms.specs.declared.types.TyId.{TyId}
use Rattle.core_terms.specs.declared.types.TyForm.{TyForm}
use Rattle.core_terms.specs.declared.types.TyForm.TheVariants.{UnitForm, BoolForm, IntForm, TextForm, AuthForm, PairForm, NamedForm, VecForm}
use Rattle.core_terms.specs.declared.term.Constructor.{Constructor}
use Rattle.core_terms.specs.declared.term.NamedType.{NamedType}
use Rattle.core_terms.proofs.SameTypes.{first_of, second_of}

-- no `auth` stands in these on any level
pub unit_has_none : (table : Table) (opened : ℕ) → false ≡ has_auth_within table opened UnitTy
unit_has_none table zero = refl
unit_has_none table (suc opened) = refl

bool_has_none : (table : Table) (opened : ℕ) → false ≡ has_auth_within table opened BoolTy
bool_has_none table zero = refl
bool_has_none table (suc opened) = refl

int_has_none : (table : Table) (opened : ℕ) → false ≡ has_auth_within table opened IntTy
int_has_none table zero = refl
int_has_none table (suc opened) = refl

text_has_none : (table : Table) (opened : ℕ) → false ≡ has_auth_within table opened TextTy
text_has_none table zero = refl
text_has_none table (suc opened) = refl

pub auth_has_one : (table : Table) (opened : ℕ) (t : Ty) → true ≡ has_auth_within table opened (AuthTy t)
auth_has_one table zero t = refl
auth_has_one table (suc opened) t = refl

pub pair_has : (table : Table) (opened : ℕ) (a b : Ty) → has_auth_within table opened a || has_auth_within table opened b ≡ has_auth_within table opened (PairTy a b)
pair_has table zero a b = refl
pair_has table (suc opened) a b = refl

pub vec_has : (table : Table) (opened n : ℕ) (t : Ty) → has_auth_within table opened t ≡ has_auth_within table opened (VecTy n t)
vec_has table zero n t = refl
vec_has table (suc opened) n t = refl

-- levels that agree on the named types agree on all types
same_level : (table : Table) (j k : ℕ) → ((n : ℕ) → has_auth_within table j (NamedTy n) ≡ has_auth_within table k (NamedTy n))
    → (t : Ty) → has_auth_within table j t ≡ has_auth_within table k t
same_level table j k same UnitTy = sym (unit_has_none table j) ∙ unit_has_none table k
same_level table j k same BoolTy = sym (bool_has_none table j) ∙ bool_has_none table k
same_level table j k same IntTy = sym (int_has_none table j) ∙ int_has_none table k
same_level table j k same TextTy = sym (text_has_none table j) ∙ text_has_none table k
same_level table j k same (AuthTy t) = sym (auth_has_one table j t) ∙ auth_has_one table k t
same_level table j k same (PairTy a b) =
    sym (pair_has table j a b) ∙ ap₂ (λ x y. x || y) (same_level table j k same a) (same_level table j k same b) ∙ pair_has table k a b
same_level table j k same (NamedTy n) = same n
same_level table j k same (VecTy n t) = sym (vec_has table j n t) ∙ same_level table j k same t ∙ vec_has table k n t

-- tests that agree find the same
some_same : {A : Type 0} (p q : A → Bool) → ((x : A) → p x ≡ q x) → (xs : List A) → some_passes p xs ≡ some_passes q xs
some_same p q same [] = refl
some_same p q same (x ∷ xs) = ap₂ (λ a b. a || b) (same x) (some_same p q same xs)

next_same : (table : Table) (j k : ℕ) → ((n : ℕ) → has_auth_within table j (NamedTy n) ≡ has_auth_within table k (NamedTy n))
    → (n : ℕ) → has_auth_within table (suc j) (NamedTy n) ≡ has_auth_within table (suc k) (NamedTy n)
next_same table j k same n =
    some_same (some_passes (has_auth_within table j)) (some_passes (has_auth_within table k))
    (some_same (has_auth_within table j) (has_auth_within table k) (same_level table j k same)) (unwrap_or (slice_get table n) [])

-- a level that is like the next one is like all that follow
later_same : (table : Table) (k : ℕ) → ((n : ℕ) → has_auth_within table k (NamedTy n) ≡ has_auth_within table (suc k) (NamedTy n))
    → (more : ℕ) (n : ℕ) → has_auth_within table k (NamedTy n) ≡ has_auth_within table (more + k) (NamedTy n)
later_same table k same zero n = ap (λ m. has_auth_within table m (NamedTy n)) (let e : k ≡ 0 + k = omega arith in e)
later_same table k same (suc more) n =
    same n ∙ next_same table k (more + k) (later_same table k same more) n
    ∙ ap (λ m. has_auth_within table m (NamedTy n)) (let e : suc (more + k) ≡ suc more + k = omega arith in e)

pub last_level : (table : Table) (k last : ℕ) (marks next : List Bool) → AreOpenedMarks table k marks → AreOpenedMarks table (k + 1) next → next ≡ marks
    → k < last → AreOpenedMarks table last marks
last_level table k last marks next now after same h n =
    let step : k + 1 ≡ suc k = omega arith in
    let e : (last - k) + k ≡ last = omega (arith, h) in
    now n ∙ later_same table k (λ n. sym (now n) ∙ ap (λ l. slice_index_or l n false) (sym same) ∙ after n ∙ ap (λ m. has_auth_within table m (NamedTy n)) step) (last - k) n
    ∙ ap (λ m. has_auth_within table m (NamedTy n)) e

-- the mark of a form is that of its type
pub form_mark : (types : List Ty) (form : TyForm) (count : ℕ) (marks opened_marks : List Bool) → stands_behind count form ≡ true → AreLevelMarks types opened_marks count marks
    → (table : Table) (opened : ℕ) → AreOpenedMarks table opened opened_marks → mark_of_form marks opened_marks form ≡ has_auth_within table opened (type_of_form types form)
form_mark types UnitForm count marks opened_marks s right table opened named = unit_has_none table opened
form_mark types BoolForm count marks opened_marks s right table opened named = bool_has_none table opened
form_mark types IntForm count marks opened_marks s right table opened named = int_has_none table opened
form_mark types TextForm count marks opened_marks s right table opened named = text_has_none table opened
form_mark types (AuthForm part) count marks opened_marks s right table opened named = auth_has_one table opened (type_at types part)
form_mark types (PairForm first second) count marks opened_marks s right table opened named =
    ap₂ (λ a b. a || b) (right table opened named first.0 (ltb-true first.0 count (first_of _ _ s)))
    (right table opened named second.0 (ltb-true second.0 count (second_of (nat_lt first.0 count) _ s)))
    ∙ pair_has table opened (type_at types first) (type_at types second)
form_mark types (VecForm n part) count marks opened_marks s right table opened named =
    right table opened named part.0 (ltb-true part.0 count (first_of _ _ s)) ∙ vec_has table opened n (type_at types part)
form_mark types (NamedForm n) count marks opened_marks s right table opened named = named n.0

-- the marks of all types, those that aren't in the table included
pub all_marks : (types : List Ty) (marks opened_marks : List Bool) → length marks ≡ length types → AreLevelMarks types opened_marks (length types) marks
    → (table : Table) (opened : ℕ) → AreOpenedMarks table opened opened_marks → (i : ℕ) → slice_index_or marks i false ≡ has_auth_within table opened (slice_index_or types i UnitTy)
all_marks types marks opened_marks same right table opened named i = by (nat_lt i (length types)) refl
  where
    by : (b : Bool) → nat_lt i (length types) ≡ b → slice_index_or marks i false ≡ has_auth_within table opened (slice_index_or types i UnitTy)
    by true e = right table opened named i (ltb-true i (length types) e)
    by false e =
        let past : length types ≤ i = ltb-false i (length types) e in
        get_or_past marks i false (omega (arith, past, same)) ∙ unit_has_none table opened ∙ ap (has_auth_within table opened) (sym (get_or_past types i UnitTy past))

-- a field is marked where an `auth` stands in its type
module _ (types : List Ty) (table : Table) (opened : ℕ) (marks : List Bool) (right : (i : ℕ) → slice_index_or marks i false ≡ has_auth_within table opened (slice_index_or types i UnitTy)) where
  fields_mark : (ids : List TyId) → list_any (is_marked_field marks) ids ≡ some_passes (has_auth_within table opened) (types_at types ids)
  fields_mark [] = refl
  fields_mark (id ∷ ids) = ap₂ (λ a b. a || b) (right id.0) (fields_mark ids)

  constructors_mark : (cs : List Constructor) → list_any (λ (c : Constructor). list_any (is_marked_field marks) c.fields.items) cs
      ≡ some_passes (some_passes (has_auth_within table opened)) (map (λ (c : Constructor). types_at types c.fields.items) cs)
  constructors_mark [] = refl
  constructors_mark (c ∷ cs) = ap₂ (λ a b. a || b) (fields_mark c.fields.items) (constructors_mark cs)

  pub next_marks : (named : List NamedType) (n : ℕ) → slice_index_or (map (is_marked_type marks) named) n false
      ≡ some_passes (some_passes (has_auth_within table opened)) (unwrap_or (slice_get (table_of types named) n) [])
  next_marks [] n = refl
  next_marks (d ∷ ds) zero = constructors_mark d.constructors.items
  next_marks (d ∷ ds) (suc n) = next_marks ds n

-- the marks of the named types on the next level
pub next_opened : (types : List Ty) (named : List NamedType) (opened : ℕ) (opened_marks marks next : List Bool) → AreOpenedMarks (table_of types named) opened opened_marks
    → length marks ≡ length types → AreLevelMarks types opened_marks (length types) marks → next ≡ map (is_marked_type marks) named → AreOpenedMarks (table_of types named) (opened + 1) next
next_opened types named opened opened_marks marks next now same right is n =
    let e : suc opened ≡ opened + 1 = omega arith in
    ap (λ l. slice_index_or l n false) is ∙ next_marks types (table_of types named) opened marks
    (all_marks types marks opened_marks same right (table_of types named) opened now) named n
    ∙ ap (λ m. has_auth_within (table_of types named) m (NamedTy n)) e

-- at the last level the marks say where an `auth` stands
pub are_auth_marks : (types : List Ty) (named : List NamedType) (opened_marks marks : List Bool) → AreOpenedMarks (table_of types named) (length named) opened_marks
    → length marks ≡ length types → AreLevelMarks types opened_marks (length types) marks → AreAuthMarks types named marks
are_auth_marks types named opened_marks marks now same right i =
    all_marks types marks opened_marks same right (table_of types named) (length named) now i
    ∙ ap (λ m. has_auth_within (table_of types named) m (slice_index_or types i UnitTy)) (sym (length-map named _))

-- one more type has its mark
pub one_more : (types : List Ty) (opened_marks marks : List Bool) (form : TyForm) (count : ℕ) → length marks ≡ count → AreLevelMarks types opened_marks count marks
    → stands_behind count form ≡ true → type_of_form types form ≡ slice_index_or types count UnitTy
    → AreLevelMarks types opened_marks (count + 1) (marks ++ mark_of_form marks opened_marks form ∷ [])
one_more types opened_marks marks form count same right s is table opened named i h = by (nat_lt i count) refl
  where
    by : (b : Bool) → nat_lt i count ≡ b → slice_index_or (marks ++ mark_of_form marks opened_marks form ∷ []) i false ≡ has_auth_within table opened (slice_index_or types i UnitTy)
    by true e =
        let before : i < count = ltb-true i count e in
        get_or-append marks (mark_of_form marks opened_marks form ∷ []) false i (omega (arith, before, same)) ∙ right table opened named i before
    by false e =
        let here : i ≡ length marks = omega (arith, h, same, ltb-false i count e) in
        ap (λ i. slice_index_or (marks ++ mark_of_form marks opened_marks form ∷ []) i false) here ∙ get_or-append_seam marks (mark_of_form marks opened_marks form) [] false
        ∙ form_mark types form count marks opened_marks s right table opened named ∙ ap (has_auth_within table opened) (is ∙ ap (λ i. slice_index_or types i UnitTy) (sym same ∙ sym here))

-- at first no named type has a mark
pub first_marks : (table : Table) (count : ℕ) → AreOpenedMarks table 0 (replicate count false)
first_marks table count n = by (nat_lt n count) refl
  where
    by : (b : Bool) → nat_lt n count ≡ b → slice_index_or (replicate count false) n false ≡ has_auth_within table 0 (NamedTy n)
    by true e = get_or-replicate count n false false (ltb-true n count e)
    by false e = get_or_past (replicate count false) n false (rw length-replicate (ltb-false n count e))

-- two lists of marks that are tested equal are
pub same_marks : (xs ys : List Bool) → true ≡ pointwise beq xs ys → xs ≡ ys
same_marks xs ys e = (slice_eq-Decides booleans_Decides xs ys true e).0 refl
