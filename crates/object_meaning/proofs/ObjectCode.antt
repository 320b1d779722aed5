-- The object that is written of a program is the program's code.
use Rattle.std.proofs.Common.{◌≡◌, ◌<◌, ℕ, suc, ◌+◌, List, [], ◌∷◌, ◌++◌, length, map, Some, slice_get, slice_index_or, unwrap_or, refl, sym, ap, ap₂, ◌∙◌, subst, arith, append_assoc, append-nil}
use Rattle.std.proofs.lemmas.List.{map-append}
use Rattle.core_terms.specs.Types.{Ty, UnitTy, BoolTy, IntTy, TextTy, PairTy, NamedTy, AuthTy, VecTy, Table}
use Rattle.core_terms.specs.Terms.{Function, Program}
use Rattle.core_terms.specs.Instructions as code
use Rattle.core_terms.specs.Bodies.{Body, FunctionCode}
use Rattle.core_terms.specs.GeneratedCode.{function_code, codes_as, written_body}
use Rattle.object_meaning.specs.Objects.{ListedConstructor, ListedType}
use Rattle.object_meaning.specs.ReadObjects.{named_count}
use Rattle.object_meaning.specs.ObjectBodies.{object_format, listed_at, tree_of, trees_behind, trees_of, named_tables, number_of, passed, instruction_of, code_from, function_in, body_in}
use Rattle.object_meaning.specs.WrittenObjects.{place_of, number_in, named_from, types_named, constructors_written, type_written, target_of, instruction_written, code_written, function_written, codes_in, types_written, object_of, with_all_fields, with_type}
use Rattle.object_meaning.specs.ClosedPrograms.{IsClosedAt, CodeIsClosed, FunctionIsClosed, FunctionsAreClosed, IsClosedProgram}
use Rattle.ideal_meaning.specs.Checked.{checked, checked_mode}
use Rattle.ideal_meaning.specs.Ideal.{ideal, ideal_mode}
use Rattle.ideal_meaning.specs.Execution.{Ran, call_code_from}
use Rattle.code_meaning.proofs.ModesRight.{ideal_is_right, checked_is_right}
use Rattle.object_meaning.specs.ObjectLaws.{ObjectsDoTheSame}
use Rattle.object_meaning.proofs.ListedTypes.{In, place_found, place_in_front, number_found, HasParts, Behind, Listing, named_in, AllIn, AllFieldsIn, TableIn, table_more, all_fields_added, CodeIn, FunctionIn, FunctionsIn, functions_added, at_first, state_added, in_more}

module _ (table : Table) (names : List (List (List ℕ))) (types : List Ty) where
  abbrev written : List Ty → List ListedType
  written ts = map (type_written types table names) ts

  -- a part that stands before is found by its number
  part_found : (before rest : List Ty) (t : Ty) → types ≡ before ++ rest → In before t → listed_at before (number_in types t) ≡ t
  part_found before rest t e h =
      ap (λ o. slice_index_or before (unwrap_or o 0) UnitTy) (ap (λ l. place_of l t) e ∙ place_in_front before rest t h.0 h.1) ∙ (place_found before t h.0 h.1).0

  -- the named types
  named_trees : (before : List Ty) (n : ℕ) (ts : Table) (rest : List ListedType) → trees_behind before n (written (named_from n ts) ++ rest) ≡ trees_behind (before ++ named_from n ts) (n + length ts) rest
  named_trees before n [] rest = ap₂ (λ l n. trees_behind l n rest) (sym (append-nil before)) (omega arith)
  named_trees before n (cs ∷ ts) rest =
      ap (λ m. trees_behind (before ++ NamedTy n ∷ []) m (written (named_from (suc n) ts) ++ rest)) (omega arith)
      ∙ named_trees (before ++ NamedTy n ∷ []) (suc n) ts rest
      ∙ ap₂ (λ l n. trees_behind l n rest) (append_assoc before (NamedTy n ∷ []) (named_from (suc n) ts)) (omega arith)

  -- a type that isn't a named one, whose parts stand before it
  tree_back : (before rest : List Ty) (n : ℕ) (t : Ty) → types ≡ before ++ rest → HasParts before t
      → (tree_of before n (type_written types table names t) ≡ t) × (named_count (type_written types table names t ∷ []) ≡ 0)
  tree_back before rest n UnitTy e h = (refl, refl)
  tree_back before rest n BoolTy e h = (refl, refl)
  tree_back before rest n IntTy e h = (refl, refl)
  tree_back before rest n TextTy e h = (refl, refl)
  tree_back before rest n (PairTy a b) e h = (ap₂ PairTy (part_found before rest a e h.0) (part_found before rest b e h.1), refl)
  tree_back before rest n (NamedTy m) e h = elim h [ ]
  tree_back before rest n (VecTy m t) e h = elim h [ ]
  tree_back before rest n (AuthTy t) e h = (ap AuthTy (part_found before rest t e h), refl)

  other_trees : (before more : List Ty) (n : ℕ) → types ≡ before ++ more → Behind before more → trees_behind before n (written more) ≡ before ++ more
  other_trees before [] n e h = sym (append-nil before)
  other_trees before (t ∷ more) n e h =
      let b = tree_back before (t ∷ more) n t e h.1 in
      let z : n + 0 ≡ n = omega arith in
      ap₂ (λ u m. trees_behind (before ++ u ∷ []) (n + m) (written more)) b.0 b.1
      ∙ ap (λ m. trees_behind (before ++ t ∷ []) m (written more)) z
      ∙ other_trees (before ++ t ∷ []) more n (e ∙ sym (append_assoc before (t ∷ []) more)) h.2
      ∙ append_assoc before (t ∷ []) more

  pub trees_back : Listing table types → trees_of (written types) ≡ types
  trees_back h =
      let named = named_from 0 table in
      ap (λ l. trees_of (written l)) h.is
      ∙ ap (trees_behind [] 0) (map-append (type_written types table names) named h.more)
      ∙ named_trees [] 0 table (written h.more)
      ∙ other_trees named h.more (0 + length table) h.is h.behind
      ∙ sym h.is

  -- the fields of the named types
  pub numbers_back : (ts : List Ty) → AllIn table types ts → map (listed_at types) (map (number_in types) ts) ≡ ts
  numbers_back [] h = refl
  numbers_back (t ∷ ts) h = ap₂ (λ u us. u ∷ us) (number_found types t h.0) (numbers_back ts h.1)

  abbrev fields_of : ListedConstructor → List Ty
  fields_of c = map (listed_at types) c.fields

  constructors_back : (cs : List (List Ty)) (names : List (List ℕ)) → AllFieldsIn table types cs → map fields_of (constructors_written types cs names) ≡ cs
  constructors_back [] names h = refl
  constructors_back (ts ∷ cs) [] h = ap₂ (λ u us. u ∷ us) (numbers_back ts h.0) (constructors_back cs [] h.1)
  constructors_back (ts ∷ cs) (name ∷ names) h = ap₂ (λ u us. u ∷ us) (numbers_back ts h.0) (constructors_back cs names h.1)

  named_back : (n : ℕ) (ts : Table) (rest : List ListedType) → TableIn table types ts → ((m : ℕ) → slice_get table (n + m) ≡ slice_get ts m)
      → named_tables types (written (named_from n ts) ++ rest) ≡ ts ++ named_tables types rest
  named_back n [] rest h at = refl
  named_back n (cs ∷ ts) rest h at =
      let z : n ≡ n + 0 = omega arith in
      let here : unwrap_or (slice_get table n) [] ≡ cs = ap (λ o. unwrap_or o []) (ap (slice_get table) z ∙ at 0) in
      ap₂ (λ u us. u ∷ us)
      (ap (λ c. map fields_of (constructors_written types c (unwrap_or (slice_get names n) []))) here ∙ constructors_back cs (unwrap_or (slice_get names n) []) h.0)
      (named_back (suc n) ts rest h.1 (λ m. let e : suc n + m ≡ n + suc m = omega arith in ap (slice_get table) e ∙ at (suc m)))

  none_named : (before more : List Ty) → Behind before more → named_tables types (written more) ≡ []
  none_named before [] h = refl
  none_named before (UnitTy ∷ more) h = none_named (before ++ UnitTy ∷ []) more h.2
  none_named before (BoolTy ∷ more) h = none_named (before ++ BoolTy ∷ []) more h.2
  none_named before (IntTy ∷ more) h = none_named (before ++ IntTy ∷ []) more h.2
  none_named before (TextTy ∷ more) h = none_named (before ++ TextTy ∷ []) more h.2
  none_named before (PairTy a b ∷ more) h = none_named (before ++ PairTy a b ∷ []) more h.2
  none_named before (NamedTy n ∷ more) h = elim h.1 [ ]
  none_named before (VecTy n t ∷ more) h = elim h.1 [ ]
  none_named before (AuthTy t ∷ more) h = none_named (before ++ AuthTy t ∷ []) more h.2

  pub table_back : Listing table types → TableIn table types table → named_tables types (written types) ≡ table
  table_back h t =
      let named = named_from 0 table in
      ap (λ l. named_tables types (written l)) h.is
      ∙ ap (named_tables types) (map-append (type_written types table names) named h.more)
      ∙ named_back 0 table (written h.more) t (λ m. let e : 0 + m ≡ m = omega arith in ap (slice_get table) e)
      ∙ ap (λ l. table ++ l) (none_named named h.more h.behind)
      ∙ append-nil table

  -- CODE
  target_back : (i n : ℕ) → passed i (target_of i n) ≡ n
  target_back i n = omega arith

  targets_back : (i : ℕ) (places : List ℕ) → map (passed i) (map (target_of i) places) ≡ places
  targets_back i [] = refl
  targets_back i (n ∷ places) = ap₂ (λ m ms. m ∷ ms) (target_back i n) (targets_back i places)

  pub named_there : Listing table types → (n : ℕ) → n < length table → (listed_at types n ≡ NamedTy n) × (n < length types)
  named_there h n c =
      let z : 0 + n ≡ n = omega arith in
      let named = named_from 0 table in
      let first : place_of named (NamedTy n) ≡ Some n = ap (λ m. place_of named (NamedTy m)) (sym z) ∙ named_in table 0 n table c in
      place_found types (NamedTy n) n (ap (λ l. place_of l (NamedTy n)) h.is ∙ place_in_front named h.more (NamedTy n) n first)

  named_at : Listing table types → (n : ℕ) → n < length table → listed_at types n ≡ NamedTy n
  named_at h n c = (named_there h n c).0

  instruction_back : Listing table types → (i : ℕ) (x : code.Instruction) → AllIn table types (types_named x) → IsClosedAt (length table) x → instruction_of types i (instruction_written types i x) ≡ x
  instruction_back h i code.PushUnit a c = refl
  instruction_back h i (code.PushBool b) a c = refl
  instruction_back h i (code.PushInt z) a c = refl
  instruction_back h i (code.PushText bytes) a c = refl
  instruction_back h i (code.Load n) a c = refl
  instruction_back h i code.Bind a c = refl
  instruction_back h i (code.Unbind n) a c = refl
  instruction_back h i code.Pair a c = refl
  instruction_back h i code.Fst a c = refl
  instruction_back h i code.Snd a c = refl
  instruction_back h i (code.Make number tag) a c = ap (λ t. code.Make (number_of t) tag) (named_at h number c)
  instruction_back h i (code.Switch number places) a c = ap₂ (λ t ps. code.Switch (number_of t) ps) (named_at h number c) (targets_back i places)
  instruction_back h i (code.Branch n) a c = ap code.Branch (target_back i n)
  instruction_back h i (code.Jump n) a c = ap code.Jump (target_back i n)
  instruction_back h i (code.Call f) a c = refl
  instruction_back h i code.Return a c = refl
  instruction_back h i (code.Auth t) a c = ap code.Auth (number_found types t a.0)
  instruction_back h i (code.Unauth t) a c = ap code.Unauth (number_found types t a.0)
  instruction_back h i (code.ArithOp op) a c = refl
  instruction_back h i (code.CompareOp op) a c = refl
  instruction_back h i (code.TextCompareOp op) a c = refl
  instruction_back h i code.Cat a c = refl
  instruction_back h i code.Len a c = refl
  instruction_back h i code.Not a c = refl
  instruction_back h i (code.VecFill n) a c = elim c [ ]
  instruction_back h i code.VecGet a c = elim c [ ]
  instruction_back h i code.VecPut a c = elim c [ ]

  pub code_back : Listing table types → (i : ℕ) (xs : List code.Instruction) → CodeIn table types xs → CodeIsClosed (length table) xs → code_from types i (code_written types i xs) ≡ xs
  code_back h i [] a c = refl
  code_back h i (x ∷ xs) a c = ap₂ (λ y ys. y ∷ ys) (instruction_back h i x a.0 c.0) (code_back h (suc i) xs a.1 c.1)

  function_back : Listing table types → (f : Function) → FunctionIn table types (function_code table f) → FunctionIsClosed (length table) (function_code table f)
      → function_in types (function_written types table f) ≡ function_code table f
  function_back h f a c =
      let build : List Ty → Ty → List code.Instruction → FunctionCode = λ ps r xs. record { parameters = ps; result = r; code = xs } in
      let xs = (function_code table f).code in
      ap (λ ps. build ps (listed_at types (number_in types f.result)) (code_from types 0 (code_written types 0 xs))) (numbers_back f.parameters a.parameters)
      ∙ ap (λ r. build f.parameters r (code_from types 0 (code_written types 0 xs))) (number_found types f.result a.result)
      ∙ ap (build f.parameters f.result) (code_back h 0 xs a.code c.code)

  functions_back : Listing table types → (fs : List Function) → FunctionsIn table types (map (function_code table) fs) → FunctionsAreClosed (length table) (map (function_code table) fs)
      → map (function_in types) (map (function_written types table) fs) ≡ map (function_code table) fs
  functions_back h [] a c = refl
  functions_back h (f ∷ fs) a c = ap₂ (λ y ys. y ∷ ys) (function_back h f a.0 c.0) (functions_back h fs a.1 c.1)

-- what is listed of a program
pub record IsListed (P : Program) : Type 0 where
  pub listing : Listing P.types (types_written P)
  pub fields : TableIn P.types (types_written P) P.types
  pub state : In (types_written P) P.state
  pub functions : FunctionsIn P.types (types_written P) (codes_in P)

pub program_listed : (P : Program) → IsClosedProgram P → IsListed P
program_listed P c =
    let first = with_all_fields (named_from 0 P.types) P.types in
    let second = with_type first P.state in
    let A = all_fields_added P.types (named_from 0 P.types) P.types (at_first P.types) c.fields in
    let B = state_added P.types first P.state A.listing c.state in
    let C = functions_added P.types second (codes_in P) B.listing c.functions in
    record {
      listing = C.listing;
      fields = table_more P.types second (types_written P) P.types C.grows (table_more P.types first second P.types B.grows A.asked);
      state = in_more P.types second (types_written P) P.state C.grows B.asked;
      functions = C.asked;
    }

pub objects_are_code : (P : Program) (names : List (List (List ℕ))) → P.format.limit ≡ object_format.limit → IsClosedProgram P → body_in (object_of P names) ≡ written_body P
objects_are_code P names e c =
    let h = program_listed P c in
    let types = types_written P in
    let build : ℕ → List Ty → Body = λ limit trees. record {
      limit = limit;
      types = named_tables trees (map (type_written types P.types names) types);
      functions = map (function_in trees) (map (function_written types P.types) P.functions);
    } in
    ap (build object_format.limit) (trees_back P.types names types h.listing)
    ∙ ap (λ limit. build limit types) (sym e)
    ∙ ap₂ (λ t fs. record { limit = P.format.limit; types = t; functions = fs }) (table_back P.types names types h.listing h.fields) (functions_back P.types names types h.listing P.functions h.functions c.functions)

pub objects_do_the_same : ObjectsDoTheSame
objects_do_the_same P names e c none typed f args k =
    let same = ap (λ o. record { limit = P.format.limit; types = P.types; functions = codes_as P o }) none ∙ sym (objects_are_code P names e c) in (
      λ h. subst (λ B. call_code_from B ideal_mode f args k [] ≡ Ran (ideal P f args k)) same (ideal_is_right P typed f args k h),
      λ hash w h. subst (λ B. call_code_from B (checked_mode hash P) f args k w ≡ Ran (checked hash P f args k w)) same (checked_is_right hash P typed f args k w h),
    )
