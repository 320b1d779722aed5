-- What is written of a program is accepted.
use Rattle.std.proofs.Common.{◌≡◌, ◌≤◌, ℕ, suc, Bool, true, false, ◌&&◌, not, List, [], ◌∷◌, ◌++◌, length, length-append, map, nat_le, Option, Some, None, refl, sym, ap, ap₂, ◌∙◌, subst, arith, leb-true, if◌then◌else◌}
use Rattle.std.specs.Int.{w16, to_be_bytes}
use Rattle.std.proofs.lemmas.List.{length-map}
use Rattle.core_terms.specs.Types.{Ty, PairTy, same_type}
use Rattle.core_terms.specs.Typing.{all_shaped}
use Rattle.core_terms.specs.RoleShapes.{shape_test}
use Rattle.core_terms.specs.Roles.{is_entered, has_auth}
use Rattle.core_terms.specs.Terms.{Kind, Inner, Init, Query, Update, Function, Program}
use Rattle.core_terms.specs.Instructions as code
use Rattle.core_terms.specs.Bodies.{FunctionCode}
use Rattle.core_terms.specs.GeneratedCode.{function_code, written_body}
use Rattle.object_meaning.specs.Objects.{Instruction, PushUnit, PushBool, PushInt, PushText, Load, Bind, Unbind, Pair, Fst, Snd, Make, Switch, Branch, Jump, Call, Return, Auth, Unauth, ArithOp, CompareOp, TextCompareOp, Cat, Len, Not, Object, ListedType, ListedFunction, most_listed_types, most_object_bytes}
use Rattle.object_meaning.specs.ObjectBytes.{object_magic, bytes_of_all, word, words, name_bytes, type_bytes, instruction_bytes, function_bytes, object_bytes}
use Rattle.object_meaning.specs.WellFormedObjects.{AllBelow, HasRoleName, AreFunctions, AreTypes, AreInstructions, IsObject}
use Rattle.object_meaning.specs.WrittenObjects.{number_in, type_written, code_written, function_written, types_written, object_of}
use Rattle.object_meaning.specs.ObjectBodies.{listed_at, trees_of, named_tables, declared_in, program_in}
use Rattle.object_meaning.specs.ClosedPrograms.{CodeIsClosed, FunctionsAreClosed}
use Rattle.object_meaning.specs.EmittablePrograms.{HasNewName, AreEmittable, IsEmittable}
use Rattle.core_terms.specs.Kinds.{at_start, fault_in, function_fault, fault_at, kind_fault_from, kind_fault}
use Rattle.object_meaning.proofs.There.{AreThere, AllThere}
use Rattle.object_meaning.proofs.WrittenThere.{written_there}
use Rattle.object_meaning.specs.Accepting.{Accepts, accepting, read_judged, shapes_judged, kinds_judged, shape_fault_from, shape_fault}
use Rattle.object_meaning.specs.ObjectLaws.{ProgramsAreAccepted}
use Rattle.object_meaning.specs.ReadObjects.{role_names}
use Rattle.object_meaning.proofs.RoleNames.{role_names_more}
use Rattle.object_meaning.proofs.KindsOfPrograms.{no_kind_fault}
use Rattle.core_terms.proofs.KindsSound.{length_unreached}
use Rattle.object_meaning.proofs.ListedTypes.{some_none, none_some, some_is, CodeIn, FunctionsIn, number_found}
use Rattle.object_meaning.proofs.ObjectCode.{IsListed, program_listed, numbers_back, trees_back, table_back, objects_are_code}
use Rattle.object_meaning.proofs.ObjectsBack.{object_back}
use Rattle.object_meaning.proofs.WrittenWell.{true_left, true_right, below, all_below, are_types}
use Rattle.object_meaning.proofs.WrittenCode.{code_is}

-- code is no longer than its bytes, and so than the object's
instruction_long : (x : Instruction) → 1 ≤ length (instruction_bytes x)
instruction_long PushUnit = omega arith
instruction_long (PushBool b) = omega arith
instruction_long (PushInt z) = omega arith
instruction_long (PushText bytes) = omega arith
instruction_long (Load i) = omega arith
instruction_long Bind = omega arith
instruction_long (Unbind n) = omega arith
instruction_long Pair = omega arith
instruction_long Fst = omega arith
instruction_long Snd = omega arith
instruction_long (Make ty tag) = omega arith
instruction_long (Switch ty targets) = omega arith
instruction_long (Branch t) = omega arith
instruction_long (Jump t) = omega arith
instruction_long (Call f) = omega arith
instruction_long Return = omega arith
instruction_long (Auth ty) = omega arith
instruction_long (Unauth ty) = omega arith
instruction_long (ArithOp op) = omega arith
instruction_long (CompareOp op) = omega arith
instruction_long (TextCompareOp op) = omega arith
instruction_long Cat = omega arith
instruction_long Len = omega arith
instruction_long Not = omega arith

code_short : (xs : List Instruction) → length xs ≤ length (bytes_of_all instruction_bytes xs)
code_short [] = omega arith
code_short (x ∷ xs) = let one = instruction_long x in let go = code_short xs in omega (arith, one, go, length-append (instruction_bytes x) (bytes_of_all instruction_bytes xs))

function_short : (f : ListedFunction) → length f.code ≤ length (function_bytes f)
function_short f =
    let e = bytes_of_all instruction_bytes f.code in
    let d = word (length f.code) ++ e in
    let c = word f.result ++ d in
    let b = length f.parameters ∷ (words f.parameters ++ c) in
    let go = code_short f.code in
    omega (arith, go, length-append (word (length f.code)) e, length-append (word f.result) d, length-append (words f.parameters) c, length-append (name_bytes f.name) b)

functions_short : (o : Object) → length (bytes_of_all function_bytes o.functions) ≤ length (object_bytes o)
functions_short o =
    let d = bytes_of_all function_bytes o.functions in
    let c = to_be_bytes w16 (length o.functions) ++ d in
    let b = word o.state ++ c in
    let a = bytes_of_all type_bytes o.types ++ b in
    omega (
      arith,
      length-append (to_be_bytes w16 (length o.functions)) d,
      length-append (word o.state) c,
      length-append (bytes_of_all type_bytes o.types) b,
      length-append (word (length o.types)) a,
      length-append object_magic (word (length o.types) ++ a),
    )

length_code : (types : List Ty) (i : ℕ) (xs : List code.Instruction) → length (code_written types i xs) ≡ length xs
length_code types i [] = refl
length_code types i (x ∷ xs) = ap suc (length_code types (suc i) xs)

module _ (P : Program) (names : List (List (List ℕ))) (emittable : IsEmittable P names) (listed : IsListed P) where
  abbrev types : List Ty
  types = types_written P

  abbrev lt : List ListedType
  lt = map (type_written types P.types names) types

  abbrev fs : List ListedFunction
  fs = map (function_written types P.types) P.functions

  abbrev write : Function → ListedFunction
  write f = function_written types P.types f

  long : length lt ≡ length types
  long = length-map types (type_written types P.types names)

  role_name : (k : Kind) (before : List ListedFunction) (name : List ℕ) → HasNewName k (role_names before) name → HasRoleName k before (if is_entered k then name else [])
  role_name Inner before name h = refl
  role_name Init before name h = h
  role_name Query before name h = h
  role_name Update before name h = h

  taken_is : (k : Kind) (name : List ℕ) → (if is_entered k then (if is_entered k then name else []) ∷ [] else []) ≡ (if is_entered k then name ∷ [] else [])
  taken_is Inner name = refl
  taken_is Init name = refl
  taken_is Query name = refl
  taken_is Update name = refl

  coded : (z : Ty) (g : FunctionCode) (xs : List code.Instruction) → AreThere (written_body P) xs → CodeIn P.types types xs → CodeIsClosed (length P.types) xs
      → fault_in (written_body P) g xs ≡ None → (1 ≤ length (code_written types 0 xs)) × AreInstructions lt (length fs) 0 (length (code_written types 0 xs)) (code_written types 0 xs)
  coded z g [] t a c e = absurd (some_none e)
  coded z g (x ∷ xs) t a c e = (
    omega arith,
    code_is P names (length fs) g.result (sym (length-map P.functions write)) listed.listing emittable.named (x ∷ xs) 0 (length (code_written types 0 (x ∷ xs)))
        (at_start g xs) (ap suc (length_unreached (written_body P) xs)) (omega (arith, length_code types 0 (x ∷ xs))) t a c e,
  )

  are_functions : (before : List ListedFunction) (f : ℕ) (gs : List Function) → AllThere (written_body P) (map (function_code P.types) gs) → FunctionsIn P.types types (map (function_code P.types) gs)
      → FunctionsAreClosed (length P.types) (map (function_code P.types) gs) → AreEmittable (role_names before) gs → length (bytes_of_all function_bytes (map write gs)) ≤ most_object_bytes
      → kind_fault_from (written_body P) f (map (function_code P.types) gs) ≡ None → AreFunctions lt (length fs) before (map write gs)
  are_functions before f [] t a c h fit e = tt
  are_functions before f (g ∷ gs) t a c h fit e =
      by (function_fault (written_body P) (function_code P.types g)) refl e
      (are_functions (before ++ write g ∷ []) (suc f) gs t.1 a.1 c.1
      (subst (λ l. AreEmittable l gs) (sym (role_names_more before (write g) ∙ ap (λ l. role_names before ++ l) (taken_is g.kind g.name))) h.1)
      (omega (arith, fit, length-append (function_bytes (write g)) (bytes_of_all function_bytes (map write gs)))))
    where
      by : (o : Option ℕ) → function_fault (written_body P) (function_code P.types g) ≡ o → fault_at o f (kind_fault_from (written_body P) (suc f) (map (function_code P.types) gs)) ≡ None
          → (kind_fault_from (written_body P) (suc f) (map (function_code P.types) gs) ≡ None → AreFunctions lt (length fs) (before ++ write g ∷ []) (map write gs)) → AreFunctions lt (length fs) before (map write (g ∷ gs))
      by (Some p) r e go = absurd (some_none e)
      by None r e go =
          let xs = (function_code P.types g).code in
          let w = coded g.result (function_code P.types g) xs t.0 a.0.code c.0.code r in
          let short = function_short (write g) in
          let count = length-map g.parameters (number_in types) in
          let low = below P.types names types g.result a.0.result in (
            record {
              name = role_name g.kind before g.name h.0.name;
              some = omega (arith, h.0.some, count);
              few = omega (arith, h.0.few, count);
              parameters = subst (λ n. AllBelow n (map (number_in types) g.parameters)) (sym long) (all_below P.types names types g.parameters a.0.parameters);
              result = omega (arith, low, long);
              filled = w.0;
              fits = omega (arith, fit, short, length-append (function_bytes (write g)) (bytes_of_all function_bytes (map write gs)));
              code = w.1;
            },
            go e,
          )

  kinds_free : kind_fault (written_body P) ≡ None
  kinds_free = no_kind_fault P emittable.typed emittable.written

  is_object : length types ≤ most_listed_types → length (object_bytes (object_of P names)) ≤ most_object_bytes → IsObject (object_of P names)
  is_object few fit =
      let short = functions_short (object_of P names) in
      let low = below P.types names types P.state listed.state in
      record {
        few_types = omega (arith, few, long);
        types = subst (λ n. AreTypes n [] lt) (sym long) (are_types P.types names types listed.listing listed.fields emittable.named emittable.few_types);
        state = omega (arith, low, long);
        few_functions = omega (arith, emittable.few_functions, length-map P.functions write);
        functions = are_functions [] 0 P.functions (written_there P emittable.typed) listed.functions emittable.closed.functions emittable.functions (omega (arith, short, fit)) kinds_free;
      }

  -- SHAPES
  same_test : (D : Program) (k : Kind) (ps : List Ty) (r : Ty) → D.types ≡ P.types → D.state ≡ P.state → shape_test D k ps r ≡ shape_test P k ps r
  same_test D Inner ps r e f = refl
  same_test D Init [] r e f = refl
  same_test D Init (a ∷ []) r e f = ap₂ (λ t s. same_type s r && not (has_auth t a)) e f
  same_test D Init (a ∷ (b ∷ ps)) r e f = refl
  same_test D Query [] r e f = refl
  same_test D Query (a ∷ []) r e f = refl
  same_test D Query (a ∷ (b ∷ [])) r e f = ap₂ (λ t s. same_type s a && not (has_auth t b)) e f
  same_test D Query (a ∷ (b ∷ (c ∷ ps))) r e f = refl
  same_test D Update [] r e f = refl
  same_test D Update (a ∷ []) r e f = refl
  same_test D Update (a ∷ (b ∷ [])) (PairTy n m) e f = ap₂ (λ t s. same_type s a && (same_type s n && not (has_auth t b))) e f
  same_test D Update (a ∷ (b ∷ [])) r e f = refl
  same_test D Update (a ∷ (b ∷ (c ∷ ps))) r e f = refl

  no_shape_fault : (D : Program) (f : ℕ) (gs : List Function) → D.types ≡ P.types → D.state ≡ P.state → FunctionsIn P.types types (map (function_code P.types) gs) → all_shaped P gs ≡ true
      → shape_fault_from D f (map (declared_in types) (map write gs)) ≡ None
  no_shape_fault D f [] e s a h = refl
  no_shape_fault D f (g ∷ gs) e s a h =
      let later = shape_fault_from D (suc f) (map (declared_in types) (map write gs)) in
      ap (λ b. if b then later else Some f)
      (ap₂ (λ ps r. shape_test D g.kind ps r) (numbers_back P.types names types g.parameters a.0.parameters) (number_found types g.result a.0.result)
      ∙ same_test D g.kind g.parameters g.result e s
      ∙ true_left _ _ h)
      ∙ no_shape_fault D (suc f) gs e s a.1 (true_right (shape_test P g.kind g.parameters g.result) _ h)

  shapes_free : shape_fault (program_in (object_of P names)) ≡ None
  shapes_free =
      let trees : trees_of lt ≡ types = trees_back P.types names types listed.listing in
      let D = program_in (object_of P names) in
      ap (λ ts. shape_fault_from D 0 (map (declared_in ts) fs)) trees
      ∙ no_shape_fault D 0 P.functions (ap (λ ts. named_tables ts lt) trees ∙ table_back P.types names types listed.listing listed.fields)
      (ap (λ ts. listed_at ts (number_in types P.state)) trees ∙ number_found types P.state listed.state) listed.functions emittable.shaped

  is_accepted : IsObject (object_of P names) → accepting (object_bytes (object_of P names)) ≡ Accepts (object_of P names)
  is_accepted h =
      let o = object_of P names in
      ap (read_judged (length (object_bytes o))) (object_back o h)
      ∙ ap (shapes_judged o) shapes_free
      ∙ ap (λ B. kinds_judged o (kind_fault B)) (objects_are_code P names emittable.limit emittable.closed)
      ∙ ap (kinds_judged o) kinds_free

pub programs_are_accepted : ProgramsAreAccepted
programs_are_accepted P names bytes emittable e =
    by (nat_le (length (object_bytes (object_of P names))) most_object_bytes) (nat_le (length (types_written P)) most_listed_types) refl refl e
  where
    by : (a b : Bool) → nat_le (length (object_bytes (object_of P names))) most_object_bytes ≡ a → nat_le (length (types_written P)) most_listed_types ≡ b
        → (if a && b then Some (object_bytes (object_of P names)) else None) ≡ Some bytes → accepting bytes ≡ Accepts (object_of P names)
    by true true fit few e =
        let listed = program_listed P emittable.closed in
        subst (λ l. accepting l ≡ Accepts (object_of P names)) (some_is e)
        (is_accepted P names emittable listed
        (is_object P names emittable listed (leb-true (length (types_written P)) most_listed_types few) (leb-true (length (object_bytes (object_of P names))) most_object_bytes fit)))
    by true false fit few e = absurd (none_some e)
    by false b fit few e = absurd (none_some e)
