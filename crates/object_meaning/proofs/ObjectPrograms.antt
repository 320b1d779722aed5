-- An object is a compiled program: that of a program is the program itself, and an accepted one is as the laws ask for.
use Rattle.std.proofs.Common.{◌≡◌, ℕ, suc, Bool, true, false, ◌&&◌, List, [], ◌∷◌, length, map, Some, None, refl, sym, ap, ap₂, ◌∙◌, eq-eqb, arith, if◌then◌else◌}
use Rattle.std.proofs.lemmas.List.{length-map}
use Rattle.core_terms.specs.Types.{Ty, Table}
use Rattle.core_terms.specs.Formats.{Format}
use Rattle.core_terms.specs.Instructions as code
use Rattle.core_terms.specs.Bodies.{Body, FunctionCode}
use Rattle.core_terms.specs.Kinds.{kinds_test}
use Rattle.core_terms.specs.Terms.{Kind, Inner, Init, Query, Update, Function, Program, coded, body_of}
use Rattle.core_terms.specs.Roles.{is_entered}
use Rattle.core_terms.specs.Typing.{is_typed, all_shaped}
use Rattle.core_terms.specs.RoleShapes.{shape_test}
use Rattle.core_terms.proofs.TypingComplete.{both}
use Rattle.core_terms.proofs.TypingSound.{typed_sound}
use Rattle.core_terms.proofs.LawProofs.{first_format_is_format}
use Rattle.ideal_meaning.specs.Called.{ran}
use Rattle.ideal_meaning.specs.Checked.{checked_mode}
use Rattle.ideal_meaning.specs.Ideal.{ideal_mode}
use Rattle.ideal_meaning.specs.Execution.{call_code_from}
use Rattle.core_terms.specs.GeneratedCode.{function_code}
use Rattle.object_meaning.specs.Objects.{ListedType, ListedFunction, Object}
use Rattle.object_meaning.specs.Accepting.{shape_fault_from}
use Rattle.object_meaning.specs.ClosedPrograms.{FunctionsAreClosed}
use Rattle.object_meaning.specs.ObjectBodies.{object_format, listed_at, trees_of, named_tables, function_in, name_declared, declared_in, code_in, body_in, program_in}
use Rattle.object_meaning.specs.ObjectLaws.{declared, ObjectsAreBodies, ObjectsArePrograms, ObjectsMeanTheSame, ObjectsAreSound}
use Rattle.object_meaning.specs.ReadObjects.{object_read}
use Rattle.object_meaning.specs.WrittenObjects.{number_in, type_written, function_written, types_written, object_of}
use Rattle.object_meaning.proofs.ListedTypes.{Listing, FunctionsIn, number_found}
use Rattle.object_meaning.proofs.ObjectCode.{program_listed, numbers_back, trees_back, table_back, code_back, objects_do_the_same}
use Rattle.object_meaning.proofs.ReadThere.{judged, objects_pass}

coded_is : (trees : List Ty) (fs : List ListedFunction) → coded (map (declared_in trees) fs) (map (code_in trees) fs) ≡ map (function_in trees) fs
coded_is trees [] = refl
coded_is trees (f ∷ fs) = ap (λ l. function_in trees f ∷ l) (coded_is trees fs)

-- the program's code, as the program says it
abbrev codes : Object → List (List code.Instruction)
codes o = map (code_in (trees_of o.types)) o.functions

body_is : (o : Object) → body_of (program_in o) (codes o) ≡ body_in o
body_is o =
    let build : List FunctionCode → Body = λ fs. record { limit = object_format.limit; types = named_tables (trees_of o.types) o.types; functions = fs } in
    ap build (coded_is (trees_of o.types) o.functions)

pub objects_are_bodies : ObjectsAreBodies
objects_are_bodies o = body_is o

-- OBJECTS OF PROGRAMS
-- the name of a role is written, and no other one
name_back : (kind : Kind) (name : List ℕ) → name_declared kind (if is_entered kind then name else []) ≡ name_declared kind name
name_back Inner name = refl
name_back Init name = refl
name_back Query name = refl
name_back Update name = refl

module _ (table : Table) (names : List (List (List ℕ))) (types : List Ty) (listing : Listing table types) where
  declared_back : (fs : List Function) → FunctionsIn table types (map (function_code table) fs) → map (declared_in types) (map (function_written types table) fs) ≡ map declared fs
  declared_back [] a = refl
  declared_back (f ∷ fs) a =
      let g = declared f in
      let h = declared_in types (function_written types table f) in
      ap₂ (λ y ys. y ∷ ys)
      (ap (λ name. record { name = name; kind = h.kind; parameters = h.parameters; result = h.result; body = h.body }) (name_back f.kind f.name)
      ∙ ap₂ (λ ps r. record { name = g.name; kind = g.kind; parameters = ps; result = r; body = g.body }) (numbers_back table names types f.parameters a.0.parameters) (number_found types f.result a.0.result))
      (declared_back fs a.1)

  codes_back : (fs : List Function) → FunctionsIn table types (map (function_code table) fs) → FunctionsAreClosed (length table) (map (function_code table) fs)
      → map (code_in types) (map (function_written types table) fs) ≡ map (λ (g : FunctionCode). g.code) (map (function_code table) fs)
  codes_back [] a c = refl
  codes_back (f ∷ fs) a c = ap₂ (λ y ys. y ∷ ys) (code_back table names types listing 0 (function_code table f).code a.0.code c.0.code) (codes_back fs a.1 c.1)

pub objects_are_programs : ObjectsArePrograms
objects_are_programs P names e c =
    let h = program_listed P c in
    let types = types_written P in
    let listed : List ListedType = map (type_written types P.types names) types in
    let fs = map (function_written types P.types) P.functions in
    let build : Format → List Ty → Program = λ format trees. record {
      format = format;
      types = named_tables trees listed;
      state = listed_at trees (number_in types P.state);
      functions = map (declared_in trees) fs;
      code = Some (map (code_in trees) fs);
    } in
    ap (build object_format) (trees_back P.types names types h.listing)
    ∙ ap (λ format. build format types) (sym e)
    ∙ ap₂ (λ t s. record { format = P.format; types = t; state = s; functions = map (declared_in types) fs; code = Some (map (code_in types) fs) })
    (table_back P.types names types h.listing h.fields) (number_found types P.state h.state)
    ∙ ap₂ (λ gs cs. record { format = P.format; types = P.types; state = P.state; functions = gs; code = Some cs })
    (declared_back P.types names types h.listing P.functions h.functions) (codes_back P.types names types h.listing P.functions h.functions c.functions)

pub objects_mean_the_same : ObjectsMeanTheSame
objects_mean_the_same P names e c none typed f args k =
    let o = object_of P names in
    let Q = program_in o in
    let limit = ap (λ (format : Format). format.limit) e in
    let does = objects_do_the_same P names limit c none typed f args k in (
      λ h. ap (λ B. ran k [] (call_code_from B ideal_mode f args k [])) (body_is o) ∙ ap (ran k []) (does.0 h),
      λ hash w h.
          let mode : checked_mode hash Q ≡ checked_mode hash P = ap (checked_mode hash) (objects_are_programs P names e c) in
          ap₂ (λ B mode. ran k w (call_code_from B mode f args k w)) (body_is o) mode ∙ ap (ran k w) (does.1 hash w h),
    )

-- ACCEPTED OBJECTS
none_is : (n : ℕ) → Some n ≡ None → ⊥
none_is n e = cc

all_shapes : (P : Program) (f : ℕ) (gs : List Function) → shape_fault_from P f gs ≡ None → all_shaped P gs ≡ true
all_shapes P f [] e = refl
all_shapes P f (g ∷ gs) e = by (shape_test P g.kind g.parameters g.result) refl e (all_shapes P (suc f) gs)
  where
    by : (b : Bool) → shape_test P g.kind g.parameters g.result ≡ b → (if b then shape_fault_from P (suc f) gs else Some f) ≡ None → (shape_fault_from P (suc f) gs ≡ None → all_shaped P gs ≡ true)
        → all_shaped P (g ∷ gs) ≡ true
    by true s e go = ap₂ (λ a b. a && b) s (go e)
    by false s e go = absurd (none_is f e)

pub objects_are_sound : ObjectsAreSound
objects_are_sound bytes o e =
    let Q = program_in o in
    let each : length (codes o) ≡ length Q.functions = length-map o.functions (code_in (trees_of o.types)) ∙ sym (length-map o.functions (declared_in (trees_of o.types))) in
    let passes : is_typed Q ≡ true = both _ _ (eq-eqb (length (codes o)) (length Q.functions) each) (ap kinds_test (body_is o) ∙ objects_pass bytes o e) in
    record {
      format = first_format_is_format 1024 (omega arith);
      typed = typed_sound Q passes;
      passes = passes;
      shaped = judged (all_shaped Q Q.functions ≡ true) (length bytes) (object_read bytes 0) o e (λ rest p t s k. all_shapes Q 0 Q.functions s);
    }
