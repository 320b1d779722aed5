use Rattle.std.proofs.Common.{◌≡◌, ◌≤◌, ◌∙◌, length, map, ap, sym, subst, refl, arith}
use Rattle.std.proofs.lemmas.Result.{err_from_is_err_and}
use Rattle.core_terms.specs.InstructionViews.{instructions_of}
use Rattle.core_terms.specs.ProgramTrees.{function_of, types_at}
use Rattle.core_terms.specs.ProgramTypes.{named_table, types_by_number}
use Rattle.core_terms.specs.Programs.{meaning}
use Rattle.core_terms.specs.TypeTables.{type_at}
use Rattle.core_terms.specs.declared.program_types.Types.{Types}
use Rattle.core_terms.specs.GeneratedCode.{function_code}
use Rattle.code_gen.specs.Programs.{program_in}
use Rattle.object_meaning.specs.WrittenObjects.{with_functions, with_instructions, with_type, with_types}
use Rattle.object_writer.specs.Numberings.{AreTooMany, IsNumbering, listed}
use Rattle.object_writer.proofs.ListedParts.{code_grows, too_many_more, type_grows}
use Rattle.object_writer.proofs.Loops.{lists_on, lists_no_more, lists_all}
use Rattle.object_writer.proofs.OwnCode.{functions_are, code_of_types}
use Rattle.object_writer.proofs.WalkForms.{functions_walk_grows, with_function, with_program_functions}
use Rattle.object_writer.proofs.walk.list_functions.Goals as goal

pub loop-place-init : goal.loop-place-init
loop-place-init c = (subst (λ (t : Types). IsNumbering t c.args.numbering.now) (sym c.types-types.ensures) c.requires.numbering, refl)

pub list_all-requires : goal.list_all-requires
list_all-requires c = c.loop-place.invariant.0

pub returns-in_err-list_all : goal.returns-in_err-list_all
returns-in_err-list_all c =
    let p = err_from_is_err_and c.from_residual.result c.from_residual.ensures.1 in
    let types = c.types-types.result.now in
    let T = types_by_number types in
    let table = named_table types in
    let l = c.loop-place in
    let functions = c.functions-functions.result.now in
    let f = c.index-functions-place.result in
    let P = meaning (program_in c.args.code.now) in
    let whole = ap (λ (t : Types). with_program_functions (named_table t) (types_by_number t) (listed t c.args.numbering.now) functions) c.types-types.ensures
    ∙ ap (λ fs. with_functions (listed (program_in c.args.code.now).types c.args.numbering.now) (map (function_code P.types) fs)) (functions_are (program_in c.args.code.now) c.program.result.now c.program.ensures c.functions-functions.result.now c.functions-functions.ensures.functions) in
    let now = listed types l.numbering in
    let first = with_types now (types_at T f.parameters.items) in
    let many = subst (λ ids. AreTooMany (with_types now (types_at T ids)) c.in_err-list_all.field-0.0) c.deref.ensures.value c.in_err-list_all.ensures in
    let grows : length first ≤ length (with_function table T now f) = omega (arith, type_grows first (type_at T f.result), code_grows (with_type first (type_at T f.result)) (function_code table (function_of T f)).code) in
    rw (p.1, p.2) (subst (λ l. AreTooMany l c.in_err-list_all.field-0.0) whole
    (lists_no_more (with_program_functions table T) (with_function table T) (λ list x xs. refl) (λ list. refl) (functions_walk_grows table T)
    functions _ now l.place l.invariant.1 f f c.in_err-list_all.field-0.0 c.loop-place-test.true c.index-functions-place.is (too_many_more first (with_function table T now f) _ grows many)))

pub returns-in_err-list : goal.returns-in_err-list
returns-in_err-list c =
    let p = err_from_is_err_and c.from_residual-in_err-list.result c.from_residual-in_err-list.ensures.1 in
    let types = c.types-types.result.now in
    let T = types_by_number types in
    let table = named_table types in
    let l = c.loop-place in
    let functions = c.functions-functions.result.now in
    let f = c.index-functions-place.result in
    let P = meaning (program_in c.args.code.now) in
    let whole = ap (λ (t : Types). with_program_functions (named_table t) (types_by_number t) (listed t c.args.numbering.now) functions) c.types-types.ensures
    ∙ ap (λ fs. with_functions (listed (program_in c.args.code.now).types c.args.numbering.now) (map (function_code P.types) fs)) (functions_are (program_in c.args.code.now) c.program.result.now c.program.ensures c.functions-functions.result.now c.functions-functions.ensures.functions) in
    let now = listed types l.numbering in
    let second = with_type (with_types now (types_at T f.parameters.items)) (type_at T f.result) in
    let e = c.in_ok-list_all.ensures.all ∙ ap (λ ids. with_types now (types_at T ids)) c.deref.ensures.value in
    let many = subst (λ l. AreTooMany (with_type l (type_at T f.result)) c.in_err-list.field-0.0) e c.in_err-list.ensures in
    rw (p.1, p.2) (subst (λ l. AreTooMany l c.in_err-list.field-0.0) whole
    (lists_no_more (with_program_functions table T) (with_function table T) (λ list x xs. refl) (λ list. refl) (functions_walk_grows table T)
    functions _ now l.place l.invariant.1 f f c.in_err-list.field-0.0 c.loop-place-test.true c.index-functions-place.is
    (too_many_more second (with_function table T now f) _ (code_grows second (function_code table (function_of T f)).code) many)))

pub returns-in_err-list_code : goal.returns-in_err-list_code
returns-in_err-list_code c =
    let p = err_from_is_err_and c.from_residual-in_err-list_code.result c.from_residual-in_err-list_code.ensures.1 in
    let types = c.types-types.result.now in
    let T = types_by_number types in
    let table = named_table types in
    let l = c.loop-place in
    let functions = c.functions-functions.result.now in
    let f = c.index-functions-place.result in
    let P = meaning (program_in c.args.code.now) in
    let whole = ap (λ (t : Types). with_program_functions (named_table t) (types_by_number t) (listed t c.args.numbering.now) functions) c.types-types.ensures
    ∙ ap (λ fs. with_functions (listed (program_in c.args.code.now).types c.args.numbering.now) (map (function_code P.types) fs)) (functions_are (program_in c.args.code.now) c.program.result.now c.program.ensures c.functions-functions.result.now c.functions-functions.ensures.functions) in
    let now = listed types l.numbering in
    let e = c.in_ok-list_all.ensures.all ∙ ap (λ ids. with_types now (types_at T ids)) c.deref.ensures.value in
    let e2 = c.in_ok-list.ensures.all ∙ ap (λ l. with_type l (type_at T f.result)) e in
    let own = code_of_types (program_in c.args.code.now) types c.types-types.ensures functions l.place f (functions_are (program_in c.args.code.now) c.program.result.now c.program.ensures c.functions-functions.result.now c.functions-functions.ensures.functions) c.loop-place-test.true c.index-functions-place.is
    c.requires.written c.instructions.result.now c.instructions.ensures in
    let same : with_instructions (listed types c.list.new.self) (instructions_of T c.instructions.result.now) ≡ with_function table T now f =
    ap (λ l. with_instructions l (instructions_of T c.instructions.result.now)) e2 ∙ ap (with_instructions (with_type (with_types now (types_at T f.parameters.items)) (type_at T f.result))) own in
    rw (p.1, p.2) (subst (λ l. AreTooMany l c.in_err-list_code.field-0.0) whole
    (lists_no_more (with_program_functions table T) (with_function table T) (λ list x xs. refl) (λ list. refl) (functions_walk_grows table T)
    functions _ now l.place l.invariant.1 f f c.in_err-list_code.field-0.0 c.loop-place-test.true c.index-functions-place.is
    (subst (λ l. AreTooMany l c.in_err-list_code.field-0.0) same c.in_err-list_code.ensures)))

pub loop-place-preserved : goal.loop-place-preserved
loop-place-preserved c =
    let types = c.types-types.result.now in
    let T = types_by_number types in
    let table = named_table types in
    let l = c.loop-place in
    let functions = c.functions-functions.result.now in
    let f = c.index-functions-place.result in
    let now = listed types l.numbering in
    let e = c.in_ok-list_all.ensures.all ∙ ap (λ ids. with_types now (types_at T ids)) c.deref.ensures.value in
    let e2 = c.in_ok-list.ensures.all ∙ ap (λ l. with_type l (type_at T f.result)) e in
    let own = code_of_types (program_in c.args.code.now) types c.types-types.ensures functions l.place f (functions_are (program_in c.args.code.now) c.program.result.now c.program.ensures c.functions-functions.result.now c.functions-functions.ensures.functions) c.loop-place-test.true c.index-functions-place.is
    c.requires.written c.instructions.result.now c.instructions.ensures in
    let same = c.in_ok-list_code.ensures.all
    ∙ ap (λ l. with_instructions l (instructions_of T c.instructions.result.now)) e2 ∙ ap (with_instructions (with_type (with_types now (types_at T f.parameters.items)) (type_at T f.result))) own in (
      c.in_ok-list_code.ensures.right,
      lists_on (with_program_functions table T) (with_function table T) (λ list x xs. refl) (λ list. refl) (functions_walk_grows table T)
          functions _ now l.place l.invariant.1 f f _ c.loop-place-test.true c.index-functions-place.is same,
    )

pub returns : goal.returns
returns c =
    let types = c.types-types.result.now in
    let T = types_by_number types in
    let table = named_table types in
    let l = c.loop-place in
    let functions = c.functions-functions.result.now in
    let P = meaning (program_in c.args.code.now) in
    let n = l.numbering in
    let all = lists_all (with_program_functions table T) (with_function table T) (λ list x xs. refl) (λ list. refl) (functions_walk_grows table T) functions _ (listed types n) l.place l.invariant.1 c.loop-place-test.false in
    let whole = ap (λ (t : Types). with_program_functions (named_table t) (types_by_number t) (listed t c.args.numbering.now) functions) c.types-types.ensures
    ∙ ap (λ fs. with_functions (listed (program_in c.args.code.now).types c.args.numbering.now) (map (function_code P.types) fs)) (functions_are (program_in c.args.code.now) c.program.result.now c.program.ensures c.functions-functions.result.now c.functions-functions.ensures.functions) in
    record {
      right = subst (λ (t : Types). IsNumbering t n) c.types-types.ensures l.invariant.0;
      all = ap (λ (t : Types). listed t n) (sym c.types-types.ensures) ∙ all ∙ whole;
    }
