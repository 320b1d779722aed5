use Rattle.std.proofs.Common.{◌≤◌, ◌∙◌, ◌++◌, List, length, map, ap, append_assoc, sym, subst, refl}
use Rattle.std.specs.Prelude.{All}
use Rattle.std.proofs.lemmas.List.{length-map}
use Rattle.std.proofs.lemmas.Result.{err_from_is_err_and}
use Rattle.core_terms.specs.Instructions.{Instruction}
use Rattle.core_terms.specs.ProgramLimits.{most_instructions, most_parameters}
use Rattle.core_terms.specs.ProgramTrees.{function_of}
use Rattle.core_terms.specs.ProgramTypes.{named_table, types_by_number}
use Rattle.core_terms.specs.TypeTables.{type_at}
use Rattle.core_terms.specs.declared.program_types.Types.{Types}
use Rattle.core_terms.specs.GeneratedCode.{function_code}
use Rattle.code_gen.specs.Programs.{program_in}
use Rattle.object_meaning.specs.ObjectBytes.{bytes_of_all, function_bytes}
use Rattle.object_meaning.specs.WrittenObjects.{function_written}
use Rattle.object_writer.specs.Adding.{Hinders, written_so_far}
use Rattle.object_writer.specs.CodeNumbers.{HasSmallNumbers, IsSmall}
use Rattle.object_writer.specs.Numberings.{listed}
use Rattle.object_writer.specs.WrittenFunctions.{body_bytes, head_bytes, signature_bytes}
use Rattle.object_writer.proofs.FunctionBytes.{function_split}
use Rattle.object_writer.proofs.LoopForms.{function_parts}
use Rattle.object_writer.proofs.Loops.{goes_on, hinders_first, hinders_then, is_done, stops}
use Rattle.object_writer.proofs.OwnCode.{functions_are, code_of_types, fact_of_types}
use Rattle.object_writer.proofs.functions.put_functions.Goals as goal

pub loop-place-init : goal.loop-place-init
loop-place-init c = refl

pub put_signature-requires-clause-few : goal.put_signature-requires-clause-few
put_signature-requires-clause-few c =
    let f = c.index-functions-place.result in
    let small = fact_of_types (program_in c.args.code.now) c.types-types.result.now c.types-types.ensures c.functions-functions.result.now c.loop-place.place f (functions_are (program_in c.args.code.now) c.program.result.now c.program.ensures c.functions-functions.result.now c.functions-functions.ensures.functions)
    c.loop-place-test.true c.index-functions-place.is IsSmall c.requires.small in
    subst (λ n. n ≤ most_parameters) (length-map f.parameters.items (type_at (types_by_number c.types-types.result.now))) small.parameters

pub put_body-requires-clause-short : goal.put_body-requires-clause-short
put_body-requires-clause-short c =
    let f = c.index-functions-place.result in
    let small = fact_of_types (program_in c.args.code.now) c.types-types.result.now c.types-types.ensures c.functions-functions.result.now c.loop-place.place f (functions_are (program_in c.args.code.now) c.program.result.now c.program.ensures c.functions-functions.result.now c.functions-functions.ensures.functions)
    c.loop-place-test.true c.index-functions-place.is IsSmall c.requires.small in
    let own = code_of_types (program_in c.args.code.now) c.types-types.result.now c.types-types.ensures c.functions-functions.result.now c.loop-place.place f (functions_are (program_in c.args.code.now) c.program.result.now c.program.ensures c.functions-functions.result.now c.functions-functions.ensures.functions)
    c.loop-place-test.true c.index-functions-place.is c.requires.written c.instructions.result.now c.instructions.ensures in
    subst (λ (is : List Instruction). length is ≤ most_instructions) (sym own) small.short

pub put_body-requires-clause-small : goal.put_body-requires-clause-small
put_body-requires-clause-small c =
    let f = c.index-functions-place.result in
    let small = fact_of_types (program_in c.args.code.now) c.types-types.result.now c.types-types.ensures c.functions-functions.result.now c.loop-place.place f (functions_are (program_in c.args.code.now) c.program.result.now c.program.ensures c.functions-functions.result.now c.functions-functions.ensures.functions)
    c.loop-place-test.true c.index-functions-place.is IsSmall c.requires.small in
    let own = code_of_types (program_in c.args.code.now) c.types-types.result.now c.types-types.ensures c.functions-functions.result.now c.loop-place.place f (functions_are (program_in c.args.code.now) c.program.result.now c.program.ensures c.functions-functions.result.now c.functions-functions.ensures.functions)
    c.loop-place-test.true c.index-functions-place.is c.requires.written c.instructions.result.now c.instructions.ensures in
    subst (All HasSmallNumbers) (sym own) small.small

pub returns-in_err-put_head : goal.returns-in_err-put_head
returns-in_err-put_head c =
    let p = err_from_is_err_and c.from_residual.result c.from_residual.ensures.1 in
    let fault = c.in_err-put_head.field-0.0 in
    let types = c.types-types.result.now in
    let T = types_by_number types in
    let table = named_table types in
    let l = c.loop-place in
    let functions = c.functions-functions.result.now in
    let f = c.index-functions-place.result in
    let L = listed types c.args.numbering.now in
    let g = function_of T f in
    let head = head_bytes g.kind g.name in
    let signature = signature_bytes L g.parameters g.result in
    let body = body_bytes L (function_code table g).code in
    let now = written_so_far l.object in
    let start = written_so_far c.args.object.now in
    let whole = ap (λ (t : Types). function_parts (listed t c.args.numbering.now) (types_by_number t) (named_table t) functions) c.types-types.ensures
    ∙ ap (λ fs. bytes_of_all function_bytes (map (function_written (listed (program_in c.args.code.now).types c.args.numbering.now) (named_table (program_in c.args.code.now).types)) fs)) (functions_are (program_in c.args.code.now) c.program.result.now c.program.ensures c.functions-functions.result.now c.functions-functions.ensures.functions) in
    rw (p.1, p.2) (subst (λ added. Hinders start added fault) whole
    (stops (λ i fs. function_parts L T table fs) (λ i f. function_bytes (function_written L table (function_of T f))) (λ i x xs. refl) (λ i. refl) functions start now l.place l.invariant
    f f fault c.loop-place-test.true c.index-functions-place.is
    (subst (λ added. Hinders now added fault) (sym (function_split L table g))
    (hinders_first now head (signature ++ body) fault c.in_err-put_head.ensures))))

pub returns-in_err-put_signature : goal.returns-in_err-put_signature
returns-in_err-put_signature c =
    let p = err_from_is_err_and c.from_residual-in_err-put_signature.result c.from_residual-in_err-put_signature.ensures.1 in
    let fault = c.in_err-put_signature.field-0.0 in
    let types = c.types-types.result.now in
    let T = types_by_number types in
    let table = named_table types in
    let l = c.loop-place in
    let functions = c.functions-functions.result.now in
    let f = c.index-functions-place.result in
    let L = listed types c.args.numbering.now in
    let g = function_of T f in
    let head = head_bytes g.kind g.name in
    let signature = signature_bytes L g.parameters g.result in
    let body = body_bytes L (function_code table g).code in
    let now = written_so_far l.object in
    let start = written_so_far c.args.object.now in
    let whole = ap (λ (t : Types). function_parts (listed t c.args.numbering.now) (types_by_number t) (named_table t) functions) c.types-types.ensures
    ∙ ap (λ fs. bytes_of_all function_bytes (map (function_written (listed (program_in c.args.code.now).types c.args.numbering.now) (named_table (program_in c.args.code.now).types)) fs)) (functions_are (program_in c.args.code.now) c.program.result.now c.program.ensures c.functions-functions.result.now c.functions-functions.ensures.functions) in
    rw (p.1, p.2) (subst (λ added. Hinders start added fault) whole
    (stops (λ i fs. function_parts L T table fs) (λ i f. function_bytes (function_written L table (function_of T f))) (λ i x xs. refl) (λ i. refl) functions start now l.place l.invariant
    f f fault c.loop-place-test.true c.index-functions-place.is
    (subst (λ added. Hinders now added fault) (sym (function_split L table g))
    (hinders_then now head (signature ++ body) (written_so_far c.put_head.new.object) fault c.in_ok-put_head.ensures (hinders_first (written_so_far c.put_head.new.object) signature body fault c.in_err-put_signature.ensures)))))

pub returns-in_err-put_body : goal.returns-in_err-put_body
returns-in_err-put_body c =
    let p = err_from_is_err_and c.from_residual-in_err-put_body.result c.from_residual-in_err-put_body.ensures.1 in
    let fault = c.in_err-put_body.field-0.0 in
    let types = c.types-types.result.now in
    let T = types_by_number types in
    let table = named_table types in
    let l = c.loop-place in
    let functions = c.functions-functions.result.now in
    let f = c.index-functions-place.result in
    let L = listed types c.args.numbering.now in
    let g = function_of T f in
    let head = head_bytes g.kind g.name in
    let signature = signature_bytes L g.parameters g.result in
    let body = body_bytes L (function_code table g).code in
    let now = written_so_far l.object in
    let start = written_so_far c.args.object.now in
    let own = code_of_types (program_in c.args.code.now) types c.types-types.ensures functions l.place f (functions_are (program_in c.args.code.now) c.program.result.now c.program.ensures c.functions-functions.result.now c.functions-functions.ensures.functions) c.loop-place-test.true c.index-functions-place.is
    c.requires.written c.instructions.result.now c.instructions.ensures in
    let whole = ap (λ (t : Types). function_parts (listed t c.args.numbering.now) (types_by_number t) (named_table t) functions) c.types-types.ensures
    ∙ ap (λ fs. bytes_of_all function_bytes (map (function_written (listed (program_in c.args.code.now).types c.args.numbering.now) (named_table (program_in c.args.code.now).types)) fs)) (functions_are (program_in c.args.code.now) c.program.result.now c.program.ensures c.functions-functions.result.now c.functions-functions.ensures.functions) in
    rw (p.1, p.2) (subst (λ added. Hinders start added fault) whole
    (stops (λ i fs. function_parts L T table fs) (λ i f. function_bytes (function_written L table (function_of T f))) (λ i x xs. refl) (λ i. refl) functions start now l.place l.invariant
    f f fault c.loop-place-test.true c.index-functions-place.is
    (subst (λ added. Hinders now added fault) (sym (function_split L table g))
    (hinders_then now head (signature ++ body) (written_so_far c.put_head.new.object) fault c.in_ok-put_head.ensures
    (hinders_then (written_so_far c.put_head.new.object) signature body (written_so_far c.put_signature.new.object) fault c.in_ok-put_signature.ensures
    (subst (λ is. Hinders (written_so_far c.put_signature.new.object) (body_bytes L is) fault) own c.in_err-put_body.ensures))))))

pub loop-place-preserved : goal.loop-place-preserved
loop-place-preserved c =
    let types = c.types-types.result.now in
    let T = types_by_number types in
    let table = named_table types in
    let l = c.loop-place in
    let functions = c.functions-functions.result.now in
    let f = c.index-functions-place.result in
    let L = listed types c.args.numbering.now in
    let g = function_of T f in
    let head = head_bytes g.kind g.name in
    let signature = signature_bytes L g.parameters g.result in
    let body = body_bytes L (function_code table g).code in
    let now = written_so_far l.object in
    let own = code_of_types (program_in c.args.code.now) types c.types-types.ensures functions l.place f (functions_are (program_in c.args.code.now) c.program.result.now c.program.ensures c.functions-functions.result.now c.functions-functions.ensures.functions) c.loop-place-test.true c.index-functions-place.is
    c.requires.written c.instructions.result.now c.instructions.ensures in
    let one = c.in_ok-put_body.ensures ∙ ap (λ is. written_so_far c.put_signature.new.object ++ body_bytes L is) own in
    let two = one ∙ ap (λ b. b ++ body) c.in_ok-put_signature.ensures ∙ append_assoc (written_so_far c.put_head.new.object) signature body in
    let three = two ∙ ap (λ b. b ++ (signature ++ body)) c.in_ok-put_head.ensures ∙ append_assoc now head (signature ++ body) in
    goes_on (λ i fs. function_parts L T table fs) (λ i f. function_bytes (function_written L table (function_of T f))) (λ i x xs. refl) (λ i. refl) functions (written_so_far c.args.object.now) now l.place l.invariant
    f f _ c.loop-place-test.true c.index-functions-place.is (three ∙ ap (λ added. now ++ added) (sym (function_split L table g)))

pub returns : goal.returns
returns c =
    let types = c.types-types.result.now in
    let T = types_by_number types in
    let table = named_table types in
    let l = c.loop-place in
    let functions = c.functions-functions.result.now in
    let L = listed types c.args.numbering.now in
    let start = written_so_far c.args.object.now in
    let whole = ap (λ (t : Types). function_parts (listed t c.args.numbering.now) (types_by_number t) (named_table t) functions) c.types-types.ensures
    ∙ ap (λ fs. bytes_of_all function_bytes (map (function_written (listed (program_in c.args.code.now).types c.args.numbering.now) (named_table (program_in c.args.code.now).types)) fs)) (functions_are (program_in c.args.code.now) c.program.result.now c.program.ensures c.functions-functions.result.now c.functions-functions.ensures.functions) in
    is_done (λ i fs. function_parts L T table fs) (λ i f. function_bytes (function_written L table (function_of T f))) (λ i x xs. refl) (λ i. refl) functions start (written_so_far l.object) l.place l.invariant c.loop-place-test.false
    ∙ ap (λ added. start ++ added) whole
