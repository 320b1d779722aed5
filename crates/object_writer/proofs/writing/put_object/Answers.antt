use Rattle.std.proofs.Common.{◌++◌, ◌∙◌, length, ap, sym, subst}
use Rattle.std.specs.Prelude.{All}
use Rattle.std.specs.Int.{w16, to_be_bytes}
use Rattle.std.proofs.lemmas.List.{length-map}
use Rattle.core_terms.specs.ProgramTrees.{function_of}
use Rattle.core_terms.specs.ProgramTypes.{named_table, types_by_number}
use Rattle.core_terms.specs.Programs.{types_of}
use Rattle.core_terms.specs.TypeTables.{type_at}
use Rattle.core_terms.specs.declared.program_types.Types.{Types}
use Rattle.code_gen.specs.Programs.{program_in}
use Rattle.object_meaning.specs.ObjectBytes.{word}
use Rattle.object_meaning.specs.WrittenObjects.{number_in}
use Rattle.object_writer.specs.Adding.{written_so_far}
use Rattle.object_writer.specs.Numberings.{listed}
use Rattle.object_writer.specs.WrittenAs.{types_part}
use Rattle.object_writer.specs.WrittenTypes.{HasFewParts}
use Rattle.object_writer.proofs.OwnCode.{functions_are}
use Rattle.object_writer.proofs.SmallCode.{code_is_small}
use Rattle.object_writer.proofs.WholeObjects.{few_parts, object_added}
use Rattle.object_writer.proofs.writing.put_object.Goals as goal

pub put_types-requires-clause-few : goal.put_types-requires-clause-few
put_types-requires-clause-few c =
    let limits = c.args.code.now.program.limits in
    subst (λ (t : Types). All HasFewParts (named_table t)) (sym c.types-types.ensures) (few_parts (named_table (program_in c.args.code.now).types) limits.constructors limits.fields)

pub put_functions-requires-clause-small : goal.put_functions-requires-clause-small
put_functions-requires-clause-small c = code_is_small c.args.code.now c.requires.written

pub returns : goal.returns
returns c =
    let p = program_in c.args.code.now in
    let n = c.args.numbering.now in
    let old = written_so_far c.args.object.now in
    let types = written_so_far c.put_types.new.object in
    let state = written_so_far c.put_word.new.self in
    let count = written_so_far c.put.new.self in
    object_added p (listed p.types n) c.requires.numbering.all old types state count (written_so_far c.put_functions.new.object) c.put_functions.result
    (c.in_ok-put_types.ensures ∙ ap (λ (t : Types). old ++ types_part t (listed t n)) c.types-types.ensures)
    (c.in_ok-put_word.ensures
    ∙ ap (λ k. types ++ word k) (c.number.ensures ∙ ap (λ t. number_in (listed c.types-types.result.now n) t) c.state_type.ensures.state
    ∙ ap (λ (t : Types). number_in (listed t n) (type_at (types_by_number t) t.state)) c.types-types.ensures))
    (c.in_ok-put.ensures ∙ ap (λ b. state ++ b) c.to_be_bytes.ensures ∙ ap (λ k. state ++ to_be_bytes w16 k) (sym (length-map c.functions.result.now (function_of (types_of p))) ∙ ap length (functions_are p c.program.result.now c.program.ensures c.functions.result.now c.functions.ensures.functions)))
    c.put_functions.ensures
