use Rattle.std.proofs.Common.{◌∙◌, ap}
use Rattle.std.proofs.lemmas.Result.{err_from_is_err_and}
use Rattle.core_terms.specs.ProgramTrees.{table_of}
use Rattle.core_terms.specs.ProgramTypes.{named_table, types_by_number}
use Rattle.core_terms.specs.Programs.{meaning}
use Rattle.core_terms.specs.TypeTables.{type_at}
use Rattle.core_terms.specs.declared.program_types.Types.{Types}
use Rattle.code_gen.specs.Programs.{program_in}
use Rattle.object_meaning.specs.WrittenObjects.{named_from, with_all_fields}
use Rattle.object_writer.specs.Numberings.{listed}
use Rattle.object_writer.proofs.ProgramWalk.{fields_too_many, state_too_many}
use Rattle.object_writer.proofs.walk.number_types.Goals as goal

pub returns-in_err-list_named : goal.returns-in_err-list_named
returns-in_err-list_named c =
    let p = err_from_is_err_and c.from_residual-in_err-list_named.result c.from_residual-in_err-list_named.ensures.1 in
    let types = c.types-types.result.now in
    rw (p.1, p.2) (fields_too_many (meaning (program_in c.args.code.now)) (listed types c.in_ok-numbering.numbering) _ (table_of (types_by_number types) c.named_types.result.now)
    (c.in_ok-numbering.ensures.all ∙ ap (λ (t : Types). named_from 0 (named_table t)) c.types-types.ensures)
    (ap (table_of (types_by_number types)) c.named_types.ensures.named ∙ ap named_table c.types-types.ensures)
    c.in_err-list_named.ensures)

pub returns-in_err-list : goal.returns-in_err-list
returns-in_err-list c =
    let p = err_from_is_err_and c.from_residual-in_err-list.result c.from_residual-in_err-list.ensures.1 in
    let types = c.types-types.result.now in
    rw (p.1, p.2) (state_too_many (meaning (program_in c.args.code.now)) (listed types c.list_named.new.numbering) _ (type_at (types_by_number types) c.state_type.result)
    (c.in_ok-list_named.ensures.all
    ∙ ap (λ l. with_all_fields l (table_of (types_by_number types) c.named_types.result.now)) c.in_ok-numbering.ensures.all
    ∙ ap (λ l. with_all_fields (named_from 0 (named_table types)) (table_of (types_by_number types) l)) c.named_types.ensures.named
    ∙ ap (λ (t : Types). with_all_fields (named_from 0 (named_table t)) (named_table t)) c.types-types.ensures)
    (c.state_type.ensures.state ∙ ap (λ (t : Types). type_at (types_by_number t) t.state) c.types-types.ensures)
    c.in_err-list.ensures)
