use Rattle.std.proofs.Common.{refl, arith}
use Rattle.std.proofs.lemmas.Result.{err_from_is_err_and}
use Rattle.core_terms.specs.ProgramTypes.{types_by_number}
use Rattle.object_writer.specs.Numberings.{listed}
use Rattle.object_writer.proofs.Loops.{lists_on, lists_no_more, lists_all}
use Rattle.core_terms.specs.InstructionViews.{instruction_of, instructions_of}
use Rattle.object_meaning.specs.WrittenObjects.{types_named, with_instructions, with_types}
use Rattle.object_writer.proofs.ListedParts.{code_grows}
use Rattle.object_writer.proofs.walk.list_code.Goals as goal

pub returns-in_err-list_operand : goal.returns-in_err-list_operand
returns-in_err-list_operand c =
    let p = err_from_is_err_and c.from_residual.result c.from_residual.ensures.1 in
    let types = types_by_number c.args.types.now in
    let l = c.loop-instruction in
    let x = c.instruction-item.result in
    rw (p.1, p.2) (lists_no_more (λ list xs. with_instructions list (instructions_of types xs)) (λ list x. with_types list (types_named (instruction_of types x))) (λ list x xs. refl) (λ list. refl) (λ list xs. code_grows list (instructions_of types xs))
    c.args.code.now _ (listed c.args.types.now l.numbering) l.instruction-index l.invariant.1 x x _ (omega arith) c.instruction-item.is c.in_err-list_operand.ensures)

pub loop-instruction-preserved : goal.loop-instruction-preserved
loop-instruction-preserved c =
    let types = types_by_number c.args.types.now in
    let l = c.loop-instruction in
    let x = c.instruction-item.result in (
      c.in_ok-list_operand.ensures.right,
      lists_on (λ list xs. with_instructions list (instructions_of types xs)) (λ list x. with_types list (types_named (instruction_of types x))) (λ list x xs. refl) (λ list. refl) (λ list xs. code_grows list (instructions_of types xs))
          c.args.code.now _ (listed c.args.types.now l.numbering) l.instruction-index l.invariant.1 x x _ (omega arith) c.instruction-item.is c.in_ok-list_operand.ensures.all,
    )

pub returns : goal.returns
returns c =
    let types = types_by_number c.args.types.now in
    let l = c.loop-instruction in
    record {
      right = l.invariant.0;
      all = lists_all (λ list xs. with_instructions list (instructions_of types xs)) (λ list x. with_types list (types_named (instruction_of types x))) (λ list x xs. refl) (λ list. refl) (λ list xs. code_grows list (instructions_of types xs))
          c.args.code.now _ (listed c.args.types.now l.numbering) l.instruction-index l.invariant.1 (omega arith);
    }
