use Rattle.std.proofs.Common.{◌<◌, length, map, refl, sym, ap, ◌∙◌, subst, arith}
use Rattle.std.proofs.lemmas.Result.{err_from_is_err_and}
use Rattle.std.proofs.lemmas.List.{get_or-map, length-map}
use Rattle.std.proofs.lemmas.List.Elements.{All-get_or}
use Rattle.core_terms.specs.InstructionViews.{instruction_of}
use Rattle.core_terms.specs.ProgramTypes.{types_by_number}
use Rattle.object_meaning.specs.ObjectBytes.{instruction_bytes}
use Rattle.object_meaning.specs.WrittenObjects.{instruction_written}
use Rattle.object_writer.specs.Adding.{written_so_far}
use Rattle.object_writer.specs.CodeNumbers.{HasSmallNumbers}
use Rattle.object_writer.specs.Numberings.{listed}
use Rattle.object_writer.proofs.LoopForms.{code_parts}
use Rattle.object_writer.proofs.Loops.{goes_on, stops, is_done}
use Rattle.object_writer.proofs.code.put_code.Goals as goal

pub put_instruction-requires-clause-place : goal.put_instruction-requires-clause-place
put_instruction-requires-clause-place c = omega (arith, c.requires.short, length-map c.args.code.now (instruction_of (types_by_number c.args.types.now)), c.loop-place-test.true)

pub put_instruction-requires-clause-small : goal.put_instruction-requires-clause-small
put_instruction-requires-clause-small c =
    let meant = instruction_of (types_by_number c.args.types.now) in
    let all = c.args.code.now in
    let i = c.loop-place.place in
    let x = c.index-code-place.result in
    let inside : i < length all = c.loop-place-test.true in
    let long : i < length (map meant all) = subst (λ n. i < n) (sym (length-map all meant)) inside in
    subst HasSmallNumbers (get_or-map meant all i x (meant x) inside ∙ ap meant (sym c.index-code-place.is)) (All-get_or HasSmallNumbers (map meant all) i (meant x) long c.requires.small)

pub returns-in_err-put_instruction : goal.returns-in_err-put_instruction
returns-in_err-put_instruction c =
    let p = err_from_is_err_and c.from_residual.result c.from_residual.ensures.1 in
    let listing = listed c.args.types.now c.args.numbering.now in
    let types = types_by_number c.args.types.now in
    let l = c.loop-place in
    let x = c.index-code-place.result in
    rw (p.1, p.2) (stops (λ i xs. code_parts listing types i xs) (λ i x. instruction_bytes (instruction_written listing i (instruction_of types x))) (λ i x xs. refl) (λ i. refl)
    c.args.code.now (written_so_far c.args.object.now) (written_so_far l.object) l.place l.invariant x x _ c.loop-place-test.true c.index-code-place.is c.in_err-put_instruction.ensures)

pub loop-place-preserved : goal.loop-place-preserved
loop-place-preserved c =
    let listing = listed c.args.types.now c.args.numbering.now in
    let types = types_by_number c.args.types.now in
    let l = c.loop-place in
    let x = c.index-code-place.result in
    goes_on (λ i xs. code_parts listing types i xs) (λ i x. instruction_bytes (instruction_written listing i (instruction_of types x))) (λ i x xs. refl) (λ i. refl)
    c.args.code.now (written_so_far c.args.object.now) (written_so_far l.object) l.place l.invariant x x _ c.loop-place-test.true c.index-code-place.is c.in_ok-put_instruction.ensures

pub returns : goal.returns
returns c =
    let listing = listed c.args.types.now c.args.numbering.now in
    let types = types_by_number c.args.types.now in
    let l = c.loop-place in
    is_done (λ i xs. code_parts listing types i xs) (λ i x. instruction_bytes (instruction_written listing i (instruction_of types x))) (λ i x xs. refl) (λ i. refl)
    c.args.code.now (written_so_far c.args.object.now) (written_so_far l.object) l.place l.invariant c.loop-place-test.false
