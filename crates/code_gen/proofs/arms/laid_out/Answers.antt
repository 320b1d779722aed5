use Rattle.std.proofs.Common.{◌+◌, ◌-◌, length, sym, ap, ◌∙◌, map}
use Rattle.std.proofs.lemmas.List.{length-map}
use Rattle.core_terms.specs.Programs.{types_of}
use Rattle.core_terms.specs.InstructionViews.{instruction_of, instructions_of}
use Rattle.core_terms.specs.GeneratedCode as meant
use Rattle.code_gen.proofs.Rows.{all_before}
use Rattle.code_gen.proofs.Layouts.{end_of, length_laid, one_placed}
use Rattle.code_gen.proofs.arms.laid_out.Goals as goal

pub loop-arm-preserved : goal.loop-arm-preserved
loop-arm-preserved c =
    let T = types_of c.args.program.now in
    one_placed (λ v. instructions_of T v.items) c.args.arms.now c.loop-arm.arm-index _ c.arm-item.result c.loop-arm.places.items c.push.new.self.items c.loop-arm.end _ _
    c.loop-arm-test.true (sym c.arm-item.is) (length-map c.arm-item.result.items (instruction_of T)) c.loop-arm.invariant c.in_ok-push.ensures.items
    (c.in_ok-next.ensures ∙ ap (λ l. c.loop-arm.end + (length l + 1)) c.deref.ensures.value)

pub returns : goal.returns
returns c =
    let T = types_of c.args.program.now in
    let all = all_before c.args.arms.now c.loop-arm.arm-index c.loop-arm-test.false in (
      c.loop-arm.invariant.0 ∙ ap (λ l. meant.places 0 (map (λ v. instructions_of T v.items) l)) all,
      c.saturating_sub.ensures ∙ ap (λ n. n - 1) (c.loop-arm.invariant.1 ∙ ap (λ l. end_of (map (λ v. instructions_of T v.items) l)) all)
          ∙ sym (length_laid (map (λ v. instructions_of T v.items) c.args.arms.now)),
    )
