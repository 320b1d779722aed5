use Rattle.std.proofs.Common.{◌-◌, ◌++◌, length, map, sym, ap, ◌∙◌, arith}
use Rattle.std.specs.Vec.Iter.{into_iter_items}
use Rattle.std.proofs.lemmas.List.{length-map}
use Rattle.core_terms.specs.Programs.{types_of}
use Rattle.core_terms.specs.InstructionViews.{instruction_of, instructions_of}
use Rattle.core_terms.specs.GeneratedCode.{jump_code, laid}
use Rattle.code_gen.proofs.Layouts.{arm_fits, left_later, one_laid}
use Rattle.code_gen.proofs.arms.lay.Goals as goal

pub lay_arm-requires : goal.lay_arm-requires
lay_arm-requires c =
    let at = c.loop-arm in
    let T = types_of c.args.program.now in
    let x = c.in-Some.arm in
    let later = map (λ v. instructions_of T v.items) (into_iter_items c.next.new.self) in
    let left = at.invariant.1 ∙ ap (λ l. length (laid (map (λ v. instructions_of T v.items) l))) c.in-Some.ensures.steps.0 in
    omega (arith, left, arm_fits (instructions_of T x.items) later, length-map x.items (instruction_of T))

pub loop-arm-preserved : goal.loop-arm-preserved
loop-arm-preserved c =
    let at = c.loop-arm in
    let T = types_of c.args.program.now in
    let x = c.in-Some.arm in
    let arm = instructions_of T x.items in
    let later = map (λ v. instructions_of T v.items) (into_iter_items c.next.new.self) in
    let steps = ap (map (λ v. instructions_of T v.items)) c.in-Some.ensures.steps.0 in
    let left = at.invariant.1 ∙ ap (λ l. length (laid l)) steps in
    let start = instructions_of T c.args.code.now.items in
    let now = instructions_of T at.code.items in
    let count = sym (length-map x.items (instruction_of T)) in (
      let was = at.invariant.0 in
          let gone = c.in-Some.ensures.steps.1 in
          let short = ap length c.in-Some.ensures.steps.0 in
          omega arith,
      c.in_ok-left.ensures.later ∙ ap (λ n. at.left - n - 1) count ∙ left_later arm later at.left left,
      one_laid start now (instructions_of T c.lay_arm.new.code.items) arm later _ at.left
          (ap (λ l. now ++ laid l) (sym steps) ∙ at.invariant.2) left (c.in_ok-left.ensures.code ∙ ap (λ n. (now ++ arm) ++ jump_code (at.left - n)) count),
    )
