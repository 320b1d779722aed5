use Rattle.std.proofs.Common.{◌∙◌, ◌+◌, [], ◌∷◌, ap, map, option_map, sym, arith}
use Rattle.std.proofs.lemmas.List.{length-map, map-append}
use Rattle.core_terms.specs.Programs.{constructor_names, meaning}
use Rattle.ask_script.specs.Scripts.{Fits, lines_of}
use Rattle.ask_script.specs.ScriptAnswers.{step_meant}
use Rattle.ask_script.proofs.FittingSteps.{of_elements, script_fits}
use Rattle.ask_script.proofs.ReadScripts.{begin, behind, blank_line, faulty_line, last_line, step_line}
use Rattle.ask_script.proofs.script.read_script.Goals as goal

pub loop-above-init : goal.loop-above-init
loop-above-init c =
    let P = meaning c.args.program.now in
    let names = constructor_names c.args.program.now.types.named.items in
    begin P names (lines_of c.args.text.now)
    ∙ ap (behind P names [] 0) (sym (ap (map (λ line. line.now)) c.deref-line-items.ensures.value ∙ c.in_ok-lines.ensures))
    ∙ ap (λ steps. behind P names (map step_meant steps) 0 (map (λ line. line.now) c.deref-line-items.result.now)) (sym c.new-steps.ensures.items)

pub loop-above-preserved-then-is_blank_line : goal.loop-above-preserved-then-is_blank_line
loop-above-preserved-then-is_blank_line c =
    c.loop-above.invariant
    ∙ blank_line (meaning c.args.program.now) (constructor_names c.args.program.now.types.named.items) c.deref-line-items.result.now c.loop-above.above
    _ c.loop-above-test.true (map step_meant c.loop-above.steps.items) (sym c.if-is_blank_line.ensures)

pub loop-above-preserved : goal.loop-above-preserved
loop-above-preserved c =
    let P = meaning c.args.program.now in
    let names = constructor_names c.args.program.now.types.named.items in
    c.loop-above.invariant
    ∙ step_line P names c.deref-line-items.result.now c.loop-above.above _ c.loop-above-test.true (map step_meant c.loop-above.steps.items) (step_meant c.in-Some.step)
    (sym c.if-is_blank_line.ensures) (sym c.in_ok-step.ensures ∙ ap (option_map step_meant) c.in-Some.is)
    ∙ ap (λ steps. behind P names steps (c.loop-above.above + 1) (map (λ line. line.now) c.deref-line-items.result.now))
    (sym (ap (map step_meant) c.in_ok-push-in-Some.ensures.items ∙ map-append step_meant c.loop-above.steps.items (c.in-Some.step ∷ [])))

pub returns-in-None-clause-script : goal.returns-in-None-clause-script
returns-in-None-clause-script c =
    c.loop-above.invariant
    ∙ faulty_line (meaning c.args.program.now) (constructor_names c.args.program.now.types.named.items) c.deref-line-items.result.now c.loop-above.above
    _ c.loop-above-test.true (map step_meant c.loop-above.steps.items)
    (sym c.if-is_blank_line.ensures) (sym c.in_ok-step.ensures ∙ ap (option_map step_meant) c.in-None.is)

pub returns-clause-script : goal.returns-clause-script
returns-clause-script c =
    let same = length-map c.deref-line-items.result.now (λ line. line.now) in
    let end = c.loop-above-test.false in
    c.loop-above.invariant
    ∙ last_line (meaning c.args.program.now) (constructor_names c.args.program.now.types.named.items) (map step_meant c.loop-above.steps.items)
    (map (λ line. line.now) c.deref-line-items.result.now) c.loop-above.above (omega (arith, same, end))

pub returns-clause-fits : goal.returns-clause-fits
returns-clause-fits c =
    let P = meaning c.args.program.now in
    of_elements (Fits P) step_meant c.loop-above.steps.items
    (script_fits P (constructor_names c.args.program.now.types.named.items) 1 (lines_of c.args.text.now) (map step_meant c.loop-above.steps.items)
    (returns-clause-script c))
