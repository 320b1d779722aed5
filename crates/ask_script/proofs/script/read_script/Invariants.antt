use Rattle.std.proofs.Common.{◌≡◌, map}
use Rattle.core_terms.specs.Programs.{constructor_names, meaning}
use Rattle.ask_script.specs.Scripts.{script_of}
use Rattle.ask_script.specs.ScriptAnswers.{step_meant}
use Rattle.ask_script.proofs.ReadScripts.{behind}
use Rattle.ask_script.proofs.script.read_script.Given as goal

-- the script is the steps so far, and what the lines from here on ask for
abbrev pub invariant-loop-above : goal.invariant-loop-above
invariant-loop-above l =
    let P = meaning l.program in
    let names = constructor_names l.program.types.named.items in
    script_of P names l.text ≡ behind P names (map step_meant l.steps.items) l.above (map (λ line. line.now) l.line-items)
