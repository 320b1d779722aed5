use Rattle.std.proofs.Common.{List, ℕ, ◌++◌, ap, ◌∙◌}
use Rattle.call_commands.proofs.prove_call.proof_report.Goals as goal

pub returns-clause-reports : goal.returns-clause-reports
returns-clause-reports c = λ o told.
    let text = c.in_ok-report.report.text.items in (
      text,
      c.in_ok-report.ensures.tells o told,
      c.in_ok-extend_from_slice.ensures.items ∙ ap (λ (line : List ℕ). text ++ line) (c.deref.ensures.value ∙ c.in_ok-line.ensures),
    )
