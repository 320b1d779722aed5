-- The laws of expressions: which pass, and what a fault that is told says.
use Rattle.auth_types.specs.Bodies.{elaborated}
use Rattle.auth_types.specs.BrokenRules.{Breaks}
use Rattle.auth_types.specs.TypingLaws.{PassesByTheRules, TellsWhatBreaks}
use Rattle.auth_types.proofs.Judging.{judged_sound, judged_fault}
use Rattle.auth_types.proofs.JudgedBodies.{Means, judged}
use Rattle.auth_types.proofs.RuledBodies.{passes, tells}

pub passes_by_the_rules : PassesByTheRules
passes_by_the_rules scope whole locals tree e t =
    (λ is. judged_sound (Means scope locals tree) (Breaks scope locals tree) (elaborated scope locals tree) (record { expression = e; of_type = t }) (judged scope whole locals tree) is, λ h. passes scope h)

pub tells_what_breaks : TellsWhatBreaks
tells_what_breaks scope whole locals tree kind at =
    (λ is. judged_fault (Means scope locals tree) (Breaks scope locals tree) (elaborated scope locals tree) kind at (judged scope whole locals tree) is, λ b. tells scope b)
