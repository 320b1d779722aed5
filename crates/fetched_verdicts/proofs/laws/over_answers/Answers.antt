use Rattle.std.proofs.Common.{sym}
use Rattle.fetched_verdicts.proofs.GivenAnswers.{verdict_given}
use Rattle.fetched_verdicts.proofs.ReplayedAnswers.{over_given}
use Rattle.fetched_verdicts.proofs.laws.over_answers.Goals as goal

pub returns : goal.returns
returns c = λ hash P get t f state argument k.
    let g = over_given hash P get t f state argument k in
    ((g.answers, g.given, g.same), λ store answers given. sym (verdict_given hash get store P f k answers t state argument given))
