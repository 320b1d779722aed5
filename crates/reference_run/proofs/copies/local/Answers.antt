use Rattle.std.proofs.Common.{ap, sym}
use Rattle.ideal_meaning.specs.Run.{Gives}
use Rattle.reference_run.proofs.copies.local.Goals as goal

pub returns : goal.returns
returns c = λ k seen. (seen, ap (λ v. Gives v k seen) (sym c.in_ok-value_at.ensures))
