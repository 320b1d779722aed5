use Rattle.std.proofs.Common.{◌∙◌, ap}
use Rattle.ideal_meaning.specs.Run.{join}
use Rattle.reference_run.specs.PlainValues.{plains_of}
use Rattle.reference_run.proofs.Rows.{joined}
use Rattle.reference_run.proofs.copies.with_locals.Goals as goal

pub returns : goal.returns
returns c =
    ap plains_of c.in_ok-append.ensures.items ∙ joined c.in_ok-all.all.items c.args.more.items ∙ ap (λ vs. join vs (plains_of c.args.more.items)) c.in_ok-all.ensures
