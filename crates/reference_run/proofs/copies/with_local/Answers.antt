use Rattle.std.proofs.Common.{◌∷◌, [], ◌∙◌, ap}
use Rattle.core_terms.specs.Values.{AndV, NoV}
use Rattle.ideal_meaning.specs.Run.{join}
use Rattle.reference_run.specs.PlainValues.{plain_of, plains_of}
use Rattle.reference_run.proofs.Rows.{joined}
use Rattle.reference_run.proofs.copies.with_local.Goals as goal

pub returns : goal.returns
returns c =
    ap plains_of c.in_ok-push.ensures.items ∙ joined c.in_ok-all.all.items (c.args.value ∷ [])
    ∙ ap (λ vs. join vs (AndV (plain_of c.args.value) NoV)) c.in_ok-all.ensures
