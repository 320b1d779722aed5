use Rattle.std.proofs.Common.{◌∷◌, [], ◌∙◌, ap, ap₂}
use Rattle.core_terms.specs.Values.{AndV, NoV}
use Rattle.ideal_meaning.specs.Run.{join}
use Rattle.reference_run.specs.PlainValues.{plain_of, plains_of}
use Rattle.reference_run.proofs.Rows.{joined, one_more}
use Rattle.reference_run.proofs.copies.repeated.Goals as goal

pub loop-made-preserved : goal.loop-made-preserved
loop-made-preserved c =
    ap plains_of c.in_ok-push.ensures.items ∙ joined c.loop-made.copies.items (c.in_ok-copy.copy ∷ [])
    ∙ ap₂ (λ vs v. join vs (AndV v NoV)) c.loop-made.invariant c.in_ok-copy.ensures ∙ one_more c.loop-made._made (plain_of c.args.value.now)
