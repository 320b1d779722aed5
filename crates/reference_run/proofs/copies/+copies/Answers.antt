use Rattle.std.proofs.Common.{◌∷◌, ◌∙◌, [], sym, ap, ap₂, take}
use Rattle.std.proofs.lemmas.List.{take_more}
use Rattle.core_terms.specs.Values.{AndV, NoV}
use Rattle.ideal_meaning.specs.Run.{join}
use Rattle.reference_run.specs.PlainValues.{plain_of, plains_of}
use Rattle.reference_run.proofs.Rows.{joined}
use Rattle.reference_run.proofs.copies.+copies.Goals as goal

pub all_copied-loop-value-preserved : goal.all_copied-loop-value-preserved
all_copied-loop-value-preserved t c =
    let values = c.args.values.now in
    let i = c.loop-value.value-index in
    ap plains_of c.in_ok-push.ensures.items ∙ joined c.loop-value.copies.items (c.in_ok-copy.copy ∷ [])
    ∙ ap₂ (λ vs v. join vs (AndV v NoV)) c.loop-value.invariant (c.in_ok-copy.ensures ∙ ap plain_of c.value-item.is)
    ∙ sym (ap plains_of (take_more values i c.value-item.result c.loop-value-test.true) ∙ joined (take i values) _)
