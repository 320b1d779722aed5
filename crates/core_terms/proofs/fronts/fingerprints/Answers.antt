use Rattle.std.proofs.Common.{◌∙◌, ap, ap₂}
use Rattle.core_terms.specs.Fronts.{print_of_form}
use Rattle.core_terms.proofs.Fingerprints.{one_more}
use Rattle.core_terms.proofs.fronts.fingerprints.Goals as goal

pub loop-number-preserved : goal.loop-number-preserved
loop-number-preserved g c =
    let hash = g.H.Hash32.hash in
    one_more hash c.args.types.now c.loop-number.number c.loop-number.prints.items c.push.new.self.items c.loop-number.invariant c.form.result c.in_ok-print.print
    c.form.ensures.parts c.form.ensures.form
    (c.in_ok-print.ensures ∙ ap₂ (λ d ps. print_of_form hash d ps c.form.result) (c.of-declared.ensures ∙ ap hash (c.deref.ensures.value ∙ c.in_ok-text.ensures)) c.deref-in-loop-number.ensures.value) c.in_ok-push.ensures.items
