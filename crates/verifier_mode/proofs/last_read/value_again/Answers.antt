use Rattle.std.proofs.Common.{◌≡◌, ◌∙◌, true, bytes_eq, sym, ap, subst, eqb-true}
use Rattle.verifier_mode.specs.LastReads.{KnowsLast}
use Rattle.verifier_mode.proofs.LastReads.{again}
use Rattle.verifier_mode.proofs.last_read.value_again.Goals as goal

pub returns-then-eq-2 : goal.returns-then-eq-2
returns-then-eq-2 c types nodes knows =
    let last = c.in-Some.last in
    let same : bytes_eq last.piece.items c.args.piece.now ≡ true = ap (λ s. bytes_eq s c.args.piece.now) (sym c.as_slice.ensures.value) ∙ sym c.eq-then-eq.ensures ∙ c.if-eq-2.true in
    let same_type : last.ty ≡ c.args.ty = ap (λ n. record { 0 = n }) (eqb-true last.ty.0 c.args.ty.0 (sym c.eq.ensures ∙ c.if-eq.true)) in
    again types nodes last.ty c.args.ty last.piece.items c.args.piece.now last.value same_type same (subst (λ o. KnowsLast types nodes o) c.in-Some.is knows)
