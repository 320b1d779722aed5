use Rattle.std.proofs.Common.{Some, None, subst, sym}
use Rattle.core_terms.specs.Programs.{types_in}
use Rattle.core_terms.specs.Instructions as meant
use Rattle.core_terms.specs.Kinds.{ways}
use Rattle.code_check.specs.KindSteps.{IsNext}
use Rattle.code_check.proofs.SteppedFrames.{unbound_next}
use Rattle.code_check.proofs.steps.unbound.Goals as goal

pub returns-in_err-locals : goal.returns-in_err-locals
returns-in_err-locals c = λ B z s h.
    subst (IsNext (types_in c.args.lists.now.types) (ways B z (meant.Unbind c.args.count) s.locals s.operands)) (sym c.from_residual.ensures)
    (unbound_next B z (types_in c.args.lists.now.types) c.args.at c.args.count None c.in_err-locals.ensures.left s h)

pub returns : goal.returns
returns c = λ B z s h. unbound_next B z (types_in c.args.lists.now.types) c.args.at c.args.count (Some c.in_ok-locals.locals) c.in_ok-locals.ensures.left s h
