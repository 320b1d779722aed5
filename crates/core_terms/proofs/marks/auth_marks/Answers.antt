use Rattle.core_terms.specs.Programs.{types_in}
use Rattle.core_terms.proofs.AuthLevels.{are_auth_marks}
use Rattle.core_terms.proofs.marks.auth_marks.Goals as goal

pub returns : goal.returns
returns c =
    are_auth_marks (types_in c.args.types.now) c.args.named.now c.in_ok-opened.opened.items c.in_ok-marks.marks.items c.in_ok-opened.ensures
    c.in_ok-marks.ensures.length (rw c.deref.ensures.value at c.in_ok-marks.ensures.marks)
