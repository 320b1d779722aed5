use Rattle.std.proofs.Common.{slice_get, subst, sym}
use Rattle.core_terms.specs.Programs.{types_in}
use Rattle.code_check.specs.TypeLists.{IsThere}
use Rattle.code_check.proofs.SpansOfTypes.{first_left, none_left, nothing_at}
use Rattle.code_check.proofs.lists.at.Goals as goal

pub returns-in_err-rest-clause-there : goal.returns-in_err-rest-clause-there
returns-in_err-rest-clause-there c = λ ts h.
    subst (IsThere (types_in c.args.lists.now.types) (slice_get ts c.args.place)) (sym c.from_residual.ensures)
    (nothing_at (types_in c.args.lists.now.types) c.args.place ts (c.in_err-rest.ensures.left ts h))

pub returns-in_err-top-clause-there : goal.returns-in_err-top-clause-there
returns-in_err-top-clause-there c = λ ts h.
    subst (IsThere (types_in c.args.lists.now.types) (slice_get ts c.args.place)) (sym c.from_residual-in_err-top.ensures)
    (none_left (types_in c.args.lists.now.types) c.args.place ts c.in_ok-rest.rest (c.in_ok-rest.ensures.left ts h) c.in_err-top.ensures.top)

pub returns-clause-there : goal.returns-clause-there
returns-clause-there c = λ ts h.
    first_left (types_in c.args.lists.now.types) c.args.place ts c.in_ok-rest.rest c.in_ok-top.top (c.in_ok-rest.ensures.left ts h) c.in_ok-top.ensures.top
