use Rattle.std.proofs.Common.{sym, subst}
use Rattle.core_terms.specs.Programs.{types_in}
use Rattle.code_check.specs.KnownTypes.{IsKnown}
use Rattle.code_check.proofs.KnownOnce.{stays, clashes, same_frame, other_frame}
use Rattle.code_check.proofs.known.met.Goals as goal

pub returns-then-eq : goal.returns-then-eq
returns-then-eq c = λ k s h w.
    stays (types_in c.args.lists.now.types) c.in-Reached.other c.args.at (same_frame c.in-Reached.other c.args.at (sym c.if-eq.ensures)) k s
    (subst (λ known. IsKnown (types_in c.args.lists.now.types) known k) c.in-Reached.is h) w

pub returns-else-eq : goal.returns-else-eq
returns-else-eq c = λ k s h w.
    clashes (types_in c.args.lists.now.types) c.in-Reached.other c.args.at c.args.lists.now.types.one_number (other_frame c.in-Reached.other c.args.at (sym c.if-eq.ensures)) k s
    (subst (λ known. IsKnown (types_in c.args.lists.now.types) known k) c.in-Reached.is h) w
