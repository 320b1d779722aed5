use Rattle.std.proofs.Common.{ap, arith}
use Rattle.reuse_buffer.specs.Kept.{Kept}
use Rattle.reuse_buffer.proofs.ring.Ring.held.Goals as goal

pub returns-clause-within : goal.returns-clause-within
returns-clause-within c = let size = ap (λ (kept : Kept). kept.size) c.self.view_is in omega (arith, size, c.self.invariant.1.within)

pub returns-clause-small : goal.returns-clause-small
returns-clause-small c = omega (arith, c.self.invariant.0.small, c.self.invariant.1.within)
