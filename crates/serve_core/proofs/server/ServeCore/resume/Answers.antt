use Rattle.std.proofs.Common.{refl}
use Rattle.serve_core.proofs.Steps.{without_sessions}
use Rattle.serve_core.proofs.server.ServeCore.resume.Goals as goal

pub returns-clause-serves : goal.returns-clause-serves
returns-clause-serves g c begun shares = without_sessions g.H.Hash32.hash _ begun shares c.new.ensures refl
