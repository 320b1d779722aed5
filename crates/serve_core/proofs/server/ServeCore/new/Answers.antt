use Rattle.std.proofs.Common.{refl}
use Rattle.mode_vm.specs.Meanings.{program_of}
use Rattle.session_meaning.specs.Server as meant
use Rattle.serve_core.proofs.Steps.{without_sessions}
use Rattle.serve_core.proofs.server.ServeCore.new.Goals as goal

pub returns-clause-serves : goal.returns-clause-serves
returns-clause-serves g c v limit is =
    without_sessions g.H.Hash32.hash _ (meant.new_server v).shared (c.in_ok-new.ensures g.H.Hash32.hash (program_of c.args.code) v limit is) c.new-2.ensures refl
