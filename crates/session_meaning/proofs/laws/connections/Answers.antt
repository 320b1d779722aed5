use Rattle.session_meaning.proofs.ConnectionRun.{connections_are_heard}
use Rattle.session_meaning.proofs.laws.connections.Goals as goal

pub returns : goal.returns
returns c = connections_are_heard
