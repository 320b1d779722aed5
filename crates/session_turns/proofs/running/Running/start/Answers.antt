use Rattle.session_turns.proofs.Turns.{begun}
use Rattle.session_turns.proofs.running.Running.start.Goals as goal

pub returns-clause-starts : goal.returns-clause-starts
returns-clause-starts g c base role s a h is =
    begun g.H.Hash32.hash c.args.code.now base c.args.granted role s a c.args.version c.in_ok-proving.proving c.args.fuel h is c.in_ok-proving.ensures
