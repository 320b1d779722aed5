use Rattle.script_play.proofs.Runs.{plays_tell_truth}
use Rattle.script_play.proofs.laws.plays_tell_truth.Goals as goal

pub returns : goal.returns
returns c = plays_tell_truth c.client_run.ensures
