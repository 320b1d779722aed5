use Rattle.call_commands.proofs.ClientStates.{stores_the_clients_state}
use Rattle.call_commands.proofs.laws.shallow_stores_the_clients_state.Goals as goal

pub returns : goal.returns
returns c = stores_the_clients_state
