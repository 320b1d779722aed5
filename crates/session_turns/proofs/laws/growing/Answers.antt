use Rattle.session_turns.proofs.Sharing.{first_stay, versions_stay}
use Rattle.session_turns.proofs.laws.growing.Goals as goal

pub returns : goal.returns
returns c = record { versions = versions_stay; calls = λ from old new own grows within. first_stay from old new own within grows }
