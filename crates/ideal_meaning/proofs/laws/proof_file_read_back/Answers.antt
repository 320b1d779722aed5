use Rattle.ideal_meaning.proofs.FramesBack.{proof_file_back}
use Rattle.ideal_meaning.proofs.laws.proof_file_read_back.Goals as goal

pub returns : goal.returns
returns c = proof_file_back
