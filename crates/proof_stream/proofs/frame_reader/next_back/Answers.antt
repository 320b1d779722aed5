use Rattle.std.proofs.Common.{◌∷◌}
use Rattle.proof_stream.specs.TakenFrames.{TakesFrame}
use Rattle.proof_stream.proofs.Taking.{ends_with, number_ends, number_taken}
use Rattle.proof_stream.proofs.frame_reader.next_back.Goals as goal

pub returns-in_err-number-clause-takes : goal.returns-in_err-number-clause-takes
returns-in_err-number-clause-takes g c = λ limit piece bytes told.
    ends_with (TakesFrame limit (1 ∷ bytes) piece (g.S.Source.left c.read_number.new.source)) _ _ c.from_residual.ensures.1
    (number_ends limit bytes piece _ _ (c.in_err-number.ensures.came bytes told))

pub returns-clause-takes : goal.returns-clause-takes
returns-clause-takes g c = λ limit piece bytes told. number_taken limit bytes piece c.in_ok-number.number _ (c.in_ok-number.ensures.came bytes told)
