use Rattle.definition_rows.proofs.EndRows.{end_rows}
use Rattle.definition_rows.proofs.HeadlineRows.{headline_rows}
use Rattle.definition_rows.proofs.RingRows.{ring_rows}
use Rattle.definition_rows.proofs.VerdictRows.{verdict_rows}
use Rattle.definition_rows.proofs.PieceRows.{piece_rows}
use Rattle.definition_rows.proofs.CauseRows.{cause_rows}
use Rattle.definition_rows.proofs.FetchedRows.{fetched_rows}
use Rattle.definition_rows.proofs.IntRows.{int_rows}
use Rattle.definition_rows.proofs.PartRows.{part_rows}
use Rattle.definition_rows.proofs.ideal_meaning_rows.Goals as goal

pub returns : goal.returns
returns c = record { ends = end_rows; headline = headline_rows; ring = ring_rows; verdicts = verdict_rows; pieces = piece_rows; causes = cause_rows; fetched = fetched_rows; ints = int_rows; parts = part_rows }
