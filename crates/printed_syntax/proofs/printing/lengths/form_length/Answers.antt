use Rattle.printed_syntax.proofs.BareTypes.{array_known, pair_known}
use Rattle.printed_syntax.proofs.printing.lengths.form_length.Goals as goal

pub returns-in-PairForm : goal.returns-in-PairForm
returns-in-PairForm c =
    pair_known c.args.lengths.now c.args.form _ _ _ c.in-PairForm.is (rw (c.known_length.ensures, c.known_length-in-PairForm.ensures) at c.bare_pair.ensures)

pub returns-in-VecForm : goal.returns-in-VecForm
returns-in-VecForm c = array_known c.args.lengths.now c.args.form _ _ _ c.in-VecForm.is (rw c.known_length-in-VecForm.ensures at c.bare_array.ensures)
