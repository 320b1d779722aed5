use Rattle.library_programs.proofs.ReadTexts.{bst_is_read, merkle_is_read, redblack_is_read, skiplist_is_read}
use Rattle.library_programs.proofs.laws.texts.Goals as goal

pub returns : goal.returns
returns c = record { bst = bst_is_read; merkle = merkle_is_read; redblack = redblack_is_read; skiplist = skiplist_is_read }
