use Rattle.core_terms.proofs.LawProofs.{typing_test_is_exact, shape_test_is_exact}
use Rattle.core_terms.proofs.laws.typing.Goals as goal

pub returns : goal.returns
returns c = record { types = typing_test_is_exact; shapes = shape_test_is_exact }
