use Rattle.core_terms.proofs.LawProofs.{reading_is_exact, one_is_spelled, none_is_prefix, size_is_length}
use Rattle.core_terms.proofs.laws.spelling.Goals as goal

pub returns : goal.returns
returns c = record { exact = reading_is_exact; one = one_is_spelled; prefix = none_is_prefix; size = size_is_length }
