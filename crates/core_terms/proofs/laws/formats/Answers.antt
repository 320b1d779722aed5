use Rattle.core_terms.proofs.LawProofs.{first_format_is_format, formats_are_the_two, second_format_is_format}
use Rattle.core_terms.proofs.laws.formats.Goals as goal

pub returns : goal.returns
returns c = record { first = first_format_is_format; second = second_format_is_format; each = formats_are_the_two }
