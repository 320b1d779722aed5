use Rattle.core_terms.specs.Programs.{types_of}
use Rattle.core_terms.specs.Spelling.{spelling}
use Rattle.core_terms.specs.TypeTables.{type_at}
use Rattle.printed_syntax.specs.PrintedParts.{text_in}
use Rattle.printed_syntax.proofs.PrintedFronts.{whole_printed}
use Rattle.printed_syntax.proofs.printing.print_value.Goals as goal

pub returns : goal.returns
returns c = λ v shape small.
    whole_printed (spelling v) (text_in c.args.program.now (type_at (types_of c.args.program.now) c.args.ty) v) _ _ _ _ c.in_ok-text.ensures.items
    (c.in_ok-push_value.ensures.printed v shape small)
