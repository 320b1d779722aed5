use Rattle.std.proofs.Common.{◌∙◌}
use Rattle.core_terms.specs.Programs.{types_of}
use Rattle.core_terms.specs.Spelling.{spelling}
use Rattle.core_terms.specs.TypeTables.{type_at}
use Rattle.printed_syntax.specs.PrintedParts.{text_in}
use Rattle.printed_syntax.proofs.CountedFronts.{whole_counted}
use Rattle.printed_syntax.proofs.printing.counts.printed_length.Goals as goal

pub returns : goal.returns
returns c = λ v shape small is.
    c.min.ensures ∙ whole_counted (spelling v) (text_in c.args.program.now (type_at (types_of c.args.program.now) c.args.ty) v) _ _ _ (c.count_value-counted.ensures.counted v shape small) is
