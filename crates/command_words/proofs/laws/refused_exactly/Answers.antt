use Rattle.command_words.proofs.Judging.{refused_exactly as by_clap}
use Rattle.command_words.proofs.laws.refused_exactly.Goals as goal

pub returns : goal.returns
returns c = by_clap
