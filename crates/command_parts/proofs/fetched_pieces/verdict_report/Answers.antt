use Rattle.std.proofs.Common.{IfErr, subst}
use Rattle.command_parts.specs.FetchedCalls.{IsNoFault}
use Rattle.command_parts.proofs.fetched_pieces.verdict_report.Goals as goal

pub verdict_halt-requires : goal.verdict_halt-requires
verdict_halt-requires c = subst (λ judged. IfErr judged IsNoFault) c.in-Err.is c.requires.no_fault
