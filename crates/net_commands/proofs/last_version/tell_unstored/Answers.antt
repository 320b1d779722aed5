use Rattle.std.proofs.Common.{sym, subst}
use Rattle.net_commands.specs.ServeSteps.{IsUnstoredTold}
use Rattle.net_commands.proofs.ServeStored.{told_unstored}
use Rattle.net_commands.proofs.last_version.tell_unstored.Goals as goal

pub returns-in-Done-default : goal.returns-in-Done-default
returns-in-Done-default g c =
    subst (λ told. IsUnstoredTold told c.args.fault c.tell.result (g.O.Sink.written c.args.out.now) (g.O.Sink.written c.tell.new.out) (g.O.Sink.faults c.args.out.now) (g.O.Sink.faults c.tell.new.out)) (sym c.in-Done-default.is-0)
    (told_unstored c.args.fault c.from.result c.tell.result _ _ _ _ c.from.ensures c.tell.ensures)
