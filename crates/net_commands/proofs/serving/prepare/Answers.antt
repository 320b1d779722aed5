use Rattle.std.proofs.Common.{sym, subst}
use Rattle.code_gen.specs.Programs.{program_in}
use Rattle.command_parts.specs.Answer.{first_shared, serving_of}
use Rattle.net_commands.specs.PreparedServers.{IsPrepared, numbers_of}
use Rattle.command_parts.specs.ReadPrograms.{digested_of}
use Rattle.net_commands.proofs.serving.prepare.Goals as goal

pub returns : goal.returns
returns c = λ v stands.
    subst (λ server. IsPrepared server (serving_of (digested_of (program_in c.args.code)) (numbers_of c.args.beginning.numbers) (first_shared v))) (sym c.in_ok-new.ensures.ok)
    (c.in_ok-server.ensures v stands)
