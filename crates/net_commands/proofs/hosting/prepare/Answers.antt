use Rattle.std.proofs.Common.{refl, ap, sym, subst, ◌∙◌}
use Rattle.code_gen.specs.Programs.{program_in}
use Rattle.command_parts.specs.Answer.{serving_of}
use Rattle.command_parts.specs.ReadPrograms.{digested_of}
use Rattle.net_commands.specs.PreparedServers.{IsPrepared, numbers_of}
use Rattle.net_commands.specs.declared.serving.PreparedServer.{PreparedServer}
use Rattle.net_commands.proofs.HostReading.{host_prepared, server_prepared}
use Rattle.net_commands.proofs.hosting.prepare.Goals as goal

pub returns : goal.returns
returns c = record {
  prepared = λ name disk disk' is.
      let numbers = c.args.numbers in
      let stands = is.stands in
      let core = c.resume-core in
      let held = sym c.in_ok-server.ensures.ok in
      host_prepared c.args.code numbers name disk disk' c.args.opened _ is refl
      (ap (λ (server : PreparedServer). server.core.shared) c.in_ok-server.ensures.ok ∙ core.ensures.shared)
      (subst (λ server. IsPrepared server (serving_of (digested_of (program_in c.args.code)) (numbers_of numbers) stands.same)) held
      (server_prepared c.args.code numbers c.args.opened.shared stands.same stands.first stands.made _ stands.versions stands.begun stands.shares core.ensures.code core.ensures.slice
      core.ensures.shared refl refl c.in_ok-greeting.ensures (core.ensures.serves stands.same stands.shares)));
}
