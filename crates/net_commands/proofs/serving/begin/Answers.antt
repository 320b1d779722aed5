use Rattle.std.proofs.Common.{ℕ, refl, ap, sym, subst}
use Rattle.code_gen.specs.Programs.{program_in}
use Rattle.value_store.specs.Nodes.{AreSound}
use Rattle.value_store.specs.Stores.{nodes_in}
use Rattle.command_parts.specs.ReadPrograms.{digested_of}
use Rattle.net_commands.proofs.ServePrepared.{first_served, first_version}
use Rattle.net_commands.proofs.serving.begin.Goals as goal

pub returns : goal.returns
returns c = λ v h.
    let core = c.in_ok-core.core in
    let serves = c.in_ok-core.ensures.serves v h.limit h.stands in record {
      program = ap (λ code. digested_of (program_in code)) c.in_ok-core.ensures.code;
      slice = c.in_ok-core.ensures.slice;
      port = refl;
      links = refl;
      greeting = c.in_ok-greeting.ensures;
      serves = serves;
      some = first_version core v serves;
      served = first_served core c.args.code c.in_ok-core.ensures.code (nodes_in c.args.beginning.state.store)
          (subst (λ (limit : ℕ). AreSound limit (nodes_in c.args.beginning.state.store)) h.limit.is c.args.beginning.state.store.sound) c.args.beginning.state.root v h.stands serves;
    }
