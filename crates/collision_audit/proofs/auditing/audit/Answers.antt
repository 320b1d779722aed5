-- The prover's run gives the outcome and what was opened, and what tells the audit by the run tells the audit.
use Rattle.std.proofs.Common.{subst}
use Rattle.core_terms.specs.Formats.{IsHash}
use Rattle.value_store.specs.Nodes.{AreSound}
use Rattle.code_gen.specs.Programs.{program_in}
use Rattle.ideal_meaning.specs.Headline.{call_values}
use Rattle.ideal_meaning.specs.Ideal.{ideal, outcome}
use Rattle.ideal_meaning.specs.Run.{state_of}
use Rattle.mode_vm.specs.Meanings.{program_of}
use Rattle.mode_vm.proofs.StateCalls.{both_stand}
use Rattle.collision_audit.proofs.Audits.{tells, truly}
use Rattle.collision_audit.proofs.auditing.audit.Goals as goal

pub prover_run-requires-clause-stand : goal.prover_run-requires-clause-stand
prover_run-requires-clause-stand g c κs within =
    let s = c.requires.stand.0 in
    let a = c.requires.stand.1 in
    (call_values s a, both_stand (program_of c.args.code.now) c.args.role.0 c.requires.role g.H.Hash32.hash (g.N.Nodes.nodes c.args.store.now) c.args.state c.args.argument s a c.requires.stand.2)

pub audit_run-requires-clause-proved : goal.audit_run-requires-clause-proved
audit_run-requires-clause-proved g c κs within =
    let s = c.requires.stand.0 in
    let a = c.requires.stand.1 in (
      outcome (ideal (program_of c.args.code.now) c.args.role.0 (call_values s a) c.args.fuel),
      c.in_ok-run.ensures.value (call_values s a)
          (both_stand (program_of c.args.code.now) c.args.role.0 c.requires.role g.H.Hash32.hash (g.N.Nodes.nodes c.args.store.now) c.args.state c.args.argument s a c.requires.stand.2),
    )

pub audit_run-requires-clause-seen : goal.audit_run-requires-clause-seen
audit_run-requires-clause-seen g c κs within =
    let s = c.requires.stand.0 in
    let a = c.requires.stand.1 in (
      state_of (ideal (program_of c.args.code.now) c.args.role.0 (call_values s a) c.args.fuel),
      c.in_ok-run.ensures.opened (call_values s a)
          (both_stand (program_of c.args.code.now) c.args.role.0 c.requires.role g.H.Hash32.hash (g.N.Nodes.nodes c.args.store.now) c.args.state c.args.argument s a c.requires.stand.2),
    )

pub returns-clause-audit : goal.returns-clause-audit
returns-clause-audit g c s a call bytes told =
    -- the law of the bound holds in every world like this one, and this one is like itself
    let is_hash : IsHash g.H.Hash32.hash = (g.met.H.Hash32 g.world.𝓛 g.world.𝓜 g.world.𝓡 ((λ s x. x), (λ x. x), (λ x. x), (λ x. x))).digest_length in
    let p = program_in c.args.code.now in
    let nodes = g.N.Nodes.nodes c.args.store.now in
    let run = ideal (program_of c.args.code.now) c.args.role.0 (call_values s a) c.args.fuel in
    let stand = both_stand (program_of c.args.code.now) c.args.role.0 c.requires.role g.H.Hash32.hash nodes c.args.state c.args.argument s a call in
    tells g.H.Hash32.hash is_hash p c.args.role.0 c.requires.role nodes (subst (λ n. AreSound n nodes) c.requires.limit.is (g.met.N.Nodes.sound c.args.store.now)) c.args.state c.args.argument s a call c.args.fuel bytes c.audit_run.result
    (c.audit_run.ensures.tells (outcome run) (state_of run) (c.in_ok-run.ensures.value (call_values s a) stand) (c.in_ok-run.ensures.opened (call_values s a) stand) bytes told)

pub returns-clause-headline : goal.returns-clause-headline
returns-clause-headline g c s a call bytes told =
    let is_hash : IsHash g.H.Hash32.hash = (g.met.H.Hash32 g.world.𝓛 g.world.𝓜 g.world.𝓡 ((λ s x. x), (λ x. x), (λ x. x), (λ x. x))).digest_length in
    let p = program_in c.args.code.now in
    let nodes = g.N.Nodes.nodes c.args.store.now in
    let run = ideal (program_of c.args.code.now) c.args.role.0 (call_values s a) c.args.fuel in
    let stand = both_stand (program_of c.args.code.now) c.args.role.0 c.requires.role g.H.Hash32.hash nodes c.args.state c.args.argument s a call in
    truly g.H.Hash32.hash is_hash p c.args.role.0 c.requires.role nodes (subst (λ n. AreSound n nodes) c.requires.limit.is (g.met.N.Nodes.sound c.args.store.now)) c.args.state c.args.argument s a call c.args.fuel bytes c.audit_run.result
    (c.audit_run.ensures.tells (outcome run) (state_of run) (c.in_ok-run.ensures.value (call_values s a) stand) (c.in_ok-run.ensures.opened (call_values s a) stand) bytes told)
