use Rattle.core_terms.specs.Roles.{argument_type}
use Rattle.core_terms.specs.Terms.{function_at}
use Rattle.ideal_meaning.specs.Checked as checked
use Rattle.ideal_meaning.specs.Ideal as ideal
use Rattle.mode_vm.specs.Meanings.{program_of}
use Rattle.workloads.specs.Workloads.{call_fuel, outcome_of}
use Rattle.workloads.proofs.VerifiedFiles.{accepted_by, no_refusal}
use Rattle.workloads.proofs.calls.verified.Goals as goal

pub want_of_memory-requires : goal.want_of_memory-requires
want_of_memory-requires g c =
    let hash = g.H.Hash32.hash in
    let P = program_of c.args.code.now in
    let f = c.args.role.0 in
    let t = (function_at P f).result in
    let h = c.requires.accepted in
    let verdict = checked.verdict hash P (argument_type P f) f c.args.state c.args.argument call_fuel c.args.file.items in
    let accepted = accepted_by hash P f h.0 h.1 c.args.state c.args.argument c.args.file.items h.2 h.3 h.4 in
    no_refusal P t verdict (ideal.outcome_projection hash P t (outcome_of P f h.0 h.1)) accepted c.in-Err.refusal c.in-Err.ensures.refused c.in-Err.ensures.cause
