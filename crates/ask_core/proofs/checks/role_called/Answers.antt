use Rattle.std.proofs.Common.{true, ap}
use Rattle.core_terms.specs.RoleViews.{role_kind_of}
use Rattle.session_meaning.specs.Calls.{reads_state}
use Rattle.ask_core.proofs.Called.{at_place, no_role_reads, past_place, reads_so, same_role, shape_at}
use Rattle.ask_core.proofs.checks.role_called.Goals as goal

pub returns-in-Query-clause-shape : goal.returns-in-Query-clause-shape
returns-in-Query-clause-shape c =
    shape_at c.args.program.now c.roles.result.now c.args.number c.in-Some.role.now c.roles.ensures.roles c.roles.ensures.shapes
    (at_place c.roles.result.now c.from.result c.args.number c.in-Some.role.now c.from.ensures c.in-Some.ensures.lookup.0 c.in-Some.ensures.lookup.1)

pub returns-in-Update-clause-called : goal.returns-in-Update-clause-called
returns-in-Update-clause-called c =
    let p = c.args.program.now in
    let roles = c.roles.result.now in
    let role = c.in-Some.role.now in
    let there = at_place roles c.from.result c.args.number role c.from.ensures c.in-Some.ensures.lookup.0 c.in-Some.ensures.lookup.1 in
    (same_role p roles c.args.number role c.roles.ensures.roles there, reads_so p roles c.args.number role c.roles.ensures.roles there true (ap (λ k. reads_state (role_kind_of k)) c.in-Update.is))

pub returns-in-Update-clause-shape : goal.returns-in-Update-clause-shape
returns-in-Update-clause-shape c =
    shape_at c.args.program.now c.roles.result.now c.args.number c.in-Some.role.now c.roles.ensures.roles c.roles.ensures.shapes
    (at_place c.roles.result.now c.from.result c.args.number c.in-Some.role.now c.from.ensures c.in-Some.ensures.lookup.0 c.in-Some.ensures.lookup.1)

pub returns-in-None-clause-called : goal.returns-in-None-clause-called
returns-in-None-clause-called c =
    no_role_reads c.args.program.now c.roles.result.now c.args.number c.roles.ensures.roles
    (past_place c.roles.result.now c.from.result c.args.number c.from.ensures c.in-None.ensures.lookup.0)
