use Rattle.std.proofs.Common.{Bor, Err, sym, ap, ◌∙◌, subst, option_map}
use Rattle.core_terms.specs.Programs.{meaning, types_of}
use Rattle.core_terms.specs.RoleViews.{role_kind_of}
use Rattle.core_terms.specs.RoleTypes.{role_function}
use Rattle.core_terms.specs.TypeTables.{type_at}
use Rattle.core_terms.specs.declared.roles.RoleId.{RoleId}
use Rattle.core_terms.specs.declared.roles.Role.{Role}
use Rattle.command_parts.specs.RoleInputs.{with_role}
use Rattle.command_parts.specs.Halting.{StepGives, InHand}
use Rattle.command_parts.proofs.RoleShapes.{kind_is, role_goes, role_has_shape, role_is_named, role_refused}
use Rattle.command_parts.proofs.roles.role_named.Goals as goal

pub returns-then-calls-clause-goes : goal.returns-then-calls-clause-goes
returns-then-calls-clause-goes c = λ go.
    let p = c.args.program.now in
    let P = meaning p in
    let role = c.index-roles-id.result in
    let n = c.in_ok-id.id.0 in
    let found = sym (ap (option_map (λ (id : RoleId). role_function P id.0)) c.in_ok-id.ensures.ok_part) ∙ c.role.ensures in
    let named = role_is_named p c.args.name.now n c.roles.result.now c.roles.ensures.roles found role _ c.index-roles-id.is in
    let shape = role_has_shape p c.args.name.now n c.roles.result.now c.roles.ensures.roles found role _ c.index-roles-id.is c.roles.ensures.shapes in
    role_goes c.args.callee P c.args.name.now role.function.0 (role_kind_of role.kind) named (kind_is P role.function.0 (role_kind_of role.kind) (type_at (types_of p) role.argument) shape.0 shape.1) go
    (sym c.calls.ensures ∙ c.if-calls.true)

pub returns-then-calls-clause-role : goal.returns-then-calls-clause-role
returns-then-calls-clause-role c =
    let p = c.args.program.now in
    let P = meaning p in
    let role = c.index-roles-id.result in
    let n = c.in_ok-id.id.0 in
    let found = sym (ap (option_map (λ (id : RoleId). role_function P id.0)) c.in_ok-id.ensures.ok_part) ∙ c.role.ensures in
    let shape = role_has_shape p c.args.name.now n c.roles.result.now c.roles.ensures.roles found role _ c.index-roles-id.is c.roles.ensures.shapes in
    record { answer = shape.0; shape = shape.1; result = shape.2; called = sym c.calls.ensures ∙ c.if-calls.true }

pub returns-else-calls-clause-goes : goal.returns-else-calls-clause-goes
returns-else-calls-clause-goes c =
    let p = c.args.program.now in
    let P = meaning p in
    let role = c.index-roles-id.result in
    let n = c.in_ok-id.id.0 in
    let found = sym (ap (option_map (λ (id : RoleId). role_function P id.0)) c.in_ok-id.ensures.ok_part) ∙ c.role.ensures in
    let named = role_is_named p c.args.name.now n c.roles.result.now c.roles.ensures.roles found role _ c.index-roles-id.is in
    let shape = role_has_shape p c.args.name.now n c.roles.result.now c.roles.ensures.roles found role _ c.index-roles-id.is c.roles.ensures.shapes in
    subst (λ h. InHand (StepGives (with_role c.args.callee P c.args.name.now) (λ (role : Bor Role). role.now.function.0)) (Err h)) (sym c.into.ensures)
    (λ go. role_refused c.args.callee P c.args.name.now role.function.0 (role_kind_of role.kind) named
    (kind_is P role.function.0 (role_kind_of role.kind) (type_at (types_of p) role.argument) shape.0 shape.1) go (sym c.calls.ensures ∙ c.if-calls.false))
