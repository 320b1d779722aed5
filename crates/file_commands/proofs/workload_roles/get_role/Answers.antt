use Rattle.std.proofs.Common.{Bor, Err, codes, sym, ◌∙◌, subst}
use Rattle.std.proofs.lemmas.Result.{err_from_is_err_and}
use Rattle.core_terms.specs.Programs.{meaning, types_of}
use Rattle.core_terms.specs.RoleViews.{role_kind_of}
use Rattle.core_terms.specs.TypeTables.{type_at}
use Rattle.core_terms.specs.declared.program.FunctionId.{FunctionId}
use Rattle.core_terms.specs.declared.roles.Role.{Role}
use Rattle.command_parts.specs.WorkloadAnswers.{is_get, with_shape, with_shaped_role}
use Rattle.command_parts.specs.RoleInputs.{with_role}
use Rattle.command_parts.specs.Halting.{StepGives, InHand}
use Rattle.command_parts.specs.declared.roles.Callee.TheVariants.{OfState}
use Rattle.command_parts.proofs.LineSteps.{first_halts}
use Rattle.command_parts.proofs.RoleShapes.{calls_reads}
use Rattle.file_commands.proofs.WorkloadRoles.{get_shape, shape_goes, shape_refused}
use Rattle.file_commands.proofs.workload_roles.get_role.Goals as goal

pub returns-in_err-role-clause-goes : goal.returns-in_err-role-clause-goes
returns-in_err-role-clause-goes c =
    let P = meaning c.args.program.now in
    let err = err_from_is_err_and c.from_residual.result c.from_residual.ensures.1 in
    first_halts (with_role OfState P (codes "get")) (with_shape is_get P) (λ (role : Bor Role). role.now.function.0) (λ (get : FunctionId). get.0) c.from_residual.result _ (cc)
    c.in_err-role.ensures.goes

pub returns-then-is_get-clause-goes : goal.returns-then-is_get-clause-goes
returns-then-is_get-clause-goes c = λ go.
    let p = c.args.program.now in
    let role = c.in_ok-role.role.now in
    let is = c.in_ok-role.ensures.role in
    c.in_ok-role.ensures.goes (λ f. with_shape is_get (meaning p) f go)
    ∙ shape_goes is_get (meaning p) role.function.0 (role_kind_of role.kind) (type_at (types_of p) role.argument) is.answer is.shape
    (calls_reads OfState (role_kind_of role.kind) tt is.called) go (sym c.is_get.ensures ∙ c.if-is_get.true)

pub returns-then-is_get-clause-role : goal.returns-then-is_get-clause-role
returns-then-is_get-clause-role c =
    let p = c.args.program.now in
    let role = c.in_ok-role.role.now in
    let is = c.in_ok-role.ensures.role in
    (is.answer, get_shape (meaning p) role.function.0 (role_kind_of role.kind) (type_at (types_of p) role.argument) is.answer (sym c.is_get.ensures ∙ c.if-is_get.true) is.shape)

pub returns-else-is_get-clause-goes : goal.returns-else-is_get-clause-goes
returns-else-is_get-clause-goes c =
    let p = c.args.program.now in
    let role = c.in_ok-role.role.now in
    let is = c.in_ok-role.ensures.role in
    subst (λ h. InHand (StepGives (with_shaped_role is_get (meaning p) (codes "get")) (λ (get : FunctionId). get.0)) (Err h)) (sym c.into.ensures)
    (λ go. c.in_ok-role.ensures.goes (λ f. with_shape is_get (meaning p) f go)
    ∙ shape_refused is_get (meaning p) role.function.0 (role_kind_of role.kind) (type_at (types_of p) role.argument) is.answer is.shape
    (calls_reads OfState (role_kind_of role.kind) tt is.called) go (sym c.is_get.ensures ∙ c.if-is_get.false))
