use Rattle.std.proofs.Common.{ℕ, List, Option, codes, sym, ap, ◌∙◌}
use Rattle.std.proofs.lemmas.Result.{err_from_is_err_and}
use Rattle.core_terms.specs.Programs.{meaning}
use Rattle.core_terms.specs.Terms.{Program}
use Rattle.core_terms.specs.declared.program.FunctionId.{FunctionId}
use Rattle.command_parts.specs.WorkloadAnswers.{is_get, is_put, keys_of, with_shaped_role, with_workload}
use Rattle.command_parts.specs.AnswerForms.{Answer}
use Rattle.workloads.specs.declared.workload.Workload.{Workload}
use Rattle.command_parts.proofs.LineSteps.{first_halts, goes_as}
use Rattle.file_commands.proofs.workload_roles.workload_of.Goals as goal

-- the steps
abbrev on_query : (name : List ℕ) (kept put get : ℕ) → (Workload → Option Answer) → Option Answer
on_query name kept put get go = go (record { put = record { 0 = put }; get = record { 0 = get }; keys = keys_of name; kept = kept })

abbrev on_update : Program → (name : List ℕ) (kept put : ℕ) → (Workload → Option Answer) → Option Answer
on_update P name kept put go = with_shaped_role is_get P (codes "get") (λ get. on_query name kept put get go)

pub returns-in_err-put_role-clause-goes : goal.returns-in_err-put_role-clause-goes
returns-in_err-put_role-clause-goes c =
    let P = meaning c.args.program.now in
    let err = err_from_is_err_and c.from_residual.result c.from_residual.ensures.1 in
    first_halts (with_shaped_role is_put P (codes "put")) (on_update P c.args.name.now c.args.kept) (λ (put : FunctionId). put.0) (λ (w : Workload). w) c.from_residual.result _ (cc)
    c.in_err-put_role.ensures.goes

pub returns-in_err-get_role-clause-goes : goal.returns-in_err-get_role-clause-goes
returns-in_err-get_role-clause-goes c =
    let P = meaning c.args.program.now in
    let name = c.args.name.now in
    let put = c.in_ok-put_role.field-0.0 in
    let result = c.from_residual-in_err-get_role.result in
    let err = err_from_is_err_and c.from_residual-in_err-get_role.result c.from_residual-in_err-get_role.ensures.1 in
    goes_as (on_update P name c.args.kept put) (with_workload P name c.args.kept) (λ (w : Workload). w)
    (λ go. c.in_ok-put_role.ensures.goes (λ put. on_update P name c.args.kept put go)) result
    (first_halts (with_shaped_role is_get P (codes "get")) (on_query name c.args.kept put) (λ (get : FunctionId). get.0) (λ (w : Workload). w) result _ (cc)
    c.in_err-get_role.ensures.goes)

pub returns-clause-goes : goal.returns-clause-goes
returns-clause-goes c = λ go.
    let P = meaning c.args.program.now in
    let name = c.args.name.now in
    let kept = c.args.kept in
    let put = c.in_ok-put_role.field-0 in
    let get = c.in_ok-get_role.field-0 in
    c.in_ok-put_role.ensures.goes (λ put. on_update P name kept put go)
    ∙ c.in_ok-get_role.ensures.goes (λ get. on_query name kept put.0 get go)
    ∙ ap (λ keys. go (record { put = put; get = get; keys = keys; kept = kept })) (sym c.keys_of.ensures)
