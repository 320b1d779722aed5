use Rattle.std.proofs.Common.{List, ℕ, Option, refl, ap, ◌∙◌}
use Rattle.std.proofs.lemmas.Result.{err_from_is_err_and}
use Rattle.core_terms.specs.Programs.{meaning, types_of}
use Rattle.core_terms.specs.TypeTables.{type_at}
use Rattle.core_terms.specs.Values.{Value}
use Rattle.value_store.specs.Standing.{StandsFor}
use Rattle.value_store.specs.Stores.{nodes_in}
use Rattle.value_store.specs.declared.node.Ref.{Ref}
use Rattle.command_parts.specs.RoleInputs.{with_passed}
use Rattle.command_parts.specs.FileInputs.{with_image_file, with_literal}
use Rattle.command_parts.specs.AnswerForms.{Answer}
use Rattle.command_parts.specs.CallsInStores.{HoldsCall}
use Rattle.command_parts.specs.FueledRoles.{FueledRole}
use Rattle.command_parts.specs.IdealCalls.{IdealCall}
use Rattle.command_parts.specs.ReadPrograms.{digested_of, named_of}
use Rattle.command_parts.specs.RoleCalls.{named_literal}
use Rattle.command_parts.specs.RolesCalled.{prover_nodes, role_of}
use Rattle.command_parts.proofs.EndedRuns.{passed_goes}
use Rattle.command_parts.proofs.RoleShapes.{passed_is}
use Rattle.command_parts.proofs.RoleSteps.{halts_for, halts_in_hand}
use Rattle.command_parts.proofs.Steps.{halts_behind, halts_first_for}
use Rattle.command_parts.proofs.ideal_calls.read_ideal_call.Goals as goal

-- what stands behind the state
abbrev behind_state : FueledRole → (argument : List ℕ) → Value → (IdealCall → Option Answer) → Option Answer
behind_state r argument s go = with_passed r argument (λ a. go (record { role = r; state = s; argument = a }))

pub returns-in_err-loaded-clause-goes : goal.returns-in_err-loaded-clause-goes
returns-in_err-loaded-clause-goes g c = λ callee is told known.
    let p = c.args.program.now in
    let err = err_from_is_err_and c.from_residual.result c.from_residual.ensures.1 in
    halts_first_for (with_image_file (digested_of p) (told c.args.image.now)) (behind_state (role_of p c.args.called) c.args.argument.now) (HoldsCall callee p)
    c.from_residual.result _ (cc) (c.in_err-loaded.ensures.goes told known)

pub put_argument-requires-clause-limit : goal.put_argument-requires-clause-limit
put_argument-requires-clause-limit g c = c.in_ok-loaded.ensures.stands.1.limit

pub returns-in_err-argument-clause-goes : goal.returns-in_err-argument-clause-goes
returns-in_err-argument-clause-goes g c = λ callee is told known.
    let p = c.args.program.now in
    let r = role_of p c.args.called in
    let text = c.args.argument.now in
    let state = c.in_ok-loaded.ensures.goes told known in
    let err = err_from_is_err_and c.from_residual-in_err-argument.result c.from_residual-in_err-argument.ensures.1 in
    let t = type_at (types_of p) c.args.called.argument in
    let halts = (halts_in_hand {T = Ref} (with_literal (named_literal (named_of p) t text)) (λ value v. StandsFor (prover_nodes p) (meaning p).types (nodes_in c.put_argument.new.store) value.0 t v)
    c.in_err-argument.field-0.0 c.in_err-argument.ensures.goes).1 in
    halts_for (λ go. with_image_file (digested_of p) (told c.args.image.now) (λ s. behind_state r text s go)) (HoldsCall callee p) c.from_residual-in_err-argument.result _ (cc)
    (λ go. halts_behind _ _ _ (state.1 (λ s. behind_state r text s go) ∙ ap (λ t. with_literal (named_literal (named_of p) t text) (λ a. go (record { role = r; state = state.0; argument = a }))) (passed_is callee p c.args.called is))
    (halts (λ a. go (record { role = r; state = state.0; argument = a }))))

pub returns-clause-goes : goal.returns-clause-goes
returns-clause-goes g c = λ callee is told known.
    let p = c.args.program.now in
    let r = role_of p c.args.called in
    let text = c.args.argument.now in
    let nodes = nodes_in c.put_argument.new.store in
    let state = c.in_ok-loaded.ensures.goes told known in
    let put = c.in_ok-argument.ensures.goes in (
      record { role = r; state = state.0; argument = put.0 },
      (λ go. state.1 (λ s. behind_state r text s go)
          ∙ passed_goes callee p c.args.called is text nodes c.in_ok-argument.argument.0 put (λ a. go (record { role = r; state = state.0; argument = a }))),
      record {
        called = is;
        role = refl;
        state = c.in_ok-argument.ensures.keeps (prover_nodes p) (meaning p).types c.in_ok-loaded.loaded.root.0 (meaning p).state state.0 state.2.stands;
        argument = put.2;
        limit = c.in_ok-argument.ensures.limit;
      },
    )

pub returns-clause-holds : goal.returns-clause-holds
returns-clause-holds g c = λ callee is.
    let p = c.args.program.now in
    let state = c.in_ok-loaded.ensures.stands in
    let put = c.in_ok-argument.ensures.goes in (
      record { role = role_of p c.args.called; state = state.0; argument = put.0 },
      record {
        called = is;
        role = refl;
        state = c.in_ok-argument.ensures.keeps (prover_nodes p) (meaning p).types c.in_ok-loaded.loaded.root.0 (meaning p).state state.0 state.1.stands;
        argument = put.2;
        limit = c.in_ok-argument.ensures.limit;
      },
    )
