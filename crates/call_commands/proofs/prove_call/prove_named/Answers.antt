use Rattle.std.proofs.Common.{◌≡◌, ℕ, List, Option, Some, ap, ◌∙◌, subst}
use Rattle.std.proofs.lemmas.Result.{err_from_is_err_and}
use Rattle.lam_outside.specs.Told.{Contents}
use Rattle.printed_lines.specs.declared.refusal.Argument.TheVariants.{Number}
use Rattle.command_parts.specs.Answer.{proof_answer, with_kept}
use Rattle.command_parts.specs.RoleInputs.{with_fueled_role, with_ideal_call}
use Rattle.command_parts.specs.FileInputs.{with_number}
use Rattle.command_parts.specs.AnswerForms.{Answer}
use Rattle.number_words.specs.Numbers.{number_within}
use Rattle.command_parts.specs.CallsInStores.{HoldsCall, HoldsSome}
use Rattle.call_commands.specs.AnswersBehind.{proved_behind}
use Rattle.command_parts.specs.FueledRoles.{FueledRole}
use Rattle.command_parts.specs.IdealCalls.{IdealCall}
use Rattle.command_parts.specs.ReadPrograms.{named_of}
use Rattle.command_parts.specs.Reaching.{without}
use Rattle.command_parts.specs.ReachingInCode.{FaultsAtReached}
use Rattle.command_parts.specs.RoleCalls.{program_called}
use Rattle.command_parts.specs.RolesCalled.{role_of}
use Rattle.command_parts.specs.Storing.{FindsOutput}
use Rattle.command_parts.specs.declared.roles.Callee.TheVariants.{OfState}
use Rattle.command_parts.proofs.Reached.{faults_reached, hand_reached, inputs_step, is_missing}
use Rattle.command_parts.proofs.Steps.{hand_halts, halts_behind, output_halt}
use Rattle.call_commands.proofs.prove_call.prove_named.Goals as goal

-- what stands behind the call, the number of pieces that are kept, and the role
abbrev behind_call : (n : ℕ) → List ℕ → IdealCall → Option Answer
behind_call n name call = Some (proof_answer call n name)

abbrev behind_kept : FueledRole → (image argument : List ℕ) → Contents → List ℕ → (n : ℕ) → Option Answer
behind_kept r image argument files name n = with_ideal_call r image argument files (behind_call n name)

abbrev behind_role : (image argument kept : List ℕ) → Contents → List ℕ → FueledRole → Option Answer
behind_role image argument kept files name r = with_kept (program_called r) kept (behind_kept r image argument files name)

-- the number that is told
abbrev kept_step : List ℕ → (ℕ → Option Answer) → Option Answer
kept_step kept go = with_number Number (number_within 1024 kept) go

pub returns-in_err-called-clause-finds : goal.returns-in_err-called-clause-finds
returns-in_err-called-clause-finds g c = λ name told known.
    let words = c.args.words.now in
    let q = c.program-program.result.now in
    let err = err_from_is_err_and c.from_residual.result c.from_residual.ensures.1 in
    subst (λ p. FindsOutput name (proved_behind words.role.now c.args.image.now words.argument.now words.fuel.now c.args.kept.now name (named_of p) told) c.from_residual.result) c.program-program.ensures
    (output_halt name _ c.from_residual.result _ (cc)
    (hand_halts (with_fueled_role OfState (named_of q) words.role.now words.fuel.now) (role_of q) _ c.in_err-called.ensures.goes (behind_role c.args.image.now words.argument.now c.args.kept.now told name)))

pub returns-in_err-called-clause-reached : goal.returns-in_err-called-clause-reached
returns-in_err-called-clause-reached g c = λ name.
    let words = c.args.words.now in
    let q = c.program-program.result.now in
    let err = err_from_is_err_and c.from_residual.result c.from_residual.ensures.1 in
    subst (λ p. FaultsAtReached (proved_behind words.role.now c.args.image.now words.argument.now words.fuel.now c.args.kept.now name (named_of p)) (g.F.Files.contents c.args.files.now) (g.F.Files.asked c.args.files.now) c.from_residual.result) c.program-program.ensures
    (hand_reached (with_fueled_role OfState (named_of q) words.role.now words.fuel.now) (role_of q)
    (proved_behind words.role.now c.args.image.now words.argument.now words.fuel.now c.args.kept.now name (named_of q)) _ _ _ c.from_residual.result (cc) c.in_err-called.ensures.goes)

pub returns-in_err-kept-clause-finds : goal.returns-in_err-kept-clause-finds
returns-in_err-kept-clause-finds g c = λ name told known.
    let words = c.args.words.now in
    let r = role_of c.program-program.result.now c.in_ok-called.called in
    let err = err_from_is_err_and c.from_residual-in_err-kept.result c.from_residual-in_err-kept.ensures.1 in
    subst (λ p. FindsOutput name (proved_behind words.role.now c.args.image.now words.argument.now words.fuel.now c.args.kept.now name (named_of p) told) c.from_residual-in_err-kept.result) c.program-program.ensures
    (output_halt name _ c.from_residual-in_err-kept.result _ (cc)
    (halts_behind _ _ _ (c.in_ok-called.ensures.goes (behind_role c.args.image.now words.argument.now c.args.kept.now told name))
    (hand_halts (kept_step c.args.kept.now) (λ (n : ℕ). n) _ c.in_err-kept.ensures.goes (behind_kept r c.args.image.now words.argument.now told name))))

pub returns-in_err-kept-clause-reached : goal.returns-in_err-kept-clause-reached
returns-in_err-kept-clause-reached g c = λ name.
    let words = c.args.words.now in
    let q = c.program-program.result.now in
    let err = err_from_is_err_and c.from_residual-in_err-kept.result c.from_residual-in_err-kept.ensures.1 in
    subst (λ p. FaultsAtReached (proved_behind words.role.now c.args.image.now words.argument.now words.fuel.now c.args.kept.now name (named_of p)) (g.F.Files.contents c.args.files.now) (g.F.Files.asked c.args.files.now) c.from_residual-in_err-kept.result) c.program-program.ensures
    (hand_reached (kept_step c.args.kept.now) (λ (n : ℕ). n)
    (proved_behind words.role.now c.args.image.now words.argument.now words.fuel.now c.args.kept.now name (named_of q)) _ _ _ c.from_residual-in_err-kept.result (cc) c.in_err-kept.ensures.goes)

pub read_ideal_call-requires : goal.read_ideal_call-requires
read_ideal_call-requires g c = (OfState, c.in_ok-called.ensures.valid)

pub returns-in_err-call-clause-finds : goal.returns-in_err-call-clause-finds
returns-in_err-call-clause-finds g c = λ name told known.
    let words = c.args.words.now in
    let r = role_of c.program-program.result.now c.in_ok-called.called in
    let err = err_from_is_err_and c.from_residual-in_err-call.result c.from_residual-in_err-call.ensures.1 in
    subst (λ p. FindsOutput name (proved_behind words.role.now c.args.image.now words.argument.now words.fuel.now c.args.kept.now name (named_of p) told) c.from_residual-in_err-call.result) c.program-program.ensures
    (output_halt name _ c.from_residual-in_err-call.result _ (cc)
    (halts_behind _ _ _ (c.in_ok-called.ensures.goes (behind_role c.args.image.now words.argument.now c.args.kept.now told name)
    ∙ c.in_ok-kept.ensures.goes (behind_kept r c.args.image.now words.argument.now told name))
    (c.in_err-call.ensures.goes OfState c.in_ok-called.ensures.valid told known (behind_call c.in_ok-kept.kept name))))

pub returns-in_err-call-clause-reached : goal.returns-in_err-call-clause-reached
returns-in_err-call-clause-reached g c = λ name.
    let words = c.args.words.now in
    let image = c.args.image.now in
    let n = c.in_ok-kept.kept in
    let q = c.program-program.result.now in
    let r = role_of q c.in_ok-called.called in
    let err = err_from_is_err_and c.from_residual-in_err-call.result c.from_residual-in_err-call.ensures.1 in
    subst (λ p. FaultsAtReached (proved_behind words.role.now image words.argument.now words.fuel.now c.args.kept.now name (named_of p)) (g.F.Files.contents c.args.files.now) (g.F.Files.asked c.read_ideal_call.new.files) c.from_residual-in_err-call.result) c.program-program.ensures
    (faults_reached (proved_behind words.role.now image words.argument.now words.fuel.now c.args.kept.now name (named_of q)) image _ _ _ c.from_residual-in_err-call.result (cc)
    (λ files known. c.in_ok-called.ensures.goes (behind_role image words.argument.now c.args.kept.now (without image files) name)
    ∙ c.in_ok-kept.ensures.goes (behind_kept r image words.argument.now (without image files) name)
    ∙ ap (λ file. inputs_step r words.argument.now file (behind_call n name)) (is_missing image files)) c.in_err-call.ensures.asked)

pub make_proof-requires-clause-called : goal.make_proof-requires-clause-called
make_proof-requires-clause-called g c =
    (OfState, tt, subst (λ p. HoldsSome OfState p c.in_ok-call.call) c.program-program.ensures (c.in_ok-call.ensures.holds OfState c.in_ok-called.ensures.valid))

pub returns-clause-finds : goal.returns-clause-finds
returns-clause-finds g c = λ name told known.
    let words = c.args.words.now in
    let r = role_of c.program-program.result.now c.in_ok-called.called in
    let n = c.in_ok-kept.kept in
    let call = c.in_ok-call.ensures.goes OfState c.in_ok-called.ensures.valid told known in
    let goes = c.in_ok-called.ensures.goes (behind_role c.args.image.now words.argument.now c.args.kept.now told name)
    ∙ c.in_ok-kept.ensures.goes (behind_kept r c.args.image.now words.argument.now told name)
    ∙ call.1 (behind_call n name) in (
      proof_answer call.0 n name,
      subst (λ p. proved_behind words.role.now c.args.image.now words.argument.now words.fuel.now c.args.kept.now name (named_of p) told ≡ Some (proof_answer call.0 n name)) c.program-program.ensures goes,
      c.in_ok-make_proof.ensures.output OfState call.0 tt (subst (λ p. HoldsCall OfState p c.in_ok-call.call call.0) c.program-program.ensures call.2) name,
    )
