use Rattle.std.proofs.Common.{◌≡◌, Some, Ok, Err, sym, subst}
use Rattle.sha2.specs.Sha256.{sha256}
use Rattle.core_terms.specs.Programs.{meaning}
use Rattle.core_terms.specs.ProgramTypes.{types_meaning}
use Rattle.core_terms.specs.Projection.{digest_at}
use Rattle.core_terms.specs.Values.{Value}
use Rattle.core_terms.specs.declared.program_types.Types.{Types}
use Rattle.ideal_meaning.specs.Ideal.{Done}
use Rattle.value_store.specs.Markings.{HasLimit}
use Rattle.value_store.specs.Stores.{nodes_in, store_lent}
use Rattle.value_store.proofs.ProverNodes.{shown_ideal}
use Rattle.images.specs.LoadedRoots.{IsStateAt}
use Rattle.command_parts.specs.OutcomeAnswers.{outcome_stored, outcome_told}
use Rattle.command_parts.specs.AnswerForms.{says}
use Rattle.command_parts.specs.Halting.{InHand, ending_status}
use Rattle.command_parts.specs.ReadPrograms.{digested_of}
use Rattle.command_parts.specs.RoleCalls.{kind_called}
use Rattle.command_parts.specs.RoleCalls as roles
use Rattle.command_parts.specs.RolesCalled.{role_of}
use Rattle.command_parts.specs.Storing.{FindsOutput}
use Rattle.command_parts.proofs.MarkedStates.{saved_by_types}
use Rattle.command_parts.proofs.StoredOutputs.{stored_alone, storing_refused, storing_told}
use Rattle.command_parts.proofs.role_outcomes.role_output.Goals as goal

pub role_report-requires : goal.role_report-requires
role_report-requires c = (c.requires.0, c.requires.2)

pub state_made-requires : goal.state_made-requires
state_made-requires c = (c.args.program.now, c.requires.0, c.requires.1, c.requires.2)

pub save_image-requires-clause-limit : goal.save_image-requires-clause-limit
save_image-requires-clause-limit c =
    let ended = c.args.ended.now in
    subst (λ (types : Types). HasLimit (types_meaning types) (store_lent ended.store)) (sym c.types-types.ensures) (record { is = c.requires.2.1.limit.is })

pub save_image-requires-clause-state : goal.save_image-requires-clause-state
save_image-requires-clause-state c =
    let p = c.args.program.now in
    let ended = c.args.ended.now in
    let made = c.in-Some.ensures p c.requires.0 c.requires.2.0 c.requires.1 c.requires.2.1 in
    let v = roles.state_made (kind_called (role_of p ended.called)) made.0 in
    subst (λ (types : Types). (v : Value) × IsStateAt (types_meaning types) ended.store c.in-Some.state v) (sym c.types-types.ensures)
    (v, shown_ideal (digest_at sha256 (meaning p)) (meaning p).types (nodes_in ended.store) (meaning p).state v c.in-Some.state.0 made.2)

pub returns-in_err-image-in-Some-clause-finds : goal.returns-in_err-image-in-Some-clause-finds
returns-in_err-image-in-Some-clause-finds c = λ name callee o makes ends.
    let p = c.args.program.now in
    let ended = c.args.ended.now in
    let r = role_of p ended.called in
    let made = c.in-Some.ensures p callee o makes ends in
    let v = roles.state_made (kind_called r) made.0 in
    let ideal = shown_ideal (digest_at sha256 (meaning p)) (meaning p).types (nodes_in ended.store) (meaning p).state v c.in-Some.state.0 made.2 in
    let at_types = subst (λ (types : Types). IsStateAt (types_meaning types) ended.store c.in-Some.state v) (sym c.types-types.ensures) ideal in
    let saved = saved_by_types p c.types-types.result.now c.text_digest-digest.result.now v (Err c.in_err-image-in-Some.field-0.0) c.types-types.ensures c.text_digest-digest.ensures
    (c.in_err-image-in-Some.ensures.saved v at_types) in
    subst (λ o. InHand (FindsOutput name (Some (outcome_stored r o name))) c.from_residual-in_err-image-in-Some.result) (sym made.1)
    (storing_refused (digested_of p) v (outcome_told r (Done made.0)) c.in_err-image-in-Some.field-0.0 c.from_residual-in_err-image-in-Some.result
    c.from_residual-in_err-image-in-Some.ensures.1 saved name)

pub returns-in_ok-image-in-Some-clause-finds : goal.returns-in_ok-image-in-Some-clause-finds
returns-in_ok-image-in-Some-clause-finds c = λ name callee o makes ends.
    let p = c.args.program.now in
    let ended = c.args.ended.now in
    let r = role_of p ended.called in
    let report = c.in_ok-report.report in
    let made = c.in-Some.ensures p callee o makes ends in
    let v = roles.state_made (kind_called r) made.0 in
    let ideal = shown_ideal (digest_at sha256 (meaning p)) (meaning p).types (nodes_in ended.store) (meaning p).state v c.in-Some.state.0 made.2 in
    let at_types = subst (λ (types : Types). IsStateAt (types_meaning types) ended.store c.in-Some.state v) (sym c.types-types.ensures) ideal in
    let saved = saved_by_types p c.types-types.result.now c.text_digest-digest.result.now v (Ok c.in_ok-image-in-Some.image) c.types-types.ensures c.text_digest-digest.ensures
    (c.in_ok-image-in-Some.ensures.saved v at_types) in
    let tells = subst (λ o. outcome_told r o ≡ says (ending_status report.ending) report.text.items) made.1 (c.in_ok-report.ensures.tells callee o ends) in
    subst (λ o. InHand (FindsOutput name (Some (outcome_stored r o name))) (Ok (record { report = report; file = Some c.in_ok-image-in-Some.image }))) (sym made.1)
    (storing_told (digested_of p) v (outcome_told r (Done made.0)) report c.in_ok-image-in-Some.image tells saved name)

pub returns-in-None-clause-finds : goal.returns-in-None-clause-finds
returns-in-None-clause-finds c = λ name callee o makes ends.
    let p = c.args.program.now in
    stored_alone (role_of p c.args.ended.now.called) o c.in_ok-report.report (c.in-None.ensures p callee o makes ends) (c.in_ok-report.ensures.tells callee o ends) name
