use Rattle.std.proofs.Common.{◌≡◌, ℕ, List, [], ◌∷◌, Some, Err, Ok, sym, ap, ap₂, ◌∙◌, subst}
use Rattle.std.proofs.lemmas.Result.{err_from_is_err_and}
use Rattle.sha2.specs.Sha256.{sha256}
use Rattle.command_words.specs.declared.command.Command.TheVariants.{Migrate}
use Rattle.core_terms.specs.Programs.{meaning}
use Rattle.core_terms.specs.ProgramTypes.{types_meaning}
use Rattle.core_terms.specs.Projection.{digest_at}
use Rattle.core_terms.specs.Values.{Value}
use Rattle.core_terms.specs.declared.program_types.Types.{Types}
use Rattle.value_store.specs.Markings.{HasLimit}
use Rattle.value_store.specs.Stores.{nodes_in, store_lent}
use Rattle.value_store.proofs.ProverNodes.{shown_ideal}
use Rattle.images.specs.LoadedRoots.{IsStateAt}
use Rattle.command_parts.specs.Answer.{moved_answer}
use Rattle.command_parts.specs.OutcomeAnswers.{projected_line}
use Rattle.command_parts.specs.AnswerForms.{says}
use Rattle.command_parts.specs.ReadPrograms.{digested_of, named_of}
use Rattle.command_parts.specs.Statuses.{MayAnswer}
use Rattle.command_parts.specs.StoredStates.{IsStoredState}
use Rattle.command_parts.specs.declared.status.Status.TheVariants.{Done}
use Rattle.command_parts.proofs.MarkedStates.{saved_by_types}
use Rattle.command_parts.proofs.Ends.{one_line}
use Rattle.file_commands.proofs.MovedImages.{has_header}
use Rattle.file_commands.proofs.MovedStates.{not_loaded, of_root}
use Rattle.command_parts.proofs.StoredOutputs.{storing_refused, storing_told}
use Rattle.file_commands.proofs.migrate_state.move_state.Goals as goal

pub address-requires : goal.address-requires
address-requires c = let at = c.requires in has_header at.0 at.1 c.args.image.now at.2 at.4

pub returns-in_err-state-clause-finds : goal.returns-in_err-state-clause-finds
returns-in_err-state-clause-finds c = λ name P digest v keeps is.
    let err = err_from_is_err_and c.from_residual.result c.from_residual.ensures.1 in
    not_loaded (digested_of c.args.to.now) c.address.new.image v (IsStoredState (meaning c.args.to.now)) name (Some (moved_answer (named_of c.args.to.now) v name))
    c.in_err-state.field-0.0 c.from_residual.result (err.1 ∙ ap Err err.2) (c.address.ensures P digest v keeps is) c.in_err-state.ensures.goes

pub spell_state-requires : goal.spell_state-requires
spell_state-requires c = c.in_ok-state.ensures.stands

pub save_image-requires-clause-limit : goal.save_image-requires-clause-limit
save_image-requires-clause-limit c =
    let state = c.in_ok-state.state in
    subst (λ (types : Types). HasLimit (types_meaning types) (store_lent state.store)) (sym c.types-types.ensures) (record { is = c.in_ok-state.ensures.stands.1.limit.is })

pub save_image-requires-clause-state : goal.save_image-requires-clause-state
save_image-requires-clause-state c =
    let q = c.args.to.now in
    let state = c.in_ok-state.state in
    let stands = c.in_ok-state.ensures.stands in
    subst (λ (types : Types). (v : Value) × IsStateAt (types_meaning types) state.store state.root v) (sym c.types-types.ensures)
    (stands.0, shown_ideal (digest_at sha256 (meaning q)) (meaning q).types (nodes_in state.store) (meaning q).state stands.0 state.root.0 stands.1.stands)

pub returns-in_err-image-clause-finds : goal.returns-in_err-image-clause-finds
returns-in_err-image-clause-finds c = λ name P digest v keeps is.
    let q = c.args.to.now in
    let state = c.in_ok-state.state in
    let root = c.in_ok-state.ensures.goes in
    let ideal = shown_ideal (digest_at sha256 (meaning q)) (meaning q).types (nodes_in state.store) (meaning q).state root.0 state.root.0 root.2.stands in
    let at_types = subst (λ (types : Types). IsStateAt (types_meaning types) state.store state.root root.0) (sym c.types-types.ensures) ideal in
    let saved = saved_by_types q c.types-types.result.now c.text_digest.result.now root.0 (Err c.in_err-image.field-0.0) c.types-types.ensures c.text_digest.ensures
    (c.in_err-image.ensures.saved root.0 at_types) in
    of_root q c.address.new.image v root.0 (c.address.ensures P digest v keeps is) root.1 name c.from_residual-in_err-image.result
    (storing_refused (digested_of q) root.0 (says Done (projected_line (named_of q) root.0)) c.in_err-image.field-0.0 c.from_residual-in_err-image.result
    c.from_residual-in_err-image.ensures.1 saved name)

pub returns-clause-finds : goal.returns-clause-finds
returns-clause-finds c = λ name P digest v keeps is.
    let q = c.args.to.now in
    let state = c.in_ok-state.state in
    let root = c.in_ok-state.ensures.goes in
    let ideal = shown_ideal (digest_at sha256 (meaning q)) (meaning q).types (nodes_in state.store) (meaning q).state root.0 state.root.0 root.2.stands in
    let at_types = subst (λ (types : Types). IsStateAt (types_meaning types) state.store state.root root.0) (sym c.types-types.ensures) ideal in
    let saved = saved_by_types q c.types-types.result.now c.text_digest.result.now root.0 (Ok c.in_ok-image.image) c.types-types.ensures c.text_digest.ensures
    (c.in_ok-image.ensures.saved root.0 at_types) in
    let shown = c.in_ok-told.ensures.output [] root.0 root.2 in
    let line = projected_line (named_of q) root.0 in
    of_root q c.address.new.image v root.0 (c.address.ensures P digest v keeps is) root.1 name (Ok (record { report = c.in_ok-told.told.report; file = Some c.in_ok-image.image }))
    (storing_told (digested_of q) root.0 (says Done line) c.in_ok-told.told.report c.in_ok-image.image (ap₂ says shown.status (sym (one_line line) ∙ shown.lines)) saved name)

pub returns-clause-ending : goal.returns-clause-ending
returns-clause-ending c =
    let stands = c.in_ok-state.ensures.stands in
    let shown = c.in_ok-told.ensures.output [] stands.0 stands.1 in
    subst (MayAnswer Migrate) shown.status tt
