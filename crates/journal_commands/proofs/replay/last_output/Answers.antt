use Rattle.std.proofs.Common.{List, length, ◌-◌, Ok, Err, slice_index_or, ap, ◌∙◌}
use Rattle.code_gen.specs.Programs.{program_in}
use Rattle.core_terms.specs.declared.program.Program.{Program}
use Rattle.printed_lines.specs.Lines.{versions_line}
use Rattle.value_store.specs.declared.node.Ref.{Ref}
use Rattle.command_parts.specs.AnswerForms.{says}
use Rattle.command_parts.specs.ReadPrograms.{digested_of}
use Rattle.command_parts.specs.declared.status.Status.TheVariants.{Done}
use Rattle.command_parts.proofs.StoredOutputs.{storing_refused, storing_told}
use Rattle.journal_commands.specs.JournalAnswers.{last_of}
use Rattle.journal_commands.proofs.LastVersions.{last_is_saved, last_is_state, last_line}
use Rattle.journal_commands.proofs.replay.last_output.Goals as goal

pub save_image-requires-clause-state : goal.save_image-requires-clause-state
save_image-requires-clause-state c =
    let shared = c.args.shared.now in
    let same = c.requires.0 in (
      last_of same,
      last_is_state c.args.code.now shared same c.requires.1 c.types.result.now (c.types.ensures ∙ ap (λ (p : Program). p.types) c.program-program.ensures) c.store.result.now c.store.ensures
          shared.some (record { 0 = 0 }) _ (ap (λ (refs : List Ref). slice_index_or refs (length refs - 1) (record { 0 = 0 })) c.versions-versions.ensures),
    )

pub returns-in_err-file-clause-finds : goal.returns-in_err-file-clause-finds
returns-in_err-file-clause-finds c = λ name same shares.
    let shared = c.args.shared.now in
    let code = c.args.code.now in
    let types = c.types.ensures ∙ ap (λ (p : Program). p.types) c.program-program.ensures in
    let is = last_is_state code shared same shares c.types.result.now types c.store.result.now c.store.ensures
    shared.some (record { 0 = 0 }) _ (ap (λ (refs : List Ref). slice_index_or refs (length refs - 1) (record { 0 = 0 })) c.versions-versions.ensures) in
    let saved = last_is_saved code shared same shares c.types.result.now types c.store.result.now c.store.ensures c.text_digest.result.now (Err c.in_err-file.field-0.0)
    (c.text_digest.ensures ∙ ap (λ (p : Program). p.text_digest) c.program-program.ensures) (c.in_err-file.ensures.saved (last_of same) is) in
    storing_refused (digested_of (program_in code)) (last_of same) (says Done (versions_line (length same.versions) (length same.commits))) c.in_err-file.field-0.0 c.from_residual.result
    c.from_residual.ensures.1 saved name

pub returns-clause-finds : goal.returns-clause-finds
returns-clause-finds c = λ name same shares.
    let shared = c.args.shared.now in
    let code = c.args.code.now in
    let types = c.types.ensures ∙ ap (λ (p : Program). p.types) c.program-program.ensures in
    let is = last_is_state code shared same shares c.types.result.now types c.store.result.now c.store.ensures
    shared.some (record { 0 = 0 }) _ (ap (λ (refs : List Ref). slice_index_or refs (length refs - 1) (record { 0 = 0 })) c.versions-versions.ensures) in
    let saved = last_is_saved code shared same shares c.types.result.now types c.store.result.now c.store.ensures c.text_digest.result.now (Ok c.in_ok-file.file)
    (c.text_digest.ensures ∙ ap (λ (p : Program). p.text_digest) c.program-program.ensures) (c.in_ok-file.ensures.saved (last_of same) is) in
    storing_told (digested_of (program_in code)) (last_of same) (says Done (versions_line (length same.versions) (length same.commits))) _ c.in_ok-file.file
    (last_line code shared same shares c.in_ok-text.text _ _ (ap length c.versions-versions.ensures) (ap length c.commits.ensures) c.in_ok-text.ensures) saved name
