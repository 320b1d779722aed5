use Rattle.std.proofs.Common.{◌≡◌, ℕ, List, Option, Some, None, refl, ap, inl, ◌∙◌, subst}
use Rattle.code_gen.specs.Programs.{program_in}
use Rattle.lam_outside.specs.Told.{Contents}
use Rattle.command_parts.specs.UnansweredInCode.{unfounded_answer}
use Rattle.command_parts.specs.FileInputs.{with_image_bytes, with_program_file}
use Rattle.command_parts.specs.AnswerForms.{Answer}
use Rattle.command_parts.specs.FueledRoles.{NamedProgram}
use Rattle.command_parts.specs.Halting.{HaltsAs, MayHalt}
use Rattle.command_parts.specs.ReadPrograms.{digested_of, named_of}
use Rattle.command_parts.specs.Reaching.{without}
use Rattle.command_parts.proofs.Reached.{behind, is_missing}
use Rattle.journal_commands.specs.DisksSeen.{disk_seen, file_in}
use Rattle.journal_commands.specs.FoundingInCode.{founding_of}
use Rattle.journal_commands.specs.JournalAnswers.{founded_answer, making_answer}
use Rattle.journal_commands.proofs.CountsOnDisk.{halted_at, reached_from}
use Rattle.journal_commands.proofs.JournalsMade.{found_on, halted_made, left_so, made_as, means_founding, unchosen}
use Rattle.journal_commands.proofs.StopCauses.{halt_cause, is_err, work_cause}
use Rattle.journal_commands.proofs.ToldMoments.{disk_told, files_told}
use Rattle.journal_commands.proofs.found.found.Goals as goal

-- what stands behind the program
abbrev behind_program : (image before : List ℕ) → Contents → NamedProgram → Option Answer
behind_program image before files p = with_image_bytes p.digested (files image) (λ bytes. Some (making_answer before))

abbrev none_behind : (image : List ℕ) → Contents → NamedProgram → Option Answer
none_behind image files p = with_image_bytes p.digested (files image) (λ bytes. None)

pub returns-in_err-code-clause-finds : goal.returns-in_err-code-clause-finds
returns-in_err-code-clause-finds g c = λ told known.
    let before = file_in (g.D.Disk.contents c.args.disk.now) c.args.name.now in
    let files = files_told _ _ told known in
    halted_made (founded_answer c.args.program.now c.args.image.now before told) _ c.from_residual.result c.in_err-code.field-0.0 (is_err c.from_residual.result _ c.from_residual.ensures.1) refl
    (c.in_err-code.ensures.goes told files (behind_program c.args.image.now before told))

pub returns-in_err-image-clause-finds : goal.returns-in_err-image-clause-finds
returns-in_err-image-clause-finds g c = λ told known.
    let before = file_in (g.D.Disk.contents c.args.disk.now) c.args.name.now in
    let files = files_told _ _ told known in
    let residual = c.from_residual-in_err-image in
    halted_made (founded_answer c.args.program.now c.args.image.now before told) _ residual.result c.in_err-image.field-0.0 (is_err residual.result _ residual.ensures.1)
    (c.in_ok-code.ensures.goes told files (behind_program c.args.image.now before told))
    (subst (λ p. HaltsAs (with_image_bytes (digested_of p) (told c.args.image.now) (λ bytes. Some (making_answer before))) c.in_err-image.field-0.0) c.program.ensures
    (c.in_err-image.ensures.goes told (c.in_ok-code.ensures.contents ∙ files) (λ bytes. Some (making_answer before))))

pub returns-clause-finds : goal.returns-clause-finds
returns-clause-finds g c = λ told known.
    let on_disk = g.D.Disk.contents c.args.disk.now in
    let before = file_in on_disk c.args.name.now in
    let files = files_told _ _ told known in
    let disk = disk_told _ _ told known in
    let image = c.in_ok-image.ensures.goes told (c.in_ok-code.ensures.contents ∙ files) in
    let goes = subst (λ p. (go : List ℕ → Option Answer) → with_image_bytes (digested_of p) (told c.args.image.now) go ≡ go image.0) c.program.ensures image.1 in
    made_as (founded_answer c.args.program.now c.args.image.now before told) (Some (making_answer before)) c.make_named.result
    (c.in_ok-code.ensures.goes told files (behind_program c.args.image.now before told) ∙ goes (λ bytes. Some (making_answer before)))
    (found_on on_disk disk.0 c.args.name.now c.make_named.result disk.1 (c.make_named.ensures.finds disk.0 disk.1))

pub returns-in_err-code-clause-left : goal.returns-in_err-code-clause-left
returns-in_err-code-clause-left g c =
    let on = disk_seen g.D.Disk.contents g.D.Disk.moments g.D.Disk.read_faults g.D.Disk.write_faults in
    unchosen _ c.args.name.now (on c.args.disk.now) (on c.args.disk.now) c.from_residual.result c.in_err-code.field-0.0 (is_err c.from_residual.result _ c.from_residual.ensures.1) refl

pub returns-in_err-image-clause-left : goal.returns-in_err-image-clause-left
returns-in_err-image-clause-left g c =
    let residual = c.from_residual-in_err-image in
    let on = disk_seen g.D.Disk.contents g.D.Disk.moments g.D.Disk.read_faults g.D.Disk.write_faults in
    unchosen _ c.args.name.now (on c.args.disk.now) (on c.args.disk.now) residual.result c.in_err-image.field-0.0 (is_err residual.result _ residual.ensures.1) refl

pub returns-clause-left : goal.returns-clause-left
returns-clause-left g c =
    let p = program_in c.in_ok-code.code in
    let on = disk_seen g.D.Disk.contents g.D.Disk.moments g.D.Disk.read_faults g.D.Disk.write_faults in
    left_so _ c.args.name.now (on c.args.disk.now) (on c.make_named.new.disk) c.make_named.result (founding_of (digested_of p) c.deref.result.now)
    (λ told known.
    let image = c.in_ok-image.ensures.goes told (c.in_ok-code.ensures.contents ∙ known) in
    let goes = subst (λ p. (go : List ℕ → Option Answer) → with_image_bytes (digested_of p) (told c.args.image.now) go ≡ go image.0) c.program.ensures image.1 in
    means_founding c.args.program.now c.args.image.now told (named_of p) image.0 c.deref.result.now (c.in_ok-code.ensures.goes told known) goes (c.deref.ensures.value ∙ image.2))
    c.make_named.ensures.left

pub returns-in_err-code-clause-reached : goal.returns-in_err-code-clause-reached
returns-in_err-code-clause-reached g c =
    let program = c.args.program.now in
    let image = c.args.image.now in
    halted_at (unfounded_answer program image) program _ _ _ _ c.in_err-code.field-0.0
    (λ files known. ap (λ file. with_program_file file (none_behind image (without program files))) (is_missing program files)) c.in_err-code.ensures.cause c.in_err-code.ensures.asked

pub returns-in_err-image-clause-reached : goal.returns-in_err-image-clause-reached
returns-in_err-image-clause-reached g c =
    let program = c.args.program.now in
    let image = c.args.image.now in
    let p = named_of (program_in c.in_ok-code.code) in
    reached_from _ _ _ (unfounded_answer program image) _ _ _ c.in_ok-code.ensures.cause refl
    (halted_at (unfounded_answer program image) image _ _ _ _ c.in_err-image.field-0.0
    (λ files known. behind with_program_file program image files p (none_behind image (without image files)) refl (c.in_ok-code.ensures.goes files known)
    (ap (λ file. with_image_bytes p.digested file (λ bytes. None)) (is_missing image files)))
    c.in_err-image.ensures.cause c.in_err-image.ensures.asked)

pub returns-clause-reached : goal.returns-clause-reached
returns-clause-reached g c = inl (c.in_ok-image.ensures.cause ∙ c.in_ok-code.ensures.cause)

pub returns-in_err-code-clause-cause : goal.returns-in_err-code-clause-cause
returns-in_err-code-clause-cause g c =
    halt_cause _ _ _ _ _ _ _ c.in_err-code.field-0.0 c.from_residual.result (is_err c.from_residual.result _ c.from_residual.ensures.1) refl refl c.in_err-code.ensures.cause

pub returns-in_err-image-clause-cause : goal.returns-in_err-image-clause-cause
returns-in_err-image-clause-cause g c =
    let residual = c.from_residual-in_err-image in
    halt_cause _ _ _ _ _ _ _ c.in_err-image.field-0.0 residual.result (is_err residual.result _ residual.ensures.1) refl refl
    (subst (λ n. MayHalt n (g.F.Source.faults c.load_image_bytes.new.files) c.in_err-image.field-0.0) c.in_ok-code.ensures.cause c.in_err-image.ensures.cause)

pub returns-clause-cause : goal.returns-clause-cause
returns-clause-cause g c = work_cause _ _ _ _ _ _ c.make_named.result (c.in_ok-image.ensures.cause ∙ c.in_ok-code.ensures.cause) c.make_named.ensures.cause
