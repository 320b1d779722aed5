use Rattle.std.proofs.Common.{◌≡◌, Option, Some, None, refl, ap, sym, ◌∙◌, subst}
use Rattle.std.proofs.lemmas.Result.{err_from_is_err_and}
use Rattle.lam_outside.specs.Told.{Contents}
use Rattle.core_terms.specs.declared.program.Program.{Program}
use Rattle.code_gen.specs.Programs.{program_in}
use Rattle.piece_mirror.specs.Tables.{bytes_of}
use Rattle.command_parts.specs.Answer.{mirrored_answer, with_mirror_file}
use Rattle.command_parts.specs.RoleInputs.{RoleCall, with_fueled_role, with_role_call}
use Rattle.command_parts.specs.AnswerForms.{Answer}
use Rattle.call_commands.specs.AnswersBehind.{fetched_behind}
use Rattle.command_parts.specs.FueledRoles.{FueledRole}
use Rattle.command_parts.specs.Halting.{Finds, HaltsAs}
use Rattle.command_parts.specs.ReadPrograms.{named_of}
use Rattle.command_parts.specs.Reaching.{without}
use Rattle.command_parts.specs.ReachingInCode.{HaltsAtReached}
use Rattle.command_parts.specs.RolesCalled.{IsCalled, role_of}
use Rattle.command_parts.specs.RolesJudged.{call_meant, with_named_call}
use Rattle.command_parts.specs.declared.calls.RoleCall.{RoleCall as Call}
use Rattle.call_commands.specs.declared.fetch_call.FetchWords.{FetchWords}
use Rattle.command_parts.specs.declared.roles.CalledRole.{CalledRole}
use Rattle.command_parts.specs.declared.roles.Callee.TheVariants.{OfState}
use Rattle.command_parts.proofs.FetchedTold.{found_judging}
use Rattle.command_parts.proofs.Reached.{behind, call_step, faults_reached, found_reached, is_missing}
use Rattle.command_parts.proofs.RoleSteps.{same_reached}
use Rattle.command_parts.proofs.Steps.{finds_halt, halts_behind, report_found}
use Rattle.call_commands.proofs.fetch_call.fetch_named.Goals as goal

-- what stands behind the call
abbrev behind_call : FetchWords → Contents → RoleCall → Option Answer
behind_call words files call = with_mirror_file (files words.mirror.now) (λ pieces. Some (mirrored_answer call pieces))

-- the call, by the program
abbrev step : FetchWords → Program → Contents → (RoleCall → Option Answer) → Option Answer
step words p files go = with_named_call OfState (named_of p) words.call.role.now words.call.fuel.now words.state.now words.call.argument.now files go

abbrev Goes : FetchWords → Call → Contents → Program → Type 0
Goes words call files p = (go : RoleCall → Option Answer) → step words p files go ≡ go (call_meant p call)

abbrev RoleGoes : FetchWords → CalledRole → Program → Type 0
RoleGoes words called p = (go : FueledRole → Option Answer) → with_fueled_role OfState (named_of p) words.call.role.now words.call.fuel.now go ≡ go (role_of p called)

-- without the file of the mirror there is no answer behind a call that was read
no_mirror : (words : FetchWords) (p : Program) (call : Call) (files : Contents) → Goes words call files p → RoleGoes words call.called p → fetched_behind (named_of p) words (without words.mirror.now files) ≡ None
no_mirror words p call files goes role =
    let mirror = words.mirror.now in
    let lacking = without mirror files in
    role (λ r. with_role_call r words.state.now words.call.argument.now lacking (behind_call words lacking))
    ∙ behind (call_step (role_of p call.called) words.call.argument.now) words.state.now mirror files (call_meant p call) (behind_call words lacking) refl
    (λ go. sym (role (λ r. with_role_call r words.state.now words.call.argument.now files go)) ∙ goes go)
    (ap (λ file. with_mirror_file file (λ pieces. Some (mirrored_answer (call_meant p call) pieces))) (is_missing mirror files))

pub returns-in_err-call-clause-finds : goal.returns-in_err-call-clause-finds
returns-in_err-call-clause-finds g c = λ told known.
    let words = c.args.words.now in
    let halt = c.in_err-call.field-0.0 in
    let err = err_from_is_err_and c.from_residual.result c.from_residual.ensures.1 in
    finds_halt _ c.from_residual.result halt (cc)
    (subst (λ p. HaltsAs (fetched_behind (named_of p) words told) halt) c.program-program.ensures (c.in_err-call.ensures.goes told known (behind_call words told)))

pub returns-in_err-call-clause-reached : goal.returns-in_err-call-clause-reached
returns-in_err-call-clause-reached g c =
    let words = c.args.words.now in
    let halt = c.in_err-call.field-0.0 in
    let contents = g.F.Files.contents c.args.files.now in
    let asked = g.F.Files.asked c.read_role_call.new.files in
    let err = err_from_is_err_and c.from_residual.result c.from_residual.ensures.1 in
    same_reached (fetched_behind (named_of (program_in c.args.code.now)) words) contents asked halt c.from_residual.result (cc)
    (subst (λ p. HaltsAtReached (fetched_behind (named_of p) words) contents asked halt) c.program-program.ensures (c.in_err-call.ensures.reached (behind_call words)))

pub returns-in_err-mirror-clause-finds : goal.returns-in_err-mirror-clause-finds
returns-in_err-mirror-clause-finds g c = λ told known.
    let words = c.args.words.now in
    let p = program_in c.args.code.now in
    let call = c.in_ok-call.call in
    let goes = subst (Goes words call told) c.program-program.ensures (c.in_ok-call.ensures.goes told known) in
    let err = err_from_is_err_and c.from_residual-in_err-mirror.result c.from_residual-in_err-mirror.ensures.1 in
    finds_halt _ c.from_residual-in_err-mirror.result c.in_err-mirror.field-0.0 (cc)
    (halts_behind _ _ _ (goes (behind_call words told)) (c.in_err-mirror.ensures.goes told (c.in_ok-call.ensures.contents ∙ known) (λ pieces. Some (mirrored_answer (call_meant p call) pieces))))

pub returns-in_err-mirror-clause-reached : goal.returns-in_err-mirror-clause-reached
returns-in_err-mirror-clause-reached g c =
    let words = c.args.words.now in
    let p = program_in c.args.code.now in
    let call = c.in_ok-call.call in
    let err = err_from_is_err_and c.from_residual-in_err-mirror.result c.from_residual-in_err-mirror.ensures.1 in
    faults_reached (fetched_behind (named_of p) words) words.mirror.now _ _ _ c.from_residual-in_err-mirror.result (cc)
    (λ files known. no_mirror words p call files (subst (Goes words call files) c.program-program.ensures (c.in_ok-call.ensures.goes files known))
    (subst (RoleGoes words call.called) c.program-program.ensures c.in_ok-call.ensures.role))
    c.in_err-mirror.ensures.asked

pub fetch_from-requires : goal.fetch_from-requires
fetch_from-requires g c = subst (λ p. IsCalled OfState p c.in_ok-call.call.called) c.program-program.ensures c.in_ok-call.ensures.valid

pub returns-clause-finds : goal.returns-clause-finds
returns-clause-finds g c = λ told known.
    let words = c.args.words.now in
    let p = program_in c.args.code.now in
    let call = c.in_ok-call.call in
    let pieces = bytes_of c.in_ok-mirror.mirror.pieces in
    let answer = subst (Goes words call told) c.program-program.ensures (c.in_ok-call.ensures.goes told known) (behind_call words told)
    ∙ c.in_ok-mirror.ensures.goes told (c.in_ok-call.ensures.contents ∙ known) (λ pieces. Some (mirrored_answer (call_meant p call) pieces)) in
    subst (λ answer. Finds answer c.fetch_from.result) (sym answer) (report_found (mirrored_answer (call_meant p call) pieces) c.fetch_from.result c.fetch_from.ensures.finds)

pub returns-clause-cause : goal.returns-clause-cause
returns-clause-cause g c =
    let p = program_in c.args.code.now in
    found_judging (Some (mirrored_answer (call_meant p c.in_ok-call.call) (bytes_of c.in_ok-mirror.mirror.pieces))) c.fetch_from.result _ _ c.fetch_from.ensures.finds
    (c.in_ok-mirror.ensures.cause ∙ c.in_ok-call.ensures.cause)

pub returns-clause-reached : goal.returns-clause-reached
returns-clause-reached g c =
    let p = program_in c.args.code.now in
    found_reached (mirrored_answer (call_meant p c.in_ok-call.call) (bytes_of c.in_ok-mirror.mirror.pieces)) (fetched_behind (named_of p) c.args.words.now) _ _ c.fetch_from.result c.fetch_from.ensures.finds
