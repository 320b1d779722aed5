use Rattle.std.proofs.Common.{◌≡◌, ℕ, List, Option, Some, None, refl, ap, sym, ◌∙◌, subst}
use Rattle.std.proofs.lemmas.Result.{err_from_is_err_and}
use Rattle.std.specs.Option.{ForSome}
use Rattle.lam_outside.specs.Told.{Contents}
use Rattle.lam_outside.specs.FileSteps.{StartsAt}
use Rattle.core_terms.specs.declared.program.Program.{Program}
use Rattle.code_gen.specs.Programs.{program_in}
use Rattle.command_parts.specs.Answer.{verified_answer}
use Rattle.command_parts.specs.AcceptedAnswers.{callee_of}
use Rattle.command_parts.specs.RoleInputs.{RoleCall, with_fueled_role, with_role_call}
use Rattle.command_parts.specs.FileInputs.{with_bytes}
use Rattle.command_parts.specs.AnswerForms.{Answer}
use Rattle.command_parts.specs.FueledRoles.{FueledRole}
use Rattle.command_parts.specs.Halting.{HaltsAs}
use Rattle.command_parts.specs.ReadPrograms.{named_of}
use Rattle.command_parts.specs.Reaching.{IsLast, without}
use Rattle.command_parts.specs.ReachingInCode.{HaltsAtReached}
use Rattle.command_parts.specs.RolesCalled.{CallsOnStates, IsCalled, role_of}
use Rattle.command_parts.specs.RolesJudged.{call_meant, with_named_call}
use Rattle.call_commands.specs.AnswersBehind.{answer_behind, name_of, out_of}
use Rattle.command_parts.specs.Storing.{FindsOutput}
use Rattle.command_parts.specs.declared.report.Halt.TheVariants.{ReadFault}
use Rattle.command_parts.specs.declared.calls.RoleCall.{RoleCall as Call}
use Rattle.command_parts.specs.declared.roles.CalledRole.{CalledRole}
use Rattle.command_parts.specs.declared.roles.Callee.{Callee}
use Rattle.call_commands.specs.declared.verify_call.VerifyWords.{VerifyWords}
use Rattle.command_parts.proofs.Reached.{any_reached, behind, call_step, is_missing, last_asked}
use Rattle.command_parts.proofs.RoleSteps.{same_reached}
use Rattle.call_commands.proofs.SoundRoles.{callee_reads}
use Rattle.command_parts.proofs.Steps.{output_halt}
use Rattle.call_commands.proofs.verify_call.find_judgement.Goals as goal

-- what stands behind the call
abbrev behind_call : VerifyWords → Contents → RoleCall → Option Answer
behind_call words files call = with_bytes (files words.proof.now) (λ bytes. Some (verified_answer (out_of words) call bytes))

-- the call, by the roles that are called and the program
abbrev step : VerifyWords → Callee → Program → Contents → (RoleCall → Option Answer) → Option Answer
step words callee p files go = with_named_call callee (named_of p) words.call.role.now words.call.fuel.now words.state.now words.call.argument.now files go

-- the same, as the code holds them
held : (A : Callee → Program → Type 0) (callee callee' : Callee) (p p' : Program) → callee ≡ callee' → p ≡ p' → A callee p → A callee' p'
held A callee callee' p p' same_callee same a = subst (λ p. A callee' p) same (subst (λ callee. A callee p) same_callee a)

-- without the file of the proof there is no answer behind a call that was read
no_proof : (words : VerifyWords) (p : Program) (call : RoleCall) (files : Contents)
    → ((go : RoleCall → Option Answer) → step words (callee_of (out_of words)) p files go ≡ go call)
    → ((files : Contents) (go : RoleCall → Option Answer) → step words (callee_of (out_of words)) p files go ≡ with_role_call call.role words.state.now words.call.argument.now files go)
    → answer_behind (named_of p) words (without words.proof.now files) ≡ None
no_proof words p call files goes at_role =
    let proof = words.proof.now in
    let lacking = without proof files in
    at_role lacking (behind_call words lacking)
    ∙ behind (call_step call.role words.call.argument.now) words.state.now proof files call (behind_call words lacking) refl (λ go. sym (at_role files go) ∙ goes go)
    (ap (λ file. with_bytes file (λ bytes. Some (verified_answer (out_of words) call bytes))) (is_missing proof files))

pub returns-in_err-call-clause-finds : goal.returns-in_err-call-clause-finds
returns-in_err-call-clause-finds g c = λ told known.
    let words = c.args.words.now in
    let p = program_in c.args.code.now in
    let halt = c.in_err-call.field-0.0 in
    let err = err_from_is_err_and c.from_residual.result c.from_residual.ensures.1 in
    output_halt (name_of (out_of words)) _ c.from_residual.result halt (cc)
    (held (λ callee p. HaltsAs (step words callee p told (behind_call words told)) halt) _ (callee_of (out_of words)) _ p c.callee-callee.ensures c.program.ensures (c.in_err-call.ensures.goes told known (behind_call words told)))

pub returns-in_err-call-clause-reached : goal.returns-in_err-call-clause-reached
returns-in_err-call-clause-reached g c =
    let words = c.args.words.now in
    let p = program_in c.args.code.now in
    let halt = c.in_err-call.field-0.0 in
    let contents = g.F.Files.contents c.args.files.now in
    let asked = g.F.Files.asked c.read_role_call.new.files in
    let err = err_from_is_err_and c.from_residual.result c.from_residual.ensures.1 in
    same_reached (answer_behind (named_of p) words) contents asked halt c.from_residual.result (cc)
    (held (λ callee p. HaltsAtReached (λ told. step words callee p told (behind_call words told)) contents asked halt) _ (callee_of (out_of words)) _ p c.callee-callee.ensures c.program.ensures (c.in_err-call.ensures.reached (behind_call words)))

-- the file that was started
started : (old : Option Contents) (files : Contents) (name : List ℕ) (left : Option (List ℕ)) → old ≡ Some files → StartsAt old name left → (bytes : List ℕ) × (files name ≡ Some bytes) × (left ≡ Some bytes)
started old files name left told starts = subst (λ contents. StartsAt contents name left) told starts

-- the call that was read goes on, by the callee and the program as the code holds them
goes_held : (words : VerifyWords) (callee : Callee) (p q : Program) (call : Call) (files : Contents) → callee ≡ callee_of (out_of words) → q ≡ p
    → ((go : RoleCall → Option Answer) → step words callee q files go ≡ go (call_meant q call)) → (go : RoleCall → Option Answer) → step words (callee_of (out_of words)) p files go ≡ go (call_meant p call)
goes_held words callee p q call files same_callee same goes =
    held (λ callee p. (go : RoleCall → Option Answer) → step words callee p files go ≡ go (call_meant p call)) callee (callee_of (out_of words)) q p same_callee same goes

role_held : (words : VerifyWords) (callee : Callee) (p q : Program) (called : CalledRole) → callee ≡ callee_of (out_of words) → q ≡ p
    → ((go : FueledRole → Option Answer) → with_fueled_role callee (named_of q) words.call.role.now words.call.fuel.now go ≡ go (role_of q called))
    → (files : Contents) (go : RoleCall → Option Answer) → step words (callee_of (out_of words)) p files go ≡ with_role_call (role_of p called) words.state.now words.call.argument.now files go
role_held words callee p q called same_callee same role =
    held (λ callee p. (files : Contents) (go : RoleCall → Option Answer) → step words callee p files go ≡ with_role_call (role_of p called) words.state.now words.call.argument.now files go)
    callee (callee_of (out_of words)) q p same_callee same (λ files go. role (λ r. with_role_call r words.state.now words.call.argument.now files go))

pub returns-in_err-start-clause-finds : goal.returns-in_err-start-clause-finds
returns-in_err-start-clause-finds g c = λ told known.
    let err = err_from_is_err_and c.from_residual-in_err-start.result c.from_residual-in_err-start.ensures.1 in
    output_halt (name_of (out_of c.args.words.now)) _ c.from_residual-in_err-start.result ReadFault (cc) tt

pub returns-in_err-start-clause-reached : goal.returns-in_err-start-clause-reached
returns-in_err-start-clause-reached g c =
    let words = c.args.words.now in
    let p = program_in c.args.code.now in
    let call = c.in_ok-call.call in
    any_reached (answer_behind (named_of p) words) words.proof.now _ _ c.from_residual-in_err-start.result
    (λ files known. no_proof words p (call_meant p call) files
    (goes_held words _ p _ call files c.callee-callee.ensures c.program.ensures (c.in_ok-call.ensures.goes files known)) (role_held words _ p _ call.called c.callee-callee.ensures c.program.ensures c.in_ok-call.ensures.role))
    (last_asked _ _ words.proof.now c.in_err-start.ensures.asked)

pub judge_proof-requires-clause-called : goal.judge_proof-requires-clause-called
judge_proof-requires-clause-called g c = subst (λ p. IsCalled c.callee-callee.result p c.in_ok-call.call.called) c.program.ensures c.in_ok-call.ensures.valid

pub judge_proof-requires-clause-reads : goal.judge_proof-requires-clause-reads
judge_proof-requires-clause-reads g c = subst CallsOnStates (sym c.callee-callee.ensures) (callee_reads (out_of c.args.words.now))

pub returns-clause-finds : goal.returns-clause-finds
returns-clause-finds g c = λ told known.
    let words = c.args.words.now in
    let out = out_of words in
    let p = program_in c.args.code.now in
    let call = c.in_ok-call.call in
    let file = started _ told words.proof.now _ (c.in_ok-call.ensures.contents ∙ known) c.in_ok-start.ensures.started in
    let answer = goes_held words _ p _ call told c.callee-callee.ensures c.program.ensures (c.in_ok-call.ensures.goes told known) (behind_call words told)
    ∙ ap (λ file. with_bytes file (λ bytes. Some (verified_answer out (call_meant p call) bytes))) file.1 in
    subst (λ answer. FindsOutput (name_of out) answer c.judge_proof.result) (sym answer) (c.judge_proof.ensures.finds out c.callee-callee.ensures file.0 file.2)

pub returns-clause-reached : goal.returns-clause-reached
returns-clause-reached g c =
    let words = c.args.words.now in
    let p = program_in c.args.code.now in
    let call = c.in_ok-call.call in
    any_reached (answer_behind (named_of p) words) words.proof.now _ _ c.judge_proof.result
    (λ files known. no_proof words p (call_meant p call) files
    (goes_held words _ p _ call files c.callee-callee.ensures c.program.ensures (c.in_ok-call.ensures.goes files known)) (role_held words _ p _ call.called c.callee-callee.ensures c.program.ensures c.in_ok-call.ensures.role))
    (subst (λ asked. ForSome asked (λ names. IsLast words.proof.now names)) (sym c.judge_proof.ensures.asked) (last_asked _ _ words.proof.now c.in_ok-start.ensures.asked))
