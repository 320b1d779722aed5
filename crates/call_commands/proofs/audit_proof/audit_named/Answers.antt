use Rattle.std.proofs.Common.{◌≡◌, ℕ, List, Option, Some, ap, sym, ◌∙◌, subst}
use Rattle.std.proofs.lemmas.Result.{err_from_is_err_and}
use Rattle.std.specs.Option.{ForSome}
use Rattle.lam_outside.specs.Told.{Contents}
use Rattle.lam_outside.specs.FileSteps.{StartsAt}
use Rattle.core_terms.specs.declared.program.Program.{Program}
use Rattle.code_gen.specs.Programs.{program_in}
use Rattle.command_parts.specs.Answer.{call_audit_answer}
use Rattle.command_parts.specs.RoleInputs.{with_fueled_role}
use Rattle.command_parts.specs.FileInputs.{with_bytes}
use Rattle.command_parts.specs.AnswerForms.{Answer}
use Rattle.command_parts.specs.CallsInStores.{HoldsCall, HoldsSome, with_called}
use Rattle.call_commands.specs.AnswersBehind.{audited_behind}
use Rattle.command_parts.specs.FueledRoles.{FueledRole}
use Rattle.command_parts.specs.Halting.{Finds, HaltsAs}
use Rattle.command_parts.specs.IdealCalls as meant
use Rattle.command_parts.specs.ReadPrograms.{named_of}
use Rattle.command_parts.specs.Reaching.{IsLast}
use Rattle.command_parts.specs.ReachingInCode.{FaultsAtReached}
use Rattle.command_parts.specs.RolesCalled.{role_of}
use Rattle.command_parts.specs.declared.ideal_calls.IdealCall.{IdealCall}
use Rattle.command_parts.specs.declared.report.Halt.TheVariants.{ReadFault}
use Rattle.command_parts.specs.declared.roles.Callee.TheVariants.{OfState}
use Rattle.call_commands.proofs.JudgedAudits.{no_proof}
use Rattle.command_parts.proofs.Reached.{any_reached, last_asked}
use Rattle.command_parts.proofs.RoleSteps.{same_reached}
use Rattle.command_parts.proofs.Steps.{finds_halt}
use Rattle.call_commands.proofs.audit_proof.audit_named.Goals as goal

-- what stands behind the call
abbrev behind_call : (proof : List ℕ) → Contents → meant.IdealCall → Option Answer
behind_call proof files call = with_bytes (files proof) (λ bytes. Some (call_audit_answer call bytes))

-- the call and the role that are gone on with
abbrev CallGoes : (role image argument fuel : List ℕ) → Contents → IdealCall → Program → Type 0
CallGoes role image argument fuel files held p =
    (call : meant.IdealCall) × ((go : meant.IdealCall → Option Answer) → with_called OfState (named_of p) role image argument fuel files go ≡ go call) × HoldsCall OfState p held call

abbrev RoleGoes : (role fuel : List ℕ) → IdealCall → Program → Type 0
RoleGoes role fuel held p = (go : FueledRole → Option Answer) → with_fueled_role OfState (named_of p) role fuel go ≡ go (role_of p held.called)

-- the file that was started
started : (old : Option Contents) (files : Contents) (name : List ℕ) (left : Option (List ℕ)) → old ≡ Some files → StartsAt old name left → (bytes : List ℕ) × (files name ≡ Some bytes) × (left ≡ Some bytes)
started old files name left told starts = subst (λ contents. StartsAt contents name left) told starts

pub returns-in_err-call-clause-finds : goal.returns-in_err-call-clause-finds
returns-in_err-call-clause-finds g c = λ told known.
    let words = c.args.words.now in
    let proof = c.args.proof.now in
    let halt = c.in_err-call.field-0.0 in
    let err = err_from_is_err_and c.from_residual.result c.from_residual.ensures.1 in
    finds_halt _ c.from_residual.result halt (cc)
    (subst (λ p. HaltsAs (audited_behind words.role.now c.args.image.now words.argument.now words.fuel.now proof (named_of p) told) halt) c.program-program.ensures
    (c.in_err-call.ensures.goes told known (behind_call proof told)))

pub returns-in_err-call-clause-reached : goal.returns-in_err-call-clause-reached
returns-in_err-call-clause-reached g c =
    let words = c.args.words.now in
    let proof = c.args.proof.now in
    let err = err_from_is_err_and c.from_residual.result c.from_residual.ensures.1 in
    subst (λ p. FaultsAtReached (audited_behind words.role.now c.args.image.now words.argument.now words.fuel.now proof (named_of p)) (g.F.Files.contents c.args.files.now) (g.F.Files.asked c.read_named_call.new.files) c.from_residual.result) c.program-program.ensures
    (same_reached (audited_behind words.role.now c.args.image.now words.argument.now words.fuel.now proof (named_of c.program-program.result.now)) _ _ _ c.from_residual.result (cc)
    (c.in_err-call.ensures.reached (behind_call proof)))

pub returns-in_err-start-clause-finds : goal.returns-in_err-start-clause-finds
returns-in_err-start-clause-finds g c = λ told known.
    let err = err_from_is_err_and c.from_residual-in_err-start.result c.from_residual-in_err-start.ensures.1 in
    finds_halt _ c.from_residual-in_err-start.result ReadFault (cc) tt

pub returns-in_err-start-clause-reached : goal.returns-in_err-start-clause-reached
returns-in_err-start-clause-reached g c =
    let words = c.args.words.now in
    let p = program_in c.args.code.now in
    let held = c.in_ok-call.call in
    let role = subst (RoleGoes words.role.now words.fuel.now held) c.program-program.ensures c.in_ok-call.ensures.role in
    any_reached (audited_behind words.role.now c.args.image.now words.argument.now words.fuel.now c.args.proof.now (named_of p)) c.args.proof.now _ _ c.from_residual-in_err-start.result
    (λ files known.
    let call = subst (CallGoes words.role.now c.args.image.now words.argument.now words.fuel.now files held) c.program-program.ensures (c.in_ok-call.ensures.goes files known) in
    no_proof (named_of p) words.role.now c.args.image.now words.argument.now words.fuel.now c.args.proof.now (role_of p held.called) call.0 files role call.1)
    (last_asked _ _ c.args.proof.now c.in_err-start.ensures.asked)

pub audit_started-requires : goal.audit_started-requires
audit_started-requires g c = (OfState, tt, subst (λ p. HoldsSome OfState p c.in_ok-call.call) c.program-program.ensures c.in_ok-call.ensures.holds)

pub returns-clause-finds : goal.returns-clause-finds
returns-clause-finds g c = λ told known.
    let words = c.args.words.now in
    let proof = c.args.proof.now in
    let held = c.in_ok-call.call in
    let call = subst (CallGoes words.role.now c.args.image.now words.argument.now words.fuel.now told held) c.program-program.ensures (c.in_ok-call.ensures.goes told known) in
    let file = started _ told proof _ (c.in_ok-call.ensures.contents ∙ known) c.in_ok-start.ensures.started in
    subst (λ answer. Finds answer c.audit_started.result)
    (sym (call.1 (behind_call proof told) ∙ ap (λ file. with_bytes file (λ bytes. Some (call_audit_answer call.0 bytes))) file.1))
    (c.audit_started.ensures.finds OfState call.0 tt call.2 file.0 file.2)

pub returns-clause-reached : goal.returns-clause-reached
returns-clause-reached g c =
    let words = c.args.words.now in
    let proof = c.args.proof.now in
    let p = program_in c.args.code.now in
    let held = c.in_ok-call.call in
    let role = subst (RoleGoes words.role.now words.fuel.now held) c.program-program.ensures c.in_ok-call.ensures.role in
    any_reached (audited_behind words.role.now c.args.image.now words.argument.now words.fuel.now proof (named_of p)) proof _ _ c.audit_started.result
    (λ files known.
    let call = subst (CallGoes words.role.now c.args.image.now words.argument.now words.fuel.now files held) c.program-program.ensures (c.in_ok-call.ensures.goes files known) in
    no_proof (named_of p) words.role.now c.args.image.now words.argument.now words.fuel.now proof (role_of p held.called) call.0 files role call.1)
    (subst (λ asked. ForSome asked (λ names. IsLast proof names)) (sym c.audit_started.ensures.asked) (last_asked _ _ proof c.in_ok-start.ensures.asked))
