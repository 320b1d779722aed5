use Rattle.std.proofs.Common.{◌≡◌, Some, Ok, Err, true, refl, sym, ap, ◌∙◌, subst}
use Rattle.core_terms.specs.RoleTypes.{HasRoleShape}
use Rattle.std.proofs.lemmas.Result.{IfOk-weaker}
use Rattle.code_gen.specs.Programs.{program_in}
use Rattle.core_terms.specs.Programs.{meaning, types_of}
use Rattle.core_terms.specs.RoleViews.{role_kind_of, role_of}
use Rattle.core_terms.specs.Terms.{function_at}
use Rattle.core_terms.specs.TypeTables.{type_at}
use Rattle.core_terms.specs.declared.program.Program.{Program}
use Rattle.ideal_meaning.specs.Ideal as ideal
use Rattle.mode_vm.specs.Meanings.{program_of}
use Rattle.ideal_meaning.specs.SpelledOutcomes.{SpellsOutcome}
use Rattle.verifier_mode.specs.Verdicts.{TellsSomeOutcome}
use Rattle.session_meaning.specs.Calls.{reads_state, state_made}
use Rattle.session_meaning.specs.Client.{state_behind}
use Rattle.session_meaning.specs.Messages as message
use Rattle.verifier_mode.specs.Verdicts.{Tells}
use Rattle.ask_core.specs.Replies.{StepFollows, IsRefused, IsReplied}
use Rattle.ask_core.specs.declared.standing.Known.{Known}
use Rattle.ask_core.specs.declared.standing.Standing.TheVariants.{Idle, Calling}
use Rattle.ask_core.specs.declared.told.Told.TheVariants.{Outcome}
use Rattle.ask_core.specs.declared.replied.Replied.{Replied}
use Rattle.ask_core.proofs.Called.{call_of_same, result_is, takes_state}
use Rattle.ask_core.proofs.Judged.{accepted, each_call, lent_verdict, refused, ring_is}
use Rattle.ask_core.proofs.judging.proof_replied.Goals as goal

pub verify_on-judged-requires-clause-role : goal.verify_on-judged-requires-clause-role
verify_on-judged-requires-clause-role g c κs within =
    let hash = g.H.Hash32.hash in
    let code = c.args.code.now in
    let P = program_of code in
    let asked = c.args.asked.now in
    let role = c.in-Some.role.now in
    let called = call_of_same c.program.result.now (program_in code) c.program.ensures asked.role role c.in-Some.ensures.called c.in-Some.ensures.shape in
    takes_state P (role_of (types_of (program_in code)) role) called.2 (subst (λ r. reads_state r.kind ≡ true) (sym called.0) called.1)

pub state_behind-requires-clause-shape : goal.state_behind-requires-clause-shape
state_behind-requires-clause-shape g c =
    let role = c.in-Some.role.now in
    subst (λ (p : Program). HasRoleShape (meaning p) (role_of (types_of p) role)) (c.program.ensures ∙ sym c.program-in-Ok.ensures) c.in-Some.ensures.shape

pub state_behind-requires-clause-told : goal.state_behind-requires-clause-told
state_behind-requires-clause-told g c =
    let hash = g.H.Hash32.hash in
    let code = c.args.code.now in
    let P = program_of code in
    let asked = c.args.asked.now in
    let role = c.in-Some.role.now in
    let called = call_of_same c.program.result.now (program_in code) c.program.ensures asked.role role c.in-Some.ensures.called c.in-Some.ensures.shape in
    let told = c.in-Ok.outcome in
    subst (λ (p : Program). TellsSomeOutcome (meaning p) (type_at (types_of p) role.result) told) (sym c.program-in-Ok.ensures)
    (subst (λ t. TellsSomeOutcome P t told) (result_is P (role_of (types_of (program_in code)) role) called.2) c.in-Ok.ensures.told)

pub returns-in_ok-state-in-Ok : goal.returns-in_ok-state-in-Ok
returns-in_ok-state-in-Ok g c client m r =
    let hash = g.H.Hash32.hash in
    let code = c.args.code.now in
    let P = program_of code in
    let known = c.args.known in
    let asked = c.args.asked.now in
    let frames = c.args.frames.now in
    let role = c.in-Some.role.now in
    let meant_role = role_of (types_of (program_in code)) role in
    let called = call_of_same c.program.result.now (program_in code) c.program.ensures asked.role role c.in-Some.ensures.called c.in-Some.ensures.shape in
    let told = c.in-Ok.outcome in
    let state = c.in_ok-state-in-Ok.state in
    let behind : Known = record { state = state; ring = c.in-Ok.ring } in
    let replied : Replied = record { standing = Some (Idle behind); told = Ok (Outcome told) } in
    let left = ap Some (c.new-proof.ensures.left ∙ c.as_bytes.ensures) in
    let t = (function_at P role.function.0).result in
    each_call P known asked (λ m. StepFollows hash P m client (message.Proof c.args.session frames) replied) (λ k a is_known is_asked.
    let ring = ring_is hash P known asked k a is_known is_asked meant_role called.0 called.2 called.1 c.args.session frames client in
    accepted hash P known asked k a is_known is_asked meant_role called.0 called.2 called.1 c.args.session frames client told state c.in-Ok.ring replied behind
    (subst (λ v. Tells P t v (Ok told))
    (lent_verdict hash P known asked k a is_known is_asked meant_role called.0 called.2 called.1 c.args.session frames client c.as_bytes-2.result.now
    c.as_bytes-3.result.now c.as_bytes-2.ensures c.as_bytes-3.ensures) (c.in-Ok.ensures.verdict k.recent ring frames left))
    (subst (λ (p : Program). (o : ideal.Outcome) → SpellsOutcome (meaning p) (type_at (types_of p) role.result) o told
    → state ≡ state_behind (state_made (role_kind_of role.kind) o) known.state) c.program-in-Ok.ensures c.in_ok-state-in-Ok.ensures)
    (c.in-Ok.ensures.ring k.recent ring frames left) refl refl refl refl) m r

pub returns-in-Err : goal.returns-in-Err
returns-in-Err g c =
    let hash = g.H.Hash32.hash in
    let code = c.args.code.now in
    let P = program_of code in
    let known = c.args.known in
    let asked = c.args.asked.now in
    let frames = c.args.frames.now in
    let role = c.in-Some.role.now in
    let meant_role = role_of (types_of (program_in code)) role in
    let called = call_of_same c.program.result.now (program_in code) c.program.ensures asked.role role c.in-Some.ensures.called c.in-Some.ensures.shape in
    let left = ap Some (c.new-proof.ensures.left ∙ c.as_bytes.ensures) in
    let t = (function_at P role.function.0).result in
    IfOk-weaker c.refused_by.result (IsRefused c.args.session c.in-Err.verdict) (IsReplied hash P (Calling known asked) (message.Proof c.args.session frames))
    (λ replied so client m r.
    each_call P known asked (λ m. StepFollows hash P m client (message.Proof c.args.session frames) replied) (λ k a is_known is_asked.
    let ring = ring_is hash P known asked k a is_known is_asked meant_role called.0 called.2 called.1 c.args.session frames client in
    refused hash P known asked k a is_known is_asked meant_role called.0 called.2 called.1 c.args.session frames client t c.in-Err.verdict replied
    (subst (λ v. Tells P t v (Err c.in-Err.verdict))
    (lent_verdict hash P known asked k a is_known is_asked meant_role called.0 called.2 called.1 c.args.session frames client c.as_bytes-2.result.now
    c.as_bytes-3.result.now c.as_bytes-2.ensures c.as_bytes-3.ensures) (c.in-Err.ensures.verdict k.recent ring frames left)) so) m r) c.refused_by.ensures
