-- What follows of the proof of a call, by the verdict on it: `proof_replied`, `refused_by`
use Rattle.std.proofs.Common.{◌≡◌, ℕ, true, List, Some, None, Ok, Err, refl, sym, ap, ◌∙◌, subst}
use Rattle.core_terms.specs.Formats.{Hash}
use Rattle.core_terms.specs.Roles as definition
use Rattle.core_terms.specs.Roles.{argument_type}
use Rattle.core_terms.specs.RoleTypes.{HasRoleShape}
use Rattle.core_terms.specs.Terms.{Program, function_at}
use Rattle.core_terms.specs.Types.{Ty}
use Rattle.core_terms.specs.declared.outcome.Outcome.{Outcome}
use Rattle.core_terms.specs.declared.byte_string.ByteString.{ByteString as Spelling}
use Rattle.ideal_meaning.specs.Checked as checked
use Rattle.ideal_meaning.specs.Checked.{verdict_on}
use Rattle.ideal_meaning.specs.Following.{after_bytes}
use Rattle.ideal_meaning.specs.Ideal as ideal
use Rattle.ideal_meaning.specs.Told.{cause_told}
use Rattle.ideal_meaning.specs.SpelledOutcomes.{SpellsOutcome}
use Rattle.reuse_buffer.specs.Kept.{Kept, kept}
use Rattle.session_meaning.specs.Calls.{reads_state, role_in, state_made}
use Rattle.session_meaning.specs.Client as meant
use Rattle.session_meaning.specs.Messages as message
use Rattle.verifier_mode.specs.Verdicts.{Tells}
use Rattle.verifier_mode.specs.declared.verdict.Verdict.{Verdict}
use Rattle.verifier_mode.specs.declared.verdict.Verdict.TheVariants as verdict
use Rattle.ask_core.specs.Clients.{IsAsked, IsKnown, Stands}
use Rattle.ask_core.specs.Replies.{StepFollows, IsRefused, called_type}
use Rattle.ask_core.specs.declared.asked.Asked.{Asked}
use Rattle.ask_core.specs.declared.replied.Replied.{Replied}
use Rattle.ask_core.specs.declared.standing.Known.{Known}
use Rattle.ask_core.specs.declared.standing.Standing.TheVariants.{Idle, Calling, FailedBy}
use Rattle.ask_core.specs.declared.told.AskFault.TheVariants.{BadState, BadArgument, Rejected}
use Rattle.ask_core.specs.declared.told.Told.TheVariants as tells
use Rattle.ask_core.proofs.Called.{argument_is, result_is}
use Rattle.ask_core.proofs.Following.{follows}

-- what holds of each standing of the definitions that it stands for
pub each_call : (P : Program) (known : Known) (asked : Asked) (Q : meant.Standing → Type 0)
    → ((k : meant.Known) (a : meant.Asked) → IsKnown known k → IsAsked P asked a → Q (meant.Calling k a)) → (m : meant.Standing) → Stands P (Calling known asked) m → Q m
each_call P known asked Q go (meant.Calling k a) r = go k a r.0 r.1
each_call P known asked Q go m r = elim r [ ]

-- The call of a session that stands so, of this role, judged on the frames.
module _ (hash : Hash) (P : Program) (known : Known) (asked : Asked) (k : meant.Known) (a : meant.Asked) (is_known : IsKnown known k) (is_asked : IsAsked P asked a)
    (role : definition.Role) (is : role ≡ role_in P asked.role) (shape : HasRoleShape P role) (reading : reads_state (role_in P asked.role).kind ≡ true) (session : ℕ)
    (frames : List ℕ) (c : meant.Client) where
  called : role ≡ role_in P a.role
  called = is ∙ ap (role_in P) (sym is_asked.role)

  reads : reads_state role.kind ≡ true
  reads = ap (λ (r : definition.Role). reads_state r.kind) is ∙ reading

  abbrev verdict_here : checked.Verdict
  verdict_here = verdict_on hash P (argument_type P role.function) role.function known.state asked.argument asked.fuel frames known.ring.size k.recent

  verdict_same : meant.verdict_of hash P k a frames ≡ verdict_here
  verdict_same =
      ap (λ (r : definition.Role). verdict_on hash P r.argument r.function k.state a.argument a.fuel frames k.kept k.recent) (sym called)
      ∙ ap (λ t. verdict_on hash P t role.function k.state a.argument a.fuel frames k.kept k.recent) (sym (argument_is P role shape reads))
      ∙ ap (λ s. verdict_on hash P (argument_type P role.function) role.function s a.argument a.fuel frames k.kept k.recent) is_known.state
      ∙ ap (λ s. verdict_on hash P (argument_type P role.function) role.function known.state s a.fuel frames k.kept k.recent) is_asked.argument
      ∙ ap (λ f. verdict_on hash P (argument_type P role.function) role.function known.state asked.argument f frames k.kept k.recent) is_asked.fuel
      ∙ ap (λ n. verdict_on hash P (argument_type P role.function) role.function known.state asked.argument asked.fuel frames n k.recent) is_known.size

  -- the same of the bytes as they are lent
  pub lent_verdict : (state argument : List ℕ) → state ≡ known.state → argument ≡ asked.argument
      → verdict_on hash P (argument_type P role.function) role.function state argument asked.fuel frames known.ring.size k.recent ≡ verdict_here
  lent_verdict state argument state_is argument_is =
      ap (λ s. verdict_on hash P (argument_type P role.function) role.function s argument asked.fuel frames known.ring.size k.recent) state_is
      ∙ ap (λ s. verdict_on hash P (argument_type P role.function) role.function known.state s asked.fuel frames known.ring.size k.recent) argument_is

  -- the ring, as the verifier asks for it
  pub ring_is : known.ring ≡ kept known.ring.size k.recent
  ring_is = is_known.ring ∙ ap (λ n. kept n k.recent) is_known.size

  abbrev stands : meant.Standing
  stands = meant.Calling k a

  step_by : (v : checked.Verdict) → verdict_here ≡ v
      → meant.reply_step hash P (Some stands) c session (message.Proof session frames) ≡ meant.verdict_step hash P v c session k a frames
  step_by v e = ap (λ v. meant.verdict_step hash P v c session k a frames) (verdict_same ∙ e)

  type_is : (function_at P role.function).result ≡ called_type P (Some stands)
  type_is = result_is P role shape ∙ ap (λ (r : definition.Role). r.result) called

  -- an accepted outcome: the state and the ring behind it
  pub accepted : (told : Outcome Spelling) (state : List ℕ) (ring : Kept) (replied : Replied) (behind : Known) → Tells P (function_at P role.function).result verdict_here (Ok told)
      → ((o : ideal.Outcome) → SpellsOutcome P role.result o told → state ≡ meant.state_behind (state_made role.kind o) known.state)
      → ring ≡ kept known.ring.size (after_bytes P.format.limit frames known.ring.size k.recent)
      → behind.state ≡ state → behind.ring ≡ ring → replied.standing ≡ Some (Idle behind) → replied.told ≡ Ok (tells.Outcome told)
      → StepFollows hash P stands c (message.Proof session frames) replied
  accepted told state ring replied behind (o, is_accepted, spells) spelled held state_is ring_so stands_so told_so =
      let after : meant.Known = meant.known_behind hash P k a frames o in
      follows hash P stands c (message.Proof session frames) replied (Some (meant.Idle after)) (meant.Tells o) (step_by (checked.Accepted o) is_accepted)
      (Some (Idle behind)) (Ok (tells.Outcome told)) stands_so told_so
      (record {
        state =
            ap (λ (r : definition.Role). meant.state_behind (state_made r.kind o) k.state) (sym called)
            ∙ ap (meant.state_behind (state_made role.kind o)) is_known.state ∙ sym (spelled o (subst (λ t. SpellsOutcome P t o told) (result_is P role shape) spells)) ∙ sym state_is;
        size = is_known.size ∙ sym (ap (λ (r : Kept). r.size) (ring_so ∙ held));
        ring = ring_so ∙ held ∙ ap (λ n. kept n (after_bytes P.format.limit frames n k.recent)) (sym is_known.size);
      })
      (o, refl, subst (λ t. SpellsOutcome P t o told) type_is spells) (λ h f. refl)

  -- any other verdict
  pub refused : (t : Ty) (v : Verdict) (replied : Replied) → Tells P t verdict_here (Err v) → IsRefused session v replied
      → StepFollows hash P stands c (message.Proof session frames) replied
  refused t (verdict.Rejected cause) replied says so =
      follows hash P stands c (message.Proof session frames) replied (Some (meant.FailedBy (cause_told cause))) (meant.IsRejected session (cause_told cause))
      (step_by (checked.Rejected (cause_told cause)) says) (Some (FailedBy cause)) (Err (Rejected session cause)) so.0 so.1 refl refl (λ h f. refl)
  refused t (verdict.BadState offset) replied says so =
      follows hash P stands c (message.Proof session frames) replied None (meant.StateFault offset)
      (step_by (checked.BadState offset) says) None (Err (BadState offset)) so.0 so.1 tt refl (λ h f. refl)
  refused t (verdict.BadArgument offset) replied says so =
      follows hash P stands c (message.Proof session frames) replied None (meant.ArgumentFault offset)
      (step_by (checked.BadArgument offset) says) None (Err (BadArgument offset)) so.0 so.1 tt refl (λ h f. refl)
  refused t verdict.ReadFault replied says so = absurd so
  refused t verdict.NoMemory replied says so = absurd so
