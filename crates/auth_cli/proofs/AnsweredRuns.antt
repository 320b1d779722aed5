-- What a run of `prove` or `audit` says, from the one sentence of how it ended.
use Rattle.std.proofs.Common.{◌≡◌, ◌⊎◌, inl, inr, ℕ, ◌≤◌, Bool, true, false, List, Option, Some, None, cond, refl, ap, sym, ◌∙◌, subst, arith}
use Rattle.std.specs.Prelude.{nat_le, ◌&&◌}
use Rattle.std.specs.Str.Parse.{digits_value}
use Rattle.std.proofs.lemmas.Bool.{leb-true}
use Rattle.lam_outside.specs.Told.{Contents}
use Rattle.command_words.specs.Invocations.{Invocation, invocation_of}
use Rattle.command_words.specs.declared.command.Command.TheVariants.{Audit, Prove}
use Rattle.ideal_meaning.specs.Ideal.{Outcome, Done, Trapped, Out}
use Rattle.collision_audit.specs.Splits.{Split}
use Rattle.command_parts.specs.Answer.{answer, call_audit_answer, called_answer, command_answer, proof_answer}
use Rattle.command_parts.specs.AcceptedAnswers.{shallow_told}
use Rattle.command_parts.specs.AnswerForms.{Answer}
use Rattle.number_words.specs.Numbers.{is_number, number_within}
use Rattle.call_commands.specs.AuditedCalls.{CallsAudit, IsAudited, SplitsAt, TellsAnAudit}
use Rattle.command_parts.specs.Codes.{code}
use Rattle.command_parts.specs.Ending.{EndsAnswered, EndsAs, IsOfFault, IsToldAs}
use Rattle.command_parts.specs.Outsides.{Outside}
use Rattle.command_parts.specs.FueledRoles.{FueledRole}
use Rattle.command_parts.specs.IdealCalls.{IdealCall, call_audit, called_program, projected_outcome}
use Rattle.call_commands.specs.ProvedCalls.{CallsProve, IsProved}
use Rattle.call_commands.specs.TrueLines.{TellsOutcome}
use Rattle.command_parts.specs.declared.status.Status.{Status}
use Rattle.command_parts.specs.declared.status.Status.TheVariants as status
use Rattle.auth_cli.proofs.AcceptedCalls.{call_is_accepted, call_is_meant}
use Rattle.auth_cli.proofs.AnsweredCalls.{audit_means, no_audit, prove_means}
use Rattle.auth_cli.proofs.AuditedRuns.{audit_says, split_is_told}
use Rattle.call_commands.proofs.GoingOn.{audit_is_answered, proof_is_answered}
use Rattle.auth_cli.proofs.TrueAudits.{true_audit}
use Rattle.auth_cli.proofs.VerifiedCalls.{call_is_verified}

-- ---- the answer that was told

-- a run told its answer, or it ended in a fault
pub told_or_fault : (found : Contents → Option Answer) (old new : Outside) (ended : Status) → EndsAs found old new ended
    → EndsAnswered found old new ended ⊎ IsOfFault (code ended)
told_or_fault found old new status.ReadFault ends = inr (inl refl)
told_or_fault found old new status.WriteFault ends = inr (inr (inl refl))
told_or_fault found old new status.NoMemory ends = inr (inr (inr refl))
told_or_fault found old new status.Done ends = inl ends
told_or_fault found old new status.Usage ends = inl ends
told_or_fault found old new status.Trap ends = inl ends
told_or_fault found old new status.OutOfFuel ends = inl ends
told_or_fault found old new status.Rejected ends = inl ends
told_or_fault found old new status.ProgramRefused ends = inl ends
told_or_fault found old new status.InputRefused ends = inl ends
told_or_fault found old new status.Collision ends = inl ends

-- a fault's number is none of an audit
no_fault : (n : ℕ) → TellsAnAudit n → IsOfFault n → ⊥
no_fault n tells (inl is) = no_audit n (omega (arith, is)) (omega (arith, is)) tells
no_fault n tells (inr (inl is)) = no_audit n (omega (arith, is)) (omega (arith, is)) tells
no_fault n tells (inr (inr is)) = no_audit n (omega (arith, is)) (omega (arith, is)) tells

module _ (found : Contents → Option Answer) (old new : Outside) (ended : Status) (ends : EndsAs found old new ended)
    (files : Contents) (known : old.contents ≡ Some files) where
  -- with the number of an audit, it told its answer
  pub told : TellsAnAudit (code ended) → IsToldAs (found files) old new ended
  told tells = by (told_or_fault found old new ended ends)
    where
      by : EndsAnswered found old new ended ⊎ IsOfFault (code ended) → IsToldAs (found files) old new ended
      by (inl answered) = answered.told files known
      by (inr fault) = absurd (no_fault (code ended) tells fault)

  told_status : (o : Option Answer) (a : Answer) → IsToldAs o old new ended → o ≡ Some a → code ended ≡ code a.status
  told_status None a told is = absurd told
  told_status (Some b) a told is = let same : b ≡ a = cc in ap code (sym told.0 ∙ ap (λ (a : Answer). a.status) same)

  -- with an answer, it ended with its number or in a fault
  pub number_or_fault : (a : Answer) → found files ≡ Some a → (code ended ≡ code a.status) ⊎ IsOfFault (code ended)
  number_or_fault a is = by (told_or_fault found old new ended ends)
    where
      by : EndsAnswered found old new ended ⊎ IsOfFault (code ended) → (code ended ≡ code a.status) ⊎ IsOfFault (code ended)
      by (inl answered) = inl (told_status (found files) a (answered.told files known) is)
      by (inr fault) = inr fault

-- what is told is some answer with the status
pub some_told : (found : Option Answer) (old new : Outside) (ended : Status) → IsToldAs found old new ended
    → (a : Answer) × (found ≡ Some a) × (code a.status ≡ code ended)
some_told None old new ended told = absurd told
some_told (Some a) old new ended told = (a, refl, ap code told.0)

or_fault : {A B : Type 0} (n : ℕ) → (A → B) → A ⊎ IsOfFault n → B ⊎ IsOfFault n
or_fault n go (inl is) = inl (go is)
or_fault n go (inr fault) = inr fault

-- the answer to words is that to the command that they call
of_command : (words : List (List ℕ)) (called : Invocation) (files : Contents) → invocation_of words ≡ Some called
    → answer words files ≡ command_answer called files
unfolding answer
of_command words called files is = ap (λ found. called_answer found files) is

-- a number within a greatest one is at most that
within : (most : ℕ) (text : List ℕ) (n : ℕ) → number_within most text ≡ Some n → n ≤ most
within most text n is = by (is_number text) (nat_le (digits_value 10 text) most) refl is
  where
    by : (a b : Bool) → nat_le (digits_value 10 text) most ≡ b → cond (a && b) (Some (digits_value 10 text)) None ≡ Some n → n ≤ most
    by true true few is = let same : digits_value 10 text ≡ n = cc in subst (λ n. n ≤ most) same (leb-true (digits_value 10 text) most few)
    by true false few is = absurd (cc)
    by false b few is = absurd (cc)

outcome_tells : (r : FueledRole) (o : Outcome) → TellsOutcome (code (shallow_told r o).status)
outcome_tells r (Done v) = inl refl
outcome_tells r (Trapped trap) = inr (inl refl)
outcome_tells r Out = inr (inr refl)

-- ---- a run of words that call a command

module _ (words : List (List ℕ)) (called : Invocation) (is : invocation_of words ≡ Some called) (files : Contents)
    (old new : Outside) (known : old.contents ≡ Some files) (ended : Status) (ends : EndsAs (answer words) old new ended) where
  command_told : TellsAnAudit (code ended) → IsToldAs (command_answer called files) old new ended
  command_told tells =
      subst (λ (o : Option Answer). IsToldAs o old new ended) (of_command words called files is) (told (answer words) old new ended ends files known tells)

  command_tells : (a : Answer) → command_answer called files ≡ Some a → (code ended ≡ code a.status) ⊎ IsOfFault (code ended)
  command_tells a answered = number_or_fault (answer words) old new ended ends files known a (of_command words called files is ∙ answered)

  -- of `prove`
  pub proved_run : called.command ≡ Prove → TellsOutcome (code ended) → IsProved called files old new ended
  proved_run command tells =
      let heard = command_told (inl tells) in
      let some = some_told (command_answer called files) old new ended heard in
      let means = prove_means some.0 (subst TellsAnAudit (sym some.2) (inl tells)) called files command some.1 in
      let call = means.0 in
      let calls = means.3 in
      let told = subst (λ (o : Option Answer). IsToldAs o old new ended) (some.1 ∙ sym means.4) heard in
      let meant = call_is_meant calls.program_name calls.role_name calls.image_name calls.argument_text calls.fuel_text files call calls.role calls.inputs in
      let accepted = call_is_accepted call means.1 meant (within (called_program call).format.most_kept calls.kept_text means.1 calls.kept) in
      record {
        call = call;
        kept = means.1;
        out = means.2;
        calls = calls;
        status_told = told.0;
        written = told.1;
        stored = told.2;
        accepted = accepted;
        verified = call_is_verified call means.1 calls.program_name calls.role_name calls.image_name calls.argument_text calls.fuel_text files meant accepted
            calls.role calls.inputs;
      }

  pub prove_tells : (call : IdealCall) (n : ℕ) (name : List ℕ) → CallsProve called files call n name → TellsOutcome (code ended) ⊎ IsOfFault (code ended)
  prove_tells call n name calls =
      or_fault (code ended) (λ same. subst TellsOutcome (sym same) (outcome_tells call.role (projected_outcome call)))
      (command_tells (proof_answer call n name) (proof_is_answered called files call n name calls))

  -- of `audit`
  pub audited_run : called.command ≡ Audit → TellsAnAudit (code ended) → IsAudited called files old new ended
  audited_run command tells =
      let heard = command_told tells in
      let some = some_told (command_answer called files) old new ended heard in
      let means = audit_means some.0 (subst TellsAnAudit (sym some.2) tells) called files command some.1 in
      let call = means.0 in
      let calls = means.2 in
      let told = subst (λ (o : Option Answer). IsToldAs o old new ended) (some.1 ∙ sym means.3) heard in
      let meant = call_is_meant calls.program_name calls.role_name calls.image_name calls.argument_text calls.fuel_text files call calls.role calls.inputs in
      record {
        call = call;
        proof = means.1;
        calls = calls;
        says = audit_says call means.1 (call_audit call means.1) old.written new.written ended (true_audit call means.1 meant) told.0 told.1;
      }

  pub split_tells : (call : IdealCall) (proof : List ℕ) → CallsAudit called files call proof → (split : Split) → SplitsAt call proof split
      → (code ended ≡ 11) ⊎ IsOfFault (code ended)
  split_tells call proof calls split at =
      or_fault (code ended) (λ same. same ∙ ap code (split_is_told call proof split at))
      (command_tells (call_audit_answer call proof) (audit_is_answered called files call proof calls))
