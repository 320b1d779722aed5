-- How the verdict on a drawing is told: for `tell_judged`, `judge_and_tell`.
use Rattle.std.proofs.Common.{◌≡◌, ◌⊎◌, inl, inr, ℕ, List, Option, Some, Ok, Err, IfErr, sym, ap, subst}
use Rattle.std.specs.List.{concat}
use Rattle.ideal_meaning.specs.Checked.{Verdict}
use Rattle.piece_fetch.specs.Verdicts.{VerdictCause}
use Rattle.piece_fetch.specs.declared.verdict.FetchVerdict.TheVariants as judged
use Rattle.command_parts.specs.AcceptedAnswers.{shallow_told}
use Rattle.command_parts.specs.RoleInputs.{RoleCall}
use Rattle.command_parts.specs.AnswerForms.{Answer, says}
use Rattle.command_parts.specs.RefusedAnswers.{verdict_answer}
use Rattle.command_parts.specs.FetchedCalls.{IsNoFault, ReportsVerdict, TellsVerdict}
use Rattle.command_parts.specs.Halting.{Finds, Found, WithoutFiles, halt_line, halt_status, line_of, status_of}
use Rattle.command_parts.specs.RoleCalls.{program_called, result_called}
use Rattle.command_parts.specs.Telling.{TellsText}
use Rattle.command_parts.specs.TellingInCode.{Tells}
use Rattle.command_parts.specs.declared.report.Halt.TheVariants.{NoMemory, ReadFault, Refused, Usage}
use Rattle.command_parts.specs.declared.status.Status.{Status}
use Rattle.command_parts.proofs.Ends.{one_line}
use Rattle.command_parts.proofs.FetchedTold.{verdict_reported}
use Rattle.net_commands.specs.DrawSteps.{EndsOnLink, IsJudgedOn, Judged, JudgesOn, TellsAnswer, TellsJudged, TellsLinkFault, TellsNoMemory}

-- an answer of one line
told_as : (a : Answer) (status : Status) (line : List ℕ) (ended : Status) (old new : Option (List ℕ)) (before now : ℕ) → Some a ≡ Some (says status line)
    → TellsText status line ended old new before now → TellsText a.status (concat a.lines) ended old new before now
told_as a status line ended old new before now is told =
    let same : says status line ≡ a = cc in
    subst (λ (a : Answer). TellsText a.status (concat a.lines) ended old new before now) same (subst (λ text. TellsText status text ended old new before now) (sym (one_line line)) told)

module _ (ended : Status) (old new : Option (List ℕ)) (before now : ℕ) where
  -- what was found is told, and is what the answer says
  found_told : (a : Answer) (found : Found) → WithoutFiles (Finds (Some a)) found → TellsText (status_of found) (line_of found) ended old new before now
      → TellsText a.status (concat a.lines) ended old new before now ⊎ TellsNoMemory ended old new before now
  found_told a (Ok report) finds told = inl (told_as a _ report.text.items ended old new before now finds told)
  found_told a (Err Usage) finds told = absurd finds
  found_told a (Err (Refused what)) finds told = inl (told_as a (halt_status (Refused what)) (halt_line (Refused what)) ended old new before now finds told)
  found_told a (Err ReadFault) finds told = absurd finds
  found_told a (Err NoMemory) finds told = inr told

  answer_told : (a : Answer) (found : Found) → WithoutFiles (Finds (Some a)) found → Tells found ended old new before now
      → TellsText a.status (concat a.lines) ended old new before now ⊎ TellsNoMemory ended old new before now
  answer_told a found finds (inl told) = found_told a found finds told
  answer_told a found finds (inr lacking) = inr lacking

  -- where memory was wanting for the call, that is told
  lacking_told : (found : Found) → found ≡ Err NoMemory → Tells found ended old new before now → TellsNoMemory ended old new before now
  lacking_told found is (inl told) = subst (λ found. TellsText (status_of found) (line_of found) ended old new before now) is told
  lacking_told found is (inr lacking) = lacking

  -- where the link failed, that is told
  pub fault_told : (call : RoleCall) (what : Judged) → what ≡ Err judged.FetchFault → TellsLinkFault ended old new before now → TellsJudged call what ended old new before now
  fault_told call what is told = subst (λ (what : Judged). TellsJudged call what ended old new before now) (sym is) told

  module _ (call : RoleCall) (found : Found) (told : Tells found ended old new before now) where
    abbrev Told : Judged → Type 0
    Told what = ReportsVerdict call.role what found

    over : (what : Judged) → Told what → (verdict : Verdict) → TellsVerdict (program_called call.role) (result_called call.role) verdict what
        → TellsAnswer call verdict ended old new before now ⊎ TellsNoMemory ended old new before now
    over what reports verdict tells = answer_told (verdict_answer (shallow_told call.role) verdict) found (verdict_reported call.role verdict what found tells reports) told

    nothing_found : (found : Found) → ReportsVerdict call.role (Err judged.NoMemory) found → found ≡ Err NoMemory
    nothing_found (Ok report) reports = absurd reports
    nothing_found (Err halt) reports = ap (λ h. Err h) reports

    pub verdict_told : (what : Judged) → IfErr what IsNoFault → Told what → TellsJudged call what ended old new before now
    verdict_told (Ok outcome) no_fault reports = over (Ok outcome) reports
    verdict_told (Err (judged.Rejected why)) no_fault reports = over (Err (judged.Rejected why)) reports
    verdict_told (Err (judged.BadState offset)) no_fault reports = over (Err (judged.BadState offset)) reports
    verdict_told (Err (judged.BadArgument offset)) no_fault reports = over (Err (judged.BadArgument offset)) reports
    verdict_told (Err judged.FetchFault) no_fault reports = absurd no_fault
    verdict_told (Err judged.NoMemory) no_fault reports = lacking_told found (nothing_found found reports) told

-- what was judged on a link, and how it was told
module _ (call : RoleCall) (given left sent given' left' sent' : Option (List ℕ)) (faults faults' : ℕ) (ended : Status) (old new : Option (List ℕ)) (before now : ℕ) where
  told_so : (verdict : Verdict) → IsJudgedOn call given left sent given' left' sent' verdict → faults' ≡ faults
      → TellsAnswer call verdict ended old new before now ⊎ TellsNoMemory ended old new before now
      → EndsOnLink call given left sent given' left' sent' faults faults' ended old new before now
  told_so verdict on_link same (inl told) = inl (record { verdict = verdict; on_link = on_link; told = told; faults_same = same })
  told_so verdict on_link same (inr lacking) = inr (inr (same, lacking))

  pub ends_on_link : (what : Judged) → JudgesOn call given left sent given' left' sent' what → VerdictCause faults faults' what → TellsJudged call what ended old new before now
      → EndsOnLink call given left sent given' left' sent' faults faults' ended old new before now
  ends_on_link (Ok outcome) (verdict, on_link, tells) same told = told_so verdict on_link same (told verdict tells)
  ends_on_link (Err (judged.Rejected why)) (verdict, on_link, tells) same told = told_so verdict on_link same (told verdict tells)
  ends_on_link (Err (judged.BadState offset)) (verdict, on_link, tells) same told = told_so verdict on_link same (told verdict tells)
  ends_on_link (Err (judged.BadArgument offset)) (verdict, on_link, tells) same told = told_so verdict on_link same (told verdict tells)
  ends_on_link (Err judged.FetchFault) judges rose told = inr (inl (rose, told))
  ends_on_link (Err judged.NoMemory) judges same told = inr (inr (same, told))
