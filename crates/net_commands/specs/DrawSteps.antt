-- The steps of `draw` on the link that was made: what they leave, and how it is told.
use Rattle.std.specs.Prelude.{◌≡◌, ◌⊎◌, ℕ, List, codes, Option, Some, Result, Err, ⊤}
use Rattle.std.specs.List.{concat}
use Rattle.sha2.specs.Sha256.{sha256}
use Rattle.core_terms.specs.declared.outcome.Outcome.{Outcome}
use Rattle.core_terms.specs.declared.byte_string.ByteString.{ByteString as Spelling}
use Rattle.ideal_meaning.specs.Checked.{Verdict}
use Rattle.ideal_meaning.specs.Fetched.{Answered, Got}
use Rattle.lam_outside.specs.Causes.{Rose}
use Rattle.piece_fetch.specs.declared.verdict.FetchVerdict.{FetchVerdict}
use Rattle.piece_fetch.specs.declared.verdict.FetchVerdict.TheVariants as judged
use Rattle.printed_lines.specs.Lines.{link_fault_line}
use Rattle.session_meaning.specs.FetchMessages.{LinkAnswers}
use Rattle.wire_form.specs.MovedBytes.{Moves}
use Rattle.command_parts.specs.AcceptedAnswers.{shallow_told}
use Rattle.command_parts.specs.RoleInputs.{RoleCall}
use Rattle.command_parts.specs.RefusedAnswers.{verdict_answer}
use Rattle.command_parts.specs.FetchedCalls.{TellsVerdict}
use Rattle.command_parts.specs.RoleCalls.{program_called, result_called}
use Rattle.command_parts.specs.Telling.{TellsText}
use Rattle.command_parts.specs.declared.status.Status.{Status}
use Rattle.command_parts.specs.declared.status.Status.TheVariants.{NoMemory, ReadFault}
use Rattle.net_commands.specs.Drawing.{verdict_on}

-- what is told, as the code holds it
abbrev pub Judged : Type 0
Judged = Result (Outcome Spelling) FetchVerdict

-- Where a link tells what is left behind these answers, and what was sent, it gave them one after another.
abbrev pub AreGivenOn : List Got → Verdict → (left sent left' sent' : Option (List ℕ)) → Type 0
AreGivenOn answers verdict left sent left' sent' = (rest out : List ℕ) → left' ≡ Some rest → sent' ≡ Some out
    → (coming before : List ℕ) × (left ≡ Some coming) × (sent ≡ Some before)
    × Answered sha256 LinkAnswers (record { left = coming; sent = before }) answers verdict (record { left = rest; sent = out })

-- The call was judged over some answers, which were given on the link where it is told.
pub record IsJudgedOn (call : RoleCall) (given left sent given' left' sent' : Option (List ℕ)) (verdict : Verdict) : Type 0 where
  pub answers : List Got
  pub is : verdict_on call answers ≡ verdict
  pub are_given : AreGivenOn answers verdict left sent left' sent'
  pub moves : Moves given left given' left'

-- that is told, but where the link failed or memory was wanting
abbrev pub JudgesOn : RoleCall → (given left sent given' left' sent' : Option (List ℕ)) → Judged → Type 0
JudgesOn call given left sent given' left' sent' (Err judged.FetchFault) = ⊤
JudgesOn call given left sent given' left' sent' (Err judged.NoMemory) = ⊤
JudgesOn call given left sent given' left' sent' found =
    (verdict : Verdict) × IsJudgedOn call given left sent given' left' sent' verdict × TellsVerdict (program_called call.role) (result_called call.role) verdict found

-- the lines of the want of memory and of a link that failed
abbrev pub TellsNoMemory : Status → (old new : Option (List ℕ)) → (before now : ℕ) → Type 0
TellsNoMemory status old new before now = TellsText NoMemory (codes "no memory\n") status old new before now

abbrev pub TellsLinkFault : Status → (old new : Option (List ℕ)) → (before now : ℕ) → Type 0
TellsLinkFault status old new before now = TellsText ReadFault link_fault_line status old new before now

-- the answer for a verdict was told
abbrev pub TellsAnswer : RoleCall → Verdict → Status → (old new : Option (List ℕ)) → (before now : ℕ) → Type 0
TellsAnswer call verdict status old new before now =
    let a = verdict_answer (shallow_told call.role) verdict in TellsText a.status (concat a.lines) status old new before now

-- How what was judged is told: by the answer for the verdict, or that there was no memory for its line.
abbrev pub TellsJudged : RoleCall → Judged → Status → (old new : Option (List ℕ)) → (before now : ℕ) → Type 0
TellsJudged call (Err judged.FetchFault) status old new before now = TellsLinkFault status old new before now
TellsJudged call (Err judged.NoMemory) status old new before now = TellsNoMemory status old new before now
TellsJudged call found status old new before now = (verdict : Verdict) → TellsVerdict (program_called call.role) (result_called call.role) verdict found
    → TellsAnswer call verdict status old new before now ⊎ TellsNoMemory status old new before now

-- The call was judged on a link, and the verdict told.
pub record JudgesAndTells (call : RoleCall) (given left sent given' left' sent' : Option (List ℕ)) (faults faults' : ℕ) (status : Status) (old new : Option (List ℕ)) (before now : ℕ) : Type 0 where
  pub verdict : Verdict
  pub on_link : IsJudgedOn call given left sent given' left' sent' verdict
  pub told : TellsAnswer call verdict status old new before now
  pub faults_same : faults' ≡ faults

-- or the link failed, and its count of faults rose, or memory was wanting
abbrev pub EndsOnLink : RoleCall → (given left sent given' left' sent' : Option (List ℕ)) → (faults faults' : ℕ) → Status → (old new : Option (List ℕ)) → (before now : ℕ) → Type 0
EndsOnLink call given left sent given' left' sent' faults faults' status old new before now =
    JudgesAndTells call given left sent given' left' sent' faults faults' status old new before now
    ⊎ ((Rose faults faults' × TellsLinkFault status old new before now) ⊎ ((faults' ≡ faults) × TellsNoMemory status old new before now))
