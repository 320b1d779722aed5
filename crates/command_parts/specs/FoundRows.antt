-- Rows for what a command's work found, before it is told, and for the numbers among its arguments. What each word takes, and what it refuses.
use Rattle.std.specs.Prelude.{◌≡◌, ℕ, List, [], ◌∷◌, ◌++◌, map, codes, Option, Some, None, Ok, Err, refl}
use Rattle.std.specs.List.{concat}
use Rattle.std.proofs.Common.{lit≤}
use Rattle.core_terms.specs.declared.byte_string.ByteString.{ByteString as Spelling}
use Rattle.core_terms.specs.declared.outcome.Outcome.{Outcome}
use Rattle.ideal_meaning.specs.Ideal as ideal
use Rattle.lam_outside.specs.Causes.{Rose}
use Rattle.ideal_meaning.specs.SpelledOutcomes.{SpellsOutcome}
use Rattle.printed_lines.specs.Lines.{proof_line, refusal_line}
use Rattle.printed_lines.specs.declared.refusal.InputFault.TheVariants as input_fault
use Rattle.printed_lines.specs.declared.refusal.Refusal.{Refusal}
use Rattle.printed_lines.specs.declared.refusal.Refusal.TheVariants as refusal
use Rattle.printed_lines.specs.declared.refusal.Rejection.{Rejection}
use Rattle.printed_syntax.specs.declared.fault.LiteralKind.TheVariants.{Mismatch}
use Rattle.prover_mode.specs.declared.proving.Proved.{Proved}
use Rattle.verifier_mode.specs.declared.verdict.Verdict.TheVariants as verdict
use Rattle.command_parts.specs.Answer.{agreeing}
use Rattle.command_parts.specs.AcceptedAnswers.{shallow_told}
use Rattle.command_parts.specs.AnswerForms.{Answer, says}
use Rattle.command_parts.specs.RefusedAnswers.{refusal_status}
use Rattle.command_parts.specs.Arguments.{fuel_of, most_links, most_port, most_rounds, most_seed, most_slice, positive, positive_within}
use Rattle.command_parts.specs.FueledRoles.{FueledRole}
use Rattle.command_parts.specs.Halting.{Finds, FindsLines, Found, StepGives, StepGivesFor, HaltCause, HaltsAs, InHand, JudgementCause, MayHalt, MayHaltJudging, TellsLines, WithoutFiles, ending_status, halt_line}
use Rattle.command_parts.specs.VerdictHalts.{of_verdict}
use Rattle.command_parts.specs.Reporting.{IsToldOf, Reports, ReportsAgreement, ReportsProof}
use Rattle.command_parts.specs.RoleCalls.{program_called, result_called}
use Rattle.command_parts.specs.declared.report.Halt.{Halt}
use Rattle.command_parts.specs.declared.report.Halt.TheVariants.{Usage, Refused, ReadFault, NoMemory}
use Rattle.command_parts.specs.declared.report.Report.{Report}
use Rattle.command_parts.specs.declared.status.Status.TheVariants as status

-- NUMBERS
pub greatest : most_seed ∷ most_rounds ∷ most_port ∷ most_links ∷ most_slice ∷ [] ≡ 18446744073709551615 ∷ 100000 ∷ 65535 ∷ 1000 ∷ 1000000 ∷ []
greatest = refl

pub most_fuel_is_told : (fuel_of (codes "1000000000000") ≡ Some 1000000000000) × (fuel_of (codes "1000000000001") ≡ None)
most_fuel_is_told = (refl, refl)

pub one_at_least : map positive (Some 0 ∷ Some 1 ∷ Some 2 ∷ None ∷ []) ≡ None ∷ Some 1 ∷ Some 2 ∷ None ∷ []
one_at_least = refl

pub ports : map (positive_within most_port) (codes "0" ∷ codes "1" ∷ codes "65535" ∷ codes "65536" ∷ []) ≡ None ∷ Some 1 ∷ Some 65535 ∷ None ∷ []
ports = refl

-- WHAT HALTS WORK
pub halt_lines : (what : Refusal) → map halt_line (Usage ∷ Refused what ∷ ReadFault ∷ NoMemory ∷ [])
    ≡ codes "usage: lamauth COMMAND ARGUMENTS\n" ∷ refusal_line what ∷ codes "read fault\n" ∷ codes "no memory\n" ∷ []
halt_lines what = refl

pub verdicts : (offset : ℕ) → (of_verdict (verdict.BadState offset) ≡ Refused (refusal.Input (input_fault.State offset)))
    × (of_verdict (verdict.BadArgument offset) ≡ Refused (refusal.Input (input_fault.Literal Mismatch offset))) × (of_verdict verdict.ReadFault ≡ ReadFault) × (of_verdict verdict.NoMemory ≡ NoMemory)
verdicts offset = (refl, refl, refl, refl)

-- nothing is said of the answer where a file couldn't be read or memory was wanting
pub halts_as : (answer : Option Answer) (what : Refusal) → HaltsAs answer ReadFault × HaltsAs answer NoMemory × (HaltsAs answer (Refused what) → answer ≡ Some (says (refusal_status what) (refusal_line what)))
    × (HaltsAs answer Usage → answer ≡ Some (says status.Usage (codes "usage: lamauth COMMAND ARGUMENTS\n")))
halts_as answer what = (tt, tt, (λ h. h), (λ h. h))

module _ (answer : Option Answer) (report : Report) (halt : Halt) where
  pub finds : (Finds answer (Ok report) → answer ≡ Some (says (ending_status report.ending) report.text.items)) × (Finds answer (Err halt) → HaltsAs answer halt)
  finds = ((λ f. f), (λ f. f))

  pub finds_lines : (FindsLines answer (Ok report) → (a : Answer) × (answer ≡ Some a) × TellsLines a report) × (FindsLines answer (Err halt) → HaltsAs answer halt)
  finds_lines = ((λ f. f), (λ f. f))

pub tells_lines : (a : Answer) (report : Report) (t : TellsLines a report) → (a.status ≡ ending_status report.ending) × (concat a.lines ≡ report.text.items) × (a.stored ≡ [])
tells_lines a report t = (t.status, t.lines, t.stored)

-- work that reads no file is halted by no words and no file; and on what is in hand by no proof either
pub without_files : (Says : Found → Type 0) (report : Report) (what : Refusal) → (WithoutFiles Says (Err Usage) → ⊥) × (WithoutFiles Says (Err ReadFault) → ⊥)
    × (WithoutFiles Says (Err (Refused what)) → Says (Err (Refused what))) × (WithoutFiles Says (Err NoMemory) → Says (Err NoMemory)) × (WithoutFiles Says (Ok report) → Says (Ok report))
without_files Says report what = ((λ w. w), (λ w. w), (λ w. w), (λ w. w), (λ w. w))

pub in_hand : (Says : Found → Type 0) (report : Report) (cause : Rejection) → (InHand Says (Err (Refused (refusal.Proof cause))) → ⊥) × (InHand Says (Err ReadFault) → ⊥)
    × (InHand Says (Err NoMemory) → Says (Err NoMemory)) × (InHand Says (Ok report) → Says (Ok report))
in_hand Says report cause = ((λ i. i), (λ i. i), (λ i. i), (λ i. i))

-- A step gives the value that the answer goes on with, or halts, whatever it goes on with.
module _ (step : (ℕ → Option Answer) → Option Answer) (n : ℕ) (halt : Halt) where
  pub goes_on : (StepGives step (λ (n : ℕ). n) (Ok n) → (go : ℕ → Option Answer) → step go ≡ go n) × (StepGives {T = ℕ} step (λ n. n) (Err halt) → (go : ℕ → Option Answer) → HaltsAs (step go) halt)
  goes_on = ((λ g. g), (λ g. g))

  pub goes_on_for : (StepGivesFor step (λ (t a : ℕ). t ≡ a) (Ok n) → (a : ℕ) × ((go : ℕ → Option Answer) → step go ≡ go a) × (n ≡ a))
      × (StepGivesFor {T = ℕ} step (λ t a. t ≡ a) (Err halt) → (go : ℕ → Option Answer) → HaltsAs (step go) halt)
  goes_on_for = ((λ g. g), (λ g. g))

-- COUNTS
-- the count of reads rose where a file couldn't be read, and at no other end
pub halts_judging : (what : Refusal) → (MayHaltJudging 3 3 Usage → ⊥) × MayHaltJudging 3 4 ReadFault × MayHaltJudging 3 3 NoMemory × MayHaltJudging 3 3 (Refused what)
    × (MayHaltJudging 3 3 ReadFault → Rose 3 3)
halts_judging what = ((λ m. m), lit≤ tt, refl, refl, (λ m. m))

-- and no proof is rejected where none is judged
pub halts_unjudging : (cause : Rejection) → (MayHalt 3 3 (Refused (refusal.Proof cause)) → ⊥) × (MayHalt 3 3 Usage → ⊥) × MayHalt 3 4 ReadFault × MayHalt 3 3 NoMemory
halts_unjudging cause = ((λ m. m), (λ m. m), lit≤ tt, refl)

pub by_halt : (before now : ℕ) (halt : Halt) → (JudgementCause {T = ℕ} before now (Ok 0) → now ≡ before) × (JudgementCause {T = ℕ} before now (Err halt) → MayHaltJudging before now halt)
    × (HaltCause {T = ℕ} before now (Ok 0) → now ≡ before) × (HaltCause {T = ℕ} before now (Err halt) → MayHalt before now halt)
by_halt before now halt = ((λ c. c), (λ c. c), (λ c. c), (λ c. c))

-- REPORTS
module _ (r : FueledRole) (told : Outcome Spelling) (report : Report) where
  pub is_told_of : (o : ideal.Outcome) → IsToldOf r o told → SpellsOutcome (program_called r) (result_called r) o told
  is_told_of o is = is

  pub reports : Reports r told report → (o : ideal.Outcome) → IsToldOf r o told → shallow_told r o ≡ says (ending_status report.ending) report.text.items
  reports is = is

  pub reports_agreement : ReportsAgreement r told report → (o : ideal.Outcome) → IsToldOf r o told → agreeing (shallow_told r o) ≡ says (ending_status report.ending) report.text.items
  reports_agreement is = is

pub reports_proof : (r : FueledRole) (proved : Proved) (bytes : ℕ) (report : Report) → ReportsProof r proved bytes report → (o : ideal.Outcome) → IsToldOf r o proved.outcome
    → (line : List ℕ) × (shallow_told r o ≡ says (ending_status report.ending) line) × (report.text.items ≡ line ++ proof_line proved.fresh proved.again bytes)
reports_proof r proved bytes report is = is
