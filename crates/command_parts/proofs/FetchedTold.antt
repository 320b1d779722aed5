-- What the code tells of a call over a mirror is the verdict over its pieces.
use Rattle.std.proofs.Common.{◌≡◌, ℕ, Bool, true, false, List, [], ◌∷◌, Option, Some, Result, Ok, Err, IfErr, bytes_eq, if◌then◌else◌, refl, sym, ap, ◌∙◌, subst, arith}
use Rattle.std.proofs.lemmas.Slice.Eq.{bytes_eq-Decides}
use Rattle.core_terms.specs.Formats.{Hash}
use Rattle.core_terms.specs.Roles.{argument_type}
use Rattle.core_terms.specs.Terms.{Program, function_at}
use Rattle.core_terms.specs.Types.{Ty}
use Rattle.core_terms.specs.declared.outcome.Outcome.{Outcome}
use Rattle.core_terms.specs.declared.byte_string.ByteString.{ByteString as Spelling}
use Rattle.ideal_meaning.specs.Checked as checked
use Rattle.ideal_meaning.specs.Checked.{Cause, WrongPiece, BadPiece, Missing, Broken, Verdict}
use Rattle.ideal_meaning.specs.Fetched.{Got, IsPiece, IsLack, IsBroken, Answered, Gave, GaveLast, verdict_from}
use Rattle.ideal_meaning.specs.FetchLaws.{HasDigest, IsStore}
use Rattle.ideal_meaning.specs.Ideal as ideal
use Rattle.piece_fetch.specs.Verdicts.{Judges, Tells, VerdictCause}
use Rattle.piece_fetch.specs.declared.verdict.FetchCause.{FetchCause}
use Rattle.piece_fetch.specs.declared.verdict.FetchCause.TheVariants as cause
use Rattle.piece_fetch.specs.declared.verdict.FetchVerdict.{FetchVerdict}
use Rattle.piece_fetch.specs.declared.verdict.FetchVerdict.TheVariants as verdict
use Rattle.piece_mirror.specs.Answers.{answer_of}
use Rattle.piece_mirror.specs.Mirrors.{first_with}
use Rattle.printed_lines.specs.Lines.{rejected_line, rejection_line}
use Rattle.command_parts.specs.AcceptedAnswers.{shallow_told}
use Rattle.command_parts.specs.AnswerForms.{Answer, says}
use Rattle.command_parts.specs.RefusedAnswers.{verdict_answer}
use Rattle.command_parts.specs.FetchedCalls.{HaltsFor, IsNoFault, ReportsVerdict, TellsVerdict, rejection_of}
use Rattle.fetched_verdicts.specs.Verdicts.{AreAnswersOf, verdict_over}
use Rattle.command_parts.specs.FueledRoles.{FueledRole}
use Rattle.command_parts.specs.Halting.{Finds, Found, JudgementCause, WithoutFiles, ending_status}
use Rattle.command_parts.specs.Reporting.{Reports}
use Rattle.command_parts.specs.RoleCalls.{program_called, result_called}
use Rattle.command_parts.specs.declared.report.Halt.{Halt}
use Rattle.command_parts.specs.declared.report.Halt.TheVariants.{Usage, Refused, ReadFault, NoMemory}
use Rattle.command_parts.specs.declared.report.Report.{Report}
use Rattle.command_parts.specs.declared.status.Status.TheVariants.{Rejected as RejectedStatus}
use Rattle.fetched_verdicts.proofs.GivenAnswers.{verdict_given}

-- what pieces answer has the digest
module _ (hash : Hash) where
  abbrev pub from_pieces : List (List ℕ) → List ℕ → Got
  from_pieces pieces d = answer_of (first_with hash d pieces)

  pub pieces_are_store : (pieces : List (List ℕ)) → IsStore hash (from_pieces pieces)
  pieces_are_store [] d = tt
  pieces_are_store (p ∷ ps) d = by (bytes_eq (hash p) d) refl (pieces_are_store ps d)
    where
      by : (b : Bool) → bytes_eq (hash p) d ≡ b → HasDigest hash (from_pieces ps d) d → HasDigest hash (answer_of (if b then Some p else first_with hash d ps)) d
      by true is behind = (bytes_eq-Decides (hash p) d).0 is
      by false is behind = behind

-- answers of one whose pieces are always these
module _ {U : Type 0} (pieces : U → List (List ℕ)) (hash : Hash) where
  abbrev May : U → List ℕ → Got → U → Type 0
  May old d got new = (pieces new ≡ pieces old) × (got ≡ answer_of (first_with hash d (pieces old)))

  module _ (held : List (List ℕ)) where
    gave : (bs : List (List ℕ)) (old new : U) → pieces old ≡ held → Gave hash May old bs new → Gave {A = Unit {0}} hash (λ old d a new. a ≡ from_pieces hash held d) tt bs tt × (pieces new ≡ held)
    gave [] old new e h = (refl, ap pieces (sym h) ∙ e)
    gave (b ∷ bs) old new e (mid, is, more) =
        let rest = gave bs mid new (is.0 ∙ e) more in
        ((tt, is.1 ∙ ap (λ ps. from_pieces hash ps (hash b)) e, rest.0), rest.1)

    gave_last : (a : Got) (c : Cause) (old new : U) → pieces old ≡ held → GaveLast hash May old a c new → GaveLast {A = Unit {0}} hash (λ old d a new. a ≡ from_pieces hash held d) tt a c tt
    gave_last IsLack (Missing place want) old new e h = h.1 ∙ ap (λ ps. from_pieces hash ps want) e
    gave_last (IsBroken wire) (Broken place want found) old new e h = (h.0, h.1.1 ∙ ap (λ ps. from_pieces hash ps want) e)
    gave_last (IsPiece b) (WrongPiece place want found) old new e h = (h.0, h.1.1 ∙ ap (λ ps. from_pieces hash ps want) e)
    gave_last (IsPiece b) (BadPiece place offset) old new e h = h.1 ∙ ap (λ ps. from_pieces hash ps (hash b)) e
    gave_last a c old new e h = elim h [ ]

    answers_given : (answers : List Got) (v : Verdict) (old new : U) → pieces old ≡ held → Answered hash May old answers v new → AreAnswersOf hash (from_pieces hash held) answers v
    answers_given answers (checked.Accepted o) old new e (bs, is, given) = (bs, is, (gave bs old new e given).0)
    answers_given answers (checked.Rejected c) old new e (bs, a, mid, is, given, last) =
        let before = gave bs old mid e given in
        (bs, a, tt, is, before.0, gave_last a c mid new before.1 last)
    answers_given answers (checked.BadState offset) old new e h = (h.0, refl)
    answers_given answers (checked.BadArgument offset) old new e h = (h.0, refl)

  module _ (P : Program) (f : ℕ) (state argument : List ℕ) (k : ℕ) (old new : U) where
    abbrev get : List ℕ → Got
    get = from_pieces hash (pieces old)

    abbrev over : Verdict
    over = verdict_over hash P get (argument_type P f) f state argument k

    same_verdict : (answers : List Got) (v : Verdict) → verdict_from hash P (argument_type P f) f state argument k answers ≡ v → AreAnswersOf hash get answers v → over ≡ v
    same_verdict answers v is given =
        verdict_given hash get (pieces_are_store hash (pieces old)) P f k answers (argument_type P f) state argument (subst (λ v. AreAnswersOf hash get answers v) (sym is) given) ∙ is

    pub told_over : (result : Result (Outcome Spelling) FetchVerdict) → Judges hash May P f state argument k old new result → VerdictCause 0 0 result
        → TellsVerdict P (function_at P f).result over result
    told_over (Ok told) h same =
        (h.outcome, same_verdict h.answers (checked.Accepted h.outcome) h.is (answers_given (pieces old) h.answers (checked.Accepted h.outcome) old new refl h.given), h.spelled)
    told_over (Err (verdict.Rejected why)) h same =
        (h.cause, same_verdict h.answers (checked.Rejected h.cause) h.is (answers_given (pieces old) h.answers (checked.Rejected h.cause) old new refl h.given), h.tells)
    told_over (Err (verdict.BadState offset)) h same = same_verdict [] (checked.BadState offset) (h.1 []) (refl, refl)
    told_over (Err (verdict.BadArgument offset)) h same = same_verdict [] (checked.BadArgument offset) (h.1 []) (refl, refl)
    told_over (Err verdict.FetchFault) h rose = omega (arith, rose)
    told_over (Err verdict.NoMemory) h same = tt

-- none is that a store failed
no_fault : (P : Program) (t : Ty) (meant : Verdict) (v : FetchVerdict) → TellsVerdict P t meant (Err v) → IsNoFault v
no_fault P t meant (verdict.Rejected why) told = tt
no_fault P t meant (verdict.BadState offset) told = tt
no_fault P t meant (verdict.BadArgument offset) told = tt
no_fault P t meant verdict.FetchFault told = told
no_fault P t meant verdict.NoMemory told = tt

pub no_fault_told : (P : Program) (t : Ty) (meant : Verdict) (judged : Result (Outcome Spelling) FetchVerdict) → TellsVerdict P t meant judged → IfErr judged IsNoFault
no_fault_told P t meant (Ok told) tells = tt
no_fault_told P t meant (Err v) tells = no_fault P t meant v tells

-- the line of a rejection
rejected_as : (why : FetchCause) (c : Cause) → Tells why c → rejected_line c ≡ rejection_line (rejection_of why)
rejected_as (cause.Missing place want) c is = ap rejected_line is
rejected_as (cause.Broken place wire) c is = ap rejected_line is.1
rejected_as (cause.WrongPiece place want found) c is = ap rejected_line is
rejected_as (cause.BadPiece place offset) c is = ap rejected_line is

-- what halts the work is what the answer says
halted_over : (tells : ideal.Outcome → Answer) (P : Program) (t : Ty) (meant : Verdict) (v : FetchVerdict) (halt : Halt) → TellsVerdict P t meant (Err v) → HaltsFor v halt
    → WithoutFiles (Finds (Some (verdict_answer tells meant))) (Err halt)
halted_over tells P t meant (verdict.Rejected why) halt told is =
    subst (λ h. WithoutFiles (Finds (Some (verdict_answer tells meant))) (Err h)) (sym is)
    (ap (λ v. Some (verdict_answer tells v)) told.1 ∙ ap (λ line. Some (says RejectedStatus line)) (rejected_as why told.0 told.2))
halted_over tells P t meant (verdict.BadState offset) halt told is =
    subst (λ h. WithoutFiles (Finds (Some (verdict_answer tells meant))) (Err h)) (sym is) (ap (λ v. Some (verdict_answer tells v)) told)
halted_over tells P t meant (verdict.BadArgument offset) halt told is =
    subst (λ h. WithoutFiles (Finds (Some (verdict_answer tells meant))) (Err h)) (sym is) (ap (λ v. Some (verdict_answer tells v)) told)
halted_over tells P t meant verdict.FetchFault halt told is = absurd told
halted_over tells P t meant verdict.NoMemory halt told is = subst (λ h. WithoutFiles (Finds (Some (verdict_answer tells meant))) (Err h)) (sym is) tt

-- so is the report of an outcome
reported_over : (r : FueledRole) (meant : Verdict) (told : Outcome Spelling) (report : Report) → TellsVerdict (program_called r) (result_called r) meant (Ok told) → Reports r told report
    → Some (verdict_answer (shallow_told r) meant) ≡ Some (says (ending_status report.ending) report.text.items)
reported_over r meant told report (o, is, spelled) reports = ap (λ v. Some (verdict_answer (shallow_told r) v)) is ∙ ap Some (reports o spelled)

-- and that of a verdict
pub verdict_reported : (r : FueledRole) (meant : Verdict) (judged : Result (Outcome Spelling) FetchVerdict) (result : Found) → TellsVerdict (program_called r) (result_called r) meant judged
    → ReportsVerdict r judged result → WithoutFiles (Finds (Some (verdict_answer (shallow_told r) meant))) result
verdict_reported r meant (Ok told) (Ok report) tells reports = reported_over r meant told report tells reports
verdict_reported r meant (Ok told) (Err halt) tells is = subst (λ h. WithoutFiles (Finds (Some (verdict_answer (shallow_told r) meant))) (Err h)) (sym is) tt
verdict_reported r meant (Err v) (Ok report) tells reports = absurd reports
verdict_reported r meant (Err v) (Err halt) tells reports = halted_over (shallow_told r) (program_called r) (result_called r) meant v halt tells reports

-- what is found without reading files leaves the count of their faults
pub found_judging : (answer : Option Answer) (result : Found) (before now : ℕ) → WithoutFiles (Finds answer) result → now ≡ before → JudgementCause before now result
found_judging answer (Ok report) before now finds same = same
found_judging answer (Err Usage) before now finds same = absurd finds
found_judging answer (Err (Refused what)) before now finds same = same
found_judging answer (Err ReadFault) before now finds same = absurd finds
found_judging answer (Err NoMemory) before now finds same = same
