-- Rows for mirrors: what is filed of pieces, how a mirror's file is read, and the verdict over its pieces. Each holds by computing both sides.
use Rattle.std.specs.Prelude.{◌≡◌, ℕ, List, [], ◌∷◌, codes, Option, Some, None, Ok, Err, refl}
use Rattle.std.specs.Fmt.{digits}
use Rattle.core_terms.specs.Types.{UnitTy}
use Rattle.core_terms.specs.declared.outcome.Outcome.{Outcome as Told}
use Rattle.core_terms.specs.declared.byte_string.ByteString.{ByteString as Spelling}
use Rattle.core_terms.specs.Values.{UnitV}
use Rattle.ideal_meaning.specs.Checked.{Verdict, Accepted, BadArgument, BadPiece, BadState, Broken, Missing, Rejected, WrongPiece}
use Rattle.ideal_meaning.specs.Examples.{toy, unit_program}
use Rattle.ideal_meaning.specs.Fetched.{Got, IsBroken, IsPiece}
use Rattle.ideal_meaning.specs.Ideal.{Done, Out}
use Rattle.ideal_meaning.specs.Wire.{AtEnd}
use Rattle.piece_fetch.specs.declared.verdict.FetchVerdict.{FetchVerdict}
use Rattle.piece_fetch.specs.declared.verdict.FetchVerdict.TheVariants as judged
use Rattle.piece_mirror.specs.Answers.{answer_of}
use Rattle.piece_mirror.specs.Mirrors.{first_with}
use Rattle.command_parts.specs.Answer.{mirror_read, pieces_answer, pieces_file, with_mirror, with_mirror_file}
use Rattle.command_parts.specs.AnswerForms.{Answer, says}
use Rattle.command_parts.specs.RefusedAnswers.{verdict_answer}
use Rattle.fetched_verdicts.specs.Verdicts.{verdict_over}
use Rattle.command_parts.specs.FetchedCalls.{HaltsFor, IsNoFault, ReportsVerdict}
use Rattle.command_parts.specs.FueledRoles.{FueledRole}
use Rattle.command_parts.specs.Reporting.{Reports}
use Rattle.command_parts.specs.declared.report.Halt.{Halt}
use Rattle.command_parts.specs.declared.report.Halt.TheVariants.{NoMemory}
use Rattle.command_parts.specs.declared.report.Report.{Report}
use Rattle.command_parts.specs.declared.status.Status.TheVariants.{Done as DoneStatus, InputRefused, Rejected as RejectedStatus}

-- WHAT IS FILED
pub none_filed : (name : List ℕ) → pieces_answer [] name
    ≡ record { status = DoneStatus; lines = codes "pieces 0\n" ∷ []; stored = (name, 0x4C ∷ 0x41 ∷ 0x4D ∷ 0x31 ∷ 0 ∷ 0 ∷ 0 ∷ 0 ∷ []) ∷ [] }
unfolding pieces_file digits
none_filed name = refl

pub one_filed : (name : List ℕ) → pieces_answer ([] ∷ []) name
    ≡ record { status = DoneStatus; lines = codes "pieces 1\n" ∷ []; stored = (name, 0x4C ∷ 0x41 ∷ 0x4D ∷ 0x31 ∷ 0 ∷ 0 ∷ 0 ∷ 1 ∷ 0 ∷ 0 ∷ 0 ∷ 0 ∷ []) ∷ [] }
unfolding pieces_file digits
one_filed name = refl

-- HOW A MIRROR'S FILE IS READ
module _ (go : List (List ℕ) → Option Answer) where
  pub no_mirror : with_mirror_file None go ≡ None
  no_mirror = refl

  pub mirror_goes_on : with_mirror (0x4C ∷ 0x41 ∷ 0x4D ∷ 0x31 ∷ 0 ∷ 0 ∷ 0 ∷ 1 ∷ 0 ∷ 0 ∷ 0 ∷ 0 ∷ []) go ≡ go ([] ∷ [])
  unfolding mirror_read
  mirror_goes_on = refl

  pub mirror_cut : with_mirror (0x4C ∷ 0x41 ∷ []) go ≡ Some (says InputRefused (codes "input refused: mirror cut 2\n"))
  unfolding mirror_read digits
  mirror_cut = refl

  pub bad_field : with_mirror (0x4C ∷ 0x41 ∷ 0x4D ∷ 0x32 ∷ []) go ≡ Some (says InputRefused (codes "input refused: mirror field 0\n"))
  unfolding mirror_read digits
  bad_field = refl

  pub leftover : with_mirror (0x4C ∷ 0x41 ∷ 0x4D ∷ 0x31 ∷ 0 ∷ 0 ∷ 0 ∷ 0 ∷ 9 ∷ []) go ≡ Some (says InputRefused (codes "input refused: mirror leftover 1\n"))
  unfolding mirror_read digits
  leftover = refl

-- THE VERDICT OVER A STORE
-- on opening a unit, whose digest is that of no bytes, with so much fuel: over whoever answers, and over pieces of which the first with the
-- digest is found
abbrev pub over : (List ℕ → Got) → ℕ → Verdict
over get fuel = verdict_over toy unit_program get UnitTy 1 (toy []) [] fuel

abbrev pub over_pieces : List (List ℕ) → ℕ → Verdict
over_pieces pieces fuel = over (λ d. answer_of (first_with toy d pieces)) fuel

pub its_piece_is_found : over_pieces ([] ∷ []) 1 ≡ Accepted (Done UnitV)
its_piece_is_found = refl

pub no_piece_is_found : over_pieces [] 1 ≡ Rejected (Missing 0 (toy []))
no_piece_is_found = refl

pub other_piece_is_not_found : over_pieces ((5 ∷ []) ∷ []) 1 ≡ Rejected (Missing 0 (toy []))
other_piece_is_not_found = refl

pub piece_behind_is_found : over_pieces ((5 ∷ []) ∷ [] ∷ []) 1 ≡ Accepted (Done UnitV)
piece_behind_is_found = refl

-- the byte 0 has the digest of no bytes too, and is no spelling of unit
pub first_piece_is_bad : over_pieces ((0 ∷ []) ∷ [] ∷ []) 1 ≡ Rejected (BadPiece 0 0)
first_piece_is_bad = refl

pub no_fuel_asks_nothing : over_pieces [] 0 ≡ Accepted Out
no_fuel_asks_nothing = refl

pub wrong_piece : over (λ d. IsPiece (5 ∷ [])) 1 ≡ Rejected (WrongPiece 0 (toy []) (toy (5 ∷ [])))
wrong_piece = refl

pub nothing_is_read : over (λ d. IsBroken AtEnd) 1 ≡ Rejected (Broken 0 (toy []) AtEnd)
nothing_is_read = refl

-- the state is read before the argument, and both before a piece is asked for
pub state_is_read_first : verdict_over toy unit_program (λ d. IsBroken AtEnd) UnitTy 1 [] (7 ∷ []) 1 ≡ BadState 0
state_is_read_first = refl

pub argument_is_read_next : verdict_over toy unit_program (λ d. IsBroken AtEnd) UnitTy 1 (toy []) (7 ∷ []) 1 ≡ BadArgument 0
argument_is_read_next = refl

-- and the line of a rejection
pub rejection_is_told : (told : List ℕ) → verdict_answer (λ o. says DoneStatus told) (over (λ d. IsBroken AtEnd) 1) ≡ says RejectedStatus (codes "reply ended\n")
rejection_is_told told = refl

-- of what is told the outcome is reported, where there is memory for its line, and else what ends the work for the verdict
module _ (r : FueledRole) (told : Told Spelling) (verdict : FetchVerdict) (report : Report) (halt : Halt) where
  pub reports_outcome : (ReportsVerdict r (Ok told) (Ok report) → Reports r told report) × (ReportsVerdict r (Ok told) (Err halt) → halt ≡ NoMemory)
  reports_outcome = ((λ r. r), (λ r. r))

  pub reports_halt : (ReportsVerdict r (Err verdict) (Ok report) → ⊥) × (ReportsVerdict r (Err verdict) (Err halt) → HaltsFor verdict halt)
  reports_halt = ((λ r. r), (λ r. r))

  pub halts_for : (HaltsFor judged.NoMemory halt → halt ≡ NoMemory) × (HaltsFor judged.FetchFault halt → ⊥)
  halts_for = ((λ h. h), (λ h. h))

pub no_faults : IsNoFault judged.NoMemory × (IsNoFault judged.FetchFault → ⊥)
no_faults = (tt, (λ n. n))
