-- What the code tells of a verdict over pieces that are fetched.
use Rattle.std.specs.Prelude.{◌≡◌, Result, Ok, Err, ⊤}
use Rattle.core_terms.specs.Terms.{Program}
use Rattle.core_terms.specs.Types.{Ty}
use Rattle.core_terms.specs.declared.cause.Cause.TheVariants as frames
use Rattle.core_terms.specs.declared.outcome.Outcome.{Outcome}
use Rattle.core_terms.specs.declared.byte_string.ByteString.{ByteString as Spelling}
use Rattle.ideal_meaning.specs.Checked as checked
use Rattle.ideal_meaning.specs.Ideal as ideal
use Rattle.ideal_meaning.specs.SpelledOutcomes.{SpellsOutcome}
use Rattle.piece_fetch.specs.Verdicts.{Tells}
use Rattle.piece_fetch.specs.declared.verdict.FetchCause.{FetchCause}
use Rattle.piece_fetch.specs.declared.verdict.FetchCause.TheVariants.{Missing, Broken, WrongPiece, BadPiece}
use Rattle.piece_fetch.specs.declared.verdict.FetchVerdict.{FetchVerdict}
use Rattle.piece_fetch.specs.declared.verdict.FetchVerdict.TheVariants as verdict
use Rattle.printed_lines.specs.declared.refusal.InputFault.TheVariants as input_fault
use Rattle.printed_lines.specs.declared.refusal.Refusal.TheVariants as refusal
use Rattle.printed_lines.specs.declared.refusal.Rejection.{Rejection}
use Rattle.printed_lines.specs.declared.refusal.Rejection.TheVariants as rejection
use Rattle.printed_syntax.specs.declared.fault.LiteralKind.TheVariants.{Mismatch}
use Rattle.command_parts.specs.FueledRoles.{FueledRole}
use Rattle.command_parts.specs.Halting.{Found}
use Rattle.command_parts.specs.Reporting.{Reports}
use Rattle.command_parts.specs.declared.report.Halt.{Halt}
use Rattle.command_parts.specs.declared.report.Halt.TheVariants.{Refused, NoMemory}

-- The verdict is told with the outcome, whose value has type t, or with its cause or its offset. A mirror never fails; where memory was
-- wanting nothing is told.
abbrev pub TellsVerdict : Program → Ty → checked.Verdict → Result (Outcome Spelling) FetchVerdict → Type 0
TellsVerdict P t found (Ok told) = (o : ideal.Outcome) × (found ≡ checked.Accepted o) × SpellsOutcome P t o told
TellsVerdict P t found (Err (verdict.Rejected cause)) = (c : checked.Cause) × (found ≡ checked.Rejected c) × Tells cause c
TellsVerdict P t found (Err (verdict.BadState offset)) = found ≡ checked.BadState offset
TellsVerdict P t found (Err (verdict.BadArgument offset)) = found ≡ checked.BadArgument offset
TellsVerdict P t found (Err verdict.FetchFault) = ⊥
TellsVerdict P t found (Err verdict.NoMemory) = ⊤

-- the rejection that is told for a cause
abbrev pub rejection_of : FetchCause → Rejection
rejection_of (Missing place want) = rejection.Missing place want
rejection_of (Broken place wire) = rejection.Broken wire
rejection_of (WrongPiece place want found) = rejection.Cause (frames.WrongPiece place want found)
rejection_of (BadPiece place offset) = rejection.Cause (frames.BadPiece place offset)

-- what ends the work for a verdict; that whoever gives the pieces failed is none on the call
abbrev pub HaltsFor : FetchVerdict → Halt → Type 0
HaltsFor (verdict.Rejected cause) halt = halt ≡ Refused (refusal.Proof (rejection_of cause))
HaltsFor (verdict.BadState offset) halt = halt ≡ Refused (refusal.Input (input_fault.State offset))
HaltsFor (verdict.BadArgument offset) halt = halt ≡ Refused (refusal.Input (input_fault.Literal Mismatch offset))
HaltsFor verdict.FetchFault halt = ⊥
HaltsFor verdict.NoMemory halt = halt ≡ NoMemory

abbrev pub IsNoFault : FetchVerdict → Type 0
IsNoFault verdict.FetchFault = ⊥
IsNoFault verdict = Unit {0}

-- What is reported of what is told: the outcome, where there was memory for its line, or what ends the work for a verdict.
abbrev pub ReportsVerdict : FueledRole → Result (Outcome Spelling) FetchVerdict → Found → Type 0
ReportsVerdict r (Ok told) (Ok report) = Reports r told report
ReportsVerdict r (Ok told) (Err halt) = halt ≡ NoMemory
ReportsVerdict r (Err verdict) (Ok report) = ⊥
ReportsVerdict r (Err verdict) (Err halt) = HaltsFor verdict halt
