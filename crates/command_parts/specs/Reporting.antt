-- How a report tells an outcome.
use Rattle.std.specs.Prelude.{◌≡◌, ℕ, List, ◌++◌}
use Rattle.core_terms.specs.declared.outcome.Outcome.{Outcome}
use Rattle.core_terms.specs.declared.byte_string.ByteString.{ByteString as Spelling}
use Rattle.ideal_meaning.specs.Ideal as ideal
use Rattle.printed_lines.specs.Lines.{proof_line}
use Rattle.prover_mode.specs.declared.proving.Proved.{Proved}
use Rattle.ideal_meaning.specs.SpelledOutcomes.{SpellsOutcome}
use Rattle.command_parts.specs.Answer.{agreeing}
use Rattle.command_parts.specs.AcceptedAnswers.{shallow_told}
use Rattle.command_parts.specs.AnswerForms.{says}
use Rattle.command_parts.specs.FueledRoles.{FueledRole}
use Rattle.command_parts.specs.Halting.{ending_status}
use Rattle.command_parts.specs.RoleCalls.{program_called, result_called}
use Rattle.command_parts.specs.declared.report.Report.{Report}

-- the outcome that is told here is one of the role
abbrev pub IsToldOf : FueledRole → ideal.Outcome → Outcome Spelling → Type 0
IsToldOf r o told = SpellsOutcome (program_called r) (result_called r) o told

-- it is what is answered for the outcome that is told here
abbrev pub Reports : FueledRole → Outcome Spelling → Report → Type 0
Reports r told report = (o : ideal.Outcome) → IsToldOf r o told → shallow_told r o ≡ says (ending_status report.ending) report.text.items

-- the same of the outcome that was proved, with the line of its proof, of so many bytes, behind it
abbrev pub ReportsProof : FueledRole → Proved → ℕ → Report → Type 0
ReportsProof r proved bytes report = (o : ideal.Outcome) → IsToldOf r o proved.outcome
    → (line : List ℕ) × (shallow_told r o ≡ says (ending_status report.ending) line) × (report.text.items ≡ line ++ proof_line proved.fresh proved.again bytes)

-- the same of an outcome on which an audit agrees
abbrev pub ReportsAgreement : FueledRole → Outcome Spelling → Report → Type 0
ReportsAgreement r told report = (o : ideal.Outcome) → IsToldOf r o told → agreeing (shallow_told r o) ≡ says (ending_status report.ending) report.text.items
