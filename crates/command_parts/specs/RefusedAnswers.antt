-- The answers to words that call no command, and to what is refused.
use Rattle.std.specs.Prelude.{codes}
use Rattle.core_terms.specs.Terms.{Program}
use Rattle.printed_syntax.specs.declared.fault.LiteralKind.TheVariants.{Mismatch}
use Rattle.ideal_meaning.specs.Ideal as ideal
use Rattle.ideal_meaning.specs.Checked as checked
use Rattle.printed_lines.specs.Lines.{refusal_line, rejected_line}
use Rattle.printed_lines.specs.declared.refusal.InputFault.{InputFault}
use Rattle.printed_lines.specs.declared.refusal.InputFault.TheVariants.{State, Literal as BadLiteral}
use Rattle.printed_lines.specs.declared.refusal.Refusal.{Refusal}
use Rattle.printed_lines.specs.declared.refusal.Refusal.TheVariants as refusal
use Rattle.command_parts.specs.declared.status.Status.{Status}
use Rattle.command_parts.specs.declared.status.Status.TheVariants.{Usage, Rejected, ProgramRefused, InputRefused}
use Rattle.command_parts.specs.AnswerForms.{Answer, says}

-- what is answered to words that call no command
abbrev pub usage_answer : Answer
usage_answer = says Usage (codes "usage: lamauth COMMAND ARGUMENTS\n")

-- what is answered to what is refused: a text or an object that is no program, an input, or a proof
abbrev pub refusal_status : Refusal → Status
refusal_status (refusal.Program kind line column) = ProgramRefused
refusal_status (refusal.Object kind) = ProgramRefused
refusal_status (refusal.Input fault) = InputRefused
refusal_status (refusal.Proof cause) = Rejected

abbrev pub refused : Refusal → Answer
refused what = says (refusal_status what) (refusal_line what)

abbrev pub input_refused : InputFault → Answer
input_refused fault = refused (refusal.Input fault)

-- What is answered for a verdict, where this is answered for the outcome that is accepted. Of a call whose state was read, and whose
-- argument is the spelling of a literal's value, it is one on the proof: `VerdictLaws.antt` says that the other two don't come.
abbrev pub verdict_answer : (ideal.Outcome → Answer) → checked.Verdict → Answer
verdict_answer told (checked.BadState offset) = input_refused (State offset)
verdict_answer told (checked.BadArgument offset) = input_refused (BadLiteral Mismatch offset)
verdict_answer told (checked.Rejected cause) = says Rejected (rejected_line cause)
verdict_answer told (checked.Accepted o) = told o
