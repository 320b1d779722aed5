-- How a command ends by a verdict of the verifier.
use Rattle.printed_syntax.specs.declared.fault.LiteralKind.TheVariants.{Mismatch}
use Rattle.printed_lines.specs.declared.refusal.InputFault.TheVariants as input_fault
use Rattle.printed_lines.specs.declared.refusal.Refusal.TheVariants as refusal
use Rattle.printed_lines.specs.declared.refusal.Rejection.TheVariants as rejection
use Rattle.verifier_mode.specs.declared.verdict.Verdict.{Verdict}
use Rattle.verifier_mode.specs.declared.verdict.Verdict.TheVariants as verdict
use Rattle.command_parts.specs.declared.report.Halt.{Halt}
use Rattle.command_parts.specs.declared.report.Halt.TheVariants.{Refused, ReadFault, NoMemory}

abbrev pub of_verdict : Verdict → Halt
of_verdict (verdict.Rejected cause) = Refused (refusal.Proof (rejection.Cause cause))
of_verdict (verdict.BadState offset) = Refused (refusal.Input (input_fault.State offset))
of_verdict (verdict.BadArgument offset) = Refused (refusal.Input (input_fault.Literal Mismatch offset))
of_verdict verdict.ReadFault = ReadFault
of_verdict verdict.NoMemory = NoMemory
