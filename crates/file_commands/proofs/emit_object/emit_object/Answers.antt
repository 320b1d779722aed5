use Rattle.std.proofs.Common.{Some, sym, ◌∙◌, subst}
use Rattle.command_parts.specs.AnswerForms.{Answer}
use Rattle.command_parts.specs.Halting.{InHand}
use Rattle.command_parts.specs.Storing.{FindsOutput}
use Rattle.file_commands.proofs.WrittenOutputs.{first_answer}
use Rattle.file_commands.proofs.emit_object.emit_object.Goals as goal

pub returns-in-First-clause-finds : goal.returns-in-First-clause-finds
returns-in-First-clause-finds c = λ name.
    subst (λ (a : Answer). InHand (FindsOutput name (Some a)) c.write_output.result) (sym (first_answer c.args.program name (sym c.format.ensures ∙ c.in-First.is))) (c.write_output.ensures.finds name)
