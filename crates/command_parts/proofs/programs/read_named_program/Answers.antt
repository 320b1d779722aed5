use Rattle.std.proofs.Common.{ℕ, List, Option, sym}
use Rattle.std.proofs.lemmas.Result.{err_from_is_err_and}
use Rattle.core_terms.specs.Limits.{most_program_bytes}
use Rattle.command_parts.specs.FileInputs.{with_file, with_text}
use Rattle.command_parts.specs.AnswerForms.{Answer}
use Rattle.command_parts.specs.FueledRoles.{DeclaredProgram}
use Rattle.command_parts.specs.ReadPrograms.{declared_of}
use Rattle.command_parts.specs.TextPrograms.{types_text_of_text}
use Rattle.command_parts.proofs.Steps.{halts_first}
use Rattle.command_parts.proofs.programs.read_named_program.Goals as goal

-- what stands behind the text
abbrev behind_text : List ℕ → (DeclaredProgram → Option Answer) → Option Answer
behind_text text go = with_text text (λ p. go (record { named = p; types_text = types_text_of_text text }))

pub returns-in_err-text-clause-goes : goal.returns-in_err-text-clause-goes
returns-in_err-text-clause-goes g c = λ told known.
    let halted = err_from_is_err_and c.from_residual.result c.from_residual.ensures.1 in
    halts_first (with_file most_program_bytes c.args.argument (told c.args.name.now)) behind_text declared_of c.from_residual.result _ (cc) (c.in_err-text.ensures.goes told known)

pub returns-clause-text : goal.returns-clause-text
returns-clause-text g c = (c.deref.result.now, c.in_ok-read_program.ensures.answer, sym c.in_ok-read_program.ensures.types)
