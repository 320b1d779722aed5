-- The object of a program: how it is read for, and what is told and stored of it.
use Rattle.std.proofs.Common.{◌≡◌, ℕ, true, false, List, [], cond, Option, Some, Vec, Result, Ok, Err, IsErrAnd, refl, sym, ap, ◌∙◌, subst, None}
use Rattle.std.specs.declared.alloc.Global.{Global}
use Rattle.core_terms.specs.ProgramFormats.{arrays_of}
use Rattle.core_terms.specs.Programs.{meaning}
use Rattle.core_terms.specs.TypeNames.{all_constructor_names}
use Rattle.core_terms.specs.Terms as tree
use Rattle.core_terms.specs.declared.format.Format.{Format}
use Rattle.core_terms.specs.declared.format.Format.TheVariants.{First, Second}
use Rattle.core_terms.specs.declared.program.Program.{Program}
use Rattle.object_meaning.specs.WrittenObjects.{written}
use Rattle.object_writer.specs.WrittenAs.{WritesAs}
use Rattle.object_writer.specs.declared.fault.WriteFault.{WriteFault}
use Rattle.object_writer.specs.declared.fault.WriteFault.TheVariants as write_fault
use Rattle.printed_lines.specs.declared.refusal.InputFault.TheVariants.{ObjectFormat}
use Rattle.sha2.specs.Sha256.{sha256}
use Rattle.command_parts.specs.Answer.{object_answer, object_written, stored_object, with_listed}
use Rattle.command_parts.specs.FileInputs.{with_program, with_text}
use Rattle.command_parts.specs.AnswerForms.{Answer}
use Rattle.command_parts.specs.RefusedAnswers.{input_refused}
use Rattle.command_parts.specs.FilePrograms.{begins_as_object}
use Rattle.command_parts.specs.FueledRoles.{ListedProgram}
use Rattle.command_parts.specs.Halting.{InHand, ending_status, of_write_fault}
use Rattle.command_parts.specs.ReadPrograms.{listed_of}
use Rattle.command_parts.specs.Storing.{FindsOutput}
use Rattle.command_parts.specs.TextPrograms.{FileProgram, IsProgram, constructors_of_text, program_of_text}
use Rattle.command_parts.specs.declared.report.Ending.TheVariants as ending
use Rattle.command_parts.specs.declared.report.Halt.{Halt}
use Rattle.command_parts.specs.declared.report.Output.{Output}
use Rattle.command_parts.specs.declared.report.Report.{Report}

-- bytes that begin as an object are refused, and others read as a text
module _ (bytes : List ℕ) (go : ListedProgram → Option Answer) where
  abbrev pub text_step : Option Answer
  text_step = with_text bytes (λ p. go (record { program = p.digested.program; constructors = constructors_of_text bytes }))

  pub object_refused : begins_as_object bytes ≡ true → with_listed bytes go ≡ Some (input_refused ObjectFormat)
  object_refused is = ap (λ b. cond b (Some (input_refused ObjectFormat)) text_step) is

  pub text_read : begins_as_object bytes ≡ false → with_listed bytes go ≡ text_step
  text_read is = ap (λ b. cond b (Some (input_refused ObjectFormat)) text_step) is

  pub text_listed : begins_as_object bytes ≡ false → (P : tree.Program) (names : List (List (List ℕ))) → program_of_text bytes ≡ IsProgram P → names ≡ constructors_of_text bytes
      → with_listed bytes go ≡ go (record { program = P; constructors = names })
  text_listed is P names program named =
      text_read is
      ∙ ap (λ (found : FileProgram). with_program (sha256 bytes) found (λ p. go (record { program = p.program; constructors = constructors_of_text bytes }))) program
      ∙ ap (λ (names : List (List (List ℕ))). go (record { program = P; constructors = names })) (sym named)

-- one of the second format is refused
pub first_answer : (p : Program) (name : List ℕ) → p.types.table.format ≡ First → object_answer (listed_of p) name ≡ stored_object (object_written (listed_of p)) name
first_answer p name is = ap (λ (format : Format). cond (arrays_of format) (input_refused ObjectFormat) (stored_object (object_written (listed_of p)) name)) is

pub second_answer : (p : Program) (name : List ℕ) → p.types.table.format ≡ Second → object_answer (listed_of p) name ≡ input_refused ObjectFormat
second_answer p name is = ap (λ (format : Format). cond (arrays_of format) (input_refused ObjectFormat) (stored_object (object_written (listed_of p)) name)) is

-- the object that code writes is that of its program
pub object_of : (p q : Program) → q ≡ p → written (meaning q) (all_constructor_names q.types.named.items) ≡ object_written (listed_of p)
unfolding object_written
object_of p q is = ap (λ (p : Program). written (meaning p) (all_constructor_names p.types.named.items)) is

written_bytes : (told : Option (List ℕ)) (object : Vec ℕ Global) → WritesAs told (Ok object) → told ≡ Some object.items
written_bytes (Some bytes) object writes = ap Some (sym writes)
written_bytes None object writes = absurd writes

none_written : (told : Option (List ℕ)) → WritesAs told (Err write_fault.TooLong) → told ≡ None
none_written None writes = refl
none_written (Some bytes) writes = absurd writes

pub object_halts : (p q : Program) → q ≡ p → (fault : WriteFault) (result : Result Output Halt) → IsErrAnd result (λ halt. halt ≡ of_write_fault fault)
    → WritesAs (written (meaning q) (all_constructor_names q.types.named.items)) (Err fault) → (name : List ℕ)
    → InHand (FindsOutput name (Some (stored_object (object_written (listed_of p)) name))) result
object_halts p q is fault (Ok output) err writes name = absurd err
object_halts p q is write_fault.TooLong (Err h) err writes name =
    subst (λ h. InHand (FindsOutput name (Some (stored_object (object_written (listed_of p)) name))) (Err h)) (sym err)
    (ap (λ o. Some (stored_object o name)) (sym (object_of p q is) ∙ none_written (written (meaning q) (all_constructor_names q.types.named.items)) writes))
object_halts p q is write_fault.NoMemory (Err h) err writes name =
    subst (λ h. InHand (FindsOutput name (Some (stored_object (object_written (listed_of p)) name))) (Err h)) (sym err) tt

pub object_told : (p q : Program) → q ≡ p → (report : Report) (object : Vec ℕ Global) → report.ending ≡ ending.Done → report.text.items ≡ []
    → WritesAs (written (meaning q) (all_constructor_names q.types.named.items)) (Ok object) → (name : List ℕ)
    → InHand (FindsOutput name (Some (stored_object (object_written (listed_of p)) name))) (Ok (record { report = report; file = Some object }))
object_told p q is report object done nothing writes name = (
  stored_object (Some object.items) name,
  ap (λ o. Some (stored_object o name)) (sym (object_of p q is) ∙ written_bytes (written (meaning q) (all_constructor_names q.types.named.items)) object writes),
  record { status = ap ending_status (sym done); lines = sym nothing; stored = refl },
)
