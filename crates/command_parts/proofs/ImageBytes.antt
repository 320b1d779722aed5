-- Bytes that are judged as an image: that they are one where the answer goes on, and what halts where it doesn't.
use Rattle.std.proofs.Common.{◌≡◌, ℕ, List, Option, Some, None, Err, refl}
use Rattle.core_terms.specs.Values.{Value}
use Rattle.images.specs.Images.{Image, Root, Refused as BadBytes, image_of}
use Rattle.printed_lines.specs.declared.refusal.InputFault.TheVariants.{Image as BadImage}
use Rattle.printed_lines.specs.declared.refusal.Refusal.TheVariants as refusal
use Rattle.command_parts.specs.FileInputs.{image_kind, image_read, with_image, with_root}
use Rattle.command_parts.specs.AnswerForms.{Answer}
use Rattle.command_parts.specs.RefusedAnswers.{input_refused}
use Rattle.command_parts.specs.FueledRoles.{DigestedProgram}
use Rattle.command_parts.specs.Halting.{StepGivesFor, HaltsAs, InHand}
use Rattle.command_parts.specs.declared.report.Halt.{Halt}
use Rattle.command_parts.specs.declared.report.Halt.TheVariants.{Usage, Refused, ReadFault, NoMemory}

root_is : (image : Image) (v : Value) → ((go : Value → Option Answer) → with_root image go ≡ go v) → (w : Value) × (image ≡ Root w)
root_is (Root w) v goes = (w, refl)
root_is (BadBytes fault) v goes = let none : Some (input_refused (BadImage (image_kind fault))) ≡ None = goes (λ v. None) in absurd (cc)

-- bytes that are gone on with are an image
pub is_image : (p : DigestedProgram) (bytes : List ℕ) (v : Value) → ((go : Value → Option Answer) → with_image p bytes go ≡ go v) → (w : Value) × (image_of p.program p.digest bytes ≡ Root w)
unfolding image_read
is_image p bytes v goes = root_is (image_of p.program p.digest bytes) v goes

-- what halts a step on what is in hand, where it gives what stands for a value
pub hand_halts_for : {A T : Type 0} (step : (A → Option Answer) → Option Answer) (Stands : T → A → Type 0) (halt : Halt) → InHand (StepGivesFor step Stands) (Err halt)
    → (go : A → Option Answer) → HaltsAs (step go) halt
hand_halts_for step Stands Usage goes = absurd goes
hand_halts_for step Stands (Refused (refusal.Program kind line column)) goes = goes
hand_halts_for step Stands (Refused (refusal.Object kind)) goes = goes
hand_halts_for step Stands (Refused (refusal.Input fault)) goes = goes
hand_halts_for step Stands (Refused (refusal.Proof cause)) goes = absurd goes
hand_halts_for step Stands ReadFault goes = absurd goes
hand_halts_for step Stands NoMemory goes = goes
