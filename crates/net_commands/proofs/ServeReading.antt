-- The steps that read what is served.
use Rattle.std.proofs.Common.{◌≡◌, ℕ, List, Option, Some, Result, Ok, Err, sym, ◌∙◌, subst, ap}
use Rattle.core_terms.specs.Programs.{meaning}
use Rattle.core_terms.specs.Values.{Value}
use Rattle.core_terms.specs.declared.program.Program.{Program}
use Rattle.images.specs.declared.load.Loaded.{Loaded}
use Rattle.command_parts.specs.Answer.{Serving, ServingNumbers, first_shared, serving_of}
use Rattle.command_parts.specs.FileInputs.{with_image_file}
use Rattle.command_parts.specs.AnswerForms.{Answer}
use Rattle.command_parts.specs.Halting.{StepGivesFor, HaltsAs}
use Rattle.net_commands.specs.PreparedServers.{BeginsWith}
use Rattle.command_parts.specs.ReadPrograms.{digested_of}
use Rattle.command_parts.specs.StoredStates.{IsStoredState}
use Rattle.command_parts.specs.declared.report.Halt.{Halt}
use Rattle.net_commands.specs.declared.serving.Beginning.{Beginning}
use Rattle.command_parts.proofs.Steps.{halts_behind}

-- an image that is refused behind numbers that are in order halts both
pub image_halts : (p q : Program) → q ≡ p → (first : (ServingNumbers → Option Answer) → Option Answer) (numbers : ServingNumbers) (file : Option (List ℕ))
    → ((go : ServingNumbers → Option Answer) → first go ≡ go numbers) → (result : Result Beginning Halt) (halt : Halt) → result ≡ Err halt
    → StepGivesFor {T = Loaded} (with_image_file (digested_of q) file) (IsStoredState (meaning q)) (Err halt)
    → StepGivesFor (λ go. first (λ numbers. with_image_file (digested_of p) file (λ v. go (serving_of (digested_of p) numbers (first_shared v))))) (BeginsWith p) result
image_halts p q same first numbers file goes result halt is halts =
    subst (StepGivesFor (λ go. first (λ numbers. with_image_file (digested_of p) file (λ v. go (serving_of (digested_of p) numbers (first_shared v))))) (BeginsWith p)) (sym is)
    (λ go. halts_behind _ _ halt (goes (λ numbers. with_image_file (digested_of p) file (λ v. go (serving_of (digested_of p) numbers (first_shared v)))))
    (subst (λ q. HaltsAs (with_image_file (digested_of q) file (λ v. go (serving_of (digested_of p) numbers (first_shared v)))) halt) same (halts (λ v. go (serving_of (digested_of p) numbers (first_shared v))))))
