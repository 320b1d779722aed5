-- The output of a role that was called: its line, with the image of the state that it makes where it makes one.
use Rattle.std.proofs.Common.{◌≡◌, ℕ, ◌<◌, ◌≤◌, Bool, true, false, List, [], ◌∷◌, length, Some, None, Vec, Result, Ok, Err, IsErrAnd, nat_le, if◌then◌else◌, refl, sym, ap, ◌∙◌, subst, arith, le-leb}
use Rattle.std.proofs.lemmas.Grind.{common_steps}
use Rattle.std.specs.List.{concat}
use Rattle.std.specs.declared.alloc.Global.{Global}
use Rattle.core_terms.specs.Limits.{most_file_bytes}
use Rattle.core_terms.specs.Values.{Value}
use Rattle.ideal_meaning.specs.Ideal as ideal
use Rattle.ideal_meaning.specs.Ideal.{Outcome}
use Rattle.images.specs.SavedImages.{saved_image}
use Rattle.images.specs.Saves.{IsSaved}
use Rattle.images.specs.declared.fault.SaveFault.{SaveFault}
use Rattle.images.specs.declared.fault.SaveFault.TheVariants as save_fault
use Rattle.command_parts.specs.OutcomeAnswers.{outcome_stored, outcome_told, state_image, storing}
use Rattle.command_parts.specs.AnswerForms.{Answer, says}
use Rattle.command_parts.specs.FueledRoles.{DigestedProgram, FueledRole}
use Rattle.command_parts.specs.Halting.{InHand, ending_status, of_save_fault}
use Rattle.command_parts.specs.Storing.{FindsOutput}
use Rattle.command_parts.specs.declared.report.Halt.{Halt}
use Rattle.command_parts.specs.declared.report.Output.{Output}
use Rattle.command_parts.specs.declared.report.Report.{Report}
use Rattle.command_parts.proofs.Ends.{one_line}

pub first_of : (b : Bool) (x y : Answer) → b ≡ true → (if b then x else y) ≡ x
first_of true x y e = refl
first_of false x y e = absurd (cc)

pub second_of : (b : Bool) (x y : Answer) → b ≡ false → (if b then x else y) ≡ y
second_of false x y e = refl
second_of true x y e = absurd (cc)

pub too_great : (n most : ℕ) → most < n → nat_le n most ≡ false
too_great n most great = grind (arith, common_steps)

-- an image that can't be stored is refused
pub storing_refused : (p : DigestedProgram) (v : Value) (a : Answer) (fault : SaveFault) (result : Result Output Halt) → IsErrAnd result (λ halt. halt ≡ of_save_fault fault)
    → IsSaved (saved_image p.program p.digest v) (Err fault) → (name : List ℕ) → InHand (FindsOutput name (Some (storing p v name a))) result
unfolding state_image
storing_refused p v a fault (Ok output) err is name = absurd err
storing_refused p v a save_fault.TooLong (Err h) err is name =
    subst (λ h. InHand (FindsOutput name (Some (storing p v name a))) (Err h)) (sym err)
    (ap Some (second_of (nat_le (length (state_image p v)) most_file_bytes) _ _ (too_great (length (state_image p v)) most_file_bytes is)))
storing_refused p v a save_fault.NoMemory (Err h) err is name = subst (λ h. InHand (FindsOutput name (Some (storing p v name a))) (Err h)) (sym err) tt

-- else it is stored
pub storing_told : (p : DigestedProgram) (v : Value) (a : Answer) (report : Report) (image : Vec ℕ Global) → a ≡ says (ending_status report.ending) report.text.items
    → IsSaved (saved_image p.program p.digest v) (Ok image) → (name : List ℕ) → InHand (FindsOutput name (Some (storing p v name a))) (Ok (record { report = report; file = Some image }))
unfolding state_image
storing_told p v a report image is saved name =
    let same : length (state_image p v) ≤ most_file_bytes = saved.1 in (
      _,
      ap Some (first_of (nat_le (length (state_image p v)) most_file_bytes) _ _ (le-leb (length (state_image p v)) most_file_bytes same)),
      record {
        status = ap (λ (a : Answer). a.status) is;
        lines = ap (λ (a : Answer). concat a.lines) is ∙ one_line report.text.items;
        stored = ap (λ bytes. (name, bytes) ∷ []) (sym saved.0);
      },
    )

-- an output without a file
pub told_alone : (a : Answer) (report : Report) → a ≡ says (ending_status report.ending) report.text.items
    → (name : List ℕ) → InHand (FindsOutput name (Some a)) (Ok (record { report = report; file = None }))
told_alone a report is name = (
  a,
  refl,
  record {
    status = ap (λ (a : Answer). a.status) is;
    lines = ap (λ (a : Answer). concat a.lines) is ∙ one_line report.text.items;
    stored = ap (λ (a : Answer). a.stored) is;
  },
)

-- an outcome that makes no state
pub stored_alone : (r : FueledRole) (o : Outcome) (report : Report) → ((v : Value) → o ≡ ideal.Done v → ⊥) → outcome_told r o ≡ says (ending_status report.ending) report.text.items
    → (name : List ℕ) → InHand (FindsOutput name (Some (outcome_stored r o name))) (Ok (record { report = report; file = None }))
stored_alone r (ideal.Done v) report none is name = absurd (none v refl)
stored_alone r (ideal.Trapped trap) report none is name = told_alone (outcome_told r (ideal.Trapped trap)) report is name
stored_alone r ideal.Out report none is name = told_alone (outcome_told r ideal.Out) report is name
