-- Runs of a verifier.
use Rattle.std.specs.Prelude.{◌≡◌, ℕ, List, length, Option, Some, Result, Ok, Err}
use Rattle.core_terms.specs.Types.{Ty}
use Rattle.core_terms.specs.Values.{Value}
use Rattle.core_terms.specs.Terms.{Program}
use Rattle.core_terms.specs.declared.outcome.Outcome.{Outcome}
use Rattle.core_terms.specs.declared.outcome.Outcome.TheVariants.{Done, Trapped, Out}
use Rattle.ideal_meaning.specs.Run.{Run, Gives, Ends, Traps, IsOut, Rejects}
use Rattle.ideal_meaning.specs.Checked.{Cause, Taking}
use Rattle.ideal_meaning.specs.Told.{trap_told}
use Rattle.value_store.specs.Nodes.{Node}
use Rattle.value_store.specs.Standing.{StandsFor, VerifierNodes}
use Rattle.value_store.specs.declared.node.Ref.{Ref}
use Rattle.mode_vm.specs.declared.mode.Stop.{Stop}
use Rattle.mode_vm.specs.declared.mode.Stop.TheVariants.{Mode, NoMemory}
use Rattle.reuse_buffer.specs.Kept.{Kept}
use Rattle.verifier_mode.specs.declared.verifier.VerifierFault.{VerifierFault}
use Rattle.verifier_mode.specs.Faults.{fault_cause}
use Rattle.verifier_mode.specs.Takings.{HasCome}

-- as many bytes are left as the source tells
abbrev pub IsLeft : Option (List ℕ) → Taking → Type 0
IsLeft left w = (bytes : List ℕ) × (left ≡ Some bytes) × (w.left ≡ length bytes)

-- the run came to this outcome, whose value of type t stands among the nodes
abbrev pub CameTo : Program → List Node → Ty → (left : Option (List ℕ)) → Run Cause Taking Value → Outcome Ref → Type 0
CameTo P nodes t left run (Done r) = (v : Value) × (k : ℕ) × (w : Taking) × IsLeft left w × StandsFor VerifierNodes P.types nodes r.0 t v × (run ≡ Gives v k w)
CameTo P nodes t left run (Trapped trap) = (k : ℕ) × (w : Taking) × IsLeft left w × (run ≡ Ends (Traps (trap_told trap)) k w)
CameTo P nodes t left run Out = (k : ℕ) × (w : Taking) × IsLeft left w × (run ≡ Ends IsOut k w)

-- How a run ended. After an outcome the ring has come so far that the new pieces that it saw and those that are left make up all of
-- them.
abbrev pub IsChecked : Program → List Node → Ty → (n : ℕ) → (left : Option (List ℕ)) → (all : List (List ℕ)) → Run Cause Taking Value
    → Result (Outcome Ref × Kept) (Stop VerifierFault) → Type 0
IsChecked P nodes t n left all run (Ok r) = CameTo P nodes t left run r.0 × (r.1.size ≡ n) × HasCome P.format.limit r.1 left all
IsChecked P nodes t n left all run (Err (Mode fault)) = (c : Cause) → fault_cause fault ≡ Some c → (k : ℕ) × (w : Taking) × (run ≡ Ends (Rejects c) k w)
IsChecked P nodes t n left all run (Err NoMemory) = Unit {0}
