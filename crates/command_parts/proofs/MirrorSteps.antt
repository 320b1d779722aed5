-- The steps of reading a mirror from its file.
use Rattle.std.proofs.Common.{◌≡◌, ℕ, List, Option, Some, None, Result, Ok, Err, IsErrAnd, sym, ap, ◌∙◌, subst}
use Rattle.piece_mirror.specs.Files.{Faulty, Holds, Mirrored, read_mirror}
use Rattle.piece_mirror.specs.Loads.{TellsFault}
use Rattle.piece_mirror.specs.declared.fault.MirrorFault.{MirrorFault}
use Rattle.piece_mirror.specs.declared.fault.MirrorFault.TheVariants as mirror_fault
use Rattle.printed_lines.specs.declared.refusal.InputFault.TheVariants.{Mirror as BadMirror}
use Rattle.printed_lines.specs.declared.refusal.Refusal.TheVariants as refusal
use Rattle.command_parts.specs.Answer.{mirror_kind, mirror_read, with_mirror, with_pieces}
use Rattle.command_parts.specs.AnswerForms.{Answer}
use Rattle.command_parts.specs.RefusedAnswers.{input_refused}
use Rattle.command_parts.specs.Halting.{StepGives, InHand, of_mirror_fault}
use Rattle.command_parts.specs.declared.report.Halt.{Halt}
use Rattle.command_parts.specs.declared.report.Halt.TheVariants.{Usage, Refused, ReadFault, NoMemory}
use Rattle.command_parts.specs.declared.status.Status.TheVariants.{InputRefused}
use Rattle.command_parts.proofs.Steps.{halts_behind}

-- bytes that are no mirror halt the work
pub mirror_refused : {T : Type 0} (bytes : List ℕ) (value : T → List (List ℕ)) (fault : MirrorFault) (result : Result T Halt) → IsErrAnd result (λ halt. halt ≡ of_mirror_fault fault)
    → TellsFault (read_mirror bytes) fault → InHand (StepGives (with_mirror bytes) value) result
unfolding mirror_read
mirror_refused bytes value fault (Ok t) halt is = absurd halt
mirror_refused bytes value fault (Err h) halt is = subst (λ h. InHand (StepGives (with_mirror bytes) value) (Err h)) (sym halt) (by fault is)
  where
    by : (fault : MirrorFault) → TellsFault (read_mirror bytes) fault → InHand (StepGives (with_mirror bytes) value) (Err (of_mirror_fault fault))
    by (mirror_fault.Cut n) is = λ go. ap (λ m. with_pieces m go) is
    by (mirror_fault.BadField n) is = λ go. ap (λ m. with_pieces m go) is
    by (mirror_fault.Leftover n) is = λ go. ap (λ m. with_pieces m go) is
    by mirror_fault.TooLong is = absurd is
    by mirror_fault.NoMemory is = λ go. tt

-- a mirror's pieces are gone on with
pub mirror_goes : (bytes : List ℕ) (pieces : List (List ℕ)) → read_mirror bytes ≡ Holds pieces → (go : List (List ℕ) → Option Answer) → with_mirror bytes go ≡ go pieces
unfolding mirror_read
mirror_goes bytes pieces is go = ap (λ m. with_pieces m go) is

-- bytes that are none are refused as an input
pub mirror_inputs : (bytes : List ℕ) (a : Answer) → with_mirror bytes (λ pieces. None) ≡ Some a → a.status ≡ InputRefused
mirror_inputs bytes a is = by (mirror_read bytes) is
  where
    by : (m : Mirrored) → with_pieces m (λ pieces. None) ≡ Some a → a.status ≡ InputRefused
    by (Holds pieces) is = absurd (cc)
    by (Faulty fault) is = let same : input_refused (BadMirror (mirror_kind fault)) ≡ a = cc in ap (λ (a : Answer). a.status) (sym same)

-- a step on what is in hand, behind one that goes on with it
pub goes_on_behind : {A B T : Type 0} (first : (A → Option Answer) → Option Answer) (a : A) (next : A → (B → Option Answer) → Option Answer) (value : T → B) (result : Result T Halt)
    → ((go : A → Option Answer) → first go ≡ go a) → InHand (StepGives (next a) value) result → StepGives (λ go. first (λ a. next a go)) value result
goes_on_behind first a next value (Ok t) is goes = λ go. is (λ a. next a go) ∙ goes go
goes_on_behind first a next value (Err Usage) is goes = absurd goes
goes_on_behind first a next value (Err (Refused (refusal.Program kind line column))) is goes = λ go. halts_behind _ _ (Refused (refusal.Program kind line column)) (is (λ a. next a go)) (goes go)
goes_on_behind first a next value (Err (Refused (refusal.Object kind))) is goes = λ go. halts_behind _ _ (Refused (refusal.Object kind)) (is (λ a. next a go)) (goes go)
goes_on_behind first a next value (Err (Refused (refusal.Input fault))) is goes = λ go. halts_behind _ _ (Refused (refusal.Input fault)) (is (λ a. next a go)) (goes go)
goes_on_behind first a next value (Err (Refused (refusal.Proof why))) is goes = absurd goes
goes_on_behind first a next value (Err ReadFault) is goes = absurd goes
goes_on_behind first a next value (Err NoMemory) is goes = λ go. tt
