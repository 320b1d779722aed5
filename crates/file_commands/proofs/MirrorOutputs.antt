-- The file that is made of a mirror.
use Rattle.std.proofs.Common.{◌≡◌, ℕ, List, [], ◌∷◌, length, Some, Vec, Result, Ok, Err, IsErrAnd, nat_le, refl, sym, ap, ◌∙◌, subst, le-leb}
use Rattle.std.specs.declared.alloc.Global.{Global}
use Rattle.core_terms.specs.Limits.{most_file_bytes}
use Rattle.piece_mirror.specs.Files.{mirror_file}
use Rattle.piece_mirror.specs.Loads.{Saves}
use Rattle.piece_mirror.specs.declared.fault.MirrorFault.{MirrorFault}
use Rattle.piece_mirror.specs.declared.fault.MirrorFault.TheVariants as mirror_fault
use Rattle.printed_lines.specs.Lines.{pieces_line}
use Rattle.command_parts.specs.Answer.{pieces_answer, pieces_file}
use Rattle.command_parts.specs.Halting.{InHand, of_mirror_fault}
use Rattle.command_parts.specs.Storing.{FindsOutput}
use Rattle.command_parts.specs.declared.report.Ending.TheVariants.{Done}
use Rattle.command_parts.specs.declared.report.Halt.{Halt}
use Rattle.command_parts.specs.declared.report.Halt.TheVariants.{NoMemory}
use Rattle.command_parts.specs.declared.report.Output.{Output}
use Rattle.command_parts.proofs.Ends.{one_line}
use Rattle.command_parts.proofs.StoredOutputs.{first_of, second_of, too_great}

-- a file that can't be stored is refused
pub file_refused : (pieces : List (List ℕ)) (fault : MirrorFault) (result : Result Output Halt) → IsErrAnd result (λ halt. halt ≡ of_mirror_fault fault)
    → Saves (mirror_file pieces) (Err fault) → (name : List ℕ) → InHand (FindsOutput name (Some (pieces_answer pieces name))) result
unfolding pieces_file
file_refused pieces fault (Ok output) halt is name = absurd halt
file_refused pieces fault (Err h) halt is name = subst (λ h. InHand (FindsOutput name (Some (pieces_answer pieces name))) (Err h)) (sym halt) (by fault is)
  where
    by : (fault : MirrorFault) → Saves (mirror_file pieces) (Err fault) → InHand (FindsOutput name (Some (pieces_answer pieces name))) (Err (of_mirror_fault fault))
    by (mirror_fault.Cut n) is = absurd is
    by (mirror_fault.BadField n) is = absurd is
    by (mirror_fault.Leftover n) is = absurd is
    by mirror_fault.TooLong is = ap Some (second_of (nat_le (length (pieces_file pieces)) most_file_bytes) _ _ (too_great (length (pieces_file pieces)) most_file_bytes is))
    by mirror_fault.NoMemory is = tt

-- else it is stored, and the number of its pieces told
pub file_told : (pieces : List (List ℕ)) (text file : Vec ℕ Global) → text.items ≡ pieces_line (length pieces) → Saves (mirror_file pieces) (Ok file)
    → (name : List ℕ) → InHand (FindsOutput name (Some (pieces_answer pieces name))) (Ok (record { report = record { ending = Done; text = text }; file = Some file }))
unfolding pieces_file
file_told pieces text file is saved name = (
  _,
  ap Some (first_of (nat_le (length (pieces_file pieces)) most_file_bytes) _ _ (le-leb (length (pieces_file pieces)) most_file_bytes saved.1)),
  record {
    status = refl;
    lines = one_line (pieces_line (length pieces)) ∙ sym is;
    stored = ap (λ bytes. (name, bytes) ∷ []) (sym saved.0);
  },
)
