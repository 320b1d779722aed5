-- The frames of the proof of a run, and how many of them have a piece of their own.
use Rattle.std.specs.Prelude.{ℕ, List, suc, [], ◌∷◌}
use Rattle.core_terms.specs.Formats.{Hash}
use Rattle.core_terms.specs.Terms.{Program}
use Rattle.core_terms.specs.Values.{Values}
use Rattle.ideal_meaning.specs.Frames.{Frame, honest_frames, New, Use}
use Rattle.ideal_meaning.specs.Ideal as ideal

-- the frames of an honest prover for a run of function f, with a ring of n; `recent` came before, the last one first
abbrev pub run_frames : Hash → Program → (f : ℕ) → Values → (k : ℕ) → (n : ℕ) → (recent : List (List ℕ)) → List Frame
run_frames hash P f args k n recent = honest_frames n recent (ideal.bytes_of (ideal.honest_pieces hash P f args k))

abbrev pub fresh_in : List Frame → ℕ
fresh_in [] = 0
fresh_in (New p ∷ fs) = suc (fresh_in fs)
fresh_in (Use k ∷ fs) = fresh_in fs

abbrev pub again_in : List Frame → ℕ
again_in [] = 0
again_in (New p ∷ fs) = again_in fs
again_in (Use k ∷ fs) = suc (again_in fs)
