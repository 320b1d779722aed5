-- What verdicts and runs are in the second format. Each equation holds by computing both sides: for every hash where no digest is compared, else for
-- a hash that gives the number of bytes.
use Rattle.std.specs.Prelude.{◌≡◌, ℕ, List, [], ◌∷◌, ◌++◌, length, pos, replicate, true, false}
use Rattle.core_terms.specs.Types.{UnitTy, IntTy}
use Rattle.core_terms.specs.Formats.{Hash, second_format}
use Rattle.core_terms.specs.Projection.{digest_at, read_at}
use Rattle.core_terms.specs.Reading.{BadAt}
use Rattle.core_terms.specs.Terms.{Program}
use Rattle.core_terms.specs.Values.{Value, UnitV, BoolV, IntV, PairV}
use Rattle.ideal_meaning.specs.Run.{Run, Gives, Ends, Traps, TooBig}
use Rattle.ideal_meaning.specs.Ideal.{Done, Opened, ideal, honest_pieces}
use Rattle.ideal_meaning.specs.Checked.{Header, Verdict, WrongPiece, Accepted, Rejected, verdict}
use Rattle.ideal_meaning.specs.SplitPieces.{IsSplitAt}
use Rattle.ideal_meaning.specs.Headline.{call_values}
use Rattle.ideal_meaning.specs.Examples.{unit_program, pair_program, expression_program, values}
use Rattle.ideal_meaning.specs.ExampleProofs.{file}
use Rattle.ideal_meaning.specs.ExampleRuns.{doublings}

-- a digest that tells the number of bytes: of none, of 32, and of the 32 of one of these with 32 behind them
abbrev pub counting : Hash
counting bytes = replicate 31 0 ++ length bytes ∷ []

abbrev pub in_second : Program → Program
in_second P = record P { format = second_format [] 1024 }

-- a proof file of the second format
abbrev pub second_file : List ℕ → List ℕ
second_file bytes = 0x4C ∷ 0x41 ∷ 0x50 ∷ 0x32 ∷ bytes

-- the verdict on opening a unit in the second format, where the state is the digest of so many bytes
abbrev pub on_open_second : ℕ → List ℕ → Verdict
on_open_second n bytes = verdict counting (in_second unit_program) UnitTy 1 (replicate 31 0 ++ n ∷ []) [] 1 bytes

abbrev pub doubled_second : ℕ → Run ⊥ (List Opened) Value
doubled_second n = ideal (in_second (expression_program (IntTy ∷ []) UnitTy (doublings n IntTy 0))) 0 (values (IntV (pos 7) ∷ [])) 1

pub record SecondFormatRows : Type 0 where
  -- opening a unit: its digest is that of the fingerprint, and of nothing behind it
  pub empty_piece_is_accepted : on_open_second 32 (second_file (0 ∷ 0 ∷ 0 ∷ 0 ∷ 0 ∷ 0 ∷ 0 ∷ [])) ≡ Accepted (Done UnitV)
  pub digest_of_the_spelling_alone : on_open_second 0 (second_file (0 ∷ 0 ∷ 0 ∷ 0 ∷ 0 ∷ 0 ∷ 0 ∷ [])) ≡ Rejected (WrongPiece 0 (counting []) (counting (counting [])))
  pub first_magic_is_refused : (n : ℕ) → on_open_second n (file (0 ∷ 0 ∷ 0 ∷ 0 ∷ 0 ∷ 0 ∷ 0 ∷ [])) ≡ Rejected Header
  -- more bytes than the limit
  pub too_many_bytes : (bytes : List ℕ) → length bytes ≡ 1048577 → read_at (in_second unit_program) IntTy bytes ≡ BadAt 1048576
  -- an int doubled 17 times spells 1,048,576 bytes
  pub seventeen_doublings_fit : doubled_second 17 ≡ Gives UnitV 0 []
  pub eighteen_doublings_are_too_big : doubled_second 18 ≡ Ends (Traps TooBig) 0 []
  -- two pieces that differ behind one fingerprint and have one digest split; the same pieces have one at another type too, by this hash
  pub pieces_split : IsSplitAt (digest_at counting (in_second pair_program)) ((0 ∷ 1 ∷ []) ∷ [])
      (honest_pieces counting (in_second pair_program) 1 (call_values (PairV (BoolV true) (BoolV false)) UnitV) 1) 0
