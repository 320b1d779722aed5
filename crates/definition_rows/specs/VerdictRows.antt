-- Verdicts on proof files (`Checked`, `Frames`, `Following`): of the fault of a later part, of the second piece, of a length that is cut, and what
-- no split is. Each equation holds by computing both sides: for every hash where no digest is compared, else for the digest for examples.
use Rattle.std.specs.Prelude.{◌≡◌, [], ◌∷◌, ◌++◌, replicate, true, false, None}
use Rattle.core_terms.specs.Types.{UnitTy, BoolTy, IntTy, PairTy, AuthTy}
use Rattle.core_terms.specs.Formats.{Hash}
use Rattle.core_terms.specs.Values.{UnitV, BoolV, PairV, DigestV}
use Rattle.core_terms.specs.Terms.{Program}
use Rattle.core_terms.specs.FormatRows.{tagged}
use Rattle.core_terms.specs.Projection.{digest_at}
use Rattle.ideal_meaning.specs.Run.{Ends, Rejects, Opens}
use Rattle.ideal_meaning.specs.Ideal.{Done, Piece, honest_pieces}
use Rattle.ideal_meaning.specs.Frames.{NoByte, NoMore, Offers, Use, frame_bytes}
use Rattle.ideal_meaning.specs.Checked.{Short, Cut, BadPiece, BadState, BadArgument, Accepted, Rejected, before_all, checked, checked_mode, take_piece, verdict, verdict_on}
use Rattle.ideal_meaning.specs.SplitPieces.{IsSplitAt}
use Rattle.ideal_meaning.specs.Headline.{call_values}
use Rattle.ideal_meaning.specs.Examples.{toy, unit_program, bool_program, two_bools_program, spin_program, pair_program}
use Rattle.ideal_meaning.specs.ExampleProofs.{file, on_open}

-- a program in a format whose digests tell whether the type is an authenticated one, with spellings of up to 40 bytes
abbrev pub tagged_program : Program
tagged_program = record { format = record { digest = tagged; print = λ hash t. None; limit = 40; magic = []; image_magic = replicate 4 0; most_kept = 0; arrays = false }; types = []; state = UnitTy; functions = []; code = None }

-- the honest piece of a pair of true and false
abbrev pub honest : Piece
honest = record { ty = PairTy BoolTy BoolTy; bytes = 1 ∷ 0 ∷ [] }

pub record VerdictRows : Type 0 where
  -- bytes of a length that isn't whole are no length
  pub cut_length_is_no_length : (hash : Hash) → on_open hash 1 (file (0 ∷ 0 ∷ 0 ∷ 255 ∷ 255 ∷ 255 ∷ [])) ≡ Rejected (Cut 0)
  -- the offset in a state or an argument is told, where a later part is faulty
  pub second_part_of_the_state_is_bad : (hash : Hash) → verdict hash two_bools_program UnitTy 1 (toy []) [] 1 [] ≡ BadState 32
  pub second_part_of_the_argument_is_bad : (hash : Hash) → verdict hash spin_program (PairTy IntTy BoolTy) 2 (toy []) (replicate 8 0 ++ 2 ∷ []) 1 [] ≡ BadArgument 8
  -- a rejected run keeps the fuel that is left
  pub rejection_keeps_its_fuel : (hash : Hash)
      → checked hash unit_program 1 (call_values (DigestV []) UnitV) 7 (before_all 0 (NoMore NoByte)) ≡ Ends (Rejects (Short 0)) 6 (before_all 0 (NoMore NoByte))
  -- the number of the piece that is wanting is told
  pub second_piece_is_short : verdict toy bool_program UnitTy 1 (toy (1 ∷ [])) [] 1 (file (0 ∷ 0 ∷ 0 ∷ 0 ∷ 0 ∷ 0 ∷ 1 ∷ 1 ∷ [])) ≡ Rejected (Short 1)
  -- the number of a piece comes before the offset in it
  pub second_piece_is_no_spelling : verdict toy bool_program UnitTy 1 (toy (1 ∷ [])) [] 1 (file (0 ∷ 0 ∷ 0 ∷ 0 ∷ 0 ∷ 0 ∷ 1 ∷ 1 ∷ 0 ∷ 0 ∷ 0 ∷ 0 ∷ 2 ∷ 3 ∷ 2 ∷ [])) ≡ Rejected (BadPiece 1 0)
  -- the same of frames alone, which use the pieces that came before
  pub offset_in_a_state : (hash : Hash) → verdict_on hash two_bools_program UnitTy 1 (toy []) [] 1 [] 0 [] ≡ BadState 32
  pub offset_in_an_argument : (hash : Hash) → verdict_on hash spin_program (PairTy IntTy BoolTy) 2 (toy []) (replicate 8 0 ++ 2 ∷ []) 1 [] 0 [] ≡ BadArgument 8
  pub earlier_piece_is_used_twice : verdict_on toy bool_program UnitTy 1 (toy (1 ∷ [])) [] 1 (frame_bytes (Use 0 ∷ Use 0 ∷ [])) 1 ((1 ∷ []) ∷ [])
      ≡ Accepted (Done (PairV (BoolV true) (BoolV true)))
  -- digests are at the type of the piece, and of the value that is authenticated
  pub piece_at_its_type : take_piece toy tagged_program (AuthTy IntTy) (1 ∷ toy (replicate 32 0)) 3 (Offers (replicate 32 0) 7 (NoMore NoByte)) (before_all 40 (NoMore NoByte))
      ≡ Opens (DigestV (replicate 32 0)) (record { place = 4; left = 7; more = NoMore NoByte })
  pub value_at_its_type : (hash : Hash) → (checked_mode hash tagged_program).auth (AuthTy IntTy) (DigestV (replicate 32 0)) ≡ DigestV (1 ∷ hash (replicate 32 0))
  -- pieces split behind equal ones alone, and where both have a piece
  pub split_behind_an_equal_piece : IsSplitAt (digest_at toy pair_program) ((1 ∷ 0 ∷ []) ∷ (0 ∷ 1 ∷ []) ∷ []) (honest ∷ honest ∷ []) 1
  pub no_split_behind_another : IsSplitAt (digest_at toy pair_program) ((0 ∷ 1 ∷ []) ∷ (0 ∷ 1 ∷ []) ∷ []) (honest ∷ honest ∷ []) 1 → ⊥
  pub no_split_without_a_piece : IsSplitAt (digest_at toy pair_program) [] (honest ∷ []) 0 → ⊥
  pub no_split_of_equal_pieces : IsSplitAt (digest_at toy pair_program) ((1 ∷ 0 ∷ []) ∷ []) (honest ∷ []) 0 → ⊥
  -- a piece that differs and has another digest splits nothing
  pub other_digest_splits_nothing : IsSplitAt (digest_at toy pair_program) ((0 ∷ 0 ∷ []) ∷ [])
      (honest_pieces toy pair_program 1 (call_values (PairV (BoolV true) (BoolV false)) UnitV) 1) 0 → ⊥
