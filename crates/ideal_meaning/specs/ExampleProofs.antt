-- Proof files of the example programs and the verdicts on them. Each equation holds by computing both sides: for every hash where
-- no digest is compared, else for the digest for examples. A proof file begins with `LAP1` and the ring size.
use Rattle.std.specs.Prelude.{◌≡◌, ℕ, List, [], ◌∷◌, ◌++◌, length, replicate, drop, pos, true, false, bytes_eq, T, refl}
use Rattle.std.proofs.Common.{subst}
use Rattle.std.specs.Str.{is_utf8, chars}
use lib.Utf8.{encode}
use Rattle.core_terms.specs.Types.{UnitTy, BoolTy, PairTy, AuthTy}
use Rattle.core_terms.specs.Formats.{Hash, IsHash, first_format}
use Rattle.core_terms.specs.Values.{UnitV, BoolV, IntV, TextV, PairV, DigestV}
use Rattle.core_terms.specs.Spelling.{spelling}
use Rattle.core_terms.specs.Projection.{digest_at}
use Rattle.ideal_meaning.specs.Run.{Overflow}
use Rattle.ideal_meaning.specs.Ideal.{ideal, outcome, outcome_projection, Done, Trapped, Out, honest_pieces, bytes_of}
use Rattle.ideal_meaning.specs.Frames.{offered, offered_pieces, proof_file}
use Rattle.ideal_meaning.specs.Checked.{Short, Cut, BadKind, PieceLong, BadUse, WrongPiece, BadPiece, Header, Leftover, Verdict, BadState, BadArgument, Accepted, Rejected, verdict}
use Rattle.ideal_meaning.specs.SplitPieces.{IsSplitAt}
use Rattle.ideal_meaning.specs.Headline.{call_values}
use Rattle.ideal_meaning.specs.Examples.{toy, unit_program, bool_program, two_bools_program, nested_program, text_program, pair_program}

-- a proof file of the first format: its magic, and the bytes behind that
abbrev pub file : List ℕ → List ℕ
file bytes = 0x4C ∷ 0x41 ∷ 0x50 ∷ 0x31 ∷ bytes

-- the verdict on opening a unit, whose digest is that of no bytes, with so much fuel
abbrev pub on_open : Hash → ℕ → List ℕ → Verdict
on_open hash fuel bytes = verdict hash unit_program UnitTy 1 (toy []) [] fuel bytes

-- the digest for examples is one that the laws speak of
pub toy_gives_32_bytes : IsHash toy
toy_gives_32_bytes bytes = refl

-- the empty piece
pub empty_piece_is_accepted : on_open toy 1 (file (0 ∷ 0 ∷ 0 ∷ 0 ∷ 0 ∷ 0 ∷ 0 ∷ [])) ≡ Accepted (Done UnitV)
empty_piece_is_accepted = refl

-- a piece is asked for behind the last byte
pub no_frame_is_short : (hash : Hash) → on_open hash 1 (file (0 ∷ 0 ∷ [])) ≡ Rejected (Short 0)
no_frame_is_short hash = refl

pub cut_header_is_refused : (hash : Hash) → on_open hash 1 (file (0 ∷ [])) ≡ Rejected Header
cut_header_is_refused hash = refl

pub other_magic_is_refused : (hash : Hash) → on_open hash 1 (0x4C ∷ 0x41 ∷ 0x50 ∷ 0x32 ∷ 0 ∷ 0 ∷ []) ≡ Rejected Header
other_magic_is_refused hash = refl

-- 1,024 pieces may be kept, and one more is refused
pub largest_ring_is_read : (hash : Hash) → on_open hash 1 (file (4 ∷ 0 ∷ [])) ≡ Rejected (Short 0)
largest_ring_is_read hash = refl

pub larger_ring_is_refused : (hash : Hash) → on_open hash 1 (file (4 ∷ 1 ∷ [])) ≡ Rejected Header
larger_ring_is_refused hash = refl

-- the frame ends inside its length
pub frame_is_cut : (hash : Hash) → on_open hash 1 (file (0 ∷ 0 ∷ 0 ∷ 0 ∷ 0 ∷ [])) ≡ Rejected (Cut 0)
frame_is_cut hash = refl

-- or inside its piece, or inside the number of a kept piece
pub piece_is_cut : (hash : Hash) → on_open hash 1 (file (0 ∷ 0 ∷ 0 ∷ 0 ∷ 0 ∷ 0 ∷ 2 ∷ 5 ∷ [])) ≡ Rejected (Cut 0)
piece_is_cut hash = refl

pub number_is_cut : (hash : Hash) → on_open hash 1 (file (0 ∷ 0 ∷ 1 ∷ 0 ∷ [])) ≡ Rejected (Cut 0)
number_is_cut hash = refl

-- a piece of one byte, whose digest isn't that of no bytes
pub other_piece_is_wrong : on_open toy 1 (file (0 ∷ 0 ∷ 0 ∷ 0 ∷ 0 ∷ 0 ∷ 1 ∷ 5 ∷ [])) ≡ Rejected (WrongPiece 0 (toy []) (toy (5 ∷ [])))
other_piece_is_wrong = refl

-- the byte 0 has the digest of no bytes, and is no spelling of unit
pub byte_too_many_is_no_spelling : on_open toy 1 (file (0 ∷ 0 ∷ 0 ∷ 0 ∷ 0 ∷ 0 ∷ 1 ∷ 0 ∷ [])) ≡ Rejected (BadPiece 0 0)
byte_too_many_is_no_spelling = refl

-- a byte is left behind the run
pub byte_is_left : on_open toy 1 (file (0 ∷ 0 ∷ 0 ∷ 0 ∷ 0 ∷ 0 ∷ 0 ∷ 0 ∷ [])) ≡ Rejected (Leftover 1)
byte_is_left = refl

-- no frame begins with the byte 7
pub kind_is_bad : (hash : Hash) → on_open hash 1 (file (0 ∷ 0 ∷ 7 ∷ [])) ≡ Rejected (BadKind 0 7)
kind_is_bad hash = refl

-- the frame names the last new piece, and none is kept
pub use_is_bad : (hash : Hash) → on_open hash 1 (file (0 ∷ 0 ∷ 1 ∷ 0 ∷ 0 ∷ [])) ≡ Rejected (BadUse 0 0 0)
use_is_bad hash = refl

-- a piece is longer than any spelling: found as soon as its length is read
pub piece_is_long : (hash : Hash) → on_open hash 1 (file (0 ∷ 0 ∷ 0 ∷ 0 ∷ 1 ∷ 0 ∷ 1 ∷ [])) ≡ Rejected (PieceLong 0 65537)
piece_is_long hash = refl

-- the want of fuel is accepted like an answer, and nothing may be left
pub out_is_accepted : (hash : Hash) → on_open hash 0 (file (0 ∷ 0 ∷ [])) ≡ Accepted Out
out_is_accepted hash = refl

pub frame_is_left : (hash : Hash) → on_open hash 0 (file (0 ∷ 0 ∷ 0 ∷ 0 ∷ 0 ∷ 0 ∷ 0 ∷ [])) ≡ Rejected (Leftover 5)
frame_is_left hash = refl

-- a state that is no digest, and an argument with a byte too many, are found before the proof is looked at
pub state_is_bad : (hash : Hash) → verdict hash unit_program UnitTy 1 (1 ∷ 2 ∷ 3 ∷ []) [] 1 [] ≡ BadState 0
state_is_bad hash = refl

pub argument_is_bad : (hash : Hash) → verdict hash unit_program UnitTy 1 (toy []) (1 ∷ []) 1 [] ≡ BadArgument 0
argument_is_bad hash = refl

-- One piece asked for twice: with a ring of one it is used again, without a ring it is written again. Both files are accepted.
abbrev pub twice_true : List (List ℕ)
twice_true = (1 ∷ []) ∷ (1 ∷ []) ∷ []

pub kept_piece_is_used : proof_file (first_format 1024) 1 twice_true ≡ file (0 ∷ 1 ∷ 0 ∷ 0 ∷ 0 ∷ 0 ∷ 1 ∷ 1 ∷ 1 ∷ 0 ∷ 0 ∷ [])
kept_piece_is_used = refl

pub without_ring_all_are_new : proof_file (first_format 1024) 0 twice_true ≡ file (0 ∷ 0 ∷ 0 ∷ 0 ∷ 0 ∷ 0 ∷ 1 ∷ 1 ∷ 0 ∷ 0 ∷ 0 ∷ 0 ∷ 1 ∷ 1 ∷ [])
without_ring_all_are_new = refl

pub used_piece_is_accepted : verdict toy bool_program UnitTy 1 (toy (1 ∷ [])) [] 1 (proof_file (first_format 1024) 1 twice_true) ≡ Accepted (Done (PairV (BoolV true) (BoolV true)))
used_piece_is_accepted = refl

pub new_pieces_are_accepted : verdict toy bool_program UnitTy 1 (toy (1 ∷ [])) [] 1 (proof_file (first_format 1024) 0 twice_true) ≡ Accepted (Done (PairV (BoolV true) (BoolV true)))
new_pieces_are_accepted = refl

-- A piece that comes back behind another one: a ring of one has lost it, a ring of two has it at place 1.
abbrev pub true_false_true : List (List ℕ)
true_false_true = (1 ∷ []) ∷ (0 ∷ []) ∷ (1 ∷ []) ∷ []

pub ring_of_one_has_lost_it : proof_file (first_format 1024) 1 true_false_true ≡ file (0 ∷ 1 ∷ 0 ∷ 0 ∷ 0 ∷ 0 ∷ 1 ∷ 1 ∷ 0 ∷ 0 ∷ 0 ∷ 0 ∷ 1 ∷ 0 ∷ 0 ∷ 0 ∷ 0 ∷ 0 ∷ 1 ∷ 1 ∷ [])
ring_of_one_has_lost_it = refl

pub ring_of_two_has_it : proof_file (first_format 1024) 2 true_false_true ≡ file (0 ∷ 2 ∷ 0 ∷ 0 ∷ 0 ∷ 0 ∷ 1 ∷ 1 ∷ 0 ∷ 0 ∷ 0 ∷ 0 ∷ 1 ∷ 0 ∷ 1 ∷ 0 ∷ 1 ∷ [])
ring_of_two_has_it = refl

pub three_is_accepted : verdict toy two_bools_program UnitTy 1 (toy (1 ∷ []) ++ toy (0 ∷ [])) [] 1 (proof_file (first_format 1024) 2 true_false_true)
    ≡ Accepted (Done (PairV (BoolV true) (PairV (BoolV false) (BoolV true))))
three_is_accepted = refl

-- A trap is accepted where its proof is whole.
pub trap_is_accepted : verdict toy bool_program UnitTy 3 (toy (1 ∷ [])) [] 1 (file (0 ∷ 0 ∷ 0 ∷ 0 ∷ 0 ∷ 0 ∷ 1 ∷ 1 ∷ [])) ≡ Accepted (Trapped Overflow)
trap_is_accepted = refl

pub byte_behind_a_trap_is_left : verdict toy bool_program UnitTy 3 (toy (1 ∷ [])) [] 1 (file (0 ∷ 0 ∷ 0 ∷ 0 ∷ 0 ∷ 0 ∷ 1 ∷ 1 ∷ 9 ∷ [])) ≡ Rejected (Leftover 1)
byte_behind_a_trap_is_left = refl

pub trap_is_not_reached : (hash : Hash) → verdict hash bool_program UnitTy 3 (toy (1 ∷ [])) [] 1 (file (0 ∷ 0 ∷ [])) ≡ Rejected (Short 0)
trap_is_not_reached hash = refl

-- An update's answer has the digest of the new state, and is the projection of the ideal outcome.
pub flip_is_accepted : verdict toy bool_program UnitTy 2 (toy (1 ∷ [])) [] 1 (file (0 ∷ 0 ∷ 0 ∷ 0 ∷ 0 ∷ 0 ∷ 1 ∷ 1 ∷ []))
    ≡ Accepted (Done (PairV (DigestV (toy (0 ∷ []))) (BoolV true)))
flip_is_accepted = refl

pub other_flip_is_accepted : verdict toy bool_program UnitTy 2 (toy (0 ∷ [])) [] 1 (file (0 ∷ 0 ∷ 0 ∷ 0 ∷ 0 ∷ 0 ∷ 1 ∷ 0 ∷ []))
    ≡ Accepted (Done (PairV (DigestV (toy (1 ∷ []))) (BoolV false)))
other_flip_is_accepted = refl

pub flip_is_projected : (hash : Hash)
    → outcome_projection hash bool_program (PairTy (AuthTy BoolTy) BoolTy) (outcome (ideal bool_program 2 (call_values (BoolV true) UnitV) 1))
    ≡ Done (PairV (DigestV (hash (0 ∷ []))) (BoolV true))
flip_is_projected hash = refl

-- The outer piece has the digest of the inner one, which has no bytes.
pub nested_pieces_are_accepted : verdict toy nested_program UnitTy 1 (toy (toy [])) [] 1
    (proof_file (first_format 1024) 0 (bytes_of (honest_pieces toy nested_program 1 (call_values UnitV UnitV) 1))) ≡ Accepted (Done UnitV)
nested_pieces_are_accepted = refl

pub nested_proof_has_48_bytes : length (proof_file (first_format 1024) 0 (bytes_of (honest_pieces toy nested_program 1 (call_values UnitV UnitV) 1))) ≡ 48
nested_proof_has_48_bytes = refl

-- a piece of as many bytes as the format allows
pub longest_piece_is_accepted : verdict toy text_program UnitTy 1 (toy (spelling (TextV (replicate 65532 0x61)))) [] 1
    (proof_file (first_format 1024) 0 (spelling (TextV (replicate 65532 0x61)) ∷ [])) ≡ Accepted (Done (IntV (pos 65532)))
unfolding is_utf8 chars encode
longest_piece_is_accepted = refl

-- A forged proof. The state is the pair of true and false. The piece `00 01` differs from the honest `01 00` and has its digest:
-- the false answer is accepted, and the pieces split at place 0.
abbrev pub forged_file : List ℕ
forged_file = file (0 ∷ 0 ∷ 0 ∷ 0 ∷ 0 ∷ 0 ∷ 2 ∷ 0 ∷ 1 ∷ [])

pub forged_answer_is_accepted : verdict toy pair_program UnitTy 1 (toy (1 ∷ 0 ∷ [])) [] 1 forged_file ≡ Accepted (Done (PairV (BoolV false) (BoolV true)))
forged_answer_is_accepted = refl

pub forged_piece_splits : IsSplitAt (digest_at toy pair_program) (offered_pieces (offered 65536 (drop 6 forged_file) 0 []))
    (honest_pieces toy pair_program 1 (call_values (PairV (BoolV true) (BoolV false)) UnitV) 1) 0
forged_piece_splits = (λ e. subst (λ bytes. T (bytes_eq bytes (0 ∷ 1 ∷ []))) e tt, refl)

-- The piece `03 02` too has the digest, and is no spelling of two bools: rejected, and a split all the same.
abbrev pub garbled_file : List ℕ
garbled_file = file (0 ∷ 0 ∷ 0 ∷ 0 ∷ 0 ∷ 0 ∷ 2 ∷ 3 ∷ 2 ∷ [])

pub garbled_piece_is_no_spelling : verdict toy pair_program UnitTy 1 (toy (1 ∷ 0 ∷ [])) [] 1 garbled_file ≡ Rejected (BadPiece 0 0)
garbled_piece_is_no_spelling = refl

pub garbled_piece_splits : IsSplitAt (digest_at toy pair_program) (offered_pieces (offered 65536 (drop 6 garbled_file) 0 []))
    (honest_pieces toy pair_program 1 (call_values (PairV (BoolV true) (BoolV false)) UnitV) 1) 0
garbled_piece_splits = (λ e. subst (λ bytes. T (bytes_eq bytes (3 ∷ 2 ∷ []))) e tt, refl)
