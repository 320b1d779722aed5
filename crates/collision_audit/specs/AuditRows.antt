-- Audits of proofs for example programs. Each equation holds by computing both sides, for the digest for examples.
use Rattle.std.specs.Prelude.{◌≡◌, ℕ, List, [], ◌∷◌, ◌++◌, Some, None, true, false, replicate, pos, codes, refl}
use Rattle.core_terms.specs.Formats.{second_format}
use Rattle.core_terms.specs.Types.{UnitTy, IntTy, AuthTy}
use Rattle.core_terms.specs.Terms.{LocalE, AuthE, UnauthE, ArithE, Init, Query, Program}
use Rattle.core_terms.specs.declared.term.Arith.TheVariants.{Add}
use Rattle.core_terms.specs.Values.{UnitV, BoolV, IntV, PairV}
use Rattle.ideal_meaning.specs.Checked.{Short, WrongPiece, Header, Leftover, Accepted, Rejected}
use Rattle.ideal_meaning.specs.Examples.{function, program, toy, pair_program}
use Rattle.ideal_meaning.specs.ExampleProofs.{file, forged_file, garbled_file}
use Rattle.ideal_meaning.specs.Ideal.{Done, Out}
use Rattle.collision_audit.specs.Audits.{Audit, Collides, Judges, audit_of, verdict_on_projections}

-- Two bools under one digest, true and false. The offered piece `00 01` has the digest of the honest one and is accepted as false
-- and true; the offered piece `03 02` has it too and is no spelling. Both are shown.
pub forged_piece_is_shown : audit_of toy pair_program UnitTy 1 (PairV (BoolV true) (BoolV false)) UnitV 1 forged_file
    ≡ Collides (record { place = 0; offered = 0 ∷ 1 ∷ []; honest = 1 ∷ 0 ∷ []; print = None })
forged_piece_is_shown = refl

pub garbled_piece_is_shown : audit_of toy pair_program UnitTy 1 (PairV (BoolV true) (BoolV false)) UnitV 1 garbled_file
    ≡ Collides (record { place = 0; offered = 3 ∷ 2 ∷ []; honest = 1 ∷ 0 ∷ []; print = None })
garbled_piece_is_shown = refl

-- An int under one digest, opened once, or twice.
--   state auth int;
--   init make(x: int): auth int = auth(x);
--   query get(s: auth int, x: unit): int = unauth(s);
--   query twice(s: auth int, x: unit): int = add(unauth(s), unauth(s));
abbrev pub int_program : Program
int_program = program [] (AuthTy IntTy) (
    function (codes "make") Init (IntTy ∷ []) (AuthTy IntTy) (AuthE IntTy (LocalE 0))
    ∷ function (codes "get") Query (AuthTy IntTy ∷ UnitTy ∷ []) IntTy (UnauthE IntTy (LocalE 0))
    ∷ function (codes "twice") Query (AuthTy IntTy ∷ UnitTy ∷ []) IntTy (ArithE Add (UnauthE IntTy (LocalE 0)) (UnauthE IntTy (LocalE 0)))
    ∷ [])

-- a frame with a piece of 8 bytes, of which all but the last two are 0, and that piece
abbrev pub piece_of_8 : (high low : ℕ) → List ℕ
piece_of_8 high low = replicate 6 0 ++ high ∷ low ∷ []

abbrev pub frame_of_8 : (high low : ℕ) → List ℕ
frame_of_8 high low = 0 ∷ 0 ∷ 0 ∷ 0 ∷ 8 ∷ piece_of_8 high low

-- the audit of these frames, without a ring, for one call with fuel 1 of `get` or `twice` where the state is 258
abbrev pub on_get : List ℕ → Audit
on_get frames = audit_of toy int_program UnitTy 1 (IntV (pos 258)) UnitV 1 (file (0 ∷ 0 ∷ frames))

abbrev pub on_twice : List ℕ → Audit
on_twice frames = audit_of toy int_program UnitTy 2 (IntV (pos 258)) UnitV 1 (file (0 ∷ 0 ∷ frames))

-- `02 01` in the place of `01 02`: the verifier accepts 513, the audit shows both pieces
pub swapped_bytes_are_accepted : verdict_on_projections toy int_program UnitTy 1 (IntV (pos 258)) UnitV 1 (file (0 ∷ 0 ∷ frame_of_8 2 1)) ≡ Accepted (Done (IntV (pos 513)))
swapped_bytes_are_accepted = refl

pub swapped_bytes_are_shown : on_get (frame_of_8 2 1) ≡ Collides (record { place = 0; offered = piece_of_8 2 1; honest = piece_of_8 1 2; print = None })
swapped_bytes_are_shown = refl

-- a piece of one byte with the digest, which is no spelling of an int
pub one_byte_is_shown : on_get (0 ∷ 0 ∷ 0 ∷ 0 ∷ 1 ∷ 3 ∷ []) ≡ Collides (record { place = 0; offered = 3 ∷ []; honest = piece_of_8 1 2; print = None })
one_byte_is_shown = refl

-- the honest piece; with bytes behind it; none; one of another digest
pub honest_piece_agrees : on_get (frame_of_8 1 2) ≡ Judges (Accepted (Done (IntV (pos 258))))
honest_piece_agrees = refl

pub piece_too_many_is_left : on_get (frame_of_8 1 2 ++ frame_of_8 2 1) ≡ Judges (Rejected (Leftover 13))
piece_too_many_is_left = refl

pub no_piece_is_short : on_get [] ≡ Judges (Rejected (Short 0))
no_piece_is_short = refl

pub other_digest_is_wrong : on_get (frame_of_8 1 3) ≡ Judges (Rejected (WrongPiece 0 (toy (3 ∷ [])) (toy (2 ∷ []))))
other_digest_is_wrong = refl

-- Of two pieces the second differs. Where the first differs and has another digest, no split stands behind it.
pub second_piece_is_shown : on_twice (frame_of_8 1 2 ++ frame_of_8 2 1) ≡ Collides (record { place = 1; offered = piece_of_8 2 1; honest = piece_of_8 1 2; print = None })
second_piece_is_shown = refl

pub first_of_two_is_shown : on_twice (frame_of_8 2 1 ++ frame_of_8 0 3) ≡ Collides (record { place = 0; offered = piece_of_8 2 1; honest = piece_of_8 1 2; print = None })
first_of_two_is_shown = refl

pub nothing_behind_a_wrong_piece : on_twice (frame_of_8 1 3 ++ frame_of_8 2 1) ≡ Judges (Rejected (WrongPiece 0 (toy (3 ∷ [])) (toy (2 ∷ []))))
nothing_behind_a_wrong_piece = refl

pub second_piece_is_short : on_twice (frame_of_8 1 2) ≡ Judges (Rejected (Short 1))
second_piece_is_short = refl

-- with another magic nothing is offered; without fuel nothing is opened, and the want of fuel is agreed on
pub other_magic_is_refused : audit_of toy int_program UnitTy 1 (IntV (pos 258)) UnitV 1 (0x4C ∷ 0x41 ∷ 0x50 ∷ 0x32 ∷ 0 ∷ 0 ∷ frame_of_8 2 1) ≡ Judges (Rejected Header)
other_magic_is_refused = refl

pub out_agrees : audit_of toy int_program UnitTy 1 (IntV (pos 258)) UnitV 0 (file (0 ∷ 0 ∷ [])) ≡ Judges (Accepted Out)
out_agrees = refl

pub piece_without_fuel_is_left : audit_of toy int_program UnitTy 1 (IntV (pos 258)) UnitV 0 (file (0 ∷ 0 ∷ frame_of_8 2 1)) ≡ Judges (Rejected (Leftover 13))
piece_without_fuel_is_left = refl

-- The same program in the second format: the digest tells the type too, and its fingerprint is shown with the pieces.
abbrev pub second_program : Program
second_program = record int_program { format = second_format [] 1024 }

abbrev pub on_second_get : List ℕ → Audit
on_second_get frames = audit_of toy second_program UnitTy 1 (IntV (pos 258)) UnitV 1 (0x4C ∷ 0x41 ∷ 0x50 ∷ 0x32 ∷ 0 ∷ 0 ∷ frames)

pub fingerprint_is_shown : on_second_get (frame_of_8 2 1) ≡ Collides (record { place = 0; offered = piece_of_8 2 1; honest = piece_of_8 1 2; print = Some (toy (2 ∷ [])) })
fingerprint_is_shown = refl

pub wrong_digests_tell_the_type : on_second_get (frame_of_8 1 3) ≡ Judges (Rejected (WrongPiece 0 (toy (2 ∷ 3 ∷ [])) (toy (2 ∷ 2 ∷ []))))
wrong_digests_tell_the_type = refl
