-- Verdicts on arrays and on other pieces of the second format, and what runs on arrays do at the limits. Each equation holds by computing both
-- sides: for every hash where no digest is compared, else for the digest for examples.
use Rattle.std.specs.Prelude.{◌≡◌, ℕ, zero, suc, List, [], ◌∷◌, ◌++◌, codes, pos, replicate}
use Rattle.core_terms.specs.Types.{UnitTy, IntTy, TextTy, NamedTy, AuthTy, VecTy, Table}
use Rattle.core_terms.specs.Formats.{Hash, second_format}
use Rattle.core_terms.specs.Projection.{read_at}
use Rattle.core_terms.specs.Reading.{Good}
use Rattle.core_terms.specs.Terms.{LocalE, UnauthE, ConE, Query, Program}
use Rattle.core_terms.specs.Values.{Value, UnitV, IntV, TextV, ConV, ItemsV, Values, NoV, AndV}
use Rattle.ideal_meaning.specs.Run.{Run, Gives, Ends, Traps, Index, TooBig, TooDeep}
use Rattle.ideal_meaning.specs.Ideal.{Done, Trapped, Outcome, Opened, ideal, outcome}
use Rattle.ideal_meaning.specs.Checked.{BadPiece, BadState, Cut, Leftover, PieceLong, WrongPiece, Verdict, Accepted, Rejected, verdict}
use Rattle.ideal_meaning.specs.ArrayRuns.{fill, get, put, int, letters, two_ints_program}
use Rattle.ideal_meaning.specs.Examples.{toy, function, operands, program, values, expression_program}
use Rattle.definition_rows.specs.SecondFormatRows.{in_second, on_open_second, second_file}

-- an int below 256 as it is spelled, and the state of 7 and 9
abbrev pub spelled : ℕ → List ℕ
spelled n = replicate 7 0 ++ n ∷ []

abbrev pub two_ints : List ℕ
two_ints = spelled 7 ++ spelled 9

-- the verdict on the element of a state of two ints at an int
abbrev pub on_element : Hash → List ℕ → List ℕ → List ℕ → Verdict
on_element hash state index bytes = verdict hash (in_second two_ints_program) IntTy 0 state index 1 bytes

-- Two authenticated ints, one of which is opened.
--   format 2;
--   state vec[2] auth int;
--   query open(s: vec[2] auth int, i: int): int = unauth(vget(s, i));
abbrev pub two_auths_program : Program
two_auths_program = in_second (program [] (VecTy 2 (AuthTy IntTy)) (
    function (codes "open") Query (VecTy 2 (AuthTy IntTy) ∷ IntTy ∷ []) IntTy (UnauthE IntTy (get 2 (AuthTy IntTy) (LocalE 0) (LocalE 1)))
    ∷ []))

-- the digest of an int in that format
abbrev pub digest_of : ℕ → List ℕ
digest_of n = toy (toy (2 ∷ []) ++ spelled n)

-- the verdict on the element of 7 and 9 at an int, of whose proof the piece is 9
abbrev pub on_nine : ℕ → Verdict
on_nine i = verdict toy two_auths_program IntTy 0 (digest_of 7 ++ digest_of 9) (spelled i) 1 (second_file (0 ∷ 0 ∷ 0 ∷ 0 ∷ 0 ∷ 0 ∷ 8 ∷ spelled 9))

-- An int, 64 times 64 times so many times: its first element.
abbrev pub of_wide : ℕ → Run ⊥ (List Opened) Value
of_wide n =
    let inner = VecTy n IntTy in
    let middle = VecTy 64 inner in
    let wide = fill 64 middle (fill 64 inner (fill n IntTy (int 7))) in
    ideal (in_second (expression_program [] IntTy (get n IntTy (get 64 inner (get 64 middle wide (int 0)) (int 63)) (int 0)))) 0 (values []) 1

-- a value, so many times
abbrev pub copies : ℕ → Value → Values
copies zero v = NoV
copies (suc n) v = AndV v (copies n v)

-- chains of so many links, whose last one has a text of so many bytes: n + 2 levels
--   type chain = Stop(text) | More(chain);
abbrev pub chains : Table
chains = ((TextTy ∷ []) ∷ (NamedTy 0 ∷ []) ∷ []) ∷ []

abbrev pub chain : ℕ → ℕ → Value
chain zero k = ConV 0 (AndV (TextV (replicate k 0x61)) NoV)
chain (suc n) k = ConV 1 (AndV (chain n k) NoV)

-- what an array of one short chain is where a chain takes the place of its element at an int
abbrev pub replaced : ℕ → ℕ → ℕ → Outcome
replaced i n k =
    let short = ConE 0 0 (operands (letters 1 ∷ [])) in
    let with_it = put 1 (NamedTy 0) (fill 1 (NamedTy 0) short) (int i) (LocalE 0) in
    outcome (ideal (record (expression_program (NamedTy 0 ∷ []) (NamedTy 0) (get 1 (NamedTy 0) with_it (int 0))) { types = chains }) 0 (values (chain n k ∷ [])) 1)

pub record ArrayVerdictRows : Type 0 where
  -- the element at 1 is 9, and there is none at 2 or before 0
  pub second_is_accepted : (hash : Hash) → on_element hash two_ints (spelled 1) (second_file (0 ∷ 0 ∷ [])) ≡ Accepted (Done (IntV (pos 9)))
  pub no_third : (hash : Hash) → on_element hash two_ints (spelled 2) (second_file (0 ∷ 0 ∷ [])) ≡ Accepted (Trapped Index)
  pub none_before_the_first : (hash : Hash) → on_element hash two_ints (replicate 8 255) (second_file (0 ∷ 0 ∷ [])) ≡ Accepted (Trapped Index)
  pub byte_behind_a_trap_is_left : (hash : Hash) → on_element hash two_ints (spelled 2) (second_file (0 ∷ 0 ∷ 0 ∷ [])) ≡ Rejected (Leftover 1)
  -- a state that is cut is at fault where its last element begins, and one that is too long behind it
  pub state_is_cut : (hash : Hash) → on_element hash (replicate 15 0) (spelled 1) [] ≡ BadState 8
  pub state_is_too_long : (hash : Hash) → on_element hash (two_ints ++ 0 ∷ []) (spelled 1) [] ≡ BadState 16
  -- an element is opened by its own digest
  pub element_is_opened : on_nine 1 ≡ Accepted (Done (IntV (pos 9)))
  pub other_element_is_wrong : on_nine 0 ≡ Rejected (WrongPiece 0 (digest_of 7) (digest_of 9))
  -- the fingerprint of an array stands before what is digested
  pub digest_at_an_array : (text : List ℕ) (most : ℕ) (hash : Hash) (bytes : List ℕ) → (second_format text most).digest hash (VecTy 2 IntTy) bytes ≡ hash (hash (7 ∷ 2 ∷ hash (2 ∷ [])) ++ bytes)
  -- a piece whose digest is right and that is no spelling; one of as many bytes as the format allows, and of one more
  pub piece_is_no_spelling : on_open_second 33 (second_file (0 ∷ 0 ∷ 0 ∷ 0 ∷ 0 ∷ 0 ∷ 1 ∷ 5 ∷ [])) ≡ Rejected (BadPiece 0 0)
  pub longest_piece_is_cut : on_open_second 32 (second_file (0 ∷ 0 ∷ 0 ∷ 0 ∷ 16 ∷ 0 ∷ 0 ∷ [])) ≡ Rejected (Cut 0)
  pub longer_piece_is_long : on_open_second 32 (second_file (0 ∷ 0 ∷ 0 ∷ 0 ∷ 16 ∷ 0 ∷ 1 ∷ [])) ≡ Rejected (PieceLong 0 1048577)
  -- 64 times 64 times 32 ints spell 1,048,576 bytes, and 33 are too many
  pub wide_array_fits : of_wide 32 ≡ Gives (IntV (pos 7)) 0 []
  pub wider_array_is_too_big : of_wide 33 ≡ Ends (Traps TooBig) 0 []
  -- 64 times 64 units are read of no bytes
  pub many_units_are_read : read_at (in_second two_ints_program) (VecTy 64 (VecTy 64 UnitTy)) [] ≡ Good (ItemsV (copies 64 (ItemsV (copies 64 UnitV)))) [] 0
  -- a replacement on level 512 fits, and one on level 513 doesn't; first comes the index, then the size
  pub deepest_replacement_fits : replaced 0 509 1 ≡ Done (chain 509 1)
  pub deeper_replacement_is_too_deep : replaced 0 510 1 ≡ Trapped TooDeep
  pub index_before_too_deep : replaced 1 510 1 ≡ Trapped Index
  pub too_big_before_too_deep : replaced 0 510 65533 ≡ Trapped TooBig
