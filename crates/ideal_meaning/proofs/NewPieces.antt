-- Honest frames leave as bytes the new pieces that they leave as frames.
use Rattle.std.proofs.Common.{◌≡◌, ℕ, zero, suc, ◌+◌, ◌<◌, ◌≤◌, ◌^◌, false, List, [], ◌∷◌, ◌++◌, length, take, drop, Option, Some, None, slice_get, nat_lt, if◌then◌else◌, refl, sym, ap, ap₂, ◌∙◌, subst, arith, length-append, length-take, length-drop, le-ltb, le_refl}
use Rattle.std.specs.Int.{w16, w32, to_be_bytes, from_be_bytes}
use Rattle.std.proofs.lemmas.Nat.{from_be_bytes-to_be_bytes_2, from_be_bytes-to_be_bytes_4}
use Rattle.std.proofs.lemmas.Option.{slice_get_within}
use Rattle.std.proofs.Math.Seq.{take-append_seam, drop-append_seam}
use Rattle.ideal_meaning.specs.Frames.{place_of, frame_at, honest_frames, frame_bytes}
use Rattle.ideal_meaning.specs.Following.{after_frames, after_new, after_used, after_use, after_within, after_bytes}
use Rattle.ideal_meaning.specs.FollowingLaws.{NewPieceBoundIsEnough, NewPiecesAreReadBack}
use Rattle.ideal_meaning.proofs.FramesBack.{AllShort, place_found, all_short}

-- What follows a frame is asked for on no more bytes than stand behind its kind.
abbrev AreAlike : ℕ → (f g : List (List ℕ) → List ℕ → List (List ℕ)) → Type 0
AreAlike most f g = (later : List (List ℕ)) (left : List ℕ) → length left ≤ most → f later left ≡ g later left

new_alike : (limit : ℕ) (recent : List (List ℕ)) (rest : List ℕ) (f g : List (List ℕ) → List ℕ → List (List ℕ)) → AreAlike (length rest) f g
    → after_new limit recent rest f ≡ after_new limit recent rest g
new_alike limit recent rest f g h =
    let len = from_be_bytes w32 (take 4 rest) in
    let left = drop len (drop 4 rest) in
    let fewer : length left ≤ length rest = omega (arith, length-drop len (drop 4 rest), length-drop 4 rest) in
    ap (λ more. if nat_lt (length rest) 4 then recent
    else (if nat_lt limit len then recent
    else (if nat_lt (length rest) (4 + len) then recent else more))) (h (take len (drop 4 rest) ∷ recent) left fewer)

used_alike : (o : Option (List ℕ)) (recent : List (List ℕ)) (left : List ℕ) (f g : List (List ℕ) → List ℕ → List (List ℕ)) → f recent left ≡ g recent left
    → after_used o recent left f ≡ after_used o recent left g
used_alike None recent left f g h = refl
used_alike (Some bytes) recent left f g h = h

use_alike : (n : ℕ) (recent : List (List ℕ)) (rest : List ℕ) (f g : List (List ℕ) → List ℕ → List (List ℕ)) → AreAlike (length rest) f g
    → after_use n recent rest f ≡ after_use n recent rest g
use_alike n recent rest f g h =
    let k = from_be_bytes w16 (take 2 rest) in
    let fewer : length (drop 2 rest) ≤ length rest = omega (arith, length-drop 2 rest) in
    ap (λ used. if nat_lt (length rest) 2 then recent else used)
    (used_alike (slice_get (take n recent) k) recent (drop 2 rest) f g (h recent (drop 2 rest) fewer))

within_alike : (limit n a b : ℕ) (recent : List (List ℕ)) (bytes : List ℕ) → length bytes ≤ a → length bytes ≤ b → after_within limit a n recent bytes ≡ after_within limit b n recent bytes
within_alike limit n zero zero recent bytes h j = refl
within_alike limit n zero (suc b) recent [] h j = refl
within_alike limit n zero (suc b) recent (x ∷ rest) h j = absurd (omega arith)
within_alike limit n (suc a) zero recent [] h j = refl
within_alike limit n (suc a) zero recent (x ∷ rest) h j = absurd (omega arith)
within_alike limit n (suc a) (suc b) recent [] h j = refl
within_alike limit n (suc a) (suc b) recent (zero ∷ rest) h j =
    new_alike limit recent rest (after_within limit a n) (after_within limit b n) (λ later left l. within_alike limit n a b later left (omega (arith, l)) (omega (arith, l)))
within_alike limit n (suc a) (suc b) recent (suc zero ∷ rest) h j =
    use_alike n recent rest (after_within limit a n) (after_within limit b n) (λ later left l. within_alike limit n a b later left (omega (arith, l)) (omega (arith, l)))
within_alike limit n (suc a) (suc b) recent (suc (suc x) ∷ rest) h j = refl

pub new_piece_bound_is_enough : NewPieceBoundIsEnough
new_piece_bound_is_enough limit most n recent bytes h = within_alike limit n most (length bytes) recent bytes h (le_refl (length bytes))

-- a new frame and a used one are passed
new_passed : (limit : ℕ) (p rest : List ℕ) (recent : List (List ℕ)) (more : List (List ℕ) → List ℕ → List (List ℕ)) → limit < 2 ^ 32 → length p ≤ limit
    → after_new limit recent (to_be_bytes w32 (length p) ++ (p ++ rest)) more ≡ more (p ∷ recent) rest
new_passed limit p rest recent more fits h =
    let F : ℕ → Type 0 = λ len. body len ≡ more (p ∷ recent) rest in
    let small : length p < 2 ^ 32 = omega arith in
    subst F (sym (from_be_bytes-to_be_bytes_4 (length p) small)) at
  where
    body : ℕ → List (List ℕ)
    body len =
        if nat_lt (length (to_be_bytes w32 (length p) ++ (p ++ rest))) 4 then recent
        else (if nat_lt limit len then recent
        else (if nat_lt (length (to_be_bytes w32 (length p) ++ (p ++ rest))) (4 + len) then recent
        else more (take len (p ++ rest) ∷ recent) (drop len (p ++ rest))))

    a : nat_lt (length (to_be_bytes w32 (length p) ++ (p ++ rest))) 4 ≡ false
    a = le-ltb _ _ (omega (arith, length-append p rest))

    b : nat_lt limit (length p) ≡ false
    b = le-ltb _ _ h

    c : nat_lt (length (to_be_bytes w32 (length p) ++ (p ++ rest))) (4 + length p) ≡ false
    c = le-ltb _ _ (omega (arith, length-append p rest))

    at : body (length p) ≡ more (p ∷ recent) rest
    at = rw (a, b, c) (ap₂ (λ xs ys. more (xs ∷ recent) ys) (take-append_seam p rest) (drop-append_seam p rest))

use_passed : (n k : ℕ) (p rest : List ℕ) (recent : List (List ℕ)) (more : List (List ℕ) → List ℕ → List (List ℕ)) → n < 2 ^ 16 → slice_get (take n recent) k ≡ Some p
    → after_use n recent (to_be_bytes w16 k ++ rest) more ≡ more recent rest
use_passed n k p rest recent more small e =
    let F : ℕ → Type 0 = λ k. body k ≡ more recent rest in
    let within : k < length (take n recent) = slice_get_within (take n recent) k p e in
    let low : k < 2 ^ 16 = omega (arith, length-take n recent) in
    subst F (sym (from_be_bytes-to_be_bytes_2 k low)) (rw (a, e) refl)
  where
    body : ℕ → List (List ℕ)
    body k = if nat_lt (length (to_be_bytes w16 k ++ rest)) 2 then recent else after_used (slice_get (take n recent) k) recent rest more

    a : nat_lt (length (to_be_bytes w16 k ++ rest)) 2 ≡ false
    a = le-ltb _ _ (omega arith)

-- the new pieces behind honest frames are those of the prover
module _ (limit n : ℕ) (fits : limit < 2 ^ 32) (small : n < 2 ^ 16) where
  after_back : (most : ℕ) (recent ps : List (List ℕ)) → AllShort limit ps → length (frame_bytes (honest_frames n recent ps)) ≤ most
      → after_within limit most n recent (frame_bytes (honest_frames n recent ps)) ≡ after_frames (honest_frames n recent ps) recent
  after_back zero recent [] short h = refl
  after_back (suc most) recent [] short h = refl
  after_back most recent (p ∷ ps) short h = by most (place_of p (take n recent)) refl h (λ most recent h. after_back most recent ps short.1 h)
    where
      by : (most : ℕ) (o : Option ℕ) → place_of p (take n recent) ≡ o → length (frame_bytes (frame_at o p recent (λ recent. honest_frames n recent ps))) ≤ most
          → ((most : ℕ) (recent : List (List ℕ)) → length (frame_bytes (honest_frames n recent ps)) ≤ most
          → after_within limit most n recent (frame_bytes (honest_frames n recent ps)) ≡ after_frames (honest_frames n recent ps) recent)
          → after_within limit most n recent (frame_bytes (frame_at o p recent (λ recent. honest_frames n recent ps))) ≡ after_frames (frame_at o p recent (λ recent. honest_frames n recent ps)) recent
      by zero None e h ih = absurd (omega arith)
      by zero (Some k) e h ih = absurd (omega arith)
      by (suc most) None e h ih =
          new_passed limit p (frame_bytes (honest_frames n (p ∷ recent) ps)) recent (after_within limit most n) fits short.0
          ∙ ih most (p ∷ recent) (omega (arith, length-append p (frame_bytes (honest_frames n (p ∷ recent) ps))))
      by (suc most) (Some k) e h ih =
          use_passed n k p (frame_bytes (honest_frames n recent ps)) recent (after_within limit most n) small (place_found p (take n recent) k e)
          ∙ ih most recent (omega arith)

  pub after_honest : (recent ps : List (List ℕ)) → AllShort limit ps → after_bytes limit (frame_bytes (honest_frames n recent ps)) n recent ≡ after_frames (honest_frames n recent ps) recent
  after_honest recent ps short = after_back (length (frame_bytes (honest_frames n recent ps))) recent ps short (omega arith)

pub new_pieces_are_read_back : NewPiecesAreReadBack
new_pieces_are_read_back format is n small recent pieces short =
    after_honest format.limit n is.limit_fits (omega (arith, is.kept_fits)) recent pieces (all_short format.limit pieces short)
