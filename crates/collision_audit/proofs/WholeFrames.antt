-- Frames that are whole, and the same frames with other bytes behind them.
use Rattle.std.proofs.Common.{◌≡◌, ℕ, ◌+◌, ◌≤◌, Bool, true, false, List, ◌∷◌, ◌++◌, length, take, drop, Option, Some, None, slice_get, nat_lt, if◌then◌else◌, refl, sym, ap, ◌∙◌, subst, arith, le-ltb, ltb-false, length-append, length-drop}
use Rattle.std.proofs.lemmas.List.{take-append-le, drop-append-le}
use Rattle.std.specs.Int.{w16, w32, from_be_bytes}
use Rattle.ideal_meaning.specs.Frames.{Offer, NoMore, IsCut, LongBy, Offers, new_frame, used_piece, use_frame}
use Rattle.collision_audit.specs.Splits.{left_behind}

-- from behind the first byte of a frame: the length of a piece of its own, that piece, and the bytes behind it
abbrev pub len_in : List ℕ → ℕ
len_in rest = from_be_bytes w32 (take 4 rest)

abbrev pub piece_in : List ℕ → List ℕ
piece_in rest = take (len_in rest) (drop 4 rest)

abbrev pub left_in : List ℕ → List ℕ
left_in rest = drop (len_in rest) (drop 4 rest)

-- the number of a kept piece
abbrev pub kept_in : List ℕ → ℕ
kept_in rest = from_be_bytes w16 (take 2 rest)

-- a frame with a piece of its own is whole, and its piece isn't longer than the limit
pub record IsWhole (limit : ℕ) (rest : List ℕ) : Type 0 where
  pub fits : nat_lt limit (len_in rest) ≡ false
  pub whole : 4 + len_in rest ≤ length rest

-- a frame that names a kept piece is whole, and the piece is kept
pub record IsKept (n : ℕ) (recent : List (List ℕ)) (rest : List ℕ) : Type 0 where
  pub whole : 2 ≤ length rest
  pub piece : List ℕ
  pub there : slice_get (take n recent) (kept_in rest) ≡ Some piece

module _ (limit : ℕ) (recent : List (List ℕ)) (rest : List ℕ) (more : List (List ℕ) → List ℕ → Offer) where
  -- a frame that offers a piece is whole
  pub offers_whole : (i l : ℕ) → left_behind (new_frame limit recent rest more) i ≡ Some l → IsWhole limit rest
  offers_whole i l = by (nat_lt (length rest) 4) (nat_lt limit (len_in rest)) (nat_lt (length rest) (4 + len_in rest)) refl refl
    where
      by : (a b c : Bool) → nat_lt limit (len_in rest) ≡ b → nat_lt (length rest) (4 + len_in rest) ≡ c
          → left_behind (if a then NoMore IsCut else (if b then NoMore (LongBy (len_in rest)) else (if c then NoMore IsCut else Offers (piece_in rest) (length (left_in rest)) (more (piece_in rest ∷ recent) (left_in rest))))) i ≡ Some l
          → IsWhole limit rest
      by true b c q r e = absurd (cc (e))
      by false true c q r e = absurd (cc (e))
      by false false true q r e = absurd (cc (e))
      by false false false q r e = record { fits = q; whole = ltb-false (length rest) (4 + len_in rest) r }

  -- a whole frame offers its piece
  pub whole_offers : IsWhole limit rest → new_frame limit recent rest more ≡ Offers (piece_in rest) (length (left_in rest)) (more (piece_in rest ∷ recent) (left_in rest))
  whole_offers w =
      let head : 4 ≤ length rest = omega (arith, w.whole) in
      rw (le-ltb (length rest) 4 head, w.fits, le-ltb (length rest) (4 + len_in rest) w.whole) refl

module _ (n : ℕ) (recent : List (List ℕ)) (rest : List ℕ) (more : List (List ℕ) → List ℕ → Offer) where
  pub offers_kept : (i l : ℕ) → left_behind (use_frame n recent rest more) i ≡ Some l → IsKept n recent rest
  offers_kept i l = by (nat_lt (length rest) 2) (slice_get (take n recent) (kept_in rest)) refl refl
    where
      by : (a : Bool) (o : Option (List ℕ)) → nat_lt (length rest) 2 ≡ a → slice_get (take n recent) (kept_in rest) ≡ o
          → left_behind (if a then NoMore IsCut else used_piece o (kept_in rest) (length (take n recent)) (drop 2 rest) (more recent)) i ≡ Some l
          → IsKept n recent rest
      by true o q r e = absurd (cc (e))
      by false None q r e = absurd (cc (e))
      by false (Some piece) q r e = record { whole = ltb-false (length rest) 2 q; piece = piece; there = r }

  pub kept_offers : (h : IsKept n recent rest) → use_frame n recent rest more ≡ Offers h.piece (length (drop 2 rest)) (more recent (drop 2 rest))
  kept_offers h = rw (le-ltb (length rest) 2 h.whole, h.there) refl

-- The frame of a front is that of the front with more bytes behind it.
module _ (front more : List ℕ) where
  pub same_len : 4 ≤ length front → len_in (front ++ more) ≡ len_in front
  same_len h = ap (from_be_bytes w32) (take-append-le 4 front more h)

  pub same_kept : 2 ≤ length front → kept_in (front ++ more) ≡ kept_in front
  same_kept h = ap (from_be_bytes w16) (take-append-le 2 front more h)

  behind_head : 4 ≤ length front → drop 4 (front ++ more) ≡ drop 4 front ++ more
  behind_head h = drop-append-le 4 front more h

  pub same_piece : 4 + len_in front ≤ length front → piece_in (front ++ more) ≡ piece_in front
  same_piece h =
      let head : 4 ≤ length front = omega (arith, h) in
      let inside : len_in front ≤ length (drop 4 front) = omega (arith, h, length-drop 4 front) in
      ap (λ (n : ℕ). take n (drop 4 (front ++ more))) (same_len head) ∙ (ap (take (len_in front)) (behind_head head) ∙ take-append-le (len_in front) (drop 4 front) more inside)

  pub same_left : 4 + len_in front ≤ length front → left_in (front ++ more) ≡ left_in front ++ more
  same_left h =
      let head : 4 ≤ length front = omega (arith, h) in
      let inside : len_in front ≤ length (drop 4 front) = omega (arith, h, length-drop 4 front) in
      ap (λ (n : ℕ). drop n (drop 4 (front ++ more))) (same_len head) ∙ (ap (drop (len_in front)) (behind_head head) ∙ drop-append-le (len_in front) (drop 4 front) more inside)

  -- where no fewer bytes are left behind a whole frame than stand behind the front, the front holds the frame
  pub front_holds : (limit : ℕ) → IsWhole limit (front ++ more) → length more ≤ length (left_in (front ++ more)) → IsWhole limit front
  front_holds limit w left =
      let long : 4 + len_in (front ++ more) ≤ length front = omega (arith, w.whole, left, length-append front more, length-drop (len_in (front ++ more)) (drop 4 (front ++ more)), length-drop 4 (front ++ more)) in
      let head : 4 ≤ length front = omega (arith, long) in
      let same = same_len head in
      record {
        fits = subst (λ (n : ℕ). nat_lt limit n ≡ false) same w.fits;
        whole = subst (λ (n : ℕ). 4 + n ≤ length front) same long;
      }

  -- with whatever bytes behind it, the front's frame offers the same piece
  pub front_offers : (limit : ℕ) (recent : List (List ℕ)) (go : List (List ℕ) → List ℕ → Offer) → IsWhole limit front
      → new_frame limit recent (front ++ more) go ≡ Offers (piece_in front) (length (left_in front ++ more)) (go (piece_in front ∷ recent) (left_in front ++ more))
  front_offers limit recent go w =
      let head : 4 ≤ length front = omega (arith, w.whole) in
      let whole : IsWhole limit (front ++ more) =
      record {
        fits = subst (λ (n : ℕ). nat_lt limit n ≡ false) (sym (same_len head)) w.fits;
        whole = subst (λ (n : ℕ). 4 + n ≤ length (front ++ more)) (sym (same_len head)) (omega (arith, w.whole, length-append front more));
      } in
      whole_offers limit recent (front ++ more) go whole
      ∙ (ap (λ piece. Offers piece (length (left_in (front ++ more))) (go (piece ∷ recent) (left_in (front ++ more)))) (same_piece w.whole)
      ∙ ap (λ left. Offers (piece_in front) (length left) (go (piece_in front ∷ recent) left)) (same_left w.whole))

  pub front_keeps : (n : ℕ) (recent : List (List ℕ)) (go : List (List ℕ) → List ℕ → Offer) (h : IsKept n recent front)
      → use_frame n recent (front ++ more) go ≡ Offers h.piece (length (drop 2 front ++ more)) (go recent (drop 2 front ++ more))
  front_keeps n recent go h =
      let kept : IsKept n recent (front ++ more) =
      record {
        whole = omega (arith, h.whole, length-append front more);
        piece = h.piece;
        there = ap (slice_get (take n recent)) (same_kept h.whole) ∙ h.there;
      } in
      kept_offers n recent (front ++ more) go kept ∙ ap (λ left. Offers h.piece (length left) (go recent left)) (drop-append-le 2 front more h.whole)
