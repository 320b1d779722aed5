-- What bytes offer, by their next frame.
use Rattle.std.proofs.Common.{◌≡◌, ◌≢◌, ℕ, zero, suc, ◌+◌, ◌<◌, ◌≤◌, List, [], ◌∷◌, length, take, drop, Option, Some, None, slice_get, refl, ap, arith, length-drop, le-ltb, lt-ltb}
use Rattle.std.specs.Int.{w16, from_be_bytes}
use Rattle.ideal_meaning.specs.Frames.{NoByte, IsCut, KindIs, LongBy, Offer, Offers, frames, offered, used_piece}
use Rattle.ideal_meaning.specs.Following.{after_bytes, after_used, after_within}
use Rattle.ideal_meaning.proofs.FramesBound.{frame_bound_is_enough}
use Rattle.ideal_meaning.proofs.NewPieces.{new_piece_bound_is_enough}
use Rattle.proof_stream.specs.Incoming.{length_field}
use Rattle.proof_stream.specs.TakenFrames.{OffersBack, OffersNew, OffersNothing}

abbrev pub piece_in : List ℕ → List ℕ
piece_in rest = take (length_field rest) (drop 4 rest)

abbrev pub behind : List ℕ → List ℕ
behind rest = drop (length_field rest) (drop 4 rest)

module _ (limit : ℕ) (rest : List ℕ) where
  -- a frame with a new piece, from behind its first byte
  pub new_offered : 4 ≤ length rest → length_field rest ≤ limit → length_field rest ≤ length (drop 4 rest) → OffersNew limit (0 ∷ rest) (piece_in rest) (behind rest)
  new_offered four fits there n recent =
      let len = length_field rest in
      let recent' = piece_in rest ∷ recent in
      let long : 4 + len ≤ length rest = omega (arith, length-drop 4 rest, there, four) in
      let fewer : length (behind rest) ≤ length rest = omega (arith, length-drop len (drop 4 rest), length-drop 4 rest) in
      let head = le-ltb (length rest) 4 four in
      let short = le-ltb limit len fits in
      let whole = le-ltb (length rest) (4 + len) long in (
        rw (head, short, whole) (ap (Offers (piece_in rest) (length (behind rest))) (frame_bound_is_enough limit (length rest) n recent' (behind rest) fewer)),
        rw (head, short, whole) (new_piece_bound_is_enough limit (length rest) n recent' (behind rest) fewer),
      )

  pub new_headless : length rest < 4 → OffersNothing limit (0 ∷ rest) IsCut
  new_headless few n recent = let head = lt-ltb (length rest) 4 few in (rw head refl, rw head refl)

  pub new_long : 4 ≤ length rest → limit < length_field rest → OffersNothing limit (0 ∷ rest) (LongBy (length_field rest))
  new_long four long n recent =
      let head = le-ltb (length rest) 4 four in
      let over = lt-ltb limit (length_field rest) long in
      (rw (head, over) refl, rw (head, over) refl)

  pub new_cut : 4 ≤ length rest → length_field rest ≤ limit → length (drop 4 rest) < length_field rest → OffersNothing limit (0 ∷ rest) IsCut
  new_cut four fits few n recent =
      let head = le-ltb (length rest) 4 four in
      let short = le-ltb limit (length_field rest) fits in
      let part = lt-ltb (length rest) (4 + length_field rest) (omega (arith, few, length-drop 4 rest, four)) in
      (rw (head, short, part) refl, rw (head, short, part) refl)

  -- a frame that names a kept piece, from behind its first byte
  used_alike : (o : Option (List ℕ)) (k held : ℕ) (left : List ℕ) (f g : List ℕ → Offer) → f left ≡ g left → used_piece o k held left f ≡ used_piece o k held left g
  used_alike None k held left f g h = refl
  used_alike (Some bytes) k held left f g h = ap (λ more. Offers bytes (length left) more) h

  after_alike : (o : Option (List ℕ)) (recent : List (List ℕ)) (left : List ℕ) (f g : List (List ℕ) → List ℕ → List (List ℕ)) → f recent left ≡ g recent left
      → after_used o recent left f ≡ after_used o recent left g
  after_alike None recent left f g h = refl
  after_alike (Some bytes) recent left f g h = h

  pub back_offered : 2 ≤ length rest → OffersBack limit (1 ∷ rest) (from_be_bytes w16 (take 2 rest)) (drop 2 rest)
  back_offered two n recent =
      let k = from_be_bytes w16 (take 2 rest) in
      let whole = le-ltb (length rest) 2 two in
      let fewer : length (drop 2 rest) ≤ length rest = omega (arith, length-drop 2 rest) in
      let o = slice_get (take n recent) k in (
        rw whole (used_alike o k (length (take n recent)) (drop 2 rest) (frames limit (length rest) n recent) (λ rest. offered limit rest n recent)
            (frame_bound_is_enough limit (length rest) n recent (drop 2 rest) fewer)),
        rw whole (after_alike o recent (drop 2 rest) (after_within limit (length rest) n) (λ recent rest. after_bytes limit rest n recent)
            (new_piece_bound_is_enough limit (length rest) n recent (drop 2 rest) fewer)),
      )

  pub back_cut : length rest < 2 → OffersNothing limit (1 ∷ rest) IsCut
  back_cut few n recent = let part = lt-ltb (length rest) 2 few in (rw part refl, rw part refl)

pub no_byte : (limit : ℕ) → OffersNothing limit [] NoByte
no_byte limit n recent = (refl, refl)

pub other_kind : (limit kind : ℕ) (rest : List ℕ) → kind ≢ 0 → kind ≢ 1 → OffersNothing limit (kind ∷ rest) (KindIs kind)
other_kind limit zero rest h i = absurd (h refl)
other_kind limit (suc zero) rest h i = absurd (i refl)
other_kind limit (suc (suc kind)) rest h i = λ n recent. (refl, refl)
