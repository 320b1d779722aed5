-- The honest frames of one piece more.
use Rattle.std.proofs.Common.{◌≡◌, ℕ, suc, ◌+◌, List, [], ◌∷◌, ◌++◌, length, take, Option, Some, None, refl, sym, ap, ◌∙◌, subst, arith, append_assoc}
use Rattle.std.specs.Int.{w16, w32, to_be_bytes}
use Rattle.ideal_meaning.specs.Frames.{Frame, New, Use, place_of, frame_at, honest_frames, frame_bytes}
use Rattle.ideal_meaning.specs.Following.{after_frames}
use Rattle.reuse_buffer.specs.Kept.{Kept, kept}
use Rattle.ideal_meaning.specs.RunFrames.{again_in, fresh_in}
use Rattle.prover_mode.specs.Written.{HasWritten}
use Rattle.prover_mode.specs.declared.frames.FrameWriter.{FrameWriter}

-- frames behind frames
bytes_behind : (fs gs : List Frame) → frame_bytes (fs ++ gs) ≡ frame_bytes fs ++ frame_bytes gs
bytes_behind [] gs = refl
bytes_behind (New p ∷ fs) gs =
    let len = to_be_bytes w32 (length p) in
    ap (λ l. 0 ∷ (len ++ (p ++ l))) (bytes_behind fs gs)
    ∙ ap (λ l. 0 ∷ (len ++ l)) (sym (append_assoc p (frame_bytes fs) (frame_bytes gs)))
    ∙ ap (λ l. 0 ∷ l) (sym (append_assoc len (p ++ frame_bytes fs) (frame_bytes gs)))
bytes_behind (Use k ∷ fs) gs =
    ap (λ l. 1 ∷ (to_be_bytes w16 k ++ l)) (bytes_behind fs gs) ∙ ap (λ l. 1 ∷ l) (sym (append_assoc (to_be_bytes w16 k) (frame_bytes fs) (frame_bytes gs)))

none_more : (a : ℕ) → a ≡ 0 + a
none_more a = omega arith

one_more : (a b : ℕ) → suc (a + b) ≡ suc a + b
one_more a b = omega arith

fresh_behind : (fs gs : List Frame) → fresh_in (fs ++ gs) ≡ fresh_in fs + fresh_in gs
fresh_behind [] gs = none_more (fresh_in gs)
fresh_behind (New p ∷ fs) gs = ap suc (fresh_behind fs gs) ∙ one_more (fresh_in fs) (fresh_in gs)
fresh_behind (Use k ∷ fs) gs = fresh_behind fs gs

again_behind : (fs gs : List Frame) → again_in (fs ++ gs) ≡ again_in fs + again_in gs
again_behind [] gs = none_more (again_in gs)
again_behind (New p ∷ fs) gs = again_behind fs gs
again_behind (Use k ∷ fs) gs = ap suc (again_behind fs gs) ∙ one_more (again_in fs) (again_in gs)

after_behind : (fs gs : List Frame) (recent : List (List ℕ)) → after_frames (fs ++ gs) recent ≡ after_frames gs (after_frames fs recent)
after_behind [] gs recent = refl
after_behind (New p ∷ fs) gs recent = after_behind fs gs (p ∷ recent)
after_behind (Use k ∷ fs) gs recent = after_behind fs gs recent

-- the frame of a piece, where so many pieces came before, the last one first
abbrev last_frame : ℕ → List ℕ → List (List ℕ) → List Frame
last_frame n p recent = frame_at (place_of p (take n recent)) p recent (λ later. [])

-- the frame of one piece more stands behind those of the others
module _ (n : ℕ) (p : List ℕ) where
  abbrev IsLast : List (List ℕ) → (recent : List (List ℕ)) → Type 0
  IsLast pieces recent = honest_frames n recent (pieces ++ p ∷ []) ≡ honest_frames n recent pieces ++ last_frame n p (after_frames (honest_frames n recent pieces) recent)

  behind_one : (o : Option ℕ) (q : List ℕ) (qs recent : List (List ℕ)) → ((recent : List (List ℕ)) → IsLast qs recent)
      → let frames = frame_at o q recent (λ recent. honest_frames n recent qs) in
      frame_at o q recent (λ recent. honest_frames n recent (qs ++ p ∷ [])) ≡ frames ++ last_frame n p (after_frames frames recent)
  behind_one (Some k) q qs recent h = ap (λ fs. Use k ∷ fs) (h recent)
  behind_one None q qs recent h = ap (λ fs. New q ∷ fs) (h (q ∷ recent))

  frame_behind : (pieces recent : List (List ℕ)) → IsLast pieces recent
  frame_behind [] recent = refl
  frame_behind (q ∷ qs) recent = behind_one (place_of q (take n recent)) q qs recent (λ recent. frame_behind qs recent)

module _ (n : ℕ) (recent pieces : List (List ℕ)) (p : List ℕ) (old new : FrameWriter) (h : HasWritten n recent pieces old) where
  abbrev fs : List Frame
  fs = honest_frames n recent pieces

  abbrev after : List (List ℕ)
  after = after_frames fs recent

  -- what the frames of one piece more are, by the place where it is kept
  frames_more : (o : Option ℕ) → place_of p old.ring.pieces ≡ o → honest_frames n recent (pieces ++ p ∷ []) ≡ fs ++ frame_at o p after (λ later. [])
  frames_more o found =
      let there : place_of p (take n after) ≡ o = sym (ap (λ (r : Kept). place_of p r.pieces) h.ring) ∙ found in
      frame_behind n p pieces recent ∙ ap (λ o. fs ++ frame_at o p after (λ later. [])) there

  -- a writer that put one frame more, and came to this ring
  writes_more : (f : Frame) → honest_frames n recent (pieces ++ p ∷ []) ≡ fs ++ f ∷ [] → new.bytes.items ≡ old.bytes.items ++ frame_bytes (f ∷ [])
      → new.fresh ≡ old.fresh + fresh_in (f ∷ []) → new.again ≡ old.again + again_in (f ∷ []) → new.ring ≡ kept n (after_frames (f ∷ []) after)
      → HasWritten n recent (pieces ++ p ∷ []) new
  writes_more f is bytes fresh again ring = record {
    bytes = bytes ∙ ap (λ b. b ++ frame_bytes (f ∷ [])) h.bytes ∙ sym (ap frame_bytes is ∙ bytes_behind fs (f ∷ []));
    fresh = fresh ∙ ap (λ a. a + fresh_in (f ∷ [])) h.fresh ∙ sym (ap fresh_in is ∙ fresh_behind fs (f ∷ []));
    again = again ∙ ap (λ a. a + again_in (f ∷ [])) h.again ∙ sym (ap again_in is ∙ again_behind fs (f ∷ []));
    ring = ring ∙ sym (ap (λ fs. kept n (after_frames fs recent)) is ∙ ap (kept n) (after_behind fs (f ∷ []) recent));
  }

  -- a kept piece is named
  pub writes_use : (k : ℕ) → place_of p old.ring.pieces ≡ Some k → new.bytes.items ≡ old.bytes.items ++ frame_bytes (Use k ∷ [])
      → new.fresh ≡ old.fresh + 0 → new.again ≡ old.again + 1 → new.ring ≡ old.ring → HasWritten n recent (pieces ++ p ∷ []) new
  writes_use k found bytes fresh again ring = writes_more (Use k) (frames_more (Some k) found) bytes fresh again (ring ∙ h.ring)

  -- a new one is written whole, and is the last of the ring
  pub writes_new : place_of p old.ring.pieces ≡ None → new.bytes.items ≡ old.bytes.items ++ frame_bytes (New p ∷ [])
      → new.fresh ≡ old.fresh + 1 → new.again ≡ old.again + 0
      → ((recent : List (List ℕ)) → old.ring ≡ kept old.ring.size recent → new.ring ≡ kept old.ring.size (p ∷ recent)) → HasWritten n recent (pieces ++ p ∷ []) new
  writes_new none bytes fresh again pushed =
      let size : old.ring.size ≡ n = ap (λ (r : Kept). r.size) h.ring in
      let holds : old.ring ≡ kept old.ring.size after = subst (λ m. old.ring ≡ kept m after) (sym size) h.ring in
      writes_more (New p) (frames_more None none) bytes fresh again (subst (λ m. new.ring ≡ kept m (p ∷ after)) size (pushed after holds))
