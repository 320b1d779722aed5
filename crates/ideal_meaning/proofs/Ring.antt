-- The ring of kept pieces: the k-th of the last new ones, newest first, is the k-th last of them.
use Rattle.std.proofs.Common.{◌≡◌, ℕ, zero, suc, ◌<◌, ◌≤◌, ◌^◌, min, Bool, true, false, List, [], ◌∷◌, ◌++◌, length, reverse, take, Option, Some, None, option_map, slice_get, nat_lt, bytes_eq, if◌then◌else◌, refl, sym, ap, ◌∙◌, subst, arith, true≢false, append_assoc, append-nil, length-append, length-take, le-ltb, le_refl}
use Rattle.std.specs.Int.{w16, w32, to_be_bytes}
use Rattle.std.proofs.lemmas.List.{reverse-append, length-reverse, reverse-reverse}
use Rattle.std.proofs.lemmas.Nat.{from_be_bytes-to_be_bytes_2}
use Rattle.std.proofs.lemmas.Option.{slice_get_past, slice_get_within}
use Rattle.std.proofs.lemmas.Slice.Eq.{bytes_eq-Decides}
use Rattle.ideal_meaning.specs.Frames.{Offer, NoMore, IsCut, UseIs, use_frame, used_piece, frames, Frame, New, Use, place_of, frame_at, honest_frames, frame_bytes}
use Rattle.ideal_meaning.specs.Ring.{IsKthLast, CanBeWritten, OffersFrames, RingOfVerifier, IsFrameOf, AreFramesOf, RingOfProver}
use Rattle.ideal_meaning.proofs.FramesBack.{new_back, place_found}

-- a list at a place that is there: what stands before, the element, and as many behind it as the place of the reversed list says
split_at : (xs : List (List ℕ)) (k : ℕ) (p : List ℕ) → slice_get xs k ≡ Some p
    → (before : List (List ℕ)) × (after : List (List ℕ)) × (xs ≡ before ++ p ∷ after) × (length before ≡ k)
split_at [] k p e = absurd (cc (e))
split_at (x ∷ xs) zero p e = let same : x ≡ p = cc in ([], xs, ap (λ q. q ∷ xs) same, refl)
split_at (x ∷ xs) (suc k) p e =
    let later = split_at xs k p e in
    (x ∷ later.0, later.1, ap (λ l. x ∷ l) later.2, ap suc later.3)

get_at : (before after : List (List ℕ)) (p : List ℕ) → slice_get (before ++ p ∷ after) (length before) ≡ Some p
get_at [] after p = refl
get_at (x ∷ before) after p = get_at before after p

reversed : (xs ys : List (List ℕ)) (p : List ℕ) → reverse (xs ++ p ∷ ys) ≡ reverse ys ++ p ∷ reverse xs
reversed xs ys p =
    reverse-append xs (p ∷ ys) ∙ (ap (λ l. l ++ reverse xs) (reverse-append (p ∷ []) ys) ∙ append_assoc (reverse ys) (p ∷ []) (reverse xs))

-- newest first, and in their order
kth_last : (so_far : List (List ℕ)) (k : ℕ) (p : List ℕ) → slice_get (reverse so_far) k ≡ Some p → IsKthLast k so_far p
kth_last so_far k p e =
    let at = split_at (reverse so_far) k p e in (
      reverse at.1,
      reverse at.0,
      sym (reverse-reverse so_far) ∙ (ap reverse at.2 ∙ reversed at.0 at.1 p),
      length-reverse at.0 ∙ at.3,
    )

at_kth_last : (so_far : List (List ℕ)) (k : ℕ) (p : List ℕ) → IsKthLast k so_far p → slice_get (reverse so_far) k ≡ Some p
at_kth_last so_far k p (earlier, later, is, count) =
    let same : length (reverse later) ≡ k = length-reverse later ∙ count in
    subst (λ (k : ℕ). slice_get (reverse so_far) k ≡ Some p) same
    (ap (λ l. slice_get l (length (reverse later))) (ap reverse is ∙ reversed earlier later p) ∙ get_at (reverse later) (reverse earlier) p)

-- one more new piece stands first
one_more : (so_far : List (List ℕ)) (p : List ℕ) → reverse (so_far ++ p ∷ []) ≡ p ∷ reverse so_far
one_more so_far p = reverse-append so_far (p ∷ [])

-- what is kept
kept : (n : ℕ) (xs : List (List ℕ)) (k : ℕ) → k < n → slice_get (take n xs) k ≡ slice_get xs k
kept zero xs k h = absurd (omega arith)
kept (suc n) [] k h = refl
kept (suc n) (x ∷ xs) zero h = refl
kept (suc n) (x ∷ xs) (suc k) h = kept n xs k (omega arith)

there : (xs : List (List ℕ)) (k : ℕ) → k < length xs → (p : List ℕ) × (slice_get xs k ≡ Some p)
there [] k h = absurd (omega arith)
there (x ∷ xs) zero h = (x, refl)
there (x ∷ xs) (suc k) h = there xs k (omega arith)

held_is : (n : ℕ) (so_far : List (List ℕ)) → length (take n (reverse so_far)) ≡ min n (length so_far)
held_is n so_far = length-take n (reverse so_far) ∙ ap (min n) (length-reverse so_far)

-- A USE frame that is whole, as the code of its number is read.
use_read : (n k : ℕ) (rest : List ℕ) (recent : List (List ℕ)) (more : List (List ℕ) → List ℕ → Offer) → k < 2 ^ 16
    → use_frame n recent (to_be_bytes w16 k ++ rest) more ≡ used_piece (slice_get (take n recent) k) k (length (take n recent)) rest (more recent)
use_read n k rest recent more small =
    let F : ℕ → Type 0 = λ j. body j ≡ used_piece (slice_get (take n recent) k) k (length (take n recent)) rest (more recent) in
    subst F (sym (from_be_bytes-to_be_bytes_2 k small)) (rw (whole) refl)
  where
    body : ℕ → Offer
    body j =
        if nat_lt (length (to_be_bytes w16 k ++ rest)) 2 then NoMore IsCut
        else used_piece (slice_get (take n recent) j) j (length (take n recent)) rest (more recent)

    whole : nat_lt (length (to_be_bytes w16 k ++ rest)) 2 ≡ false
    whole = le-ltb _ _ (omega arith)

-- The frames are offered, read with a bound that isn't below the number of bytes.
module _ (limit : ℕ) (fits : limit < 2 ^ 32) (n : ℕ) (behind : List ℕ) where
  abbrev AreOffered : ℕ → List (List ℕ) → List Frame → Type 0
  AreOffered most so_far fs = OffersFrames n so_far fs (frames limit most n (reverse so_far) (frame_bytes fs ++ behind))

  new_offered : (most : ℕ) (so_far : List (List ℕ)) (p : List ℕ) (fs : List Frame) → length p ≤ limit
      → ((most : ℕ) → length (frame_bytes fs ++ behind) ≤ most → AreOffered most (so_far ++ p ∷ []) fs)
      → length (frame_bytes (New p ∷ fs) ++ behind) ≤ most → AreOffered most so_far (New p ∷ fs)
  new_offered zero so_far p fs short later h = absurd (omega arith)
  new_offered (suc most) so_far p fs short later h =
      let rest = frame_bytes fs ++ behind in
      let bytes : (to_be_bytes w32 (length p) ++ (p ++ frame_bytes fs)) ++ behind ≡ to_be_bytes w32 (length p) ++ (p ++ rest) =
      append_assoc (to_be_bytes w32 (length p)) (p ++ frame_bytes fs) behind ∙ ap (λ l. to_be_bytes w32 (length p) ++ l) (append_assoc p (frame_bytes fs) behind) in
      let enough : length rest ≤ most = omega (arith, h, length-append p (frame_bytes fs), length-append (p ++ frame_bytes fs) behind, length-append (frame_bytes fs) behind) in (
        length rest,
        frames limit most n (p ∷ reverse so_far) rest,
        ap (λ l. frames limit (suc most) n (reverse so_far) (0 ∷ l)) bytes ∙ new_back limit p rest (reverse so_far) (frames limit most n) fits short,
        subst (λ (recent : List (List ℕ)). OffersFrames n (so_far ++ p ∷ []) fs (frames limit most n recent rest)) (one_more so_far p) (later most enough),
      )

  use_offered : (most : ℕ) (so_far : List (List ℕ)) (k : ℕ) (fs : List Frame) → k < 2 ^ 16
      → ((most : ℕ) → length (frame_bytes fs ++ behind) ≤ most → AreOffered most so_far fs)
      → length (frame_bytes (Use k ∷ fs) ++ behind) ≤ most → AreOffered most so_far (Use k ∷ fs)
  use_offered zero so_far k fs small later h = absurd (omega arith)
  use_offered (suc most) so_far k fs small later h =
      let rest = frame_bytes fs ++ behind in
      let recent = reverse so_far in
      let more = frames limit most n recent in
      let read : frames limit (suc most) n recent (frame_bytes (Use k ∷ fs) ++ behind) ≡ used_piece (slice_get (take n recent) k) k (length (take n recent)) rest more =
      ap (λ l. frames limit (suc most) n recent (1 ∷ l)) (append_assoc (to_be_bytes w16 k) (frame_bytes fs) behind) ∙ use_read n k rest recent (frames limit most n) small in
      let enough : length rest ≤ most = omega (arith, h, length-append (to_be_bytes w16 k ++ frame_bytes fs) behind, length-append (frame_bytes fs) behind) in (
        λ below.
            let inside : k < length recent = omega (arith, below, length-reverse so_far) in
            let at = there recent k inside in
            let found = kept n recent k (omega (arith, below)) ∙ at.1 in
            (at.0, length rest, more rest, kth_last so_far k at.0 at.1, read ∙ ap (λ o. used_piece o k (length (take n recent)) rest more) found, later most enough),
        λ beyond.
            let out : length (take n recent) ≤ k = subst (λ (m : ℕ). m ≤ k) (sym (held_is n so_far)) beyond in
            read ∙ (ap (λ o. used_piece o k (length (take n recent)) rest more) (slice_get_past (take n recent) k out) ∙ ap (λ m. NoMore (UseIs k m)) (held_is n so_far)),
      )

  frames_offered : (most : ℕ) (so_far : List (List ℕ)) (fs : List Frame) → CanBeWritten limit fs → length (frame_bytes fs ++ behind) ≤ most → AreOffered most so_far fs
  frames_offered most so_far [] can h = tt
  frames_offered most so_far (New p ∷ fs) can h = new_offered most so_far p fs can.0 (λ most h. frames_offered most (so_far ++ p ∷ []) fs can.1 h) h
  frames_offered most so_far (Use k ∷ fs) can h = use_offered most so_far k fs can.0 (λ most h. frames_offered most so_far fs can.1 h) h

pub ring_of_verifier : RingOfVerifier
ring_of_verifier limit fits n before fs behind can =
    frames_offered limit fits n behind (length (frame_bytes fs ++ behind)) before fs can (le_refl (length (frame_bytes fs ++ behind)))

-- The place that is found is the least one.
found_least : (p q : List ℕ) (qs : List (List ℕ)) (b : Bool) (o : Option ℕ) (k : ℕ) → bytes_eq q p ≡ b → (if b then Some 0 else option_map suc o) ≡ Some k
    → ((m : ℕ) → o ≡ Some m → (j : ℕ) → j < m → slice_get qs j ≡ Some p → ⊥) → (j : ℕ) → j < k → slice_get (q ∷ qs) j ≡ Some p → ⊥
found_least p q qs true o k t e later j h at = let none : 0 ≡ k = cc in absurd (omega (arith, none, h))
found_least p q qs false None k t e later j h at = cc
found_least p q qs false (Some m) k t e later zero h at =
    let same : q ≡ p = cc in true≢false (sym ((bytes_eq-Decides q p).1 same) ∙ t)
found_least p q qs false (Some m) k t e later (suc j) h at =
    let next : suc m ≡ k = cc in later m refl j (omega (arith, next, h)) at

least : (p : List ℕ) (qs : List (List ℕ)) (k : ℕ) → place_of p qs ≡ Some k → (j : ℕ) → j < k → slice_get qs j ≡ Some p → ⊥
least p [] k e j h at = cc
least p (q ∷ qs) k e j h at = found_least p q qs (bytes_eq q p) (place_of p qs) k refl e (λ m o j h at. least p qs m o j h at) j h at

not_found : (p q : List ℕ) (qs : List (List ℕ)) (b : Bool) (o : Option ℕ) → bytes_eq q p ≡ b → (if b then Some 0 else option_map suc o) ≡ None
    → (o ≡ None → (j : ℕ) → slice_get qs j ≡ Some p → ⊥) → (j : ℕ) → slice_get (q ∷ qs) j ≡ Some p → ⊥
not_found p q qs true o t e later j at = cc
not_found p q qs false (Some m) t e later j at = cc
not_found p q qs false None t e later zero at = let same : q ≡ p = cc in true≢false (sym ((bytes_eq-Decides q p).1 same) ∙ t)
not_found p q qs false None t e later (suc j) at = later refl j at

nowhere : (p : List ℕ) (qs : List (List ℕ)) → place_of p qs ≡ None → (j : ℕ) → slice_get qs j ≡ Some p → ⊥
nowhere p [] e j at = cc
nowhere p (q ∷ qs) e j at = not_found p q qs (bytes_eq q p) (place_of p qs) refl e (nowhere p qs) j at

module _ (n : ℕ) (so_far : List (List ℕ)) (p : List ℕ) where
  at_kept : (j : ℕ) → j < n → IsKthLast j so_far p → slice_get (take n (reverse so_far)) j ≡ Some p
  at_kept j h is = kept n (reverse so_far) j h ∙ at_kth_last so_far j p is

  use_is_least : (k : ℕ) → place_of p (take n (reverse so_far)) ≡ Some k → IsFrameOf n so_far p (Use k)
  use_is_least k e =
      let at = place_found p (take n (reverse so_far)) k e in
      let within : k < n = omega (arith, slice_get_within (take n (reverse so_far)) k p at, length-take n (reverse so_far)) in
      (within, kth_last so_far k p (sym (kept n (reverse so_far) k within) ∙ at), λ j h is. least p (take n (reverse so_far)) k e j h (at_kept j (omega (arith, h, within)) is))

  new_is_new : place_of p (take n (reverse so_far)) ≡ None → IsFrameOf n so_far p (New p)
  new_is_new e = (refl, λ j h is. nowhere p (take n (reverse so_far)) e j (at_kept j h is))

honest_ring : (n : ℕ) (so_far pieces : List (List ℕ)) → AreFramesOf n so_far pieces (honest_frames n (reverse so_far) pieces)
honest_ring n so_far [] = tt
honest_ring n so_far (p ∷ pieces) =
    by (place_of p (take n (reverse so_far))) refl (honest_ring n so_far pieces) (honest_ring n (so_far ++ p ∷ []) pieces)
  where
    by : (o : Option ℕ) → place_of p (take n (reverse so_far)) ≡ o → AreFramesOf n so_far pieces (honest_frames n (reverse so_far) pieces)
        → AreFramesOf n (so_far ++ p ∷ []) pieces (honest_frames n (reverse (so_far ++ p ∷ [])) pieces)
        → AreFramesOf n so_far (p ∷ pieces) (frame_at o p (reverse so_far) (λ recent. honest_frames n recent pieces))
    by (Some k) e again new = (use_is_least n so_far p k e, subst (λ (kept : List (List ℕ)). AreFramesOf n kept pieces (honest_frames n (reverse so_far) pieces)) (sym (append-nil so_far)) again)
    by None e again new = (new_is_new n so_far p e, subst (λ (recent : List (List ℕ)). AreFramesOf n (so_far ++ p ∷ []) pieces (honest_frames n recent pieces)) (one_more so_far p) new)

pub ring_of_prover : RingOfProver
ring_of_prover n before pieces = honest_ring n before pieces
