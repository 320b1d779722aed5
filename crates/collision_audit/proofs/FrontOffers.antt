-- What bytes offer up to a place doesn't depend on the bytes behind the frame of that place.
use Rattle.std.proofs.Common.{◌≡◌, ℕ, zero, suc, ◌<◌, ◌≤◌, List, [], ◌∷◌, ◌++◌, length, take, drop, Some, slice_get, refl, sym, ap, ◌∙◌, arith, length-append, length-drop}
use Rattle.ideal_meaning.specs.Frames.{Offer, Offers, frames, offered_pieces}
use Rattle.collision_audit.specs.Splits.{left_behind}
use Rattle.collision_audit.proofs.WholeFrames.{IsKept, piece_in, left_in, len_in, offers_whole, whole_offers, offers_kept, kept_offers, same_kept, front_holds, front_offers, front_keeps}

-- behind the first piece and those after it no more bytes are left than behind the first
no_more : (piece : List ℕ) (left : ℕ) (later : Offer) (i l : ℕ) → ((j : ℕ) → left_behind later j ≡ Some l → l < left) → left_behind (Offers piece left later) i ≡ Some l → l ≤ left
no_more piece left later zero l h e = let same : left ≡ l = cc in omega (arith, same)
no_more piece left later (suc i) l h e = omega (arith, h i e)

-- behind a piece fewer bytes are left than there were
pub fewer : (limit most n : ℕ) (recent : List (List ℕ)) (bytes : List ℕ) (i l : ℕ) → left_behind (frames limit most n recent bytes) i ≡ Some l → l < length bytes
fewer limit zero n recent bytes i l e = absurd (cc (e))
fewer limit (suc most) n recent [] i l e = absurd (cc (e))
fewer limit (suc most) n recent (zero ∷ rest) i l e =
    let w = offers_whole limit recent rest (frames limit most n) i l e in
    let at = sym (ap (λ o. left_behind o i) (whole_offers limit recent rest (frames limit most n) w)) ∙ e in
    let below = no_more (piece_in rest) (length (left_in rest)) (frames limit most n (piece_in rest ∷ recent) (left_in rest)) i l (λ j q. fewer limit most n (piece_in rest ∷ recent) (left_in rest) j l q) at in
    omega (arith, below, length-drop (len_in rest) (drop 4 rest), length-drop 4 rest)
fewer limit (suc most) n recent (suc zero ∷ rest) i l e =
    let h = offers_kept n recent rest (frames limit most n) i l e in
    let at = sym (ap (λ o. left_behind o i) (kept_offers n recent rest (frames limit most n) h)) ∙ e in
    let below = no_more h.piece (length (drop 2 rest)) (frames limit most n recent (drop 2 rest)) i l (λ j q. fewer limit most n recent (drop 2 rest) j l q) at in
    omega (arith, below, length-drop 2 rest)
fewer limit (suc most) n recent (suc (suc b) ∷ rest) i l e = absurd (cc (e))

-- the same pieces up to place i
abbrev pub SameUpTo : ℕ → Offer → Offer → Type 0
SameUpTo i o o' = take (suc i) (offered_pieces o) ≡ take (suc i) (offered_pieces o')

same_behind : (piece : List ℕ) (left left' : ℕ) (later later' : Offer) (i l : ℕ) → ((j : ℕ) → left_behind later j ≡ Some l → SameUpTo j later later') → left_behind (Offers piece left later) i ≡ Some l
    → SameUpTo i (Offers piece left later) (Offers piece left' later')
same_behind piece left left' later later' zero l h e = refl
same_behind piece left left' later later' (suc i) l h e = ap (λ ps. piece ∷ ps) (h i e)

-- what is offered up to a place whose frame ends where the front ends
pub front_alike : (limit most most' n : ℕ) (recent : List (List ℕ)) (front more other : List ℕ) (i : ℕ) → length (front ++ other) ≤ most'
    → left_behind (frames limit most n recent (front ++ more)) i ≡ Some (length more)
    → SameUpTo i (frames limit most n recent (front ++ more)) (frames limit most' n recent (front ++ other))
front_alike limit zero most' n recent front more other i enough e = absurd (cc (e))
front_alike limit (suc most) most' n recent [] more other i enough e = absurd (omega (arith, fewer limit (suc most) n recent more i (length more) e))
front_alike limit (suc most) zero n recent (b ∷ front) more other i enough e = absurd (omega (arith, enough))
front_alike limit (suc most) (suc most') n recent (zero ∷ front) more other i enough e =
    let go = frames limit most n in
    let w = offers_whole limit recent (front ++ more) go i (length more) e in
    let at = sym (ap (λ o. left_behind o i) (whole_offers limit recent (front ++ more) go w)) ∙ e in
    let left = no_more (piece_in (front ++ more)) (length (left_in (front ++ more))) (go (piece_in (front ++ more) ∷ recent) (left_in (front ++ more))) i (length more)
    (λ j q. fewer limit most n (piece_in (front ++ more) ∷ recent) (left_in (front ++ more)) j (length more) q) at in
    let held = front_holds front more limit w left in
    let here = front_offers front more limit recent go held in
    let there = front_offers front other limit recent (frames limit most' n) held in
    let bound : length (left_in front ++ other) ≤ most' = omega (arith, enough, length-append (left_in front) other, length-append front other, length-drop (len_in front) (drop 4 front), length-drop 4 front) in
    let same = same_behind (piece_in front) (length (left_in front ++ more)) (length (left_in front ++ other)) (go (piece_in front ∷ recent) (left_in front ++ more)) (frames limit most' n (piece_in front ∷ recent) (left_in front ++ other)) i (length more)
    (λ j q. front_alike limit most most' n (piece_in front ∷ recent) (left_in front) more other j bound q)
    (sym (ap (λ o. left_behind o i) here) ∙ e) in
    ap (λ o. take (suc i) (offered_pieces o)) here ∙ (same ∙ sym (ap (λ o. take (suc i) (offered_pieces o)) there))
front_alike limit (suc most) (suc most') n recent (suc zero ∷ front) more other i enough e =
    let go = frames limit most n in
    let h = offers_kept n recent (front ++ more) go i (length more) e in
    let at = sym (ap (λ o. left_behind o i) (kept_offers n recent (front ++ more) go h)) ∙ e in
    let left = no_more h.piece (length (drop 2 (front ++ more))) (go recent (drop 2 (front ++ more))) i (length more) (λ j q. fewer limit most n recent (drop 2 (front ++ more)) j (length more) q) at in
    let whole : 2 ≤ length front = omega (arith, h.whole, left, length-append front more, length-drop 2 (front ++ more)) in
    let kept : IsKept n recent front = record { whole = whole; piece = h.piece; there = sym (ap (slice_get (take n recent)) (same_kept front more whole)) ∙ h.there } in
    let here = front_keeps front more n recent go kept in
    let there = front_keeps front other n recent (frames limit most' n) kept in
    let bound : length (drop 2 front ++ other) ≤ most' = omega (arith, enough, length-append (drop 2 front) other, length-append front other, length-drop 2 front) in
    let same = same_behind h.piece (length (drop 2 front ++ more)) (length (drop 2 front ++ other)) (go recent (drop 2 front ++ more)) (frames limit most' n recent (drop 2 front ++ other)) i (length more)
    (λ j q. front_alike limit most most' n recent (drop 2 front) more other j bound q)
    (sym (ap (λ o. left_behind o i) here) ∙ e) in
    ap (λ o. take (suc i) (offered_pieces o)) here ∙ (same ∙ sym (ap (λ o. take (suc i) (offered_pieces o)) there))
front_alike limit (suc most) (suc most') n recent (suc (suc b) ∷ front) more other i enough e = absurd (cc (e))
