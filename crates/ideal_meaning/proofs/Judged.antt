-- What is judged of a run that stands in the relation: what is accepted is true, or there is a split.
use Rattle.std.proofs.Common.{◌≡◌, ◌≢◌, ◌⊎◌, inl, inr, ℕ, zero, suc, List, [], ◌∷◌, ◌++◌, length, map, refl, sym, ap, ◌∙◌, subst, arith, append-nil}
use Rattle.core_terms.specs.Types.{Ty}
use Rattle.core_terms.specs.Formats.{Hash}
use Rattle.core_terms.specs.Values.{Value}
use Rattle.core_terms.specs.Terms.{Program}
use Rattle.core_terms.specs.Projection.{projection}
use Rattle.ideal_meaning.specs.Run.{Traps, IsOut, Rejects, Run, Gives, Ends, state_of}
use Rattle.ideal_meaning.specs.Ideal.{Opened, Outcome, Done, Trapped, Out, outcome, outcome_projection, bytes_of}
use Rattle.ideal_meaning.specs.Frames.{Offer, NoMore, Offers, offered_pieces}
use Rattle.ideal_meaning.specs.Checked.{Taking, Cause, Accepted, with_rest, judged}
use Rattle.ideal_meaning.specs.SplitPieces.{IsSplitAt}
use Rattle.ideal_meaning.specs.PieceForms.{PieceForm}
use Rattle.ideal_meaning.specs.Agreement.{OffersOtherAs, IsRefusedAs}
use Rattle.ideal_meaning.specs.HonestPieces.{honest_as, honest_all_as, honest_piece_as}
use Rattle.ideal_meaning.proofs.FramesBack.{Coherent}
use Rattle.ideal_meaning.proofs.InHand.{IsHeld}
use Rattle.ideal_meaning.proofs.Relation.{InStep, Parted, Same, Agree}

-- the bytes of the honest pieces
pub bytes_are : (hash : Hash) (P : Program) (form : PieceForm) (seen : List Opened) → bytes_of (map (honest_piece_as hash P form) seen) ≡ honest_all_as hash P form seen
bytes_are hash P form [] = refl
bytes_are hash P form (x ∷ seen) = ap (λ l. honest_as hash P form x ∷ l) (bytes_are hash P form seen)

-- what is known of an outcome's value
abbrev pub OnDone : (Value → Type 0) → Outcome → Type 0
OnDone Q (Done v) = Q v
OnDone Q (Trapped trap) = Unit {0}
OnDone Q Out = Unit {0}

-- another piece with the digest, behind honest ones, is a split
pub split_after : (hash : Hash) (P : Program) (form : PieceForm) (before after : List Opened) (x : Opened) (found : List ℕ) (later : List (List ℕ)) → found ≢ honest_as hash P form x
    → form.digest x.ty found ≡ form.digest x.ty (honest_as hash P form x)
    → IsSplitAt form.digest (honest_all_as hash P form before ++ found ∷ later) (map (honest_piece_as hash P form) (before ++ x ∷ after)) (length before)
split_after hash P form [] after x found later differs same = (differs, same)
split_after hash P form (y ∷ before) after x found later differs same = (refl, split_after hash P form before after x found later differs same)

-- an outcome is accepted where no byte is left
accepted_rest : (o o' : Outcome) (n : ℕ) → with_rest o n ≡ Accepted o' → (n ≡ 0) × (o' ≡ o)
accepted_rest o o' zero e = (refl, cc)
accepted_rest o o' (suc n) e = absurd (cc)

-- and then no piece is left
none_left : (n : ℕ) (o : Offer) → n ≡ 0 → Coherent n o → offered_pieces o ≡ []
none_left n (NoMore e) z c = refl
none_left n (Offers p left more) z c = absurd (omega (arith, c.0))

module _ (hash : Hash) (P : Program) (form : PieceForm) (Deep : Type 0) (began : Taking) (t : Ty) where
  -- the two runs do the same to the end, at a result of type t
  abbrev pub IsSame : Run ⊥ (List Opened) Value → Run Cause Taking Value → Type 0
  IsSame ideal checked = Same hash P form Deep began (IsHeld P Deep t) (projection hash P t) ideal checked

  pub same_judged : (ideal : Run ⊥ (List Opened) Value) (checked : Run Cause Taking Value) → IsSame ideal checked
      → judged checked ≡ with_rest (outcome_projection hash P t (outcome ideal)) ((state_of checked).left)
  same_judged (Gives v k s) checked h = ap judged h.1.1 ∙ ap (λ (r : Run Cause Taking Value). with_rest (Done (projection hash P t v)) ((state_of r).left)) (sym h.1.1)
  same_judged (Ends (Traps trap) k s) checked h = ap judged h.1 ∙ ap (λ (r : Run Cause Taking Value). with_rest (Trapped trap) ((state_of r).left)) (sym h.1)
  same_judged (Ends IsOut k s) checked h = ap judged h.1 ∙ ap (λ (r : Run Cause Taking Value). with_rest Out ((state_of r).left)) (sym h.1)
  same_judged (Ends (Rejects c) k s) checked h = elim c [ ]

  pub same_state : (ideal : Run ⊥ (List Opened) Value) (checked : Run Cause Taking Value) → IsSame ideal checked → InStep hash P form Deep began (state_of ideal) (state_of checked)
  same_state (Gives v k s) checked h = subst (λ r. InStep hash P form Deep began s (state_of r)) (sym h.1.1) h.1.2
  same_state (Ends stop k s) checked h = subst (λ r. InStep hash P form Deep began s (state_of r)) (sym h.1) h.2

  -- the value of the ideal outcome is in hand
  pub same_held : (ideal : Run ⊥ (List Opened) Value) (checked : Run Cause Taking Value) → IsSame ideal checked → OnDone (IsHeld P Deep t) (outcome ideal)
  same_held (Gives v k s) checked h = h.0
  same_held (Ends (Traps trap) k s) checked h = tt
  same_held (Ends IsOut k s) checked h = tt
  same_held (Ends (Rejects c) k s) checked h = elim c [ ]

  -- at a parting where another piece with the digest was offered: the split
  pub parted_split : (ideal : Run ⊥ (List Opened) Value) (checked : Run Cause Taking Value) (p : Parted hash P form Deep began ideal checked) → OffersOtherAs hash P form p.parts.x p.parts.at
      → IsSplitAt form.digest (offered_pieces began.more) (map (honest_piece_as hash P form) (state_of ideal)) (length p.parts.before)
  parted_split ideal checked p d =
      let e = p.parts.honest.pieces ∙ ap (λ l. honest_all_as hash P form p.parts.before ++ l) d.next in
      let Offered : List (List ℕ) → Type 0 = λ l. IsSplitAt form.digest l (map (honest_piece_as hash P form) (state_of ideal)) (length p.parts.before) in
      let Seen : List Opened → Type 0 = λ seen. IsSplitAt form.digest (honest_all_as hash P form p.parts.before ++ (d.found ∷ d.later)) (map (honest_piece_as hash P form) seen) (length p.parts.before) in
      subst Offered (sym e) (subst Seen (sym p.parts.seen) (split_after hash P form p.parts.before p.parts.after p.parts.x d.found d.later d.differs d.one_digest))

  -- the honest pieces were taken, and the outcome is the ideal one in projection; or there is a split
  abbrev IsTrue : Run ⊥ (List Opened) Value → Outcome → Type 0
  IsTrue ideal o = (offered_pieces began.more ≡ bytes_of (map (honest_piece_as hash P form) (state_of ideal))) × (o ≡ outcome_projection hash P t (outcome ideal))

  abbrev IsSplit : Run ⊥ (List Opened) Value → Type 0
  IsSplit ideal = (i : ℕ) × IsSplitAt form.digest (offered_pieces began.more) (map (honest_piece_as hash P form) (state_of ideal)) i

  -- an accepted run did as the ideal one did to its end and is true, or there is a split
  pub judged_same : (ideal : Run ⊥ (List Opened) Value) (checked : Run Cause Taking Value) (o : Outcome) → Coherent began.left began.more
      → Agree hash P form Deep began (IsHeld P Deep t) (projection hash P t) ideal checked → judged checked ≡ Accepted o → (IsSame ideal checked × IsTrue ideal o) ⊎ IsSplit ideal
  judged_same ideal checked o coherent (inl h) e =
      let y = same_state ideal checked h in
      let r = accepted_rest _ o _ (sym (same_judged ideal checked h) ∙ e) in
      let none = none_left ((state_of checked).left) ((state_of checked).more) r.0 (y.coherent coherent) in
      let pieces = y.honest.pieces ∙ ap (λ l. honest_all_as hash P form (state_of ideal) ++ l) none ∙ append-nil (honest_all_as hash P form (state_of ideal)) ∙ sym (bytes_are hash P form (state_of ideal)) in
      inl (h, (pieces, r.1))
  judged_same ideal checked o coherent (inr p) e = by p.parts.why
    where
      by : OffersOtherAs hash P form p.parts.x p.parts.at ⊎ IsRefusedAs hash P form p.parts.x p.parts.at checked → (IsSame ideal checked × IsTrue ideal o) ⊎ IsSplit ideal
      by (inl d) = inr (_, parted_split ideal checked p d)
      by (inr r) = let j = ap judged r.is in absurd (cc)

  pub judged_well : (ideal : Run ⊥ (List Opened) Value) (checked : Run Cause Taking Value) (o : Outcome) → Coherent began.left began.more
      → Agree hash P form Deep began (IsHeld P Deep t) (projection hash P t) ideal checked → judged checked ≡ Accepted o → IsTrue ideal o ⊎ IsSplit ideal
  judged_well ideal checked o coherent agree e = by (judged_same ideal checked o coherent agree e)
    where
      by : (IsSame ideal checked × IsTrue ideal o) ⊎ IsSplit ideal → IsTrue ideal o ⊎ IsSplit ideal
      by (inl h) = inl h.1
      by (inr s) = inr s
