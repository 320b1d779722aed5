-- An ideal and a checked run, side by side: they agree so far, or have parted at one opening.
use Rattle.std.proofs.Common.{◌≡◌, ◌⊎◌, inl, inr, ℕ, Bool, true, false, List, [], ◌∷◌, ◌++◌, if◌then◌else◌, refl, sym, ap, ◌∙◌, subst, append_assoc, append-nil}
use Rattle.core_terms.specs.Formats.{Hash}
use Rattle.core_terms.specs.Values.{IsIdeal}
use Rattle.core_terms.specs.Terms.{Program}
use Rattle.core_terms.specs.Projection.{Fits}
use Rattle.ideal_meaning.specs.Run.{Trap, Traps, Run, Gives, Ends, then_run, state_of}
use Rattle.ideal_meaning.specs.Ideal.{Opened}
use Rattle.ideal_meaning.specs.Checked.{Taking, Cause}
use Rattle.ideal_meaning.specs.PieceForms.{PieceForm}
use Rattle.ideal_meaning.specs.Agreement.{as_checked, AllOpenedFit, TookHonestAs, OffersOtherAs, IsRefusedAs, PartsAs}
use Rattle.ideal_meaning.proofs.Grows.{Grows}
use Rattle.ideal_meaning.proofs.FramesBack.{last_left, Coherent}

-- the values that were opened are ideal
abbrev pub AllOpenedIdeal : Program → List Opened → Type 0
AllOpenedIdeal P [] = Unit {0}
AllOpenedIdeal P (x ∷ s) = IsIdeal P.types x.ty x.value × AllOpenedIdeal P s

pub ideal_next : (P : Program) (s : List Opened) (x : Opened) → AllOpenedIdeal P s → IsIdeal P.types x.ty x.value → AllOpenedIdeal P (s ++ x ∷ [])
ideal_next P [] x h i = (i, tt)
ideal_next P (y ∷ s) x h i = (h.0, ideal_next P s x h.1 i)

pub fit_next : (P : Program) (s : List Opened) (x : Opened) → AllOpenedFit P s → Fits P x.ty x.value → AllOpenedFit P (s ++ x ∷ [])
fit_next P [] x h w = (w, tt)
fit_next P (y ∷ s) x h w = (h.0, fit_next P s x h.1 w)

-- Of a run that began with the verifier at `began`, where the pieces have this form. `Deep` is the premise under which each authenticated value is within the limits.
module _ (hash : Hash) (P : Program) (form : PieceForm) (Deep : Type 0) (began : Taking) where
  -- the verifier took the honest pieces so far, and what it has left fits what was offered
  pub record InStep (s : List Opened) (w : Taking) : Type 0 where
    pub honest : TookHonestAs hash P form began s w
    pub lefts : last_left began.left began.more ≡ last_left w.left w.more
    pub ideals : AllOpenedIdeal P s
    pub coherent : Coherent began.left began.more → Coherent w.left w.more

  -- the runs parted at an opening, under the premise at that of a value within the limits
  pub record Parted {A B : Type 0} (ideal : Run ⊥ (List Opened) A) (checked : Run Cause Taking B) : Type 0 where
    pub parts : PartsAs hash P form began ideal checked
    pub fits : Deep → Fits P parts.x.ty parts.x.value

  -- the runs do the same so far, the checked one in projection; of the value that they give, `Known` holds
  abbrev pub Same : {A B : Type 0} → (A → Type 0) → (A → B) → Run ⊥ (List Opened) A → Run Cause Taking B → Type 0
  Same Known project (Gives a k s) checked = Known a × ((w : Taking) × (checked ≡ Gives (project a) k w) × InStep s w)
  Same Known project (Ends stop k s) checked = (w : Taking) × (checked ≡ Ends (as_checked stop) k w) × InStep s w

  abbrev pub Agree : {A B : Type 0} → (A → Type 0) → (A → B) → Run ⊥ (List Opened) A → Run Cause Taking B → Type 0
  Agree Known project ideal checked = Same Known project ideal checked ⊎ Parted ideal checked

  -- what follows the ideal run only adds to what was opened behind the parting
  opened_later : {A C : Type 0} (ideal : Run ⊥ (List Opened) A) (f : A → ℕ → List Opened → Run ⊥ (List Opened) C) (before : List Opened) (x : Opened) (after : List Opened)
      → ((a : A) (k : ℕ) (s : List Opened) → Grows s (f a k s)) → state_of ideal ≡ before ++ x ∷ after
      → (more : List Opened) × (state_of (then_run ideal f) ≡ before ++ x ∷ (after ++ more))
  opened_later (Gives a k s) f before x after grow e =
      let q = grow a k s in (q.added, q.is ∙ ap (λ l. l ++ q.added) e ∙ append_assoc before (x ∷ after) q.added)
  opened_later (Ends stop k s) f before x after grow e = ([], e ∙ ap (λ l. before ++ x ∷ l) (sym (append-nil after)))

  -- runs that have parted stay so
  parted_later : {A B C D : Type 0} (ideal : Run ⊥ (List Opened) A) (checked : Run Cause Taking B) (f : A → ℕ → List Opened → Run ⊥ (List Opened) C) (g : B → ℕ → Taking → Run Cause Taking D)
      → Parted ideal checked → ((a : A) (k : ℕ) (s : List Opened) → Grows s (f a k s)) → Parted (then_run ideal f) (then_run checked g)
  parted_later ideal checked f g p grow =
      record {
        parts = record { before = p.parts.before; x = p.parts.x; after = p.parts.after ++ more.0; seen = more.1; at = p.parts.at; honest = p.parts.honest; why = later p.parts.why };
        fits = p.fits;
      }
    where
      more : (more : List Opened) × (state_of (then_run ideal f) ≡ p.parts.before ++ p.parts.x ∷ (p.parts.after ++ more))
      more = opened_later ideal f p.parts.before p.parts.x p.parts.after grow p.parts.seen

      later : OffersOtherAs hash P form p.parts.x p.parts.at ⊎ IsRefusedAs hash P form p.parts.x p.parts.at checked
          → OffersOtherAs hash P form p.parts.x p.parts.at ⊎ IsRefusedAs hash P form p.parts.x p.parts.at (then_run checked g)
      later (inl h) = inl h
      later (inr h) = inr (record { cause = h.cause; fuel = h.fuel; left = h.left; is = ap (λ r. then_run r g) h.is; refused = h.refused; only = h.only })

  -- what agrees, goes on in agreement
  pub agree_then : {A B C D : Type 0} (Known : A → Type 0) (project : A → B) (Known' : C → Type 0) (project' : C → D) (ideal : Run ⊥ (List Opened) A) (checked : Run Cause Taking B)
      (f : A → ℕ → List Opened → Run ⊥ (List Opened) C) (g : B → ℕ → Taking → Run Cause Taking D)
      → Agree Known project ideal checked → ((a : A) (k : ℕ) (s : List Opened) → Grows s (f a k s))
      → ((a : A) (k : ℕ) (s : List Opened) (w : Taking) → Known a → InStep s w → Agree Known' project' (f a k s) (g (project a) k w))
      → Agree Known' project' (then_run ideal f) (then_run checked g)
  agree_then Known project Known' project' (Gives a k s) checked f g (inl h) grow on =
      subst (λ r. Agree Known' project' (f a k s) (then_run r g)) (sym h.1.1) (on a k s h.1.0 h.0 h.1.2)
  agree_then Known project Known' project' (Ends stop k s) checked f g (inl h) grow on = inl (h.0, ap (λ r. then_run r g) h.1, h.2)
  agree_then Known project Known' project' (Gives a k s) checked f g (inr p) grow on = inr (parted_later (Gives a k s) checked f g p grow)
  agree_then Known project Known' project' (Ends stop k s) checked f g (inr p) grow on = inr (parted_later (Ends stop k s) checked f g p grow)

  -- both give a value, or trap, or take the same branch
  pub agree_gives : {A B : Type 0} (Known : A → Type 0) (project : A → B) (a : A) (b : B) (k : ℕ) (s : List Opened) (w : Taking)
      → Known a → b ≡ project a → InStep s w → Agree Known project (Gives a k s) (Gives b k w)
  agree_gives Known project a b k s w h e y = inl (h, (w, ap (λ b. Gives b k w) e, y))

  pub agree_traps : {A B : Type 0} (Known : A → Type 0) (project : A → B) (t : Trap) (k : ℕ) (s : List Opened) (w : Taking)
      → InStep s w → Agree Known project (Ends (Traps t) k s) (Ends (Traps t) k w)
  agree_traps Known project t k s w y = inl (w, refl, y)

  pub agree_if : {A B : Type 0} (Known : A → Type 0) (project : A → B) (b c : Bool) (r1 r2 : Run ⊥ (List Opened) A) (q1 q2 : Run Cause Taking B)
      → c ≡ b → (b ≡ true → Agree Known project r1 q1) → (b ≡ false → Agree Known project r2 q2) → Agree Known project (if b then r1 else r2) (if c then q1 else q2)
  agree_if Known project true c r1 r2 q1 q2 e h j = subst (λ c. Agree Known project r1 (if c then q1 else q2)) (sym e) (h refl)
  agree_if Known project false c r1 r2 q1 q2 e h j = subst (λ c. Agree Known project r2 (if c then q1 else q2)) (sym e) (j refl)
