-- One opening, in both runs: the next piece is the honest one and is read, or the runs part.
use Rattle.std.proofs.Common.{◌≡◌, ◌≢◌, ◌⊎◌, inl, inr, ℕ, suc, ◌+◌, Bool, true, false, List, [], ◌∷◌, ◌++◌, length, bytes_eq, if◌then◌else◌, refl, sym, ap, ◌∙◌, subst, arith, append_assoc, length-append, true≢false}
use Rattle.std.proofs.lemmas.List.{map-append}
use Rattle.std.proofs.lemmas.Slice.Eq.{bytes_eq-Decides}
use Rattle.core_terms.specs.Types.{Ty, AuthTy}
use Rattle.core_terms.specs.Formats.{Hash}
use Rattle.core_terms.specs.Values.{Value, IsIdeal}
use Rattle.core_terms.specs.Spelling.{spelling}
use Rattle.core_terms.specs.Reading.{Good, BadAt}
use Rattle.core_terms.specs.Terms.{Program}
use Rattle.core_terms.specs.Projection.{digest_at, projection, Fits}
use Rattle.ideal_meaning.specs.Run.{Run, Gives, Refuses, with_fuel}
use Rattle.ideal_meaning.specs.Ideal.{Opened}
use Rattle.ideal_meaning.specs.PieceForms.{PieceForm, as_spelled}
use Rattle.ideal_meaning.specs.Frames.{Offer, NoMore, Offers, offered_pieces}
use Rattle.ideal_meaning.specs.Checked.{Taking, Cause, WrongPiece, BadPiece, cause_of, opened, take_as, digest_in}
use Rattle.ideal_meaning.specs.Agreement.{IsRefusedAs}
use Rattle.ideal_meaning.specs.HonestPieces.{honest_as, honest_all_as}
use Rattle.ideal_meaning.proofs.InHand.{IsHeld}
use Rattle.ideal_meaning.proofs.Relation.{fit_next, ideal_next, InStep, Agree}

-- the piece of a spelling has the digest of the spelling
abbrev pub IsFormOf : Hash → Program → PieceForm → Type 0
IsFormOf hash P form = (t : Ty) (bytes : List ℕ) → form.digest t (form.piece t bytes) ≡ digest_at hash P t bytes

-- The honest piece of a value is read back as its projection, and the value is within the limits; or the piece is refused, and
-- the value isn't.
abbrev pub ReadsBackAs : Hash → Program → PieceForm → Ty → Value → Type 0
ReadsBackAs hash P form t v =
    (Fits P t v × ((place : ℕ) × (form.reading t (form.piece t (spelling (projection hash P t v))) ≡ Good (projection hash P t v) [] place)))
    ⊎ ((Fits P t v → ⊥) × ((place : ℕ) × (form.reading t (form.piece t (spelling (projection hash P t v))) ≡ BadAt place)))

-- as a spelling
abbrev pub ReadsBack : Hash → Program → Ty → Value → Type 0
ReadsBack hash P t v = ReadsBackAs hash P (as_spelled hash P) t v

module _ (hash : Hash) (P : Program) (form : PieceForm) (is_form : IsFormOf hash P form) (reads_back : (t : Ty) (v : Value) → IsIdeal P.types t v → ReadsBackAs hash P form t v) (Deep : Type 0) (began : Taking) where
  -- one more piece that is the honest one
  in_step_next : (s : List Opened) (x : Opened) → IsIdeal P.types x.ty x.value → Fits P x.ty x.value → (place left n : ℕ) (more : Offer)
      → InStep hash P form Deep began s (record { place = place; left = left; more = Offers (honest_as hash P form x) n more })
      → InStep hash P form Deep began (s ++ x ∷ []) (record { place = suc place; left = n; more = more })
  in_step_next s x ideal fits place left n more y =
      let e : honest_all_as hash P form (s ++ x ∷ []) ++ offered_pieces more ≡ honest_all_as hash P form s ++ (honest_as hash P form x ∷ offered_pieces more) =
      ap (λ l. l ++ offered_pieces more) (map-append (honest_as hash P form) s (x ∷ []))
      ∙ append_assoc (honest_all_as hash P form s) (honest_as hash P form x ∷ []) (offered_pieces more) in
      let p : place ≡ began.place + length s = y.honest.place in
      record {
        honest = record { pieces = y.honest.pieces ∙ sym e; place = omega (arith, length-append s (x ∷ [])); fit = fit_next P s x y.honest.fit fits };
        lefts = y.lefts;
        ideals = ideal_next P s x y.ideals ideal;
        coherent = λ c. (y.coherent c).1;
      }

  -- v is opened at t, after s, with fuel k
  module _ (t : Ty) (v : Value) (h : IsHeld P Deep (AuthTy t) v) (k : ℕ) (s : List Opened) where
    abbrev spelled : List ℕ
    spelled = spelling (projection hash P t v)

    abbrev piece : List ℕ
    piece = form.piece t spelled

    -- the digest that is held
    abbrev want : List ℕ
    want = digest_at hash P t spelled

    same_want : bytes_eq (form.digest t piece) want ≡ true
    same_want = (bytes_eq-Decides (form.digest t piece) want).1 (is_form t spelled)

    -- the verifier with n bytes left and more to come behind this piece
    abbrev At : ℕ → ℕ → List ℕ → ℕ → Offer → Taking
    At place left bytes n more = record { place = place; left = left; more = Offers bytes n more }

    abbrev Next : ℕ → ℕ → Offer → Taking
    Next place n more = record { place = suc place; left = n; more = more }

    abbrev Agrees : Run Cause Taking Value → Type 0
    Agrees checked = Agree hash P form Deep began (IsHeld P Deep t) (projection hash P t) (Gives v k (s ++ record { ty = t; value = v } ∷ [])) checked

    refused : (w : Taking) (checked : Run Cause Taking Value) → InStep hash P form Deep began s w → IsRefusedAs hash P form (record { ty = t; value = v }) w checked → Agrees checked
    refused w checked y r =
        inr (record {
          parts = record { before = s; x = record { ty = t; value = v }; after = []; seen = refl; at = w; honest = y.honest; why = inr r };
          fits = λ l. (h.deep l).0;
        })

    module _ (place left n : ℕ) (more : Offer) where
      -- the piece is the honest one
      honest : InStep hash P form Deep began s (At place left piece n more) → Agrees (with_fuel k (opened hash P (form.reading t piece) place (Next place n more)))
      honest y = by (reads_back t v h.ideal)
        where
          by : ReadsBackAs hash P form t v → Agrees (with_fuel k (opened hash P (form.reading t piece) place (Next place n more)))
          by (inl r) =
              inl (
                record { ideal = h.ideal; within = r.0; deep = λ l. (h.deep l).1 },
                (
                  Next place n more,
                  ap (λ q. with_fuel k (opened hash P q place (Next place n more))) r.1.1,
                  in_step_next s (record { ty = t; value = v }) h.ideal r.0 place left n more y,
                ),
              )
          by (inr r) =
              refused (At place left piece n more) _ y
              (record {
                cause = BadPiece place r.1.0;
                fuel = k;
                left = Next place n more;
                is = ap (λ q. with_fuel k (opened hash P q place (Next place n more))) r.1.1;
                refused = ap (λ b. if b then opened hash P (form.reading t piece) place (Next place n more) else Refuses (WrongPiece place want (form.digest t piece)) (At place left piece n more)) same_want
                    ∙ ap (λ q. opened hash P q place (Next place n more)) r.1.1;
                only = λ later e. (r.1.0, refl, r.0);
              })

      -- some piece with the digest of the honest one
      same_digest : (bytes : List ℕ) → form.digest t bytes ≡ form.digest t piece → (b : Bool) → bytes_eq bytes piece ≡ b → InStep hash P form Deep began s (At place left bytes n more)
          → Agrees (with_fuel k (opened hash P (form.reading t bytes) place (Next place n more)))
      same_digest bytes e true q y =
          let same : piece ≡ bytes = sym ((bytes_eq-Decides bytes piece).0 q) in
          let F : List ℕ → Type 0 = λ bs. InStep hash P form Deep began s (At place left bs n more) → Agrees (with_fuel k (opened hash P (form.reading t bs) place (Next place n more))) in
          subst F same honest y
      same_digest bytes e false q y =
          let differs : bytes ≢ piece = λ r. true≢false (sym ((bytes_eq-Decides bytes piece).1 r) ∙ q) in
          inr (record {
            parts = record {
              before = s;
              x = record { ty = t; value = v };
              after = [];
              seen = refl;
              at = At place left bytes n more;
              honest = y.honest;
              why = inl (record { found = bytes; later = offered_pieces more; next = refl; differs = differs; one_digest = e });
            };
            fits = λ l. (h.deep l).0;
          })

    opens_at : (place left : ℕ) (more : Offer) → InStep hash P form Deep began s (record { place = place; left = left; more = more })
        → Agrees (with_fuel k (take_as hash P form t want place more (record { place = place; left = left; more = more })))
    opens_at place left (NoMore e) y =
        refused _ _ y (record { cause = cause_of e place want; fuel = k; left = record { place = place; left = left; more = NoMore e }; is = refl; refused = refl; only = λ later e. absurd (cc) })
    opens_at place left (Offers bytes n more) y = by (bytes_eq (form.digest t bytes) want) refl
      where
        by : (b : Bool) → bytes_eq (form.digest t bytes) want ≡ b
            → Agrees (with_fuel k (if b then opened hash P (form.reading t bytes) place (Next place n more) else Refuses (WrongPiece place want (form.digest t bytes)) (At place left bytes n more)))
        by true e = same_digest place left n more bytes ((bytes_eq-Decides (form.digest t bytes) want).0 e ∙ sym (is_form t spelled)) (bytes_eq bytes piece) refl y
        by false e =
            refused (At place left bytes n more) _ y
            (record {
              cause = WrongPiece place want (form.digest t bytes);
              fuel = k;
              left = At place left bytes n more;
              is = refl;
              refused = ap (λ b. if b then opened hash P (form.reading t bytes) place (Next place n more) else Refuses (WrongPiece place want (form.digest t bytes)) (At place left bytes n more)) e;
              only = λ later q. let same : bytes ≡ piece = cc in absurd (true≢false (sym ((bytes_eq-Decides (form.digest t bytes) want).1 (ap (form.digest t) same ∙ is_form t spelled)) ∙ e));
            })

    -- what `unauth` gives in both runs
    pub opens : (w : Taking) → InStep hash P form Deep began s w → Agrees (with_fuel k (take_as hash P form t (digest_in (projection hash P (AuthTy t) v)) w.place w.more w))
    opens w y = opens_at w.place w.left w.more y
