-- The companion: the honest proof is accepted, over whatever pieces came before.
use Rattle.std.proofs.Common.{◌≡◌, ◌⊎◌, inl, inr, ℕ, ◌<◌, ◌≤◌, ◌^◌, List, [], ◌∷◌, length, drop, refl, sym, ap, ◌∙◌, subst, arith, append-nil}
use Rattle.std.proofs.lemmas.List.{append_cancel_left, map-append}
use Rattle.core_terms.specs.Types.{Ty}
use Rattle.core_terms.specs.Formats.{Hash, IsHash, IsFormat}
use Rattle.core_terms.specs.Values.{Value, Values, IsIdeal, AreIdeal, AuthWithin, AuthWithinAll}
use Rattle.core_terms.specs.Spelling.{spelling}
use Rattle.core_terms.specs.Reading.{Read, Good, BadAt}
use Rattle.core_terms.specs.Terms.{Kind, Program, function_at}
use Rattle.core_terms.specs.TypingRules.{IsTyped}
use Rattle.core_terms.specs.RoleTypes.{role_result, IsRole, ReadsState}
use Rattle.core_terms.specs.Projection.{projection, projections, Fits, AllFit, read_at}
use Rattle.ideal_meaning.specs.Run.{Run, state_of}
use Rattle.ideal_meaning.specs.Ideal.{Opened, ideal, outcome, outcome_projection, honest_bytes, honest_pieces, bytes_of}
use Rattle.ideal_meaning.specs.PieceForms.{as_spelled}
use Rattle.ideal_meaning.specs.Frames.{Offer, NoMore, Offers, offered, offered_pieces, honest_frames, frame_bytes, proof_file}
use Rattle.ideal_meaning.specs.Checked.{Taking, Cause, checked, before_all, Verdict, Accepted, with_rest, judge, with_header, with_argument, with_state, on_argument, on_state, verdict_on}
use Rattle.ideal_meaning.specs.Headline.{call_values}
use Rattle.ideal_meaning.specs.HeadlineLaws.{Companion}
use Rattle.ideal_meaning.specs.FollowingLaws.{CompanionOfFrames, VerdictIsOnFrames}
use Rattle.ideal_meaning.specs.Agreement.{AllOpenedFit, honest_so_far, OffersOther, IsRefused}
use Rattle.ideal_meaning.proofs.FramesBack.{last_left, AllShort, frames_back, header_back, behind_header, offer_of, offers_of}
use Rattle.ideal_meaning.proofs.NewPieces.{after_honest}
use Rattle.ideal_meaning.proofs.InHand.{IsHeld}
use Rattle.ideal_meaning.proofs.Relation.{AllOpenedIdeal, Parted, Agree}
use Rattle.ideal_meaning.proofs.Opening.{ReadsBack}
use Rattle.ideal_meaning.proofs.Projections.{reads_back, length_piece}
use Rattle.ideal_meaning.proofs.AgreeFrom.{calls_agree}
use Rattle.ideal_meaning.proofs.Judged.{OnDone, bytes_are, IsSame, same_judged, same_state, same_held}
use Rattle.ideal_meaning.proofs.RoleCalls.{parameters_are, result_is, plain_within}

module _ (hash : Hash) (is_hash : IsHash hash) (P : Program) (format : IsFormat P.format) where
  -- on the honest pieces the two runs never part
  never_parted : (began : Taking) (ideal : Run ⊥ (List Opened) Value) (checked : Run Cause Taking Value) → offered_pieces began.more ≡ honest_so_far hash P (state_of ideal)
      → Parted hash P (as_spelled hash P) (Unit {0}) began ideal checked → ⊥
  never_parted began ideal checked honest p =
      by (append_cancel_left (honest_so_far hash P p.parts.before) _ _
      (sym p.parts.honest.pieces ∙ honest ∙ ap (honest_so_far hash P) p.parts.seen ∙ map-append (honest_bytes hash P) p.parts.before (p.parts.x ∷ p.parts.after))) p.parts.why
    where
      by : offered_pieces p.parts.at.more ≡ honest_bytes hash P p.parts.x ∷ honest_so_far hash P p.parts.after
          → OffersOther hash P p.parts.x p.parts.at ⊎ IsRefused hash P p.parts.x p.parts.at checked → ⊥
      by e (inl d) = let same : d.found ≡ honest_bytes hash P p.parts.x = cc (d.next, e) in d.differs same
      by e (inr r) = (r.only _ e).2 (p.fits tt)

  -- the honest pieces are within the limit
  honest_are_short : (s : List Opened) → AllOpenedIdeal P s → AllOpenedFit P s → AllShort P.format.limit (honest_so_far hash P s)
  honest_are_short [] ideals fit = tt
  honest_are_short (x ∷ s) ideals fit = (omega (arith, length_piece hash is_hash P format x.ty x.value ideals.0, fit.0.size_fits), honest_are_short s ideals.1 fit.1)

-- where nothing is left of the pieces, nothing is left of the bytes
no_rest : (o : Offer) (left : ℕ) → offered_pieces o ≡ [] → last_left left o ≡ 0 → left ≡ 0
no_rest (NoMore e) left h l = l
no_rest (Offers bytes n more) left h l = cc

-- A call on values within the limits, and with all that is authenticated in them within them.
module _ (hash : Hash) (is_hash : IsHash hash) (P : Program) (format : IsFormat P.format) (typed : IsTyped P) (f : ℕ) (args : Values) (k : ℕ)
    (ideals : AreIdeal P.types (function_at P f).parameters args) (fits : AllFit P (function_at P f).parameters args) (deep : AuthWithinAll P.format.limit P.types (function_at P f).parameters args) where
  abbrev run_from : Taking → Run Cause Taking Value
  run_from began = checked hash P f (projections hash P (function_at P f).parameters args) k began

  abbrev Honest : List (List ℕ)
  Honest = honest_so_far hash P (state_of (ideal P f args k))

  abbrev SameTo : Taking → Type 0
  SameTo began = IsSame hash P (as_spelled hash P) (Unit {0}) began (function_at P f).result (ideal P f args k) (run_from began)

  -- on the honest pieces the runs are the same to the end
  same_on : (left : ℕ) (offer : Offer) → offered_pieces offer ≡ Honest → SameTo (before_all left offer)
  same_on left offer honest = by (calls_agree hash is_hash P format typed (reads_back hash is_hash P format) (Unit {0}) (before_all left offer) f args k ideals fits (λ l. deep))
    where
      by : Agree hash P (as_spelled hash P) (Unit {0}) (before_all left offer) (IsHeld P (Unit {0}) (function_at P f).result) (projection hash P (function_at P f).result) (ideal P f args k) (run_from (before_all left offer))
          → SameTo (before_all left offer)
      by (inl h) = h
      by (inr p) = absurd (never_parted hash is_hash P format (before_all left offer) (ideal P f args k) _ honest p)

  honest_short : AllShort P.format.limit Honest
  honest_short =
      let same = same_on 0 (offer_of Honest) (offers_of Honest) in
      let y = same_state hash P (as_spelled hash P) (Unit {0}) (before_all 0 (offer_of Honest)) (function_at P f).result (ideal P f args k) _ same in
      honest_are_short hash is_hash P format (state_of (ideal P f args k)) y.ideals y.honest.fit

  -- the value of the outcome is in hand, with all that is authenticated in it
  honest_held : OnDone (IsHeld P (Unit {0}) (function_at P f).result) (outcome (ideal P f args k))
  honest_held = same_held hash P (as_spelled hash P) (Unit {0}) (before_all 0 (offer_of Honest)) (function_at P f).result (ideal P f args k) _ (same_on 0 (offer_of Honest) (offers_of Honest))

  -- the frames of the honest pieces are accepted
  honest_judged : (n : ℕ) → n ≤ P.format.most_kept → (recent : List (List ℕ))
      → judge hash P f (projections hash P (function_at P f).parameters args) k (frame_bytes (honest_frames n recent Honest)) n recent
      ≡ Accepted (outcome_projection hash P (function_at P f).result (outcome (ideal P f args k)))
  honest_judged n small recent =
      let bytes = frame_bytes (honest_frames n recent Honest) in
      let low : n < 2 ^ 16 = omega (arith, format.kept_fits) in
      let offers = frames_back P.format.limit n format.limit_fits low (length bytes) recent Honest honest_short (omega arith) in
      let began = before_all (length bytes) (offered P.format.limit bytes n recent) in
      let same = same_on (length bytes) (offered P.format.limit bytes n recent) offers.pieces in
      let y = same_state hash P (as_spelled hash P) (Unit {0}) began (function_at P f).result (ideal P f args k) _ same in
      let empty = append_cancel_left Honest _ [] (sym y.honest.pieces ∙ offers.pieces ∙ sym (append-nil Honest)) in
      let none = no_rest (state_of (run_from began)).more ((state_of (run_from began)).left) empty (sym y.lefts ∙ offers.lefts) in
      same_judged hash P (as_spelled hash P) (Unit {0}) began (function_at P f).result (ideal P f args k) _ same
      ∙ ap (with_rest (outcome_projection hash P (function_at P f).result (outcome (ideal P f args k)))) none

-- A call of a role that reads the state, on a state and an argument within the limits, and with all that is authenticated in the
-- state within them.
module _ (hash : Hash) (is_hash : IsHash hash) (P : Program) (format : IsFormat P.format) (typed : IsTyped P)
    (f : ℕ) (kind : Kind) (t answer : Ty) (role : IsRole P f kind t answer) (reads : ReadsState kind)
    (state argument : Value) (state_ideal : IsIdeal P.types P.state state) (argument_ideal : IsIdeal P.types t argument)
    (state_fits : Fits P P.state state) (argument_fits : Fits P t argument) (state_deep : AuthWithin P.format.limit P.types P.state state) (k : ℕ) where
  abbrev args : Values
  args = call_values state argument

  abbrev state_projected : Value
  state_projected = projection hash P P.state state

  abbrev argument_projected : Value
  argument_projected = projection hash P t argument

  abbrev pieces : List (List ℕ)
  pieces = bytes_of (honest_pieces hash P f args k)

  abbrev answered : Verdict
  answered = Accepted (outcome_projection hash P (role_result kind P.state answer) (outcome (ideal P f args k)))

  shape : (function_at P f).parameters ≡ P.state ∷ t ∷ []
  shape = parameters_are P f kind t answer role reads

  ideals : AreIdeal P.types (function_at P f).parameters args
  ideals = subst (λ ts. AreIdeal P.types ts args) (sym shape) (state_ideal, (argument_ideal, tt))

  fits : AllFit P (function_at P f).parameters args
  fits = subst (λ ts. AllFit P ts args) (sym shape) (state_fits, (argument_fits, tt))

  deep : AuthWithinAll P.format.limit P.types (function_at P f).parameters args
  deep =
      subst (λ ts. AuthWithinAll P.format.limit P.types ts args) (sym shape)
      (state_deep, (plain_within P.format.limit P.types t argument role.plain argument_ideal, tt))

  pieces_are : pieces ≡ honest_so_far hash P (state_of (ideal P f args k))
  pieces_are = bytes_are hash P (as_spelled hash P) (state_of (ideal P f args k))

  pub pieces_short : AllShort P.format.limit pieces
  pieces_short = subst (AllShort P.format.limit) (sym pieces_are) (honest_short hash is_hash P format typed f args k ideals fits deep)

  pub call_held : OnDone (IsHeld P (Unit {0}) (role_result kind P.state answer)) (outcome (ideal P f args k))
  call_held =
      subst (λ r. OnDone (IsHeld P (Unit {0}) r) (outcome (ideal P f args k))) (result_is P f kind t answer role)
      (honest_held hash is_hash P format typed f args k ideals fits deep)

  frames_judged : (n : ℕ) → n ≤ P.format.most_kept → (recent : List (List ℕ))
      → judge hash P f (call_values state_projected argument_projected) k (frame_bytes (honest_frames n recent pieces)) n recent ≡ answered
  frames_judged n small recent =
      ap (λ ps. judge hash P f (call_values state_projected argument_projected) k (frame_bytes (honest_frames n recent ps)) n recent) pieces_are
      ∙ ap (λ ts. judge hash P f (projections hash P ts args) k (frame_bytes (honest_frames n recent (honest_so_far hash P (state_of (ideal P f args k))))) n recent) (sym shape)
      ∙ honest_judged hash is_hash P format typed f args k ideals fits deep n small recent
      ∙ ap (λ r. Accepted (outcome_projection hash P r (outcome (ideal P f args k)))) (result_is P f kind t answer role)

  -- of the frames of a session's proof, and of the bytes of a proof file
  pub on_frames : (n : ℕ) → n ≤ P.format.most_kept → (recent : List (List ℕ))
      → verdict_on hash P t f (spelling state_projected) (spelling argument_projected) k (frame_bytes (honest_frames n recent pieces)) n recent ≡ answered
  on_frames n small recent = at_state (reads_back hash is_hash P format P.state state state_ideal) ∙ at_argument (reads_back hash is_hash P format t argument argument_ideal) ∙ frames_judged n small recent
    where
      bytes : List ℕ
      bytes = frame_bytes (honest_frames n recent pieces)

      at_state : ReadsBack hash P P.state state
          → verdict_on hash P t f (spelling state_projected) (spelling argument_projected) k bytes n recent
          ≡ on_argument hash P state_projected (read_at P t (spelling argument_projected)) f k bytes n recent
      at_state (inl r) = ap (λ q. on_state hash P t q (spelling argument_projected) f k bytes n recent) r.1.1
      at_state (inr r) = absurd (r.0 state_fits)

      at_argument : ReadsBack hash P t argument
          → on_argument hash P state_projected (read_at P t (spelling argument_projected)) f k bytes n recent
          ≡ judge hash P f (call_values state_projected argument_projected) k bytes n recent
      at_argument (inl r) = ap (λ q. on_argument hash P state_projected q f k bytes n recent) r.1.1
      at_argument (inr r) = absurd (r.0 argument_fits)

-- a file with a good header is judged as its frames are
pub verdict_is_on_frames : VerdictIsOnFrames
verdict_is_on_frames hash P t f state argument k bytes n good = at_state (read_at P P.state state)
  where
    at_argument : (s : Value) (r : Read Value) → with_argument hash P s r f k bytes ≡ on_argument hash P s r f k (drop 6 bytes) n []
    at_argument s (BadAt offset) = refl
    at_argument s (Good a rest end) = ap (λ h. with_header hash P h f (call_values s a) k bytes) good

    at_state : (r : Read Value) → with_state hash P t r argument f k bytes ≡ on_state hash P t r argument f k (drop 6 bytes) n []
    at_state (BadAt offset) = refl
    at_state (Good s rest end) = at_argument s (read_at P t argument)

pub companion_of_frames : CompanionOfFrames
companion_of_frames hash is_hash P format typed f kind t answer role reads state argument state_ideal argument_ideal state_fits argument_fits state_deep k n small recent = (
  on_frames hash is_hash P format typed f kind t answer role reads state argument state_ideal argument_ideal state_fits argument_fits state_deep k n small recent,
  after_honest P.format.limit n format.limit_fits (omega (arith, format.kept_fits)) recent (bytes_of (honest_pieces hash P f (call_values state argument) k))
      (pieces_short hash is_hash P format typed f kind t answer role reads state argument state_ideal argument_ideal state_fits argument_fits state_deep k),
)

pub companion : Companion
companion hash is_hash P format typed f kind t answer role reads state argument state_ideal argument_ideal state_fits argument_fits state_deep k n small =
    let pieces = bytes_of (honest_pieces hash P f (call_values state argument) k) in
    let s = spelling (projection hash P P.state state) in
    let a = spelling (projection hash P t argument) in
    verdict_is_on_frames hash P t f s a k (proof_file P.format n pieces) n (header_back P.format n pieces format small)
    ∙ ap (λ bytes. verdict_on hash P t f s a k bytes n []) (behind_header P.format n pieces format)
    ∙ on_frames hash is_hash P format typed f kind t answer role reads state argument state_ideal argument_ideal state_fits argument_fits state_deep k n small []
