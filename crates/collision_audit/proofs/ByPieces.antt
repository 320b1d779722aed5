-- The audit by the verifier's verdict is that piece by piece.
use Rattle.std.proofs.Common.{◌≡◌, ◌≢◌, ◌⊎◌, inl, inr, ℕ, suc, ◌+◌, Bool, true, false, List, [], ◌∷◌, ◌++◌, length, drop, map, Option, Some, None, bytes_eq, if◌then◌else◌, refl, sym, ap, ◌∙◌, subst, arith, append-nil}
use Rattle.std.proofs.lemmas.Slice.Eq.{bytes_eq-Decides}
use Rattle.core_terms.specs.Types.{Ty}
use Rattle.core_terms.specs.Formats.{Hash, IsHash, IsFormat}
use Rattle.core_terms.specs.Projection.{digest_at, projection, projections, Fits, AllFit, read_at}
use Rattle.core_terms.specs.RoleTypes.{IsRole, ReadsState}
use Rattle.core_terms.specs.Spelling.{spelling}
use Rattle.core_terms.specs.Terms.{Kind, Program, function_at}
use Rattle.core_terms.specs.TypingRules.{IsTyped}
use Rattle.core_terms.specs.Values.{Value, Values, AuthWithin, AuthWithinAll, IsIdeal, AreIdeal}
use Rattle.ideal_meaning.specs.Agreement.{IsRefused, OffersOther, honest_so_far}
use Rattle.ideal_meaning.specs.Checked.{Cause, Header, Rejected, Taking, Verdict, WrongPiece, before_all, cause_of, checked, judge, judged, opened, take_piece, with_argument, with_header, with_rest, with_state}
use Rattle.ideal_meaning.specs.Frames.{End, NoMore, Offer, Offers, header, offered, offered_pieces}
use Rattle.ideal_meaning.specs.Headline.{call_values}
use Rattle.ideal_meaning.specs.Ideal.{Opened, Outcome, Piece, honest_bytes, honest_piece, honest_pieces, ideal, outcome, outcome_projection}
use Rattle.ideal_meaning.specs.PieceForms.{as_spelled}
use Rattle.ideal_meaning.specs.Run.{Refuses, Run, state_of}
use Rattle.ideal_meaning.proofs.AgreeFrom.{calls_agree}
use Rattle.ideal_meaning.proofs.InHand.{IsHeld}
use Rattle.ideal_meaning.proofs.Judged.{IsSame, same_judged, same_state}
use Rattle.ideal_meaning.proofs.Opening.{ReadsBack}
use Rattle.ideal_meaning.proofs.Projections.{reads_back}
use Rattle.ideal_meaning.proofs.Relation.{Agree, Parted}
use Rattle.ideal_meaning.proofs.RoleCalls.{parameters_are, plain_within}
use Rattle.collision_audit.specs.Audits.{Audit, Collides, Judges, unless_split, verdict_on_projections}
use Rattle.collision_audit.specs.Splits.{Split, first_split, offered_behind, split_from, split_of, split_with}
use Rattle.collision_audit.specs.PieceAudits.{audit_by_pieces, audit_file, audit_frames, audit_from, differing, outcome_seen}
use Rattle.collision_audit.specs.PieceLaws.{AuditIsByPieces}
use Rattle.collision_audit.proofs.FirstSplits.{not_same}
use Rattle.collision_audit.proofs.Reaching.{Reaches, ReachesIn, place_behind, reaches_one, run_reaches}

module _ (hash : Hash) (P : Program) (o : Outcome) where
  abbrev digest : Ty → List ℕ → List ℕ
  digest = digest_at hash P

  abbrev pieces_of : List Opened → List Piece
  pieces_of seen = map (honest_piece hash P) seen

  abbrev from : Taking → List Piece → Audit
  from w honest = audit_from hash P.format o w.place honest w.left w.more

  -- two pieces that differ, as a split
  abbrev shown : ℕ → List ℕ → Opened → Split
  shown place bytes x = split_with hash P.format place (honest_piece hash P x) bytes

  same_bytes : (x : List ℕ) → bytes_eq x x ≡ true
  same_bytes x = (bytes_eq-Decides x x).1 refl

  -- honest pieces are taken
  abbrev Passes : List Opened → Taking → List (List ℕ) → Type 0
  Passes before a rest = (b : Taking) × ReachesIn (length before) a b × (offered_pieces b.more ≡ rest)

  pass_one : (x : Opened) (before : List Opened) (a : Taking) (rest : List (List ℕ)) (m : Offer) → a.more ≡ m → offered_pieces m ≡ honest_bytes hash P x ∷ (honest_so_far hash P before ++ rest)
      → ((a : Taking) → offered_pieces a.more ≡ honest_so_far hash P before ++ rest → Passes before a rest) → Passes (x ∷ before) a rest
  pass_one x before a rest (NoMore e) q h go = absurd (cc (h))
  pass_one x before a rest (Offers bytes left more) q h go =
      let later : offered_pieces more ≡ honest_so_far hash P before ++ rest = cc in
      let there = go (record { place = suc a.place; left = left; more = more }) later in
      (there.0, (bytes, left, more, q, there.1), there.2)

  pass : (before : List Opened) (a : Taking) (rest : List (List ℕ)) → offered_pieces a.more ≡ honest_so_far hash P before ++ rest → Passes before a rest
  pass [] a rest e = (a, refl, e)
  pass (x ∷ before) a rest e = pass_one x before a rest a.more refl e (λ a e. pass before a rest e)

  -- and the audit goes on behind them
  passed : (before : List Opened) (later : List Opened) (a b : Taking) → ReachesIn (length before) a b → offered_pieces a.more ≡ honest_so_far hash P before ++ offered_pieces b.more
      → from a (pieces_of (before ++ later)) ≡ from b (pieces_of later)
  passed [] later a b h e = ap (λ w. from w (pieces_of later)) h
  passed (x ∷ before) later a b (bytes, left, more, q, h) e =
      let offers : bytes ∷ offered_pieces more ≡ honest_bytes hash P x ∷ (honest_so_far hash P before ++ offered_pieces b.more) = sym (ap offered_pieces q) ∙ e in
      let same : bytes ≡ honest_bytes hash P x = cc in
      let rest : offered_pieces more ≡ honest_so_far hash P before ++ offered_pieces b.more = cc in
      let behind = passed before later (record { place = suc a.place; left = left; more = more }) b h rest in
      let On : List ℕ → Audit = λ bytes.
      if bytes_eq bytes (honest_bytes hash P x) then audit_from hash P.format o (suc a.place) (pieces_of (before ++ later)) left more else differing hash P.format a.place (honest_piece hash P x) bytes in
      ap (λ m. audit_from hash P.format o a.place (pieces_of ((x ∷ before) ++ later)) a.left m) q
      ∙ (ap On same
      ∙ (ap (λ (t : Bool). if t then audit_from hash P.format o (suc a.place) (pieces_of (before ++ later)) left more else differing hash P.format a.place (honest_piece hash P x) (honest_bytes hash P x)) (same_bytes (honest_bytes hash P x))
      ∙ behind))

  -- so does the search for a split
  split_passed : (before : List Opened) (later : List Opened) (place : ℕ) (rest : List (List ℕ))
      → split_from hash P.format place (honest_so_far hash P before ++ rest) (pieces_of (before ++ later)) ≡ split_from hash P.format (place + length before) rest (pieces_of later)
  split_passed [] later place rest = let e : place ≡ place + 0 = omega arith in ap (λ n. split_from hash P.format n rest (pieces_of later)) e
  split_passed (x ∷ before) later place rest =
      let go : Bool → Option Split = λ t. if t then split_from hash P.format (suc place) (honest_so_far hash P before ++ rest) (pieces_of (before ++ later))
      else (if bytes_eq (digest x.ty (honest_bytes hash P x)) (digest x.ty (honest_bytes hash P x)) then Some (shown place (honest_bytes hash P x) x) else None) in
      let count : suc place + length before ≡ place + length (x ∷ before) = omega arith in
      ap go (same_bytes (honest_bytes hash P x))
      ∙ (split_passed before later (suc place) rest
      ∙ ap (λ n. split_from hash P.format n rest (pieces_of later)) count)

  no_honest : (place : ℕ) (rest : List (List ℕ)) → split_from hash P.format place rest [] ≡ None
  no_honest place [] = refl
  no_honest place (p ∷ rest) = refl

  pub none_offered : (place : ℕ) (honest : List Piece) → split_from hash P.format place [] honest ≡ None
  none_offered place [] = refl
  none_offered place (b ∷ honest) = refl

  -- all honest pieces were taken
  all_taken : (seen : List Opened) (began w : Taking) (v : Verdict) → began.place ≡ 0 → ReachesIn (length seen) began w → offered_pieces began.more ≡ honest_so_far hash P seen ++ offered_pieces w.more
      → v ≡ with_rest o w.left → unless_split (first_split hash P.format (offered_pieces began.more) (pieces_of seen)) v ≡ from began (pieces_of seen)
  all_taken seen began w v start reached e is =
      let all : seen ++ [] ≡ seen = append-nil seen in
      let none : first_split hash P.format (offered_pieces began.more) (pieces_of seen) ≡ None =
      ap (λ ps. first_split hash P.format ps (pieces_of seen)) e
      ∙ (ap (λ s. split_from hash P.format 0 (honest_so_far hash P seen ++ offered_pieces w.more) (pieces_of s)) (sym all)
      ∙ (split_passed seen [] 0 (offered_pieces w.more) ∙ no_honest (0 + length seen) (offered_pieces w.more))) in
      ap (λ s. unless_split s v) none
      ∙ (ap Judges is
      ∙ (sym (passed seen [] began w reached e)
      ∙ ap (λ s. from began (pieces_of s)) all))

  -- The audit behind the honest pieces at `b`, where x is opened next and `v` is the verdict: a piece that differs is shown, or v is
  -- its rejection; or there is none, and v is the rejection for that cause.
  abbrev Parts_at : (place : ℕ) (x : Opened) (v : Verdict) → Offer → Type 0
  Parts_at place x v (NoMore e) = v ≡ Rejected (cause_of e place (digest x.ty (honest_bytes hash P x)))
  Parts_at place x v (Offers bytes left more) =
      (bytes ≢ honest_bytes hash P x)
      × (digest x.ty bytes ≢ digest x.ty (honest_bytes hash P x) → v ≡ Rejected (WrongPiece place (digest x.ty (honest_bytes hash P x)) (digest x.ty bytes)))

  parted_there : (after : List Opened) (x : Opened) (v : Verdict) (place left : ℕ) (more : Offer) → Parts_at place x v more
      → unless_split (split_from hash P.format place (offered_pieces more) (pieces_of (x ∷ after))) v ≡ audit_from hash P.format o place (pieces_of (x ∷ after)) left more
  parted_there after x v place left (NoMore e) h = ap Judges h
  parted_there after x v place left (Offers bytes l more) h =
      let other : bytes_eq bytes (honest_bytes hash P x) ≡ false = not_same bytes (honest_bytes hash P x) h.0 in
      let Found : Bool → Option Split = λ t. if t then Some (shown place bytes x) else None in
      let Split_if : Bool → Option Split = λ t. if t then split_from hash P.format (suc place) (offered_pieces more) (pieces_of after) else Found (bytes_eq (digest x.ty bytes) (digest x.ty (honest_bytes hash P x))) in
      let Audit_if : Bool → Audit = λ t. if t then audit_from hash P.format o (suc place) (pieces_of after) l more else differing hash P.format place (honest_piece hash P x) bytes in
      ap (λ t. unless_split (Split_if t) v) other
      ∙ (by (bytes_eq (digest x.ty bytes) (digest x.ty (honest_bytes hash P x))) refl
      ∙ sym (ap Audit_if other))
    where
      by : (t : Bool) → bytes_eq (digest x.ty bytes) (digest x.ty (honest_bytes hash P x)) ≡ t
          → unless_split (if bytes_eq (digest x.ty bytes) (digest x.ty (honest_bytes hash P x)) then Some (shown place bytes x) else None) v
          ≡ differing hash P.format place (honest_piece hash P x) bytes
      by true e =
          ap (λ (t : Bool). unless_split (if t then Some (shown place bytes x) else None) v) e
          ∙ sym (ap (λ (t : Bool). if t then Collides (shown place bytes x) else Judges (Rejected (WrongPiece place (digest x.ty (honest_bytes hash P x)) (digest x.ty bytes)))) e)
      by false e =
          let apart : digest x.ty bytes ≢ digest x.ty (honest_bytes hash P x) = λ q. absurd (cc (sym ((bytes_eq-Decides (digest x.ty bytes) (digest x.ty (honest_bytes hash P x))).1 q) ∙ e)) in
          ap (λ (t : Bool). unless_split (if t then Some (shown place bytes x) else None) v) e
          ∙ (ap Judges (h.1 apart)
          ∙ sym (ap (λ (t : Bool). if t then Collides (shown place bytes x) else Judges (Rejected (WrongPiece place (digest x.ty (honest_bytes hash P x)) (digest x.ty bytes)))) e))

  -- a run that parts from the ideal one
  all_parted : (before after : List Opened) (x : Opened) (began b : Taking) (v : Verdict) → began.place ≡ 0 → ReachesIn (length before) began b
      → offered_pieces began.more ≡ honest_so_far hash P before ++ offered_pieces b.more → Parts_at b.place x v b.more
      → unless_split (first_split hash P.format (offered_pieces began.more) (pieces_of (before ++ x ∷ after))) v ≡ from began (pieces_of (before ++ x ∷ after))
  all_parted before after x began b v start reached e h =
      let place : 0 + length before ≡ b.place = omega (arith, place_behind (length before) began b reached, start) in
      let split : first_split hash P.format (offered_pieces began.more) (pieces_of (before ++ x ∷ after)) ≡ split_from hash P.format b.place (offered_pieces b.more) (pieces_of (x ∷ after)) =
      ap (λ ps. first_split hash P.format ps (pieces_of (before ++ x ∷ after))) e
      ∙ (split_passed before (x ∷ after) 0 (offered_pieces b.more) ∙ ap (λ n. split_from hash P.format n (offered_pieces b.more) (pieces_of (x ∷ after))) place) in
      ap (λ s. unless_split s v) split
      ∙ (parted_there after x v b.place b.left b.more h
      ∙ sym (passed before (x ∷ after) began b reached e))

-- why a piece is refused: there is none, or its digest isn't the one that is held
none_refused : (hash : Hash) (P : Program) (t : Ty) (want : List ℕ) (place : ℕ) (more : Offer) (w left : Taking) (cause : Cause) → offered_pieces more ≡ []
    → take_piece hash P t want place more w ≡ Refuses cause left
    → (e : End) × (more ≡ NoMore e) × (cause ≡ cause_of e place want) × (left ≡ w)
none_refused hash P t want place (NoMore e) w left cause none r = (e, refl, cc, cc)
none_refused hash P t want place (Offers bytes l more) w left cause none r = absurd (cc (none))

wrong_refused : (hash : Hash) (P : Program) (t : Ty) (want bytes : List ℕ) (later : List (List ℕ)) (place : ℕ) (more : Offer) (w left : Taking) (cause : Cause) → offered_pieces more ≡ bytes ∷ later
    → bytes_eq (digest_at hash P t bytes) want ≡ false → take_piece hash P t want place more w ≡ Refuses cause left → cause ≡ WrongPiece place want (digest_at hash P t bytes)
wrong_refused hash P t want bytes later place (NoMore e) w left cause next apart r = absurd (cc (next))
wrong_refused hash P t want bytes later place (Offers found l more) w left cause next apart r =
    let same : found ≡ bytes = cc in
    let Taken = λ (t' : Bool) (found : List ℕ). if t' then opened hash P (read_at P t found) place (record { place = suc place; left = l; more = more }) else Refuses (WrongPiece place want (digest_at hash P t found)) w in
    let is = sym (ap (λ found. Taken (bytes_eq (digest_at hash P t found) want) found) same ∙ ap (λ t'. Taken t' bytes) apart) ∙ r in
    cc (is)

-- a call on values within the limits, and with all that is authenticated in them within them
module _ (hash : Hash) (is_hash : IsHash hash) (P : Program) (format : IsFormat P.format) (typed : IsTyped P) (f : ℕ) (args : Values) (k : ℕ)
    (ideals : AreIdeal P.types (function_at P f).parameters args) (fits : AllFit P (function_at P f).parameters args) (deep : AuthWithinAll P.format.limit P.types (function_at P f).parameters args)
    (began : Taking) (start : began.place ≡ 0) where
  abbrev run' : Run Cause Taking Value
  run' = checked hash P f (projections hash P (function_at P f).parameters args) k began

  abbrev result : Outcome
  result = outcome_projection hash P (function_at P f).result (outcome (ideal P f args k))

  abbrev seen : List Opened
  seen = state_of (ideal P f args k)

  reached : Reaches began (state_of run')
  reached = run_reaches hash P f (projections hash P (function_at P f).parameters args) k began

  abbrev Audits : List Opened → Type 0
  Audits seen = unless_split (first_split hash P.format (offered_pieces began.more) (map (honest_piece hash P) seen)) (judged run') ≡ audit_from hash P.format result began.place (map (honest_piece hash P) seen) began.left began.more

  same_all : IsSame hash P (as_spelled hash P) (Unit {0}) began (function_at P f).result (ideal P f args k) run' → Audits seen
  same_all same =
      let y = same_state hash P (as_spelled hash P) (Unit {0}) began (function_at P f).result (ideal P f args k) run' same in
      let count : reached.0 ≡ length seen = omega (arith, place_behind reached.0 began (state_of run') reached.1, y.honest.place) in
      all_taken hash P result seen began (state_of run') (judged run') start (subst (λ j. ReachesIn j began (state_of run')) count reached.1) y.honest.pieces
      (same_judged hash P (as_spelled hash P) (Unit {0}) began (function_at P f).result (ideal P f args k) run' same)

  module _ (p : Parted hash P (as_spelled hash P) (Unit {0}) began (ideal P f args k) run') where
    abbrev x : Opened
    x = p.parts.x

    abbrev at : Taking
    at = p.parts.at

    abbrev want : List ℕ
    want = digest_at hash P x.ty (honest_bytes hash P x)

    abbrev Parted_at : Taking → Type 0
    Parted_at b = Parts_at hash P result b.place x (judged run') b.more

    one_place : (b : Taking) → ReachesIn (length p.parts.before) began b → at.place ≡ b.place
    one_place b h = omega (arith, place_behind (length p.parts.before) began b h, p.parts.honest.place)

    -- there is no piece
    no_piece : (e : End) (place left : ℕ) → ReachesIn (length p.parts.before) began (record { place = place; left = left; more = NoMore e }) → offered_pieces at.more ≡ []
        → IsRefused hash P x at run' → judged run' ≡ Rejected (cause_of e place want)
    no_piece e place left h none r =
        let why = none_refused hash P x.ty want at.place at.more at r.left r.cause none r.refused in
        let ends : state_of run' ≡ at = ap state_of r.is ∙ why.3 in
        let there : ReachesIn reached.0 began at = subst (λ w. ReachesIn reached.0 began w) ends reached.1 in
        let count : reached.0 ≡ length p.parts.before = omega (arith, place_behind reached.0 began at there, p.parts.honest.place) in
        let one : record { place = place; left = left; more = NoMore e } ≡ at = reaches_one (length p.parts.before) began _ at h (subst (λ j. ReachesIn j began at) count there) in
        let ended : NoMore e ≡ NoMore why.0 = ap (λ (w : Taking). w.more) one ∙ why.1 in
        let e_is : e ≡ why.0 = cc in
        let place_is : place ≡ at.place = ap (λ (w : Taking). w.place) one in
        ap judged r.is ∙ (ap Rejected why.2 ∙ (ap (λ e. Rejected (cause_of e at.place want)) (sym e_is) ∙ ap (λ n. Rejected (cause_of e n want)) (sym place_is)))

    other : (d : OffersOther hash P x at) (place left : ℕ) (more : Offer) → offered_pieces more ≡ offered_pieces at.more → Parts_at hash P result place x (judged run') more
    other d place left (NoMore e) q = absurd (cc (q, d.next))
    other d place left (Offers bytes l more) q =
        let same : bytes ≡ d.found = cc (q, d.next) in
        (λ e. d.differs (sym same ∙ e), λ apart. absurd (apart (ap (digest_at hash P x.ty) same ∙ d.one_digest)))

    refused : (r : IsRefused hash P x at run') (place left : ℕ) (more : Offer) → ReachesIn (length p.parts.before) began (record { place = place; left = left; more = more })
        → offered_pieces more ≡ offered_pieces at.more → Parts_at hash P result place x (judged run') more
    refused r place left (NoMore e) h q = no_piece e place left h (sym q) r
    refused r place left (Offers bytes l more) h q = (
      λ e. (r.only (offered_pieces more) (sym q ∙ ap (λ bytes. bytes ∷ offered_pieces more) e)).2 (p.fits tt),
      λ apart.
          let cause = wrong_refused hash P x.ty want bytes (offered_pieces more) at.place at.more at r.left r.cause (sym q) (not_same (digest_at hash P x.ty bytes) want apart) r.refused in
          ap judged r.is ∙ (ap Rejected cause ∙ ap (λ n. Rejected (WrongPiece n want (digest_at hash P x.ty bytes))) (one_place _ h)),
    )

    parts : Audits seen
    parts =
        let there = pass hash P result p.parts.before began (offered_pieces at.more) p.parts.honest.pieces in
        subst Audits (sym p.parts.seen)
        (all_parted hash P result p.parts.before p.parts.after x began there.0 (judged run') start there.1
        (p.parts.honest.pieces ∙ ap (λ ps. honest_so_far hash P p.parts.before ++ ps) (sym there.2))
        (by p.parts.why there.0 there.1 there.2))
      where
        by : OffersOther hash P x at ⊎ IsRefused hash P x at run' → (b : Taking) → ReachesIn (length p.parts.before) began b → offered_pieces b.more ≡ offered_pieces at.more → Parted_at b
        by (inl d) b h q = other d b.place b.left b.more q
        by (inr r) b h q = refused r b.place b.left b.more h q

  pub judged_by_pieces : Audits seen
  judged_by_pieces = by (calls_agree hash is_hash P format typed (reads_back hash is_hash P format) (Unit {0}) began f args k ideals fits (λ l. deep))
    where
      by : Agree hash P (as_spelled hash P) (Unit {0}) began (IsHeld P (Unit {0}) (function_at P f).result) (projection hash P (function_at P f).result) (ideal P f args k) run' → Audits seen
      by (inl same) = same_all same
      by (inr p) = parts p

-- the verdict on the bytes of a proof file
module _ (hash : Hash) (is_hash : IsHash hash) (P : Program) (format : IsFormat P.format) (typed : IsTyped P)
    (f : ℕ) (kind : Kind) (t answer : Ty) (role : IsRole P f kind t answer) (reads : ReadsState kind)
    (state argument : Value) (state_ideal : IsIdeal P.types P.state state) (argument_ideal : IsIdeal P.types t argument)
    (state_fits : Fits P P.state state) (argument_fits : Fits P t argument) (state_deep : AuthWithin P.format.limit P.types P.state state) (k : ℕ) (bytes : List ℕ) where
  abbrev s : Value
  s = projection hash P P.state state

  abbrev a : Value
  a = projection hash P t argument

  abbrev Judged : Verdict → Type 0
  Judged v = unless_split (split_of hash P f state argument k bytes) v ≡ audit_by_pieces hash P f state argument k bytes

  shape : (function_at P f).parameters ≡ P.state ∷ t ∷ []
  shape = parameters_are P f kind t answer role reads

  on_frames : (frames : List ℕ) (n : ℕ)
      → unless_split (first_split hash P.format (offered_pieces (offered P.format.limit frames n [])) (honest_pieces hash P f (call_values state argument) k)) (judge hash P f (call_values s a) k frames n [])
      ≡ audit_frames hash P.format (outcome_seen hash P f state argument k) (honest_pieces hash P f (call_values state argument) k) frames n []
  on_frames frames n =
      let args = call_values state argument in
      let began = before_all (length frames) (offered P.format.limit frames n []) in
      let ideals : AreIdeal P.types (function_at P f).parameters args = subst (λ ts. AreIdeal P.types ts args) (sym shape) (state_ideal, (argument_ideal, tt)) in
      let fits : AllFit P (function_at P f).parameters args = subst (λ ts. AllFit P ts args) (sym shape) (state_fits, (argument_fits, tt)) in
      let deep : AuthWithinAll P.format.limit P.types (function_at P f).parameters args =
      subst (λ ts. AuthWithinAll P.format.limit P.types ts args) (sym shape) (state_deep, (plain_within P.format.limit P.types t argument role.plain argument_ideal, tt)) in
      let one = judged_by_pieces hash is_hash P format typed f args k ideals fits deep began refl in
      subst (λ ts. unless_split (first_split hash P.format (offered_pieces (offered P.format.limit frames n [])) (honest_pieces hash P f args k)) (judge hash P f (projections hash P ts args) k frames n [])
      ≡ audit_frames hash P.format (outcome_seen hash P f state argument k) (honest_pieces hash P f (call_values state argument) k) frames n []) shape one

  at_header : (h : Option ℕ)
      → unless_split (first_split hash P.format (offered_behind P.format h bytes) (honest_pieces hash P f (call_values state argument) k)) (with_header hash P h f (call_values s a) k bytes)
      ≡ audit_file hash P.format (outcome_seen hash P f state argument k) (honest_pieces hash P f (call_values state argument) k) h bytes
  at_header None = ap (λ o. unless_split o (Rejected Header)) (none_offered hash P (outcome_seen hash P f state argument k) 0 (honest_pieces hash P f (call_values state argument) k))
  at_header (Some n) = on_frames (drop 6 bytes) n

  at_argument : ReadsBack hash P t argument → Judged (with_argument hash P s (read_at P t (spelling a)) f k bytes)
  at_argument (inl back) = subst Judged (sym (ap (λ r. with_argument hash P s r f k bytes) back.1.1)) (at_header (header P.format bytes))
  at_argument (inr unfit) = absurd (unfit.0 argument_fits)

  at_state : ReadsBack hash P P.state state → Judged (verdict_on_projections hash P t f state argument k bytes)
  at_state (inl back) = subst Judged (sym (ap (λ r. with_state hash P t r (spelling a) f k bytes) back.1.1)) (at_argument (reads_back hash is_hash P format t argument argument_ideal))
  at_state (inr unfit) = absurd (unfit.0 state_fits)

pub audit_is_by_pieces : AuditIsByPieces
audit_is_by_pieces hash is_hash P format typed f kind t answer role reads state argument state_ideal argument_ideal state_fits argument_fits state_deep k bytes =
    at_state hash is_hash P format typed f kind t answer role reads state argument state_ideal argument_ideal state_fits argument_fits state_deep k bytes
    (reads_back hash is_hash P format P.state state state_ideal)
