-- Where the first piece that differs has another digest, the verifier refuses it, or one before it, whatever follows: the verdict is the same.
use Rattle.std.proofs.Common.{◌≡◌, ◌⊎◌, inl, inr, ℕ, zero, suc, ◌+◌, ◌<◌, Bool, true, false, List, [], ◌∷◌, ◌++◌, length, take, drop, map, Option, Some, None, bytes_eq, if◌then◌else◌, refl, sym, ap, ◌∙◌, subst, arith}
use Rattle.std.proofs.lemmas.Slice.Eq.{bytes_eq-Decides}
use Rattle.core_terms.specs.Types.{Ty}
use Rattle.core_terms.specs.Formats.{Format, Hash, IsHash, IsFormat}
use Rattle.core_terms.specs.Projection.{digest_at, projection, projections, Fits, AllFit, read_at}
use Rattle.core_terms.specs.Reading.{Read, Good, BadAt}
use Rattle.core_terms.specs.RoleTypes.{IsRole, ReadsState}
use Rattle.core_terms.specs.Spelling.{spelling}
use Rattle.core_terms.specs.Terms.{Kind, Program, function_at}
use Rattle.core_terms.specs.TypingRules.{IsTyped}
use Rattle.core_terms.specs.Values.{Value, Values, IsIdeal, AreIdeal}
use Rattle.ideal_meaning.specs.Agreement.{AllOpenedFit, FollowsIdeal, IsRefused, OffersOther, Parts, TookHonest, honest_so_far}
use Rattle.ideal_meaning.specs.Checked.{Cause, Rejected, Taking, Verdict, WrongPiece, before_all, checked, judge, judged, opened, take_piece, with_argument, with_header, with_state}
use Rattle.ideal_meaning.specs.PieceForms.{as_spelled}
use Rattle.ideal_meaning.specs.Frames.{NoMore, Offer, Offers, header, offered, offered_pieces}
use Rattle.ideal_meaning.specs.Headline.{call_values}
use Rattle.ideal_meaning.specs.Ideal.{Opened, Piece, honest_bytes, honest_piece, honest_pieces, ideal}
use Rattle.ideal_meaning.specs.Run.{Ends, Gives, Opening, Refuses, Run, state_of}
use Rattle.ideal_meaning.proofs.Headline.{agreement}
use Rattle.ideal_meaning.proofs.Judged.{split_after}
use Rattle.ideal_meaning.proofs.Opening.{ReadsBack}
use Rattle.ideal_meaning.proofs.Projections.{reads_back}
use Rattle.ideal_meaning.proofs.RoleCalls.{parameters_are}
use Rattle.collision_audit.specs.AuditLaws.{EndsWithTheDifference, FirstDifferAt}
use Rattle.collision_audit.specs.Audits.{unless_split, verdict_on_projections}
use Rattle.collision_audit.specs.Splits.{Split, first_split, left_behind, offered_behind, offered_in, split_from, split_of, split_with}
use Rattle.collision_audit.proofs.FirstSplits.{not_same, splits_somewhere}
use Rattle.collision_audit.proofs.FrontAudits.{behind_header, same_header, same_pieces}

-- the lists differ at one place alone, so what is found there is found in each list that begins alike
found_alike : (hash : Hash) (format : Format) (place i : ℕ) (xs ys : List (List ℕ)) (honest : List Piece) → take (suc i) xs ≡ take (suc i) ys
    → FirstDifferAt xs honest i → split_from hash format place xs honest ≡ split_from hash format place ys honest
found_alike hash format place i [] ys honest same at = elim at [ ]
found_alike hash format place i (x ∷ xs) [] honest same at = absurd (cc (same))
found_alike hash format place i (x ∷ xs) (y ∷ ys) [] same at = elim at [ ]
found_alike hash format place zero (x ∷ xs) (y ∷ ys) (b ∷ honest) same at =
    let e : x ≡ y = cc in
    let Here : List ℕ → Option Split = λ z. if bytes_eq (format.digest hash b.ty z) (format.digest hash b.ty b.bytes) then Some (split_with hash format place b z) else None in
    let other : bytes_eq x b.bytes ≡ false = not_same x b.bytes at in
    ap (λ (t : Bool). if t then split_from hash format (suc place) xs honest else Here x) other
    ∙ (ap Here e ∙ sym (ap (λ (t : Bool). if t then split_from hash format (suc place) ys honest else Here y) (ap (λ z. bytes_eq z b.bytes) (sym e) ∙ other)))
found_alike hash format place (suc i) (x ∷ xs) (y ∷ ys) (b ∷ honest) same at =
    let e : x ≡ y = cc in
    let later : take (suc i) xs ≡ take (suc i) ys = cc in
    let Here : List ℕ → Option Split = λ z. if bytes_eq (format.digest hash b.ty z) (format.digest hash b.ty b.bytes) then Some (split_with hash format place b z) else None in
    let equal : bytes_eq x b.bytes ≡ true = (bytes_eq-Decides x b.bytes).1 at.0 in
    ap (λ (t : Bool). if t then split_from hash format (suc place) xs honest else Here x) equal
    ∙ (found_alike hash format (suc place) i xs ys honest later at.1
    ∙ sym (ap (λ (t : Bool). if t then split_from hash format (suc place) ys honest else Here y) (ap (λ z. bytes_eq z b.bytes) (sym e) ∙ equal)))

-- and each list that begins alike first differs there
differ_alike : (i : ℕ) (xs ys : List (List ℕ)) (honest : List Piece) → take (suc i) xs ≡ take (suc i) ys → FirstDifferAt xs honest i → FirstDifferAt ys honest i
differ_alike i [] ys honest same at = elim at [ ]
differ_alike i (x ∷ xs) [] honest same at = absurd (cc (same))
differ_alike i (x ∷ xs) (y ∷ ys) [] same at = elim at [ ]
differ_alike zero (x ∷ xs) (y ∷ ys) (b ∷ honest) same at = let e : x ≡ y = cc in λ h. at (e ∙ h)
differ_alike (suc i) (x ∷ xs) (y ∷ ys) (b ∷ honest) same at =
    let e : x ≡ y = cc in
    let later : take (suc i) xs ≡ take (suc i) ys = cc in
    (sym e ∙ at.0, differ_alike i xs ys honest later at.1)

-- the same piece is refused for the same cause, whatever stands behind it
same_cause : (hash : Hash) (P : Program) (t : Ty) (want bytes : List ℕ) (place l l' : ℕ) (more more' : Offer) (w w' left left' : Taking) (cause cause' : Cause)
    → take_piece hash P t want place (Offers bytes l more) w ≡ Refuses cause left → take_piece hash P t want place (Offers bytes l' more') w' ≡ Refuses cause' left' → cause ≡ cause'
same_cause hash P t want bytes place l l' more more' w w' left left' cause cause' e e' = by (bytes_eq (digest_at hash P t bytes) want) (read_at P t bytes) e e'
  where
    Taken : Bool → Read Value → ℕ → Offer → Taking → Opening Cause Taking
    Taken b r l more w = if b then opened hash P r place (record { place = suc place; left = l; more = more }) else Refuses (WrongPiece place want (digest_at hash P t bytes)) w

    by : (b : Bool) (r : Read Value) → Taken b r l more w ≡ Refuses cause left → Taken b r l' more' w' ≡ Refuses cause' left' → cause ≡ cause'
    by true (Good v rest end) e e' = cc
    by true (BadAt offset) e e' = cc
    by false r e e' = cc

module _ (hash : Hash) (P : Program) where
  abbrev pieces_of : List Opened → List Piece
  pieces_of seen = map (honest_piece hash P) seen

  -- behind honest pieces the lists differ later, at a place that is counted from there
  behind : (before after : List Opened) (x : Opened) (rest : List (List ℕ)) (i : ℕ) → FirstDifferAt (honest_so_far hash P before ++ rest) (pieces_of (before ++ x ∷ after)) i
      → (m : ℕ) × (i ≡ length before + m) × FirstDifferAt rest (pieces_of (x ∷ after)) m
  behind [] after x rest i at = (i, omega arith, at)
  behind (y ∷ before) after x rest zero at = absurd (at refl)
  behind (y ∷ before) after x rest (suc i) at = let later = behind before after x rest i at.1 in (later.0, omega (arith, later.1), later.2)

  -- lists don't differ where all honest pieces are there
  never : (seen : List Opened) (rest : List (List ℕ)) (i : ℕ) → FirstDifferAt (honest_so_far hash P seen ++ rest) (pieces_of seen) i → ⊥
  never [] [] i at = elim at [ ]
  never [] (p ∷ rest) i at = elim at [ ]
  never (x ∷ seen) rest zero at = at refl
  never (x ∷ seen) rest (suc i) at = never seen rest i at.1

  -- A verdict that rejects, behind honest pieces, the piece that is next, for a value whose digest is held. `m` places further the
  -- lists first differ: where that isn't here, the value isn't within the limits.
  record IsRejected (began : Taking) (seen : List Opened) (i : ℕ) (v : Verdict) : Type 0 where
    before : List Opened
    x : Opened
    after : List Opened
    seen_is : seen ≡ before ++ x ∷ after
    at : Taking
    honest : TookHonest hash P began before at
    m : ℕ
    place_is : i ≡ length before + m
    next : List ℕ
    later : List (List ℕ)
    next_is : offered_pieces at.more ≡ next ∷ later
    cause : Cause
    left : Taking
    refused : take_piece hash P x.ty (digest_at hash P x.ty (honest_bytes hash P x)) at.place at.more at ≡ Refuses cause left
    unfit : 0 < m → Fits P x.ty x.value → ⊥
    verdict_is : v ≡ Rejected cause

  module _ (began : Taking) (run : Run ⊥ (List Opened) Value) (checked_run : Run Cause Taking Value) (i : ℕ) (differ : FirstDifferAt (offered_pieces began.more) (pieces_of (state_of run)) i)
      (none : first_split hash P.format (offered_pieces began.more) (pieces_of (state_of run)) ≡ None) where
    -- the checked run can't follow to the end
    not_followed : (project : Value → Value) (run' : Run ⊥ (List Opened) Value) → FirstDifferAt (offered_pieces began.more) (pieces_of (state_of run')) i → FollowsIdeal hash P project began run' checked_run → ⊥
    not_followed project (Gives v k seen) at (w, is, honest) = never seen (offered_pieces w.more) i (subst (λ ps. FirstDifferAt ps (pieces_of seen) i) honest.pieces at)
    not_followed project (Ends stop k seen) at (w, is, honest) = never seen (offered_pieces w.more) i (subst (λ ps. FirstDifferAt ps (pieces_of seen) i) honest.pieces at)

    -- where the runs part, the piece there has another digest, or the value isn't within the limits
    rejected : Parts hash P began run checked_run → IsRejected began (state_of run) i (judged checked_run)
    rejected p = by p.why
      where
        there : (m : ℕ) × (i ≡ length p.before + m) × FirstDifferAt (offered_pieces p.at.more) (pieces_of (p.x ∷ p.after)) m
        there =
            behind p.before p.after p.x (offered_pieces p.at.more) i
            (subst (λ seen. FirstDifferAt (honest_so_far hash P p.before ++ offered_pieces p.at.more) (pieces_of seen) i) p.seen
            (subst (λ ps. FirstDifferAt ps (pieces_of (state_of run)) i) p.honest.pieces differ))

        first_of : (ps : List (List ℕ)) (m : ℕ) → FirstDifferAt ps (pieces_of (p.x ∷ p.after)) m → (next : List ℕ) × (later : List (List ℕ)) × (ps ≡ next ∷ later) × (0 < m → next ≡ honest_bytes hash P p.x)
        first_of [] m at = elim at [ ]
        first_of (next ∷ later) zero at = (next, later, refl, λ h. absurd (omega (arith, h)))
        first_of (next ∷ later) (suc m) at = (next, later, refl, λ h. at.0)

        first : (next : List ℕ) × (later : List (List ℕ)) × (offered_pieces p.at.more ≡ next ∷ later) × (0 < there.0 → next ≡ honest_bytes hash P p.x)
        first = first_of (offered_pieces p.at.more) there.0 there.2

        no_split : OffersOther hash P p.x p.at → ⊥
        no_split d =
            let split = split_after hash P (as_spelled hash P) p.before p.after p.x d.found d.later d.differs d.one_digest in
            let offers = p.honest.pieces ∙ ap (λ ps. honest_so_far hash P p.before ++ ps) d.next in
            let some = splits_somewhere hash P.format (length p.before) (honest_so_far hash P p.before ++ d.found ∷ d.later) (pieces_of (p.before ++ p.x ∷ p.after)) split in
            let found = ap (λ ps. first_split hash P.format ps (pieces_of (state_of run))) offers
            ∙ (ap (λ seen. first_split hash P.format (honest_so_far hash P p.before ++ d.found ∷ d.later) (pieces_of seen)) p.seen ∙ some.1) in
            cc (found, none)

        by : OffersOther hash P p.x p.at ⊎ IsRefused hash P p.x p.at checked_run → IsRejected began (state_of run) i (judged checked_run)
        by (inl d) = absurd (no_split d)
        by (inr r) =
            record {
              before = p.before;
              x = p.x;
              after = p.after;
              seen_is = p.seen;
              at = p.at;
              honest = p.honest;
              m = there.0;
              place_is = there.1;
              next = first.0;
              later = first.1;
              next_is = first.2;
              cause = r.cause;
              left = r.left;
              refused = r.refused;
              unfit = λ h. (r.only first.1 (first.2 ∙ ap (λ next. next ∷ first.1) (first.3 h))).2;
              verdict_is = ap judged r.is;
            }

  -- two ways to part one list: at one place, or one part stands in what the other has before
  parted : (b b' a a' : List Opened) (x x' : Opened) → b ++ x ∷ a ≡ b' ++ x' ∷ a'
      → ((b ≡ b') × (x ≡ x')) ⊎ (((length b < length b') × (AllOpenedFit P b' → Fits P x.ty x.value)) ⊎ ((length b' < length b) × (AllOpenedFit P b → Fits P x'.ty x'.value)))
  parted [] [] a a' x x' e = let same : x ≡ x' = cc in inl (refl, same)
  parted [] (y ∷ b') a a' x x' e = let same : y ≡ x = cc in inr (inl (omega arith, λ fit. subst (λ (o : Opened). Fits P o.ty o.value) same fit.0))
  parted (y ∷ b) [] a a' x x' e = let same : y ≡ x' = cc in inr (inr (omega arith, λ fit. subst (λ (o : Opened). Fits P o.ty o.value) same fit.0))
  parted (y ∷ b) (y' ∷ b') a a' x x' e = by (parted b b' a a' x x' later)
    where
      same : y ≡ y'
      same = cc

      later : b ++ x ∷ a ≡ b' ++ x' ∷ a'
      later = cc

      by : ((b ≡ b') × (x ≡ x')) ⊎ (((length b < length b') × (AllOpenedFit P b' → Fits P x.ty x.value)) ⊎ ((length b' < length b) × (AllOpenedFit P b → Fits P x'.ty x'.value)))
          → ((y ∷ b ≡ y' ∷ b') × (x ≡ x')) ⊎ (((length (y ∷ b) < length (y' ∷ b')) × (AllOpenedFit P (y' ∷ b') → Fits P x.ty x.value)) ⊎ ((length (y' ∷ b') < length (y ∷ b)) × (AllOpenedFit P (y ∷ b) → Fits P x'.ty x'.value)))
      by (inl h) = inl (cc (same, h.0), h.1)
      by (inr (inl h)) = inr (inl (omega (arith, h.0), λ fit. h.1 fit.1))
      by (inr (inr h)) = inr (inr (omega (arith, h.0), λ fit. h.1 fit.1))

  -- the piece behind the same honest ones is the same in lists that begin alike
  next_alike : (before : List Opened) (i m : ℕ) (p p' : List ℕ) (later later' : List (List ℕ)) → i ≡ length before + m
      → take (suc i) (honest_so_far hash P before ++ p ∷ later) ≡ take (suc i) (honest_so_far hash P before ++ p' ∷ later') → p ≡ p'
  next_alike [] i m p p' later later' is same = cc
  next_alike (y ∷ before) zero m p p' later later' is same = absurd (omega (arith, is))
  next_alike (y ∷ before) (suc i) m p p' later later' is same =
      let tail : take (suc i) (honest_so_far hash P before ++ p ∷ later) ≡ take (suc i) (honest_so_far hash P before ++ p' ∷ later') = cc in
      next_alike before i m p p' later later' (omega (arith, is)) tail

  -- a taking of which the next piece is known
  refused_at : (t : Ty) (want next : List ℕ) (later : List (List ℕ)) (place : ℕ) (more : Offer) (w left : Taking) (cause : Cause) → offered_pieces more ≡ next ∷ later
      → take_piece hash P t want place more w ≡ Refuses cause left → (l : ℕ) × (behind : Offer) × (take_piece hash P t want place (Offers next l behind) w ≡ Refuses cause left)
  refused_at t want next later place (NoMore e) w left cause none r = absurd (cc (none))
  refused_at t want next later place (Offers bytes l behind) w left cause is r =
      let same : bytes ≡ next = cc in (l, behind, subst (λ (bytes : List ℕ). take_piece hash P t want place (Offers bytes l behind) w ≡ Refuses cause left) same r)

  module _ (began began' : Taking) (seen : List Opened) (i : ℕ) (v v' : Verdict) (starts : began.place ≡ began'.place)
      (same : take (suc i) (offered_pieces began.more) ≡ take (suc i) (offered_pieces began'.more)) where
    at_one : (r : IsRejected began seen i v) (r' : IsRejected began' seen i v') → r.before ≡ r'.before → r.x ≡ r'.x → v ≡ v'
    at_one r r' before x =
        let place : r.at.place ≡ r'.at.place = r.honest.place ∙ (ap (λ (s : List Opened). began.place + length s) before ∙ (ap (λ n. n + length r'.before) starts ∙ sym r'.honest.place)) in
        let pieces = r.honest.pieces ∙ ap (λ ps. honest_so_far hash P r.before ++ ps) r.next_is in
        let pieces' = r'.honest.pieces ∙ ap (λ ps. honest_so_far hash P r'.before ++ ps) r'.next_is ∙ ap (λ (s : List Opened). honest_so_far hash P s ++ r'.next ∷ r'.later) (sym before) in
        let next : r.next ≡ r'.next = next_alike r.before i r.m r.next r'.next r.later r'.later r.place_is (ap (take (suc i)) (sym pieces) ∙ (same ∙ ap (take (suc i)) pieces')) in
        let one = refused_at r.x.ty (digest_at hash P r.x.ty (honest_bytes hash P r.x)) r.next r.later r.at.place r.at.more r.at r.left r.cause r.next_is r.refused in
        let two = refused_at r'.x.ty (digest_at hash P r'.x.ty (honest_bytes hash P r'.x)) r'.next r'.later r'.at.place r'.at.more r'.at r'.left r'.cause r'.next_is r'.refused in
        let Two : Opened → List ℕ → ℕ → Type 0 = λ x next place. take_piece hash P x.ty (digest_at hash P x.ty (honest_bytes hash P x)) place (Offers next two.0 two.1) r'.at ≡ Refuses r'.cause r'.left in
        let moved : Two r.x r.next r.at.place =
        subst (λ (x : Opened). Two x r.next r.at.place) (sym x) (subst (λ (next : List ℕ). Two r'.x next r.at.place) (sym next) (subst (λ (place : ℕ). Two r'.x r'.next place) (sym place) two.2)) in
        let cause = same_cause hash P r.x.ty (digest_at hash P r.x.ty (honest_bytes hash P r.x)) r.next r.at.place one.0 two.0 one.1 two.1 r.at r'.at r.left r'.left r.cause r'.cause one.2 moved in
        r.verdict_is ∙ (ap Rejected cause ∙ sym r'.verdict_is)

    same_rejection : IsRejected began seen i v → IsRejected began' seen i v' → v ≡ v'
    same_rejection r r' = by (parted r.before r'.before r.after r'.after r.x r'.x (sym r.seen_is ∙ r'.seen_is))
      where
        by : ((r.before ≡ r'.before) × (r.x ≡ r'.x)) ⊎ (((length r.before < length r'.before) × (AllOpenedFit P r'.before → Fits P r.x.ty r.x.value)) ⊎ ((length r'.before < length r.before) × (AllOpenedFit P r.before → Fits P r'.x.ty r'.x.value))) → v ≡ v'
        by (inl h) = at_one r r' h.0 h.1
        by (inr (inl h)) = absurd (r.unfit (omega (arith, h.0, r.place_is, r'.place_is)) (h.1 r'.honest.fit))
        by (inr (inr h)) = absurd (r'.unfit (omega (arith, h.0, r.place_is, r'.place_is)) (h.1 r.honest.fit))

-- Two strings of frames that offer alike up to the first difference, where the digests differ: one verdict.
module _ (hash : Hash) (is_hash : IsHash hash) (P : Program) (format : IsFormat P.format) (typed : IsTyped P) (f : ℕ) (args : Values) (k : ℕ)
    (ideals : AreIdeal P.types (function_at P f).parameters args) (fits : AllFit P (function_at P f).parameters args) where
  abbrev seen : List Opened
  seen = state_of (ideal P f args k)

  judged_rejected : (bytes : List ℕ) (n i : ℕ) → FirstDifferAt (offered_pieces (offered P.format.limit bytes n [])) (pieces_of hash P seen) i
      → first_split hash P.format (offered_pieces (offered P.format.limit bytes n [])) (pieces_of hash P seen) ≡ None
      → IsRejected hash P (before_all (length bytes) (offered P.format.limit bytes n [])) seen i (judge hash P f (projections hash P (function_at P f).parameters args) k bytes n [])
  judged_rejected bytes n i differ none = by (agreement hash is_hash P format typed f args k began ideals fits)
    where
      began : Taking
      began = before_all (length bytes) (offered P.format.limit bytes n [])

      run' : Run Cause Taking Value
      run' = checked hash P f (projections hash P (function_at P f).parameters args) k began

      by : FollowsIdeal hash P (projection hash P (function_at P f).result) began (ideal P f args k) run' ⊎ Parts hash P began (ideal P f args k) run' → IsRejected hash P began seen i (judged run')
      by (inl follows) = absurd (not_followed hash P began (ideal P f args k) run' i differ none (projection hash P (function_at P f).result) (ideal P f args k) differ follows)
      by (inr parts) = rejected hash P began (ideal P f args k) run' i differ none parts

  one_judgement : (bytes bytes' : List ℕ) (n i : ℕ) → take (suc i) (offered_pieces (offered P.format.limit bytes n [])) ≡ take (suc i) (offered_pieces (offered P.format.limit bytes' n []))
      → FirstDifferAt (offered_pieces (offered P.format.limit bytes n [])) (pieces_of hash P seen) i
      → first_split hash P.format (offered_pieces (offered P.format.limit bytes n [])) (pieces_of hash P seen) ≡ None
      → judge hash P f (projections hash P (function_at P f).parameters args) k bytes n [] ≡ judge hash P f (projections hash P (function_at P f).parameters args) k bytes' n []
  one_judgement bytes bytes' n i same differ none =
      let offers = offered_pieces (offered P.format.limit bytes n []) in
      let offers' = offered_pieces (offered P.format.limit bytes' n []) in
      let none' = sym (found_alike hash P.format 0 i offers offers' (pieces_of hash P seen) same differ) ∙ none in
      same_rejection hash P (before_all (length bytes) (offered P.format.limit bytes n [])) (before_all (length bytes') (offered P.format.limit bytes' n [])) seen i _ _ refl same
      (judged_rejected bytes n i differ none) (judged_rejected bytes' n i (differ_alike i offers offers' (pieces_of hash P seen) same differ) none')

-- The verdicts on two proof files with one good header.
module _ (hash : Hash) (is_hash : IsHash hash) (P : Program) (format : IsFormat P.format) (typed : IsTyped P)
    (f : ℕ) (kind : Kind) (t answer : Ty) (role : IsRole P f kind t answer) (reads : ReadsState kind)
    (state argument : Value) (state_ideal : IsIdeal P.types P.state state) (argument_ideal : IsIdeal P.types t argument)
    (k : ℕ) (bytes bytes' : List ℕ) (n i : ℕ) (good : header P.format bytes ≡ Some n) (good' : header P.format bytes' ≡ Some n)
    (same : take (suc i) (offered_in P.format bytes) ≡ take (suc i) (offered_in P.format bytes'))
    (differ : FirstDifferAt (offered_in P.format bytes) (honest_pieces hash P f (call_values state argument) k) i)
    (none : split_of hash P f state argument k bytes ≡ None) where
  abbrev s : Value
  s = projection hash P P.state state

  abbrev a : Value
  a = projection hash P t argument

  -- what is offered behind the header
  offers : (bytes : List ℕ) → header P.format bytes ≡ Some n → offered_in P.format bytes ≡ offered_pieces (offered P.format.limit (drop 6 bytes) n [])
  offers bytes good = ap (λ h. offered_behind P.format h bytes) good

  at_frames : Fits P P.state state → Fits P t argument → judge hash P f (call_values s a) k (drop 6 bytes) n [] ≡ judge hash P f (call_values s a) k (drop 6 bytes') n []
  at_frames state_fits argument_fits =
      let shape = parameters_are P f kind t answer role reads in
      let ideals : AreIdeal P.types (function_at P f).parameters (call_values state argument) = subst (λ ts. AreIdeal P.types ts (call_values state argument)) (sym shape) (state_ideal, (argument_ideal, tt)) in
      let fits : AllFit P (function_at P f).parameters (call_values state argument) = subst (λ ts. AllFit P ts (call_values state argument)) (sym shape) (state_fits, (argument_fits, tt)) in
      let one = one_judgement hash is_hash P format typed f (call_values state argument) k ideals fits (drop 6 bytes) (drop 6 bytes') n i
      (ap (take (suc i)) (sym (offers bytes good)) ∙ (same ∙ ap (take (suc i)) (offers bytes' good')))
      (subst (λ ps. FirstDifferAt ps (honest_pieces hash P f (call_values state argument) k) i) (offers bytes good) differ)
      (ap (λ ps. first_split hash P.format ps (honest_pieces hash P f (call_values state argument) k)) (sym (offers bytes good)) ∙ none) in
      subst (λ ts. judge hash P f (projections hash P ts (call_values state argument)) k (drop 6 bytes) n [] ≡ judge hash P f (projections hash P ts (call_values state argument)) k (drop 6 bytes') n []) shape one

  at_argument : Fits P P.state state → ReadsBack hash P t argument → with_argument hash P s (read_at P t (spelling a)) f k bytes ≡ with_argument hash P s (read_at P t (spelling a)) f k bytes'
  at_argument state_fits (inr refused) =
      ap (λ r. with_argument hash P s r f k bytes) refused.1.1 ∙ sym (ap (λ r. with_argument hash P s r f k bytes') refused.1.1)
  at_argument state_fits (inl back) =
      ap (λ r. with_argument hash P s r f k bytes) back.1.1
      ∙ (ap (λ h. with_header hash P h f (call_values s a) k bytes) good
      ∙ (at_frames state_fits back.0
      ∙ sym (ap (λ r. with_argument hash P s r f k bytes') back.1.1 ∙ ap (λ h. with_header hash P h f (call_values s a) k bytes') good')))

  at_state : ReadsBack hash P P.state state → verdict_on_projections hash P t f state argument k bytes ≡ verdict_on_projections hash P t f state argument k bytes'
  at_state (inr refused) = ap (λ r. with_state hash P t r (spelling a) f k bytes) refused.1.1 ∙ sym (ap (λ r. with_state hash P t r (spelling a) f k bytes') refused.1.1)
  at_state (inl back) =
      ap (λ r. with_state hash P t r (spelling a) f k bytes) back.1.1
      ∙ (at_argument back.0 (reads_back hash is_hash P format t argument argument_ideal) ∙ sym (ap (λ r. with_state hash P t r (spelling a) f k bytes') back.1.1))

  one_verdict : verdict_on_projections hash P t f state argument k bytes ≡ verdict_on_projections hash P t f state argument k bytes'
  one_verdict = at_state (reads_back hash is_hash P format P.state state state_ideal)

pub ends_with_the_difference : EndsWithTheDifference
ends_with_the_difference hash is_hash P format typed f kind t answer role reads state argument state_ideal argument_ideal k front more other i differ left =
    by (split_of hash P f state argument k (front ++ more)) refl
  where
    head : (n : ℕ) × (header P.format (front ++ more) ≡ Some n) × (left_behind (offered P.format.limit (drop 6 (front ++ more)) n []) i ≡ Some (length more))
    head = behind_header (header P.format (front ++ more)) (λ n. left_behind (offered P.format.limit (drop 6 (front ++ more)) n []) i) (length more) left

    same : take (suc i) (offered_in P.format (front ++ more)) ≡ take (suc i) (offered_in P.format (front ++ other))
    same = same_pieces P.format front more other i head.0 head.1 head.2

    found : split_of hash P f state argument k (front ++ more) ≡ split_of hash P f state argument k (front ++ other)
    found = found_alike hash P.format 0 i (offered_in P.format (front ++ more)) (offered_in P.format (front ++ other)) (honest_pieces hash P f (call_values state argument) k) same differ

    by : (o : Option Split) → split_of hash P f state argument k (front ++ more) ≡ o
        → unless_split (split_of hash P f state argument k (front ++ other)) (verdict_on_projections hash P t f state argument k (front ++ other))
        ≡ unless_split (split_of hash P f state argument k (front ++ more)) (verdict_on_projections hash P t f state argument k (front ++ more))
    by (Some s) e =
        ap (λ o. unless_split o (verdict_on_projections hash P t f state argument k (front ++ other))) (sym found ∙ e)
        ∙ sym (ap (λ o. unless_split o (verdict_on_projections hash P t f state argument k (front ++ more))) e)
    by None e =
        ap (λ o. unless_split o (verdict_on_projections hash P t f state argument k (front ++ other))) (sym found)
        ∙ sym (ap (unless_split (split_of hash P f state argument k (front ++ more)))
        (one_verdict hash is_hash P format typed f kind t answer role reads state argument state_ideal argument_ideal k (front ++ more) (front ++ other) head.0 i head.1 (same_header P.format front more other i head.0 head.1 head.2) same differ e))
