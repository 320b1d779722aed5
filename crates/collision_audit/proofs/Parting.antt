-- One honest piece compared with the next that is offered.
use Rattle.std.proofs.Common.{◌≡◌, ℕ, zero, suc, ◌+◌, ◌<◌, ◌≤◌, Bool, false, List, [], ◌∷◌, length, map, get_or, drop, Option, Some, None, Result, Ok, Err, IfOk, bytes_eq, if◌then◌else◌, refl, sym, ap, ◌∙◌, subst, arith}
use Rattle.std.specs.Option.{option_and_then}
use Rattle.std.specs.Prelude.{Vec}
use Rattle.std.specs.declared.alloc.Global.{Global}
use Rattle.std.proofs.lemmas.List.{drop_all}
use Rattle.std.proofs.lemmas.Slice.Eq.{bytes_eq-Decides}
use Rattle.core_terms.specs.Types.{Ty}
use Rattle.core_terms.specs.Formats.{Format, Hash}
use Rattle.core_terms.specs.ProgramTypes.{types_by_number, types_meaning}
use Rattle.core_terms.specs.Projection.{digest_at, projection}
use Rattle.core_terms.specs.Spelling.{spelling}
use Rattle.core_terms.specs.TypeTables.{type_at}
use Rattle.core_terms.specs.declared.cause.Cause.{Cause}
use Rattle.core_terms.specs.declared.cause.Cause.TheVariants as cause
use Rattle.core_terms.specs.declared.program_types.Types.{Types}
use Rattle.ideal_meaning.specs.Checked.{Rejected, cause_of, with_rest}
use Rattle.ideal_meaning.specs.Frames.{End, NoByte, IsCut, KindIs, LongBy, UseIs, Lacks, Breaks, Offer, Offers, offered}
use Rattle.ideal_meaning.specs.Ideal.{Outcome, Piece, honest_bytes, honest_piece}
use Rattle.ideal_meaning.specs.Ideal as ideal
use Rattle.ideal_meaning.specs.Told.{cause_told}
use Rattle.reuse_buffer.specs.Kept.{Kept, kept}
use Rattle.core_terms.specs.Values.{Value}
use Rattle.value_store.specs.Nodes.{Node}
use Rattle.value_store.specs.Standing.{ProverNodes, StandsFor}
use Rattle.collision_audit.specs.Audits.{Audit, Judges}
use Rattle.collision_audit.proofs.FirstSplits.{not_same}
use Rattle.collision_audit.specs.Splits.{left_behind}
use Rattle.collision_audit.specs.AuditsInCode.{AreLeft, StopsBehind}
use Rattle.collision_audit.specs.Comparing.{Compares, ComparesAll, IsAhead, IsCounted, TakesPiece, TellsDifference}
use Rattle.collision_audit.specs.PieceAudits.{audit_file, audit_from, differing}
use Rattle.prover_mode.specs.Seen.{AreSeen, IsSeen}
use Rattle.collision_audit.specs.declared.audited.AuditFault.{AuditFault}
use Rattle.collision_audit.specs.declared.audited.Audited.{Audited}
use Rattle.collision_audit.specs.declared.audited.Audited.TheVariants as audited
use Rattle.collision_audit.specs.declared.offers.Offered.{Offered}
use Rattle.collision_audit.specs.declared.offers.Offered.TheVariants.{Same, Other, Ended}
use Rattle.prover_mode.specs.declared.opened.Opened.{Opened}

pub ok_too : {T E : Type 0} (result : Result T E) (A B : T → Type 0) → ((x : T) → A x → B x) → IfOk result A → IfOk result B
ok_too (Ok x) A B f h = f x h
ok_too (Err e) A B f h = h

-- the i-th node that was opened stands for the i-th value
module _ (hash : Hash) (types : Types) (nodes : List Node) where
  pub seen_at : (opened : List Opened) (seen : List ideal.Opened) (i : ℕ) (d : Opened) → AreSeen hash types nodes opened seen → i < length opened
      → (s : ideal.Opened) × (drop i seen ≡ s ∷ drop (i + 1) seen) × IsSeen hash types nodes (get_or opened i d) s
  seen_at [] seen i d h inside = absurd (omega (arith, inside))
  seen_at (o ∷ os) [] i d h inside = elim h [ ]
  seen_at (o ∷ os) (s ∷ seen) zero d h inside = (s, refl, h.0)
  seen_at (o ∷ os) (s ∷ seen) (suc i) d h inside =
      let r = seen_at os seen i d h.1 (omega (arith, inside)) in
      let count : suc (i + 1) ≡ suc i + 1 = omega arith in
      (r.0, r.1 ∙ ap (λ n. r.0 ∷ drop n (s ∷ seen)) count, r.2)

  pub seen_end : (opened : List Opened) (seen : List ideal.Opened) (i : ℕ) → AreSeen hash types nodes opened seen → length opened ≤ i → drop i seen ≡ []
  seen_end [] [] i h all = drop_all i [] (omega arith)
  seen_end [] (s ∷ seen) i h all = elim h [ ]
  seen_end (o ∷ os) [] i h all = elim h [ ]
  seen_end (o ∷ os) (s ∷ seen) zero h all = absurd (omega (arith, all))
  seen_end (o ∷ os) (s ∷ seen) (suc i) h all = seen_end os seen i h.1 (omega (arith, all))

  -- the node stands for it, at the type with the number
  pub stands_seen : (x : Opened) (s : ideal.Opened) → IsSeen hash types nodes x s
      → (v : Value) × StandsFor (ProverNodes (digest_at hash (types_meaning types))) (types_meaning types).types nodes x.value.0 (type_at (types_by_number types) x.ty) v
  stands_seen x s is =
      let Stood : Ty → Type 0 = λ t. StandsFor (ProverNodes (digest_at hash (types_meaning types))) (types_meaning types).types nodes x.value.0 t s.value in
      (s.value, subst Stood is.at is.stands)

  -- what is spelled of the node is the honest piece
  pub honest_is : (x : Opened) (s : ideal.Opened) (bytes : List ℕ) → IsSeen hash types nodes x s
      → ((v : Value) → StandsFor (ProverNodes (digest_at hash (types_meaning types))) (types_meaning types).types nodes x.value.0 (type_at (types_by_number types) x.ty) v
      → bytes ≡ spelling (projection hash (types_meaning types) (type_at (types_by_number types) x.ty) v))
      → bytes ≡ honest_bytes hash (types_meaning types) s
  honest_is x s bytes is h =
      let Stood : Ty → Type 0 = λ t. StandsFor (ProverNodes (digest_at hash (types_meaning types))) (types_meaning types).types nodes x.value.0 t s.value in
      h s.value (subst Stood is.at is.stands) ∙ ap (λ t. spelling (projection hash (types_meaning types) t s.value)) (sym is.at)

-- where a piece is no frame's, nothing is said of what is left
stops_ended : (behind : ℕ → Option ℕ) (left : Option (List ℕ)) (c : Cause) (e : End) (place : ℕ) (want : List ℕ) → cause_told c ≡ cause_of e place want → StopsBehind behind left (audited.Rejected c)
stops_ended behind left (cause.WrongPiece i want found) NoByte place w h = absurd (cc (h))
stops_ended behind left (cause.WrongPiece i want found) IsCut place w h = absurd (cc (h))
stops_ended behind left (cause.WrongPiece i want found) (KindIs b) place w h = absurd (cc (h))
stops_ended behind left (cause.WrongPiece i want found) (LongBy len) place w h = absurd (cc (h))
stops_ended behind left (cause.WrongPiece i want found) (UseIs k held) place w h = absurd (cc (h))
stops_ended behind left (cause.WrongPiece i want found) Lacks place w h = absurd (cc (h))
stops_ended behind left (cause.WrongPiece i want found) (Breaks wire) place w h = absurd (cc (h))
stops_ended behind left cause.Header e place w h = tt
stops_ended behind left (cause.Short i) e place w h = tt
stops_ended behind left (cause.BadKind i byte) e place w h = tt
stops_ended behind left (cause.Cut i) e place w h = tt
stops_ended behind left (cause.PieceLong i len) e place w h = tt
stops_ended behind left (cause.BadUse i k held) e place w h = tt
stops_ended behind left (cause.BadPiece i offset) e place w h = tt
stops_ended behind left (cause.Leftover bytes) e place w h = tt

-- Behind i honest pieces, `later` are the honest ones to come. The audit from the first piece on is the one from here on, and so many
-- bytes are left behind each piece.
pub record Stands (hash : Hash) (format : Format) (honest : List Piece) (count : ℕ) (o : Offer) (i : ℕ) (later : List Piece) (limit : ℕ) (ring : Kept) (left : Option (List ℕ)) : Type 0 where
  pub bytes_left : ℕ
  pub offer : Offer
  pub ahead : IsAhead limit ring left bytes_left offer
  pub audit : (outcome : Outcome) → audit_from hash format outcome 0 honest count o ≡ audit_from hash format outcome i later bytes_left offer
  pub behind : (j : ℕ) → left_behind o (i + j) ≡ left_behind offer j

module _ (hash : Hash) (format : Format) (honest : List Piece) (count : ℕ) (o : Offer) (i : ℕ) (limit : ℕ) (ring : Kept) (left : Option (List ℕ)) where
  abbrev Audit_now : Outcome → Audit
  Audit_now outcome = audit_from hash format outcome 0 honest count o

  -- all honest pieces were offered
  pub stands_last : Stands hash format honest count o i [] limit ring left → Compares Audit_now (left_behind o) left (Ok None)
  stands_last s = (s.ahead.bytes, s.ahead.told, λ outcome. s.audit outcome ∙ ap (λ n. Judges (with_rest outcome n)) s.ahead.counted)

  module _ (b : Piece) (later : List Piece) (s : Stands hash format honest count o i (b ∷ later) limit ring left) (limit' : ℕ) (ring' : Kept) (left' : Option (List ℕ)) where
    compared : (outcome : Outcome) (a : List ℕ) (n : ℕ) (more : Offer) → s.offer ≡ Offers a n more
        → Audit_now outcome ≡ (if bytes_eq a b.bytes then audit_from hash format outcome (suc i) later n more else differing hash format i b a)
    compared outcome a n more e = s.audit outcome ∙ ap (λ offer. audit_from hash format outcome i (b ∷ later) s.bytes_left offer) e

    -- what was taken, in these words
    pub taken : (place : ℕ) (bytes : List ℕ) (found found' : Offered) → place ≡ i → bytes ≡ b.bytes → found ≡ found' → TakesPiece place bytes s.offer limit' ring' left' (Ok found)
        → TakesPiece i b.bytes s.offer limit' ring' left' (Ok found')
    taken place bytes found found' at same is takes =
        subst (λ found. TakesPiece i b.bytes s.offer limit' ring' left' (Ok found)) is
        (subst (λ bytes. TakesPiece i bytes s.offer limit' ring' left' (Ok found)) same
        (subst (λ place. TakesPiece place bytes s.offer limit' ring' left' (Ok found)) at takes))

    -- the honest piece is offered
    next_one : TakesPiece i b.bytes s.offer limit' ring' left' (Ok Same) → Stands hash format honest count o (suc i) later limit' ring' left'
    next_one (n, more, e, ahead) = record {
      bytes_left = n;
      offer = more;
      ahead = ahead;
      audit = λ outcome. compared outcome b.bytes n more e ∙ ap (λ (t : Bool). if t then audit_from hash format outcome (suc i) later n more else differing hash format i b b.bytes) ((bytes_eq-Decides b.bytes b.bytes).1 refl);
      behind = λ j. let count : suc i + j ≡ i + suc j = omega arith in ap (left_behind o) count ∙ (s.behind (suc j) ∙ ap (λ offer. left_behind offer (suc j)) e);
    }

    pub stands_next : TakesPiece i b.bytes s.offer limit' ring' left' (Ok Same) → Stands hash format honest count o (i + 1) later limit' ring' left'
    stands_next takes = let one : suc i ≡ i + 1 = omega arith in subst (λ i. Stands hash format honest count o i later limit' ring' left') one (next_one takes)

    -- another piece is offered
    pub stands_other : (piece : Vec ℕ Global) (answer : Audited) → TakesPiece i b.bytes s.offer limit' ring' left' (Ok (Other piece)) → TellsDifference (differing hash format i b piece.items) answer
        → ((behind : ℕ → Option ℕ) (left : Option (List ℕ)) → AreLeft (behind i) left → StopsBehind behind left answer)
        → Compares Audit_now (left_behind o) left' (Ok (Some answer))
    stands_other piece answer (n, more, e, differs, (rest, told, is)) tells stops =
        let apart : bytes_eq piece.items b.bytes ≡ false = not_same piece.items b.bytes differs in
        let here = λ (outcome : Outcome). compared outcome piece.items n more e ∙ ap (λ (t : Bool). if t then audit_from hash format outcome (suc i) later n more else differing hash format i b piece.items) apart in
        let at : i ≡ i + 0 = omega arith in
        (λ outcome. subst (λ a. TellsDifference a answer) (sym (here outcome)) tells, stops (left_behind o) left' (rest, told, ap (left_behind o) at ∙ (s.behind 0 ∙ (ap (λ offer. left_behind offer 0) e ∙ is))))

    -- no piece is offered
    pub stands_ended : (c : Cause) → TakesPiece i b.bytes s.offer limit' ring' left' (Ok (Ended c)) → Compares Audit_now (left_behind o) left' (Ok (Some (audited.Rejected c)))
    stands_ended c (e, is, told) =
        (λ outcome. s.audit outcome ∙ (ap (λ offer. audit_from hash format outcome i (b ∷ later) s.bytes_left offer) is ∙ ap (λ c. Judges (Rejected c)) (sym (told (format.digest hash b.ty b.bytes)))), stops_ended (left_behind o) left' c e i [] (told []))

-- The i-th value that was opened, against what was taken for it.
module _ (hash : Hash) (types : Types) (nodes : List Node) (opened : List Opened) (seen : List ideal.Opened) (count : ℕ) (o : Offer) (i : ℕ) (limit : ℕ) (ring : Kept) (left : Option (List ℕ))
    (h : AreSeen hash types nodes opened seen) (inside : i < length opened) (d : Opened) where
  abbrev format : Format
  format = (types_meaning types).format

  abbrev pieces : List ideal.Opened → List Piece
  pieces seen = map (honest_piece hash (types_meaning types)) seen

  abbrev node : Opened
  node = get_or opened i d

  abbrev pub SpelledOf : List ℕ → Type 0
  SpelledOf bytes =
      (v : Value) → StandsFor (ProverNodes (digest_at hash (types_meaning types))) (types_meaning types).types nodes node.value.0 (type_at (types_by_number types) node.ty) v
      → bytes ≡ spelling (projection hash (types_meaning types) (type_at (types_by_number types) node.ty) v)

  module _ (stands : Stands hash format (pieces seen) count o i (pieces (drop i seen)) limit ring left) (place : ℕ) (here : place ≡ i) (bytes lent : List ℕ) (spelled : SpelledOf bytes)
      (same : lent ≡ bytes)
      (limit' : ℕ) (ring' : Kept) (left' : Option (List ℕ)) (found : Offered)
      (takes : (n : ℕ) (offer : Offer) → IsAhead limit ring left n offer → TakesPiece place lent offer limit' ring' left' (Ok found)) where
    at : (x : ideal.Opened) × (drop i seen ≡ x ∷ drop (i + 1) seen) × IsSeen hash types nodes node x
    at = seen_at hash types nodes opened seen i d h inside

    abbrev b : Piece
    b = honest_piece hash (types_meaning types) at.0

    abbrev later : List Piece
    later = pieces (drop (i + 1) seen)

    now : Stands hash format (pieces seen) count o i (b ∷ later) limit ring left
    now = subst (λ l. Stands hash format (pieces seen) count o i (pieces l) limit ring left) at.1 stands

    honest : bytes ≡ b.bytes
    honest = honest_is hash types nodes node at.0 bytes at.2 spelled

    took : (found' : Offered) → found ≡ found' → TakesPiece i b.bytes now.offer limit' ring' left' (Ok found')
    took found' is = taken hash format (pieces seen) count o i limit ring left b later now limit' ring' left' place lent found found' here (same ∙ honest) is (takes now.bytes_left now.offer now.ahead)

    pub goes_on : found ≡ Same → Stands hash format (pieces seen) count o (i + 1) later limit' ring' left'
    goes_on is = stands_next hash format (pieces seen) count o i limit ring left b later now limit' ring' left' (took Same is)

    pub parts : (piece : Vec ℕ Global) (answer : Audited) → found ≡ Other piece → TellsDifference (differing hash format place (record { ty = type_at (types_by_number types) node.ty; bytes = bytes }) piece.items) answer
        → ((behind : ℕ → Option ℕ) (left : Option (List ℕ)) → AreLeft (behind place) left → StopsBehind behind left answer)
        → Compares (λ outcome. audit_from hash format outcome 0 (pieces seen) count o) (left_behind o) left' (Ok (Some answer))
    parts piece answer is tells stops =
        let typed = subst (λ t. TellsDifference (differing hash format place (record { ty = t; bytes = bytes }) piece.items) answer) (sym at.2.at) tells in
        let told = subst (λ place. TellsDifference (differing hash format place b piece.items) answer) here
        (subst (λ bytes. TellsDifference (differing hash format place (record { ty = b.ty; bytes = bytes }) piece.items) answer) honest typed) in
        stands_other hash format (pieces seen) count o i limit ring left b later now limit' ring' left' piece answer (took (Other piece) is) told
        (λ behind left stood. stops behind left (subst (λ place. AreLeft (behind place) left) (sym here) stood))

    pub has_none : (c : Cause) → found ≡ Ended c → Compares (λ outcome. audit_from hash format outcome 0 (pieces seen) count o) (left_behind o) left' (Ok (Some (audited.Rejected c)))
    has_none c is = stands_ended hash format (pieces seen) count o i limit ring left b later now limit' ring' left' c (took (Ended c) is)

-- the same to the end of the source
pub counted : (audit : Outcome → Audit) (behind : ℕ → Option ℕ) (left left' : Option (List ℕ)) (result : Result (Option Audited) AuditFault) (h : Compares audit behind left (Ok None))
    → IsCounted h.0 left' result
    → ComparesAll audit behind left' result
counted audit behind left left' (Ok None) h c = (c.1, λ outcome. h.2 outcome ∙ ap (λ bytes. Judges (with_rest outcome (length bytes))) c.0)
counted audit behind left left' (Ok (Some answer)) h c = (λ outcome. subst (λ a. TellsDifference a answer) (sym (h.2 outcome)) (c.0 outcome), c.1 behind)
counted audit behind left left' (Err e) h c = tt

-- a file with a good header is its frames, and one without is told
module _ (hash : Hash) (format : Format) (honest : List Piece) (bytes : List ℕ) (left : Option (List ℕ)) where
  abbrev pub FileCompares : Option ℕ → Result (Option Audited) AuditFault → Type 0
  FileCompares size result = ComparesAll (λ o. audit_file hash format o honest size bytes) (λ i. option_and_then (λ n. left_behind (offered format.limit (drop 6 bytes) n []) i) size) left result

  pub good_file : (size : Option ℕ) (n : ℕ) (result : Result (Option Audited) AuditFault) → size ≡ Some n
      → ComparesAll (λ o. audit_from hash format o 0 honest (length (drop 6 bytes)) (offered format.limit (drop 6 bytes) n [])) (left_behind (offered format.limit (drop 6 bytes) n [])) left result
      → FileCompares size result
  good_file size n result e h = subst (λ size. FileCompares size result) (sym e) h

  pub bad_file : (size : Option ℕ) → size ≡ None → FileCompares size (Ok (Some (audited.Rejected cause.Header)))
  bad_file size e = subst (λ size. FileCompares size (Ok (Some (audited.Rejected cause.Header)))) (sym e) (λ outcome. refl, tt)

-- a ring without pieces, ahead of all frames
pub ahead_first : (limit limit' : ℕ) (ring : Kept) (left : Option (List ℕ)) (bytes : List ℕ) → limit' ≡ limit → ring ≡ kept ring.size [] → left ≡ Some bytes
    → IsAhead limit' ring left (length bytes) (offered limit bytes ring.size [])
ahead_first limit limit' ring left bytes same holds told =
    record { bytes = bytes; recent = []; told = told; holds = holds; counted = refl; is = ap (λ limit. offered limit bytes ring.size []) (sym same) }
