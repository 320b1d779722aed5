-- The link that `draw` made, and the answers that came on it: for `judge_on`, `draw`.
use Rattle.std.proofs.Common.{◌≡◌, ◌⊎◌, inl, inr, ℕ, List, [], ◌∷◌, ◌++◌, Option, Some, None, Ok, Err, refl, sym, ap, ◌∙◌, subst}
use Rattle.std.specs.Option.{ForSome}
use Rattle.std.specs.Io.KnownBytes.{append_known, prepend_known}
use Rattle.sha2.specs.Sha256.{sha256}
use Rattle.ideal_meaning.specs.Checked.{Cause, WrongPiece, BadPiece, Missing, Broken, Verdict, Accepted, Rejected, BadState, BadArgument}
use Rattle.ideal_meaning.specs.Fetched.{Got, IsPiece, IsLack, IsBroken, Answered, Gave, GaveLast}
use Rattle.lam_outside.specs.Links.{Linked, IsMade, links_so_far}
use Rattle.lam_outside.specs.Moments.{Moment}
use Rattle.lam_outside.proofs.Moved.{append_none}
use Rattle.link_ends.proofs.StandingLink.{IsTold, from_nothing, told}
use Rattle.piece_fetch.specs.Verdicts.{Judges}
use Rattle.piece_fetch.specs.declared.verdict.FetchVerdict.TheVariants as verdict
use Rattle.session_meaning.specs.FetchMessages.{AskedLink, LinkAnswers, LinkGives, fetch_bytes}
use Rattle.wire_form.specs.Fetches.{Asked}
use Rattle.wire_form.specs.MovedBytes.{Moves}
use Rattle.wire_form.proofs.Moving.{moves_on}
use Rattle.command_parts.specs.Answer.{Drawing}
use Rattle.command_parts.specs.RoleInputs.{RoleCall}
use Rattle.command_parts.specs.Outsides.{Outside}
use Rattle.command_parts.specs.RoleCalls.{program_called}
use Rattle.command_parts.specs.declared.status.Status.{Status}
use Rattle.net_commands.specs.DrawSteps.{AreGivenOn, EndsOnLink, IsJudgedOn, Judged, JudgesOn}
use Rattle.net_commands.specs.Drawing.{BreaksOff, IsDialled, IsDrawnOn, IsJudged, LacksMemory, verdict_on}
use Rattle.net_commands.specs.OnlineRuns.{NetSeen}
use Rattle.net_commands.proofs.OnlineRuns.{same_faults}

-- what stands of a value that is lent, where it ends as this one
pub ends_as : {A : Type 0} (P : A → Type 0) (last known : A) → P known → last ≡ known → P last
ends_as P last known stands same = subst P (sym same) stands

-- a link of which these bytes are left, and on which these were sent
abbrev link_of : List ℕ → List ℕ → AskedLink
link_of left sent = record { left = left; sent = sent }

prepend_none : (known : Option (List ℕ)) → prepend_known [] known ≡ known
prepend_none None = refl
prepend_none (Some xs) = refl

module _ {U : Type 0} (given left sent : U → Option (List ℕ)) where
  -- what is asked for on a link
  abbrev May : U → List ℕ → Got → U → Type 0
  May old digest got new = Asked digest got (given old) (left old) (sent old) (given new) (left new) (sent new)

  -- ---- some bytes moved

  abbrev Moved : U → U → Type 0
  Moved old new = Moves (given old) (left old) (given new) (left new)

  moved_none : (old new : U) → old ≡ new → Moved old new
  moved_none old new same = ([], ap left same ∙ sym (prepend_none (left new)), ap given (sym same) ∙ sym (append_none (given old)))

  moved_on : (old mid new : U) → Moved old mid → Moved mid new → Moved old new
  moved_on old mid new first more = moves_on (given old) (left old) (given mid) (left mid) (given new) (left new) first more

  moved_pieces : (bs : List (List ℕ)) (old new : U) → Gave sha256 May old bs new → Moved old new
  moved_pieces [] old new same = moved_none old new same
  moved_pieces (b ∷ bs) old new (mid, asked, more) = moved_on old mid new asked.moves (moved_pieces bs mid new more)

  moved_last : (a : Got) (c : Cause) (old new : U) → GaveLast sha256 May old a c new → Moved old new
  moved_last IsLack (Missing place want) old new asked = asked.moves
  moved_last (IsBroken wire) (Broken place want found) old new (same, asked) = asked.moves
  moved_last (IsPiece b) (WrongPiece place want found) old new (same, asked) = asked.moves
  moved_last (IsPiece b) (BadPiece place offset) old new asked = asked.moves
  moved_last a c old new gave = elim gave [ ]

  moved_all : (answers : List Got) (v : Verdict) (old new : U) → Answered sha256 May old answers v new → Moved old new
  moved_all answers (Accepted o) old new (bs, is, gave) = moved_pieces bs old new gave
  moved_all answers (Rejected c) old new (bs, a, mid, is, gave, last) = moved_on old mid new (moved_pieces bs old mid gave) (moved_last a c mid new last)
  moved_all answers (BadState offset) old new (is, same) = moved_none old new same
  moved_all answers (BadArgument offset) old new (is, same) = moved_none old new same

  -- ---- a link that tells its bytes

  abbrev Tells : U → AskedLink → Type 0
  Tells u link = (left u ≡ Some link.left) × (sent u ≡ Some link.sent)

  tells_as : (old new : U) (link : AskedLink) → old ≡ new → Tells new link → Tells old link
  tells_as old new link same tells = (ap left same ∙ tells.0, ap sent same ∙ tells.1)

  -- behind an answer, and so before it
  asked_told : (digest : List ℕ) (got : Got) (old new : U) (link' : AskedLink) → May old digest got new → Tells new link' → (link : AskedLink) × Tells old link × LinkAnswers link digest got link'
  asked_told digest got old new link' asked tells = by (left old) (sent old) refl refl
    where
      by : (l s : Option (List ℕ)) → left old ≡ l → sent old ≡ s → (link : AskedLink) × Tells old link × LinkAnswers link digest got link'
      by (Some coming) (Some before) left_is sent_is =
          let answer = asked.answers coming left_is in
          let rest : answer.0 ≡ link'.left = let both : Some answer.0 ≡ Some link'.left = sym answer.2 ∙ tells.0 in cc in
          let out : link'.sent ≡ before ++ fetch_bytes digest =
          let both : Some link'.sent ≡ Some (before ++ fetch_bytes digest) = sym tells.1 ∙ asked.asks ∙ ap (λ w. append_known w (fetch_bytes digest)) sent_is in cc in
          (link_of coming before, (left_is, sent_is), (subst (λ rest. LinkGives coming got rest) rest answer.1, out))
      by None s left_is sent_is =
          absurd (let clash : None ≡ Some (asked.moves.0 ++ link'.left) = sym left_is ∙ asked.moves.1 ∙ ap (prepend_known asked.moves.0) tells.0 in cc)
      by (Some coming) None left_is sent_is =
          absurd (let clash : Some link'.sent ≡ None = sym tells.1 ∙ asked.asks ∙ ap (λ w. append_known w (fetch_bytes digest)) sent_is in cc)

  pieces_told : (bs : List (List ℕ)) (old new : U) (link' : AskedLink) → Gave sha256 May old bs new → Tells new link' → (link : AskedLink) × Tells old link × Gave sha256 LinkAnswers link bs link'
  pieces_told [] old new link' same tells = (link', tells_as old new link' same tells, refl)
  pieces_told (b ∷ bs) old new link' (mid, asked, more) tells =
      let rest = pieces_told bs mid new link' more tells in
      let first = asked_told (sha256 b) (IsPiece b) old mid rest.0 asked rest.1 in
      (first.0, first.1, (rest.0, first.2, rest.2))

  last_told : (a : Got) (c : Cause) (old new : U) (link' : AskedLink) → GaveLast sha256 May old a c new → Tells new link' → (link : AskedLink) × Tells old link × GaveLast sha256 LinkAnswers link a c link'
  last_told IsLack (Missing place want) old new link' asked tells = asked_told want IsLack old new link' asked tells
  last_told (IsBroken wire) (Broken place want found) old new link' (same, asked) tells = let is = asked_told want (IsBroken wire) old new link' asked tells in (is.0, is.1, (same, is.2))
  last_told (IsPiece b) (WrongPiece place want found) old new link' (same, asked) tells = let is = asked_told want (IsPiece b) old new link' asked tells in (is.0, is.1, (same, is.2))
  last_told (IsPiece b) (BadPiece place offset) old new link' asked tells = asked_told (sha256 b) (IsPiece b) old new link' asked tells
  last_told a c old new link' gave tells = elim gave [ ]

  all_told : (answers : List Got) (v : Verdict) (old new : U) (link' : AskedLink) → Answered sha256 May old answers v new → Tells new link'
      → (link : AskedLink) × Tells old link × Answered sha256 LinkAnswers link answers v link'
  all_told answers (Accepted o) old new link' (bs, is, gave) tells = let rest = pieces_told bs old new link' gave tells in (rest.0, rest.1, (bs, is, rest.2))
  all_told answers (Rejected c) old new link' (bs, a, mid, is, gave, last) tells =
      let behind = last_told a c mid new link' last tells in
      let rest = pieces_told bs old mid behind.0 gave behind.1 in
      (rest.0, rest.1, (bs, a, behind.0, is, rest.2, behind.2))
  all_told answers (BadState offset) old new link' (is, same) tells = (link', tells_as old new link' same tells, (is, refl))
  all_told answers (BadArgument offset) old new link' (is, same) tells = (link', tells_as old new link' same tells, (is, refl))

  -- ---- what was judged over its answers

  module _ (call : RoleCall) (old new : U) where
    over : (answers : List Got) (v : Verdict) → verdict_on call answers ≡ v → Answered sha256 May old answers v new
        → IsJudgedOn call (given old) (left old) (sent old) (given new) (left new) (sent new) v
    over answers v is answered = record {
      answers = answers;
      is = is;
      are_given = λ rest out left_is sent_is. let all = all_told answers v old new (link_of rest out) answered (left_is, sent_is) in (all.0.left, all.0.sent, all.1.0, all.1.1, all.2);
      moves = moved_all answers v old new answered;
    }

    abbrev JudgesFrom : (state argument : List ℕ) → Judged → Type 0
    JudgesFrom state argument found = Judges sha256 May (program_called call.role) call.role.role state argument call.role.fuel old new found

    judged : (found : Judged) → JudgesFrom call.state call.argument found → JudgesOn call (given old) (left old) (sent old) (given new) (left new) (sent new) found
    judged (Ok told) h = (Accepted h.outcome, over h.answers (Accepted h.outcome) h.is h.given, (h.outcome, refl, h.spelled))
    judged (Err (verdict.Rejected why)) h = (Rejected h.cause, over h.answers (Rejected h.cause) h.is h.given, (h.cause, refl, h.tells))
    judged (Err (verdict.BadState offset)) h = (BadState offset, over [] (BadState offset) (h.1 []) (refl, h.0), refl)
    judged (Err (verdict.BadArgument offset)) h = (BadArgument offset, over [] (BadArgument offset) (h.1 []) (refl, h.0), refl)
    judged (Err verdict.FetchFault) h = tt
    judged (Err verdict.NoMemory) h = tt

    pub judged_on : (found : Judged) (state argument : List ℕ) → state ≡ call.state → argument ≡ call.argument → JudgesFrom state argument found
        → JudgesOn call (given old) (left old) (sent old) (given new) (left new) (sent new) found
    judged_on found state argument state_is argument_is judges =
        judged found (subst (λ a. JudgesFrom call.state a found) argument_is (subst (λ s. JudgesFrom s argument found) state_is judges))

-- ---- the link that was made

module _ (port : ℕ) (links ended1 ended2 : Option (List Linked)) (port1 port2 : Option ℕ) (given0 sent0 given1 left1 sent1 given2 left2 sent2 : Option (List ℕ)) (reads1 reads2 : Option (List Moment))
    (made : IsMade port links ended1 port1 given0 sent0 given1 sent1 reads1) (same : ended2 ≡ ended1) (at : port2 ≡ port1) (after : List Linked)
    (is : links_so_far ended2 port2 given2 left2 sent2 reads2 ≡ Some after) where
  now : IsTold ended2 port given2 left2 sent2 reads2 after
  now = told ended2 port given2 left2 sent2 reads2 after (ap (λ (p : Option ℕ). links_so_far ended2 p given2 left2 sent2 reads2) (sym (at ∙ made.at_port)) ∙ is)

  abbrev link : Linked
  link = record { port = port; given = now.read; left = now.rest; sent = now.out; reads = now.begun }

  dialled : IsDialled port links after link
  dialled = record { before = now.before; told = sym made.others_ended ∙ sym same ∙ now.ended_is; all = now.all; at_port = refl }

  pub dialled_on : (link : Linked) × IsDialled port links after link
  dialled_on = (link, dialled)

  pub drawn_on : (answers : List Got) (verdict : Verdict) → Moves given1 left1 given2 left2 → AreGivenOn answers verdict left1 sent1 left2 sent2 → IsDrawnOn port links after answers verdict
  drawn_on answers verdict moves given =
      let came = given now.rest now.out now.left_is now.sent_is in
      let read : now.read ≡ moves.0 = from_nothing given1 given0 moves.0 now.read made.none_given (sym now.given_is ∙ moves.2) in
      let taken : came.0 ≡ moves.0 ++ now.rest =
      let both : Some came.0 ≡ Some (moves.0 ++ now.rest) = sym came.2 ∙ moves.1 ∙ ap (prepend_known moves.0) now.left_is in cc in
      let coming : came.0 ≡ now.read ++ now.rest = taken ∙ ap (λ bytes. bytes ++ now.rest) (sym read) in
      let none : came.1 ≡ [] = from_nothing sent1 sent0 [] came.1 made.none_sent (sym came.3 ∙ sym (append_none sent1)) in
      let From : List ℕ → List ℕ → Type 0 = λ left sent. Answered sha256 LinkAnswers (link_of left sent) answers verdict (link_of now.rest now.out) in
      let sent_from : From came.0 [] = subst (λ sent. From came.0 sent) none came.4 in
      record { link = link; dialled = dialled; given = subst (λ left. From left []) coming sent_from }

-- ---- how it went on

module _ (d : Drawing) (old new : Outside) (net net' : NetSeen) (status : Status) (given left sent given' left' sent' : Option (List ℕ))
    (made : ForSome net'.links (λ after. (link : Linked) × IsDialled d.port net.links after link))
    (drawn : (answers : List Got) (verdict : Verdict) → Moves given left given' left' → AreGivenOn answers verdict left sent left' sent' → ForSome net'.links (λ after. IsDrawnOn d.port net.links after answers verdict))
    (listens : net'.faults.listens ≡ net.faults.listens) (accepts : net'.faults.accepts ≡ net.faults.accepts) (dials : net'.faults.dials ≡ net.faults.dials) where
  faults_stay : net'.faults.links ≡ net.faults.links → net'.faults ≡ net.faults
  faults_stay links = same_faults net.faults.links net'.faults.links _ _ _ _ _ _ links listens accepts dials

  pub went_on : EndsOnLink d.call given left sent given' left' sent' net.faults.links net'.faults.links status old.written new.written old.write_faults new.write_faults
      → IsJudged d old new net net' status ⊎ (BreaksOff d old new net net' status ⊎ LacksMemory d old new net net' status)
  went_on (inl tells) = inl (record {
    answers = tells.on_link.answers;
    verdict = tells.verdict;
    is = tells.on_link.is;
    drawn = drawn tells.on_link.answers tells.verdict tells.on_link.moves tells.on_link.are_given;
    told = tells.told;
    faults = faults_stay tells.faults_same;
  })
  went_on (inr (inl (rose, told))) = inr (inl (record { made = made; told = told; rose = rose; listens = listens; accepts = accepts; dials = dials }))
  went_on (inr (inr (same, told))) = inr (inr (record { made = made; told = told; faults = faults_stay same }))
