-- Links on which a mirror answered, and one more: for answer_next and answer_links.
use Rattle.std.proofs.Common.{inr, ◌≡◌, ℕ, ◌+◌, ◌<◌, Bool, true, false, ◌||◌, List, [], ◌∷◌, ◌++◌, Option, Some, Result, refl, sym, ap, subst, ◌∙◌, arith, length-append}
use Rattle.std.specs.List.{AllByRecursion}
use Rattle.std.proofs.lemmas.List.{append_cancel_right}
use Rattle.std.specs.Io.KnownBytes.{prepend_known}
use Rattle.lam_outside.specs.Causes.{Rose}
use Rattle.lam_outside.specs.Links.{Linked, links_so_far, IsMade}
use Rattle.lam_outside.specs.Moments.{Moment}
use Rattle.lam_outside.specs.LinkSteps.{AtEachRead}
use Rattle.ideal_meaning.specs.Fetched.{Got}
use Rattle.wire_form.specs.MovedBytes.{Moves}
use Rattle.link_ends.specs.declared.end.ConnectionEnd.{ConnectionEnd}
use Rattle.link_ends.specs.declared.end.ConnectionEnd.TheVariants as connection
use Rattle.link_ends.specs.declared.link_stop.LinkStop.{LinkStop}
use Rattle.link_ends.proofs.FaultsTold.{or_others}
use Rattle.link_ends.proofs.OneMore.{are_more}
use Rattle.link_ends.proofs.StandingLink.{all_stood, from_nothing, nothing_sent, told}
use Rattle.mirror_links.specs.Answered.{IsAnswered}
use Rattle.mirror_links.specs.AnsweredLinks.{AreAnswered, AreCounted, AreMoreAnswered, AreMoreInPart, IsAnsweredWhole}
use Rattle.mirror_links.specs.Prompt.{IsPrompt}
use Rattle.mirror_links.specs.Steps.{AnswersNext, Ends, IsOneAnswered, IsOneWhole}

module _ (get : List ℕ → Got) (port : ℕ) where
  -- A link was made, and the mirror answered on it.
  pub one_answered : (links ended1 ended2 : Option (List Linked)) (port1 port2 : Option ℕ) (given0 sent0 given1 left1 sent1 given2 left2 sent2 : Option (List ℕ))
      (reads1 reads2 : Option (List Moment)) (end : ConnectionEnd) (after : List Linked)
      → IsMade port links ended1 port1 given0 sent0 given1 sent1 reads1 → ended2 ≡ ended1 → port2 ≡ port1 → Moves given1 left1 given2 left2
      → ((bytes : List ℕ) → left1 ≡ Some bytes → Ends get bytes left2 sent1 sent2 end)
      → ((bytes : List ℕ) → left1 ≡ Some bytes → AtEachRead (IsPrompt get bytes sent1) reads1 reads2)
      → links_so_far ended2 port2 given2 left2 sent2 reads2 ≡ Some after → IsOneAnswered get port links after end
  one_answered links ended1 ended2 port1 port2 given0 sent0 given1 left1 sent1 given2 left2 sent2 reads1 reads2 end after made same at moves ends prompt is =
      let told_now = told ended2 port given2 left2 sent2 reads2 after (ap (λ (p : Option ℕ). links_so_far ended2 p given2 left2 sent2 reads2) (sym (at ∙ made.at_port)) ∙ is) in
      let came : left1 ≡ Some (moves.0 ++ told_now.rest) = moves.1 ∙ ap (prepend_known moves.0) told_now.left_is in
      let e = ends (moves.0 ++ told_now.rest) came in
      let read : told_now.read ≡ moves.0 = from_nothing given1 given0 moves.0 told_now.read made.none_given (sym told_now.given_is ∙ moves.2) in
      let out : told_now.out ≡ e.out = from_nothing sent1 sent0 e.out told_now.out made.none_sent (sym told_now.sent_is ∙ e.sends) in
      let rest : e.takes.0 ≡ told_now.rest = let both : Some e.takes.0 ≡ Some told_now.rest = sym e.takes.2 ∙ told_now.left_is in cc in
      let taken : e.taken ≡ moves.0 = append_cancel_right e.taken moves.0 told_now.rest (ap (λ r. e.taken ++ r) (sym rest) ∙ sym e.takes.1) in
      let Answered : List ℕ → List ℕ → List ℕ → Type 0 = λ bytes taken out. IsAnswered get (bytes ++ told_now.rest) taken out end in
      let WithTaken : List ℕ → Type 0 = λ taken. Answered moves.0 taken e.out in
      let WithOut : List ℕ → Type 0 = λ out. Answered moves.0 moves.0 out in
      let WithRead : List ℕ → Type 0 = λ read. Answered read read told_now.out in
      let first : sent1 ≡ Some [] = nothing_sent sent1 sent0 told_now.out e.out made.none_sent (sym told_now.sent_is ∙ e.sends) in
      let Prompt : List ℕ → Option (List ℕ) → Type 0 = λ read sent. AllByRecursion (IsPrompt get (read ++ told_now.rest) sent) told_now.begun in
      let stood : Prompt moves.0 sent1 =
      all_stood (IsPrompt get (moves.0 ++ told_now.rest) sent1) reads1 reads2 told_now.begun made.none_begun told_now.reads_are (prompt (moves.0 ++ told_now.rest) came) in
      let from_first : Prompt moves.0 (Some []) = subst (λ sent. Prompt moves.0 sent) first stood in
      record {
        before = told_now.before;
        link = record { port = port; given = told_now.read; left = told_now.rest; sent = told_now.out; reads = told_now.begun };
        told = sym made.others_ended ∙ sym same ∙ told_now.ended_is;
        all = told_now.all;
        at_port = refl;
        answered = record {
          answered = subst WithRead (sym read) (subst WithOut (sym out) (subst WithTaken taken e.answered));
          prompt = subst (λ read. Prompt read (Some [])) (sym read) from_first;
        };
      }

-- links, and one behind them
module _ (get : List ℕ → Got) where
  all_answered : (links : List Linked) (link : Linked) (faulted fault : Bool) → AreAnswered get links faulted → IsAnsweredWhole get link fault
      → AreAnswered get (links ++ link ∷ []) (faulted || fault)
  all_answered [] link faulted fault are one =
      let Whole : Bool → Type 0 = λ f. AreAnswered get (link ∷ []) f in
      let none : (fault || false) ≡ (faulted || fault) = rest fault ∙ ap (λ (f : Bool). f || fault) (sym are) in
      subst Whole none (fault, false, one, refl, refl)
    where
      rest : (b : Bool) → (b || false) ≡ b
      rest true = refl
      rest false = refl
  all_answered (first ∷ links) link faulted fault are one = (
    are.0,
    are.1 || fault,
    are.2,
    all_answered links link are.1 fault are.3 one,
    ap (λ (f : Bool). f || fault) are.4 ∙ or_others are.0 are.1 fault,
  )

module _ (get : List ℕ → Got) (port : ℕ) (links : Option (List Linked)) where
  -- One link more was answered on.
  pub link_more : (between : Option (List Linked)) (after : List Linked) (faulted fault flag : Bool) (count : ℕ) → flag ≡ (faulted || fault)
      → ((links' : List Linked) → between ≡ Some links' → AreMoreAnswered get port links links' faulted count)
      → IsOneWhole get port between after fault → AreMoreAnswered get port links after flag (count + 1)
  link_more between after faulted fault flag count told so_far whole =
      let next = whole.one in
      let answered = so_far next.before next.told in
      let OfFlag : Bool → Type 0 = λ flag. AreMoreAnswered get port links after flag (count + 1) in
      subst OfFlag (sym told) (record {
        more = answered.more ++ next.link ∷ [];
        are = are_more port links next.before after answered.more next.link answered.are next.all next.at_port;
        number = length-append answered.more (next.link ∷ []) ∙ ap (λ n. n + 1) answered.number;
        answered = all_answered get answered.more next.link faulted fault answered.answered
            (record { end = whole.end; answered = next.answered; unstopped = whole.unstopped; fault = whole.fault });
      })

  -- Answering was stopped on the next one.
  pub link_in_part : (between : Option (List Linked)) (after : List Linked) (faulted : Bool) (count most : ℕ)
      → count < most → ((links' : List Linked) → between ≡ Some links' → AreMoreAnswered get port links links' faulted count)
      → IsOneAnswered get port between after connection.Stopped → AreMoreInPart get port links after most
  link_in_part between after faulted count most fewer so_far next =
      let answered = so_far next.before next.told in
      let size = length-append answered.more (next.link ∷ []) in
      record {
        more = answered.more ++ next.link ∷ [];
        are = are_more port links next.before after answered.more next.link answered.are next.all next.at_port;
        number = omega (arith, size, answered.number, fewer);
        answered = record {
          before = answered.more;
          last = next.link;
          all = refl;
          faulted = faulted;
          answered = answered.answered;
          broken = next.answered;
        };
      }

  -- No link was accepted: those so far are all.
  pub no_more : (after : List Linked) (faulted : Bool) (count connections accepts before accepts' : ℕ) → count < connections → before ≡ accepts → Rose before accepts'
      → AreMoreAnswered get port links after faulted count → AreCounted get port links after connections true accepts accepts'
  no_more after faulted count connections accepts before accepts' fewer same rose so_far =
      let From : ℕ → Type 0 = λ n. Rose n accepts' in
      record { faulted = faulted; count = count; answered = so_far; number = inr (fewer, refl, subst From same rose) }

-- what the next link's result says, where it is known
pub next_at : (get : List ℕ → Got) (port : ℕ) (links links' : Option (List Linked)) (r known : Result Bool LinkStop) → r ≡ known → AnswersNext get port links links' r
    → AnswersNext get port links links' known
next_at get port links links' r known is answers = let Of : Result Bool LinkStop → Type 0 = λ r. AnswersNext get port links links' r in subst Of is answers
