-- A connection that goes on, message by message: for answer_link.
use Rattle.std.proofs.Common.{◌≡◌, ℕ, suc, ◌+◌, ◌-◌, ◌<◌, ◌≤◌, Bool, false, List, [], ◌∷◌, ◌++◌, length, take, Option, Some, Result, Ok, refl, sym, ap, subst, ◌∙◌, arith, append_assoc, append-nil, length-append}
use Rattle.std.proofs.Math.Seq.{take-append-add}
use Rattle.std.proofs.lemmas.List.{take_all}
use Rattle.std.specs.Io.KnownBytes.{append_known}
use Rattle.lam_outside.specs.Moments.{Moment}
use Rattle.lam_outside.specs.LinkSteps.{AtEachRead}
use Rattle.lam_outside.proofs.Moved.{append_none, append_twice}
use Rattle.lam_outside.proofs.Waiting.{reads_on, reads_weaken}
use Rattle.ideal_meaning.specs.Fetched.{Got}
use Rattle.session_meaning.specs.FetchMessages.{answer_bytes, answers_sent, answers_to, asked_in, fetch_of, fetches_limit}
use Rattle.wire_form.specs.Waits.{WaitsInside}
use Rattle.wire_form.proofs.Coming.{short_read}
use Rattle.link_ends.specs.MoreLinks.{TakesBytes, but_last}
use Rattle.link_ends.specs.declared.end.ConnectionEnd.TheVariants.{Over, LinkFault, Stopped}
use Rattle.link_ends.specs.declared.link_stop.LinkStop.{LinkStop}
use Rattle.link_ends.proofs.Taken.{took}
use Rattle.mirror_links.specs.Answered.{IsSentPart}
use Rattle.mirror_links.specs.Prompt.{IsPrompt}
use Rattle.mirror_links.specs.Steps.{AnswersMessage, AsksNothing, BreaksOff, Ends, MirrorGoesOn}
use Rattle.mirror_links.proofs.Answering.{asks_first, asks_none}
use Rattle.mirror_links.proofs.Asking.{short_asks}

room : (n limit : ℕ) → n < limit → (most : ℕ) × (limit ≡ n + suc most)
room n limit fewer = (limit - suc n, omega (arith, fewer))

but_last_behind : {A : Type 0} (xs : List A) (y : A) (ys : List A) → but_last (xs ++ y ∷ ys) ≡ xs ++ but_last (y ∷ ys)
but_last_behind [] y ys = refl
but_last_behind (x ∷ []) y ys = refl
but_last_behind (x ∷ z ∷ xs) y ys = ap (λ l. x ∷ l) (but_last_behind (z ∷ xs) y ys)

module _ (get : List ℕ → Got) where
  answers_more : (a b : List (List ℕ)) → answers_to get (a ++ b) ≡ answers_to get a ++ answers_to get b
  answers_more [] b = refl
  answers_more (d ∷ a) b = ap (λ l. answer_bytes (get d) ++ l) (answers_more a b) ∙ sym (append_assoc (answer_bytes (get d)) (answers_to get a) (answers_to get b))

  but_last_fewer : (digests : List (List ℕ)) → length (answers_to get (but_last digests)) ≤ length (answers_to get digests)
  but_last_fewer [] = omega arith
  but_last_fewer (d ∷ []) = omega arith
  but_last_fewer (d ∷ next ∷ more) =
      let first = answer_bytes (get d) in
      let size = length-append first (answers_to get (but_last (next ∷ more))) in
      let size' = length-append first (answers_to get (next ∷ more)) in
      omega (arith, but_last_fewer (next ∷ more), size, size')

  -- a front of what is sent is one with whole answers before it
  part_behind : (first digests : List (List ℕ)) (out : List ℕ) → IsSentPart get digests out → IsSentPart get (first ++ digests) (answers_to get first ++ out)
  part_behind first [] out part =
      let none : part.0 ≡ 0 = omega (arith, part.2) in
      let nothing : out ≡ [] = part.3 ∙ ap (λ n. take n []) none in
      let P : List (List ℕ) → List ℕ → Type 0 = λ digests out. IsSentPart get digests out in
      let whole = answers_to get first in
      let all : P first whole = (length whole, but_last_fewer first, omega arith, sym (take_all (length whole) whole (omega arith))) in
      let same : whole ≡ whole ++ out = sym (ap (λ o. whole ++ o) nothing ∙ append-nil whole) in
      subst (λ digests. P digests (whole ++ out)) (sym (append-nil first)) (subst (P first) same all)
  part_behind first (next ∷ more) out part =
      let whole = answers_to get first in
      let before : answers_to get (but_last (first ++ next ∷ more)) ≡ whole ++ answers_to get (but_last (next ∷ more)) =
      ap (answers_to get) (but_last_behind first next more) ∙ answers_more first (but_last (next ∷ more)) in
      let all = answers_more first (next ∷ more) in (
        length whole + part.0,
        rw (before, length-append whole (answers_to get (but_last (next ∷ more)))) (omega (arith, part.1)),
        rw (all, length-append whole (answers_to get (next ∷ more))) (omega (arith, part.2)),
        ap (λ o. whole ++ o) part.3 ∙ sym (ap (take (length whole + part.0)) all ∙ take-append-add whole (answers_to get (next ∷ more)) part.0),
      )

  -- Some bytes were taken, which are so many messages that ask for these digests, whatever stands behind them; and they were answered.
  pub record IsSoFar (count : ℕ) (bytes : List ℕ) (left' sent sent' : Option (List ℕ)) : Type 0 where
    pub taken : List ℕ
    pub digests : List (List ℕ)
    pub takes : TakesBytes bytes taken left'
    pub sends : sent' ≡ append_known sent (answers_to get digests)
    pub asked : (most : ℕ) (more : List ℕ) → asked_in (count + most) (taken ++ more) ≡ digests ++ asked_in most more

  pub at_first : (bytes : List ℕ) (left' sent : Option (List ℕ)) → left' ≡ Some bytes → IsSoFar 0 bytes left' sent sent
  at_first bytes left' sent told = record {
    taken = [];
    digests = [];
    takes = (bytes, refl, told);
    sends = sym (append_none sent);
    asked = λ most more. let same : 0 + most ≡ most = omega arith in ap (λ n. asked_in n more) same;
  }

  module _ (count : ℕ) (bytes : List ℕ) (left' sent sent' : Option (List ℕ)) (so_far : IsSoFar count bytes left' sent sent') where
    takes_more : (taken : List ℕ) (left'' : Option (List ℕ)) → TakesBytes so_far.takes.0 taken left'' → TakesBytes bytes (so_far.taken ++ taken) left''
    takes_more taken left'' takes =
        (takes.0, so_far.takes.1 ∙ ap (λ l. so_far.taken ++ l) takes.1 ∙ sym (append_assoc so_far.taken taken takes.0), takes.2)

    sends_more : (sent'' : Option (List ℕ)) (out : List ℕ) → sent'' ≡ append_known sent' out → sent'' ≡ append_known sent (answers_to get so_far.digests ++ out)
    sends_more sent'' out sends = sends ∙ ap (λ w. append_known w out) so_far.sends ∙ append_twice sent (answers_to get so_far.digests) out

    -- one message more
    pub one_more : (left'' sent'' : Option (List ℕ)) → MirrorGoesOn get so_far.takes.0 left'' sent' sent'' → IsSoFar (count + 1) bytes left'' sent sent''
    one_more left'' sent'' on =
        let said = answer_bytes (get on.digest) in
        let all : answers_to get (so_far.digests ++ on.digest ∷ []) ≡ answers_to get so_far.digests ++ said =
        answers_more so_far.digests (on.digest ∷ []) ∙ ap (λ l. answers_to get so_far.digests ++ l) (append-nil said) in
        record {
          taken = so_far.taken ++ on.taken;
          digests = so_far.digests ++ on.digest ∷ [];
          takes = takes_more on.taken left'' on.takes;
          sends = sends_more sent'' said on.sends ∙ ap (append_known sent) (sym all);
          asked = λ most more.
              let more_of : count + 1 + most ≡ count + suc most = omega arith in
              ap (λ n. asked_in n ((so_far.taken ++ on.taken) ++ more)) more_of
              ∙ ap (asked_in (count + suc most)) (append_assoc so_far.taken on.taken more)
              ∙ so_far.asked (suc most) (on.taken ++ more)
              ∙ ap (λ l. so_far.digests ++ l) (asks_first most on.taken more on.digest on.asked)
              ∙ sym (append_assoc so_far.digests (on.digest ∷ []) (asked_in most more));
        }

    -- Behind these messages nothing more is asked for: what was sent is all.
    module _ (limit most : ℕ) (is : limit ≡ count + most) where
      asked_behind : (more : List ℕ) → asked_in limit (so_far.taken ++ more) ≡ so_far.digests ++ asked_in most more
      asked_behind more = ap (λ n. asked_in n (so_far.taken ++ more)) is ∙ so_far.asked most more

      sent_behind : (more : List ℕ) → asked_in most more ≡ [] → answers_sent limit get (so_far.taken ++ more) ≡ answers_to get so_far.digests
      sent_behind more none =
          ap (answers_to get) (asked_behind more ∙ ap (λ l. so_far.digests ++ l) none ∙ append-nil so_far.digests)

      sent_all : asked_in most so_far.takes.0 ≡ [] → answers_to get so_far.digests ≡ answers_sent limit get bytes
      sent_all none = sym (ap (answers_sent limit get) so_far.takes.1 ∙ sent_behind so_far.takes.0 none)

      -- as the next message is waited for
      prompt_now : (m : Moment) → WaitsInside so_far.takes.0 sent' m
          → (taken : List ℕ) × TakesBytes bytes taken m.left × (m.sent ≡ append_known sent (answers_sent limit get taken))
      prompt_now m waits =
          let t = take waits.1.taken so_far.takes.0 in
          let nothing : AsksNothing t = short_asks t (short_read fetch_of t waits.1.unfinished) in (
            so_far.taken ++ t,
            takes_more t m.left (took waits.1.taken so_far.takes.0 m.left waits.1.left),
            waits.0 ∙ so_far.sends ∙ ap (append_known sent) (sym (sent_behind t (asks_none most t nothing))),
          )

    -- the connection is over behind as many messages as are answered
    pub over_at_last : count ≡ fetches_limit → Ends get bytes left' sent sent' Over
    over_at_last full = record {
      taken = so_far.taken;
      out = answers_to get so_far.digests;
      takes = so_far.takes;
      sends = so_far.sends;
      answered = sent_all fetches_limit 0 (omega (arith, full)) refl;
    }

    -- fewer were answered by now
    module _ (fewer : count < fetches_limit) where
      abbrev further : (most : ℕ) × (fetches_limit ≡ count + suc most)
      further = room count fetches_limit fewer

      -- it is over where nothing more is asked for
      pub over_now : (left'' sent'' : Option (List ℕ)) → AnswersMessage get so_far.takes.0 left'' sent' sent'' (Ok false) → Ends get bytes left'' sent sent'' Over
      over_now left'' sent'' ended = record {
        taken = so_far.taken ++ ended.0;
        out = answers_to get so_far.digests;
        takes = takes_more ended.0 left'' ended.1;
        sends = ended.3 ∙ so_far.sends;
        answered = sent_all fetches_limit (suc further.0) further.1 (asks_none (suc further.0) so_far.takes.0 ended.2);
      }

      -- it breaks off
      module _ (left'' sent'' : Option (List ℕ)) (off : BreaksOff get so_far.takes.0 left'' sent' sent'') where
        part_now : IsSentPart get (asked_in fetches_limit (so_far.taken ++ off.taken)) (answers_to get so_far.digests ++ off.out)
        part_now =
            let Of : List (List ℕ) → Type 0 = λ digests. IsSentPart get digests (answers_to get so_far.digests ++ off.out) in
            subst Of (sym (asked_behind fetches_limit (suc further.0) further.1 off.taken))
            (part_behind so_far.digests (asked_in (suc further.0) off.taken) off.out (off.part further.0))

        pub fault_now : Ends get bytes left'' sent sent'' LinkFault
        fault_now = record {
          taken = so_far.taken ++ off.taken;
          out = answers_to get so_far.digests ++ off.out;
          takes = takes_more off.taken left'' off.takes;
          sends = sends_more sent'' off.out off.sends;
          answered = part_now;
        }

        pub lacking_now : Ends get bytes left'' sent sent'' Stopped
        lacking_now = record {
          taken = so_far.taken ++ off.taken;
          out = answers_to get so_far.digests ++ off.out;
          takes = takes_more off.taken left'' off.takes;
          sends = sends_more sent'' off.out off.sends;
          answered = part_now;
        }

      -- as the next message is waited for, all was answered
      pub waits_more : (reads reads' reads'' : Option (List Moment)) → AtEachRead (IsPrompt get bytes sent) reads reads' → AtEachRead (WaitsInside so_far.takes.0 sent') reads' reads''
          → AtEachRead (IsPrompt get bytes sent) reads reads''
      waits_more reads reads' reads'' before waits =
          reads_on (IsPrompt get bytes sent) reads reads' reads'' before
          (reads_weaken (WaitsInside so_far.takes.0 sent') (IsPrompt get bytes sent) (prompt_now fetches_limit (suc further.0) further.1) reads' reads'' waits)

-- what a message's result says, where it is known
pub answered_at : (get : List ℕ → Got) (bytes : List ℕ) (left' sent sent' : Option (List ℕ)) (r known : Result Bool LinkStop) → r ≡ known
    → AnswersMessage get bytes left' sent sent' r → AnswersMessage get bytes left' sent sent' known
answered_at get bytes left' sent sent' r known is answers =
    let Of : Result Bool LinkStop → Type 0 = λ r. AnswersMessage get bytes left' sent sent' r in subst Of is answers
