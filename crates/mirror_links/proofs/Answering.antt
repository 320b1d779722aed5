-- A message that is answered, and what that makes of the connection: for answer and answer_message.
use Rattle.std.proofs.Common.{inl, inr, ◌≡◌, ◌≤◌, ℕ, suc, zero, Bool, true, false, List, [], ◌∷◌, ◌++◌, length, take, Option, Some, Result, Ok, Err, IsErrAnd, bytes_eq, if◌then◌else◌, refl, sym, ap, subst, ◌∙◌, arith, append-nil}
use Rattle.std.specs.Io.KnownBytes.{append_known}
use Rattle.core_terms.specs.declared.digest.Digest.{Digest}
use Rattle.lam_outside.proofs.Moved.{append_none}
use Rattle.ideal_meaning.specs.Fetched.{Got}
use Rattle.session_meaning.specs.FetchMessages.{IsAnswer, answer_bytes, answers_to, asked_in, asked_on}
use Rattle.piece_mirror.specs.Answers.{answer_of, given_by}
use Rattle.piece_mirror.specs.Mirrors.{AreShort, first_with, piece_limit}
use Rattle.link_ends.specs.MoreLinks.{TakesBytes}
use Rattle.link_ends.specs.declared.link_stop.LinkStop.{LinkStop}
use Rattle.link_ends.specs.declared.link_stop.LinkStop.TheVariants as link_stop
use Rattle.mirror_links.specs.Answered.{IsSentPart}
use Rattle.mirror_links.specs.Steps.{AnswersMessage, AsksNext, AsksNothing, BreaksOff, IsAskedBy, SendsFront}

-- what is found is short enough for a message
pub given_fits : (hash : List ℕ → List ℕ) (d : List ℕ) (pieces : List (List ℕ)) → AreShort pieces → IsAnswer (given_by hash pieces d)
given_fits hash d [] short = tt
given_fits hash d (p ∷ ps) short = by (bytes_eq (hash p) d) (given_fits hash d ps (λ i q is. short (suc i) q is))
  where
    by : (same : Bool) → IsAnswer (given_by hash ps d) → IsAnswer (answer_of (if same then Some p else first_with hash d ps))
    by true others = let fits : length p ≤ piece_limit = short 0 p refl in omega (arith, fits)
    by false others = others

pub found_fits : (hash : List ℕ → List ℕ) (d : List ℕ) (pieces : List (List ℕ)) (found : Option (List ℕ)) → AreShort pieces → found ≡ first_with hash d pieces → IsAnswer (answer_of found)
found_fits hash d pieces found short is = subst (λ f. IsAnswer (answer_of f)) (sym is) (given_fits hash d pieces short)

-- what is asked for in no bytes, in bytes that begin with no message, and in one message
asked_in_none : (most : ℕ) → asked_in most [] ≡ []
asked_in_none zero = refl
asked_in_none (suc most) = refl

pub asks_none : (most : ℕ) (bytes : List ℕ) → AsksNothing bytes → asked_in most bytes ≡ []
asks_none zero bytes asks = refl
asks_none (suc most) bytes asks = ap (λ found. asked_on found (asked_in most)) asks.1

pub asks_first : (most : ℕ) (taken more digest : List ℕ) → IsAskedBy taken digest → asked_in (suc most) (taken ++ more) ≡ digest ∷ asked_in most more
asks_first most taken more digest asked = ap (λ found. asked_on found (asked_in most)) (asked more)

asks_one : (most : ℕ) (taken digest : List ℕ) → IsAskedBy taken digest → asked_in (suc most) taken ≡ digest ∷ []
asks_one most taken digest asked =
    ap (asked_in (suc most)) (sym (append-nil taken)) ∙ asks_first most taken [] digest asked ∙ ap (λ l. digest ∷ l) (asked_in_none most)

module _ (get : List ℕ → Got) where
  -- nothing was asked for, and nothing was sent
  none_part : (digests : List (List ℕ)) → digests ≡ [] → IsSentPart get digests []
  none_part digests none =
      let P : List (List ℕ) → Type 0 = λ digests. IsSentPart get digests [] in subst P (sym none) (0, omega arith, omega arith, refl)

  -- of the answer to one digest a front was sent
  one_part : (digests : List (List ℕ)) (digest : List ℕ) (n : ℕ) → digests ≡ digest ∷ [] → n ≤ length (answer_bytes (get digest))
      → IsSentPart get digests (take n (answer_bytes (get digest)))
  one_part digests digest n one within =
      let whole : answers_to get (digest ∷ []) ≡ answer_bytes (get digest) = append-nil (answer_bytes (get digest)) in
      let P : List (List ℕ) → Type 0 = λ digests. IsSentPart get digests (take n (answer_bytes (get digest))) in
      subst P (sym one) (n, omega arith, subst (λ l. n ≤ length l) (sym whole) within, ap (take n) (sym whole))

  none_breaks : (bytes : List ℕ) (left' sent sent' : Option (List ℕ)) (taken : List ℕ) → TakesBytes bytes taken left' → AsksNothing taken → sent' ≡ sent
      → BreaksOff get bytes left' sent sent'
  none_breaks bytes left' sent sent' taken takes asks same = record {
    taken = taken;
    out = [];
    takes = takes;
    sends = same ∙ sym (append_none sent);
    part = λ most. none_part (asked_in (suc most) taken) (asks_none (suc most) taken asks);
  }

  one_breaks : (bytes : List ℕ) (left' sent sent' : Option (List ℕ)) (taken digest : List ℕ) (n : ℕ) → TakesBytes bytes taken left' → IsAskedBy taken digest
      → n ≤ length (answer_bytes (get digest)) → sent' ≡ append_known sent (take n (answer_bytes (get digest))) → BreaksOff get bytes left' sent sent'
  one_breaks bytes left' sent sent' taken digest n takes asked within sends = record {
    taken = taken;
    out = take n (answer_bytes (get digest));
    takes = takes;
    sends = sends;
    part = λ most. one_part (asked_in (suc most) taken) digest n (asks_one most taken digest asked) within;
  }

  unread_breaks : (bytes : List ℕ) (left' sent sent' : Option (List ℕ)) (stop : LinkStop) → sent' ≡ sent → AsksNext bytes left' (Err stop) → BreaksOff get bytes left' sent sent'
  unread_breaks bytes left' sent sent' link_stop.LinkFault same asks = none_breaks bytes left' sent sent' asks.0 asks.1 asks.2 same
  unread_breaks bytes left' sent sent' link_stop.Stopped same (taken, takes, inl nothing) = none_breaks bytes left' sent sent' taken takes nothing same
  unread_breaks bytes left' sent sent' link_stop.Stopped same (taken, takes, inr (digest, asked)) =
      one_breaks bytes left' sent sent' taken digest 0 takes asked (omega arith) (same ∙ sym (append_none sent))

  -- no message was read
  pub unread : (bytes : List ℕ) (left' sent sent' : Option (List ℕ)) (stop : LinkStop) (result : Result Bool LinkStop) → IsErrAnd result (λ e. e ≡ stop) → sent' ≡ sent
      → AsksNext bytes left' (Err stop) → AnswersMessage get bytes left' sent sent' result
  unread bytes left' sent sent' stop (Ok on) halted same asks = absurd halted
  unread bytes left' sent sent' stop (Err e) halted same asks = unread_breaks bytes left' sent sent' stop same asks

  -- a message was read, and of its answer a front was sent; the link tells the same before the answer
  pub answered_part : (bytes : List ℕ) (left1 left2 sent0 sent1 sent2 : Option (List ℕ)) (asked : Option Digest) (digest : Digest) (got : Got) (stop : LinkStop) (result : Result Bool LinkStop)
      → IsErrAnd result (λ e. e ≡ stop) → asked ≡ Some digest → got ≡ get digest.0 → sent1 ≡ sent0 → left2 ≡ left1 → AsksNext bytes left1 (Ok asked)
      → SendsFront (answer_bytes got) sent1 sent2 (Err stop) → AnswersMessage get bytes left2 sent0 sent2 result
  answered_part bytes left1 left2 sent0 sent1 sent2 asked digest got stop (Ok on) halted is gives same left asks sends = absurd halted
  answered_part bytes left1 left2 sent0 sent1 sent2 asked digest got stop (Err e) halted is gives same left asks sends =
      let Of : Option Digest → Type 0 = λ asked. AsksNext bytes left1 (Ok asked) in
      let one = subst Of is asks in
      let said = take sends.0 (answer_bytes got) in
      one_breaks bytes left2 sent0 sent2 one.0 digest.0 sends.0 (one.1.0, one.1.1, left ∙ one.1.2) one.2
      (subst (λ g. sends.0 ≤ length (answer_bytes g)) gives sends.1)
      (sends.2 ∙ ap (λ w. append_known w said) same ∙ ap (λ g. append_known sent0 (take sends.0 (answer_bytes g))) gives)
