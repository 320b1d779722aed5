-- A message that is answered, and what that makes of the connection: for answer and serve_message.
use Rattle.std.proofs.Common.{inl, inr, ◌≡◌, ℕ, Bool, true, false, List, [], ◌∷◌, take, not, ◌&&◌, Option, length, ◌<◌, Result, Ok, Err, IsErrAnd, refl, sym, ap, subst, ◌∙◌, arith}
use Rattle.std.specs.Io.KnownBytes.{append_known}
use Rattle.lam_outside.proofs.Moved.{append_none}
use Rattle.core_terms.specs.Formats.{Hash}
use Rattle.session_meaning.specs.Calls.{RoleCall}
use Rattle.session_meaning.specs.Server as meant
use Rattle.session_meaning.specs.Server.{Server, Hears, HearsBad, HearsEnd, handle, server_after, messages_limit}
use Rattle.session_meaning.specs.ReplyLaws.{IsHeard}
use Rattle.serve_core.specs.Serving.{Serves}
use Rattle.serve_core.specs.declared.server.ServeCore.{ServeCore}
use Rattle.wire_form.specs.declared.message.WriteStop.{WriteStop}
use Rattle.wire_form.specs.declared.message.WriteStop.TheVariants as write
use Rattle.link_ends.specs.LinkStops.{link_stop_of}
use Rattle.link_ends.specs.declared.link_stop.LinkStop.{LinkStop}
use Rattle.link_ends.specs.declared.link_stop.LinkStop.TheVariants as link_stop
use Rattle.serve_links.specs.Connections.{bytes_of}
use Rattle.serve_links.specs.HistoriesInCode.{HasServed, HasSameCode, own_digest, program_served, step_of, turns_of}
use Rattle.serve_links.specs.Messages.{ServerAnswers, AnswersPart, BreaksOff, ComesNext, CountsMessage, HearsNext, IsStoppedAt, ServesMessage, StaysServing, asks}
use Rattle.serve_links.proofs.Broken.{first_cut, first_part, first_stopped, none_cut, none_heard, over_at}
use Rattle.serve_links.proofs.Serving.{open_counts, served_more}

module _ (hash : Hash) (Kept : (told made : List RoleCall) → Type 0) {A G : Type 0} (old new : ServeCore A G) (server : Server) (sent sent' : Option (List ℕ)) where
  -- a message was read and answered
  message_served : (bytes : List ℕ) (left' : Option (List ℕ)) (m : meant.Heard) (closing : Bool) → ComesNext bytes left' m
      → ServerAnswers hash Kept old new server sent sent' m (Ok closing) → ServesMessage hash Kept old new server sent sent' bytes left' (Ok (asks m && not closing))
  message_served bytes left' (Hears r) true next answers = record {
    taken = next.0;
    takes = next.1;
    out = bytes_of (step_of hash old server (Hears r)).replies;
    behind = (step_of hash old server (Hears r)).server;
    sends = answers.0;
    served = over_at hash (program_served old) (own_digest old) (turns_of old) Kept server bytes left' (Hears r) next (λ other is. sym answers.1);
    serves = answers.2;
  }
  message_served bytes left' (Hears r) false next answers = record {
    request = r;
    taken = next.0;
    rest = next.1.0;
    all = next.1.1;
    came = next.2;
    told = next.1.2;
    stays_open = sym answers.1;
    sends = answers.0;
    serves = answers.2;
  }
  message_served bytes left' HearsBad closing next answers = record {
    taken = next.0;
    takes = next.1;
    out = bytes_of (step_of hash old server HearsBad).replies;
    behind = (step_of hash old server HearsBad).server;
    sends = answers.0;
    served = over_at hash (program_served old) (own_digest old) (turns_of old) Kept server bytes left' HearsBad next (λ other is. absurd (cc (is)));
    serves = answers.2;
  }
  message_served bytes left' HearsEnd closing next answers = record {
    taken = next.0;
    takes = next.1;
    out = bytes_of (step_of hash old server HearsEnd).replies;
    behind = (step_of hash old server HearsEnd).server;
    sends = answers.0;
    served = over_at hash (program_served old) (own_digest old) (turns_of old) Kept server bytes left' HearsEnd next (λ other is. absurd (cc (is)));
    serves = answers.2;
  }

  -- a message was read, and its replies were sent in part or not at all
  part_served : (bytes : List ℕ) (left' : Option (List ℕ)) (m : meant.Heard) → ComesNext bytes left' m → AnswersPart hash Kept old new server sent sent' m
      → BreaksOff hash Kept old new server sent sent' bytes left'
  part_served bytes left' m next part = record {
    heard = m ∷ [];
    taken = next.0;
    takes = next.1;
    out = take part.0 (bytes_of (step_of hash old server m).replies);
    sends = part.2;
    cut = first_cut hash (program_served old) (own_digest old) (turns_of old) server bytes left' m part.0 next part.1;
    broken = first_part hash (program_served old) (own_digest old) (turns_of old) server bytes left' m part.0 next part.1;
    serves = part.3;
  }

  message_broken : (bytes : List ℕ) (left' : Option (List ℕ)) (m : meant.Heard) (stop : LinkStop) (result : Result Bool LinkStop) → IsErrAnd result (λ e. e ≡ stop)
      → ComesNext bytes left' m → ServerAnswers hash Kept old new server sent sent' m (Err stop) → ServesMessage hash Kept old new server sent sent' bytes left' result
  unfolding part_served
  message_broken bytes left' m stop (Ok on) handed next answers = absurd handed
  message_broken bytes left' m stop (Err e) handed next answers =
      let P : LinkStop → Type 0 = λ e. ServesMessage hash Kept old new server sent sent' bytes left' (Err e) in subst P (sym handed) (by stop answers)
    where
      by : (stop : LinkStop) → ServerAnswers hash Kept old new server sent sent' m (Err stop) → ServesMessage hash Kept old new server sent sent' bytes left' (Err stop)
      by link_stop.LinkFault part = part_served bytes left' m next part
      by link_stop.Stopped (inl all) =
          let broken = part_served bytes left' m next all.0 in
          record { taken = broken.taken; takes = broken.takes; out = broken.out; behind = _; sends = broken.sends; served = (broken.heard, broken.broken, inl refl, all.1); serves = broken.serves }
      by link_stop.Stopped (inr stopped) = record {
        taken = next.0;
        takes = next.1;
        out = [];
        behind = stopped.1.0;
        sends = stopped.0 ∙ sym (append_none sent);
        served = first_stopped hash (program_served old) (own_digest old) (turns_of old) Kept server bytes next.0 left' m stopped.1.0 next stopped.1.1 stopped.1.3;
        serves = stopped.1.2;
      }

-- What a message comes to, by the error.
module _ (hash : Hash) (Kept : (told made : List RoleCall) → Type 0) {A G : Type 0} (old new : ServeCore A G) (server : Server) (sent sent' : Option (List ℕ)) (m : meant.Heard) where
  abbrev Comes : LinkStop → Type 0
  Comes stop = ServerAnswers hash Kept old new server sent sent' m (Err stop)

  -- the server was stopped at it
  pub stops : (result : Result Bool LinkStop) → IsErrAnd result (λ e. e ≡ link_stop.Stopped) → IsStoppedAt hash Kept old new server sent sent' m → ServerAnswers hash Kept old new server sent sent' m result
  stops (Ok closing) handed stopped = absurd handed
  stops (Err e) handed stopped = subst Comes (sym handed) (inr stopped)

  -- or a front of its replies was sent
  pub part_sent : (stop : WriteStop) (result : Result Bool LinkStop) → IsErrAnd result (λ e. e ≡ link_stop_of stop)
      → (let step = step_of hash old server m in
      ((n : ℕ) × (n < length (bytes_of step.replies)) × (sent' ≡ append_known sent (take n (bytes_of step.replies))))
      → Serves hash new step.server → Kept step.server.shared.commits step.server.shared.commits → ServerAnswers hash Kept old new server sent sent' m result)
  part_sent stop (Ok closing) handed part serves kept = absurd handed
  part_sent stop (Err e) handed part serves kept = subst Comes (sym handed) (by stop)
    where
      by : (stop : WriteStop) → Comes (link_stop_of stop)
      by write.LinkFault = (part.0, (let less = part.1 in omega (arith, less)), part.2, serves)
      by write.NoMemory = inl ((part.0, (let less = part.1 in omega (arith, less)), part.2, serves), kept)

-- The link told the same before the answer, and the message was read of it: the message was served, or the connection broke off.
module _ (hash : Hash) (Kept : (told made : List RoleCall) → Type 0) {A G : Type 0} (old new : ServeCore A G) (server : Server) (sent0 sent1 sent2 : Option (List ℕ)) (bytes : List ℕ) (left1 left2 : Option (List ℕ)) (m : meant.Heard) where
  pub served_on : (closing b on : Bool) → on ≡ b && not closing → sent1 ≡ sent0 → left2 ≡ left1 → ComesNext bytes left1 m → asks m ≡ b
      → ServerAnswers hash Kept old new server sent1 sent2 m (Ok closing) → ServesMessage hash Kept old new server sent0 sent2 bytes left2 (Ok on)
  served_on closing b on test same left next is answers =
      let OfSent : Option (List ℕ) → Type 0 = λ w. ServerAnswers hash Kept old new server w sent2 m (Ok closing) in
      let OfLeft : Option (List ℕ) → Type 0 = λ w. ComesNext bytes w m in
      let OfOn : Bool → Type 0 = λ on. ServesMessage hash Kept old new server sent0 sent2 bytes left2 (Ok on) in
      subst OfOn (ap (λ b. b && not closing) is ∙ sym test) (message_served hash Kept old new server sent0 sent2 bytes left2 m closing (subst OfLeft (sym left) next) (subst OfSent same answers))

  pub broken_on : (stop : LinkStop) (result : Result Bool LinkStop) → IsErrAnd result (λ e. e ≡ stop) → sent1 ≡ sent0 → left2 ≡ left1 → ComesNext bytes left1 m
      → ServerAnswers hash Kept old new server sent1 sent2 m (Err stop) → ServesMessage hash Kept old new server sent0 sent2 bytes left2 result
  broken_on stop result handed same left next answers =
      let OfSent : Option (List ℕ) → Type 0 = λ w. ServerAnswers hash Kept old new server w sent2 m (Err stop) in
      let OfLeft : Option (List ℕ) → Type 0 = λ w. ComesNext bytes w m in
      message_broken hash Kept old new server sent0 sent2 bytes left2 m stop result handed (subst OfLeft (sym left) next) (subst OfSent same answers)

-- no message was read
pub unread : (hash : Hash) (Kept : (told made : List RoleCall) → Type 0) {A G : Type 0} (core : ServeCore A G) (server : Server) (sent sent' : Option (List ℕ)) (bytes : List ℕ) (left' : Option (List ℕ)) (stop : LinkStop)
    (result : Result Bool LinkStop) → IsErrAnd result (λ e. e ≡ stop) → sent' ≡ sent → HearsNext bytes left' (Err stop) → Kept server.shared.commits server.shared.commits
    → Serves hash core server
    → ServesMessage hash Kept core core server sent sent' bytes left' result
unread hash Kept core server sent sent' bytes left' stop (Ok on) handed same hears kept serves = absurd handed
unread hash Kept core server sent sent' bytes left' stop (Err e) handed same hears kept serves =
    let P : LinkStop → Type 0 = λ e. ServesMessage hash Kept core core server sent sent' bytes left' (Err e) in subst P (sym handed) (by stop hears)
  where
    by : (stop : LinkStop) → HearsNext bytes left' (Err stop) → ServesMessage hash Kept core core server sent sent' bytes left' (Err stop)
    by link_stop.LinkFault hears = record {
      heard = [];
      taken = hears.0;
      takes = hears.1;
      out = [];
      sends = same ∙ sym (append_none sent);
      cut = none_cut hash (program_served core) (own_digest core) (turns_of core) server hears.0 hears.2;
      broken = none_heard hash (program_served core) (own_digest core) (turns_of core) server bytes;
      serves = serves;
    }
    by link_stop.Stopped hears = record {
      taken = hears.0;
      takes = hears.1;
      out = [];
      behind = server;
      sends = same ∙ sym (append_none sent);
      served = ([], none_heard hash (program_served core) (own_digest core) (turns_of core) server bytes, inl refl, kept);
      serves = serves;
    }

-- What is left of the core is a server with a history, unless it was stopped.
module _ (hash : Hash) (Kept : (told made : List RoleCall) → Type 0) {A G : Type 0} (old new : ServeCore A G) (same : HasSameCode old new) (h : HasServed hash old) (sent sent' : Option (List ℕ)) (m : meant.Heard) (is : IsHeard m) where
  pub stays_open : (closing : Bool) → ServerAnswers hash Kept old new h.server sent sent' m (Ok closing) → HasServed hash new
  stays_open closing answers = served_more hash old new same h.server m h.history is answers.2

  pub stays_halted : {T : Type 0} (stop : LinkStop) (result : Result T LinkStop) → IsErrAnd result (λ e. e ≡ stop) → ServerAnswers hash Kept old new h.server sent sent' m (Err stop)
      → StaysServing hash new result
  stays_halted stop (Ok on) handed answers = absurd handed
  stays_halted {T = T} stop (Err e) handed answers =
      let P : LinkStop → Type 0 = λ e. StaysServing {T = T} hash new (Err e) in subst P (sym handed) (by stop answers)
    where
      by : (stop : LinkStop) → ServerAnswers hash Kept old new h.server sent sent' m (Err stop) → StaysServing {T = T} hash new (Err stop)
      by link_stop.LinkFault part = served_more hash old new same h.server m h.history is part.3
      by link_stop.Stopped (inl all) = ((step_of hash old h.server m).server, all.0.3)
      by link_stop.Stopped (inr stopped) = (stopped.1.0, stopped.1.2)

  pub counts : (closing b on : Bool) → on ≡ b && not closing → asks m ≡ b → ServerAnswers hash Kept old new h.server sent sent' m (Ok closing) → CountsMessage old.heard new.heard (Ok on)
  counts closing b on test asked answers =
      let OfOn : Bool → Type 0 = λ on. CountsMessage old.heard new.heard (Ok on) in subst OfOn (ap (λ b. b && not closing) asked ∙ sym test) (by m closing answers.1 answers.2)
    where
      by : (m : meant.Heard) (closing : Bool) → closing ≡ (step_of hash old h.server m).closing → Serves hash new (step_of hash old h.server m).server
          → CountsMessage old.heard new.heard (Ok (asks m && not closing))
      by (Hears r) true closes serves = tt
      by (Hears r) false closes serves =
          let counted = open_counts hash (program_served old) (own_digest old) (turns_of old) h.server r (sym closes) in
          let before : old.heard ≡ h.server.heard = h.serves.heard in
          let now = serves.heard in
          (omega (arith, counted.0, before, now), omega (arith, counted.1, before))
      by HearsBad closing closes serves = tt
      by HearsEnd closing closes serves = tt
