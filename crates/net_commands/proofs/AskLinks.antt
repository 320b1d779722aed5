-- The link that `ask` made, and the play on it: for `play_and_store`, `ask`.
use Rattle.std.proofs.Common.{◌≡◌, ℕ, List, [], ◌∷◌, ◌++◌, take, Option, Some, None, Ok, Err, IfErr, refl, sym, ap, ◌∙◌, subst}
use Rattle.std.proofs.lemmas.List.{append_cancel_right}
use Rattle.std.specs.List.{AllByRecursion}
use Rattle.std.specs.Io.KnownBytes.{append_known, prepend_known}
use Rattle.core_terms.specs.Terms.{Program}
use Rattle.lam_outside.specs.Causes.{Rose}
use Rattle.lam_outside.specs.Links.{Linked, IsMade, links_so_far}
use Rattle.lam_outside.specs.Moments.{Moment}
use Rattle.lam_outside.specs.LinkSteps.{AtEachRead}
use Rattle.printed_lines.specs.Lines.{link_fault_line}
use Rattle.printed_syntax.specs.Literals.{ConstructorNames}
use Rattle.script_play.specs.DeedLines.{bytes_sent}
use Rattle.script_play.specs.Halting.{BreaksAt, FailsAt, HaltsAt}
use Rattle.script_play.specs.HaltingInCode.{BreaksOn, PlaysTo}
use Rattle.script_play.specs.Playing.{PlaysAs, World, first_sent, world}
use Rattle.script_play.specs.PlayingInCode.{PlayCause}
use Rattle.script_play.specs.Plays.{Play}
use Rattle.script_play.specs.Prompt.{IsPromptOn}
use Rattle.script_play.specs.declared.play_stop.PlayStop.TheVariants as play_stop
use Rattle.session_meaning.specs.Client.{Client}
use Rattle.session_meaning.specs.Messages.{Messages, Reply, messages, reply_of}
use Rattle.wire_form.specs.MovedBytes.{Moves}
use Rattle.command_parts.specs.Answer.{Asking}
use Rattle.net_commands.specs.AskSteps.{IsHaltedFrom, IsPlayedFrom, PlayLinks}
use Rattle.net_commands.specs.Asking.{IsPlayedOn, PlayEnd, PlayFaults, PlayWrites, asked_play}
use Rattle.command_parts.specs.Telling.{TellsText}
use Rattle.command_parts.specs.declared.status.Status.{Status}
use Rattle.command_parts.specs.declared.status.Status.TheVariants.{ReadFault}
use Rattle.lam_outside.proofs.Moved.{append_twice}
use Rattle.net_commands.proofs.OnlineRuns.{counts_as, same_faults}
use Rattle.link_ends.proofs.StandingLink.{all_stood, from_nothing, nothing_sent, told}

module _ (P : Program) (names : ConstructorNames) (left' : Option (List ℕ)) (w w' : World) (p : Play) where
  -- whatever client is left
  pub any_client : (Is : Client → Type 0) (end : PlayEnd) → PlaysAs P names Is left' w w' p end → PlaysAs P names (λ c. Unit {0}) left' w w' p end
  any_client Is (Ok played) plays = (plays.0, plays.1, tt, plays.3)
  any_client Is (Err play_stop.Ended) plays = plays
  any_client Is (Err play_stop.LinkFault) plays = plays
  any_client Is (Err play_stop.NoMemory) plays = plays
  any_client Is (Err play_stop.WriteFault) plays = plays

  -- some bytes were sent behind those before
  sent_more : (end : PlayEnd) → PlaysAs P names (λ c. Unit {0}) left' w w' p end → (bytes : List ℕ) × (w'.sent ≡ append_known w.sent bytes)
  sent_more (Ok played) plays = (bytes_sent p.deeds, ap (λ (w : World). w.sent) plays.1)
  sent_more (Err play_stop.Ended) plays = (bytes_sent p.deeds, ap (λ (w : World). w.sent) plays.1)
  sent_more (Err play_stop.LinkFault) plays =
      (bytes_sent plays.front ++ take plays.count (first_sent plays.left), plays.sent ∙ append_twice w.sent (bytes_sent plays.front) (take plays.count (first_sent plays.left)))
  sent_more (Err play_stop.NoMemory) plays =
      (bytes_sent plays.front ++ take plays.count (first_sent plays.left), plays.sent ∙ append_twice w.sent (bytes_sent plays.front) (take plays.count (first_sent plays.left)))
  sent_more (Err play_stop.WriteFault) plays = (bytes_sent plays.front, plays.sent)

-- what was taken, where the link or the sink failed
pub on_fault : (P : Program) (names : ConstructorNames) (Is : Client → Type 0) (bytes : List ℕ) (left' : Option (List ℕ)) (w w' : World) (plays : Messages Reply → Play) (end : PlayEnd)
    → PlaysTo P names Is bytes left' w w' plays end → IfErr end (BreaksOn P names bytes left' w w' plays)
on_fault P names Is bytes left' w w' plays (Err halt) h = h
on_fault P names Is bytes left' w w' plays (Ok played) h = tt

-- it is what was read from the link, where the rest is told
taken_is_read : (P : Program) (names : ConstructorNames) (read rest : List ℕ) (left' : Option (List ℕ)) (w w' : World) (plays : Messages Reply → Play) (end : PlayEnd) → left' ≡ Some rest
    → IfErr end (BreaksOn P names (read ++ rest) left' w w' plays) → IfErr end (BreaksAt P names w w' plays read)
taken_is_read P names read rest left' w w' plays (Err play_stop.LinkFault) is h =
    let same : h.rest ≡ rest = let e : Some h.rest ≡ Some rest = sym h.left ∙ is in cc in
    let taken : h.taken ≡ read = append_cancel_right h.taken read rest (ap (λ r. h.taken ++ r) (sym same) ∙ sym h.parted) in
    subst (λ bytes. HaltsAt P names w w' (plays (messages reply_of bytes)).deeds) taken h.halts
taken_is_read P names read rest left' w w' plays (Err play_stop.WriteFault) is h =
    let same : h.rest ≡ rest = let e : Some h.rest ≡ Some rest = sym h.left ∙ is in cc in
    let taken : h.taken ≡ read = append_cancel_right h.taken read rest (ap (λ r. h.taken ++ r) (sym same) ∙ sym h.parted) in
    subst (λ bytes. FailsAt P names w w' plays bytes) taken h.fails
taken_is_read P names read rest left' w w' plays (Err play_stop.Ended) is h = tt
taken_is_read P names read rest left' w w' plays (Err play_stop.NoMemory) is h = tt
taken_is_read P names read rest left' w w' plays (Ok played) is h = tt

-- a link was made, and the play was played on it
pub played_on : (a : Asking) (end : PlayEnd) (links ended1 ended2 : Option (List Linked)) (port1 port2 : Option ℕ) (given0 sent0 given1 left1 sent1 given2 left2 sent2 : Option (List ℕ))
    (reads1 reads2 : Option (List Moment)) (written written' last : Option (List ℕ)) (after : List Linked)
    → IsMade a.port links ended1 port1 given0 sent0 given1 sent1 reads1 → ended2 ≡ ended1 → port2 ≡ port1
    → Moves given1 left1 given2 left2 → IsPlayedFrom a end left1 left2 sent1 sent2 written written' last → IsHaltedFrom a end left1 left2 sent1 sent2 written written' last
    → ((bytes : List ℕ) → left1 ≡ Some bytes → AtEachRead (IsPromptOn bytes sent1 (asked_play a)) reads1 reads2)
    → links_so_far ended2 port2 given2 left2 sent2 reads2 ≡ Some after → IsPlayedOn a end links after written written' last
played_on a end links ended1 ended2 port1 port2 given0 sent0 given1 left1 sent1 given2 left2 sent2 reads1 reads2 written written' last after made same at moves plays halts prompt is =
    let P = a.program.digested.program in
    let now = told ended2 a.port given2 left2 sent2 reads2 after (ap (λ (p : Option ℕ). links_so_far ended2 p given2 left2 sent2 reads2) (sym (at ∙ made.at_port)) ∙ is) in
    let came : left1 ≡ Some (moves.0 ++ now.rest) = moves.1 ∙ ap (prepend_known moves.0) now.left_is in
    let play = asked_play a (messages reply_of (moves.0 ++ now.rest)) in
    let here = plays (moves.0 ++ now.rest) came in
    let more = sent_more P a.program.names left2 (world sent1 written None) (world sent2 written' last) play end here in
    let first : sent1 ≡ Some [] = nothing_sent sent1 sent0 now.out more.0 made.none_sent (sym now.sent_is ∙ more.1) in
    let read : now.read ≡ moves.0 = from_nothing given1 given0 moves.0 now.read made.none_given (sym now.given_is ∙ moves.2) in
    let Plays : (bytes : List ℕ) → (left sent sent' : Option (List ℕ)) → Type 0 = λ bytes left sent sent'. PlaysAs P a.program.names (λ c. Unit {0}) left (world sent written None)
    (world sent' written' last) (asked_play a (messages reply_of (bytes ++ now.rest))) end in
    let Halts : (bytes : List ℕ) → (sent sent' : Option (List ℕ)) → Type 0 = λ bytes sent sent'. IfErr end (BreaksAt P a.program.names (world sent written None)
    (world sent' written' last) (asked_play a) bytes) in
    let Prompt : (bytes : List ℕ) → (sent : Option (List ℕ)) → Type 0 = λ bytes sent. AllByRecursion (IsPromptOn (bytes ++ now.rest) sent (asked_play a)) now.begun in
    let stood : Prompt moves.0 sent1 = all_stood (IsPromptOn (moves.0 ++ now.rest) sent1 (asked_play a)) reads1 reads2 now.begun made.none_begun now.reads_are (prompt (moves.0 ++ now.rest) came) in
    let from_first : Prompt moves.0 (Some []) = subst (λ sent. Prompt moves.0 sent) first stood in
    let on_left : Plays moves.0 (Some now.rest) sent1 sent2 = subst (λ left. Plays moves.0 left sent1 sent2) now.left_is here in
    let on_first : Plays moves.0 (Some now.rest) (Some []) sent2 = subst (λ sent. Plays moves.0 (Some now.rest) sent sent2) first on_left in
    let on_sent : Plays moves.0 (Some now.rest) (Some []) (Some now.out) = subst (λ sent'. Plays moves.0 (Some now.rest) (Some []) sent') now.sent_is on_first in
    record {
      before = now.before;
      link = record { port = a.port; given = now.read; left = now.rest; sent = now.out; reads = now.begun };
      told = sym made.others_ended ∙ sym same ∙ now.ended_is;
      all = now.all;
      at_port = refl;
      plays = subst (λ bytes. Plays bytes (Some now.rest) (Some []) (Some now.out)) (sym read) on_sent;
      halts = subst (λ bytes. Halts bytes (Some []) (Some now.out)) (sym read)
          (subst (λ sent. Halts moves.0 sent (Some now.out)) first (subst (λ sent'. Halts moves.0 sent1 sent') now.sent_is
          (taken_is_read P a.program.names moves.0 now.rest left2 (world sent1 written None) (world sent2 written' last) (asked_play a) end now.left_is (halts (moves.0 ++ now.rest) came))));
      prompt = subst (λ bytes. Prompt bytes (Some [])) (sym read) from_first;
    }

-- the counts of the net, by that of its links
pub net_counts : (end : PlayEnd) (links made links' listens listens' accepts accepts' dials dials' : ℕ) → made ≡ links → PlayLinks end made links' → listens' ≡ listens → accepts' ≡ accepts → dials' ≡ dials
    → PlayFaults end (counts_as links listens accepts dials) (counts_as links' listens' accepts' dials')
net_counts (Err play_stop.LinkFault) links made links' listens listens' accepts accepts' dials dials' none rose a b c = (subst (λ n. Rose n links') none rose, a, b, c)
net_counts (Err play_stop.Ended) links made links' listens listens' accepts accepts' dials dials' none same a b c = same_faults _ _ _ _ _ _ _ _ (same ∙ none) a b c
net_counts (Err play_stop.NoMemory) links made links' listens listens' accepts accepts' dials dials' none same a b c = same_faults _ _ _ _ _ _ _ _ (same ∙ none) a b c
net_counts (Err play_stop.WriteFault) links made links' listens listens' accepts accepts' dials dials' none same a b c = same_faults _ _ _ _ _ _ _ _ (same ∙ none) a b c
net_counts (Ok played) links made links' listens listens' accepts accepts' dials dials' none same a b c = same_faults _ _ _ _ _ _ _ _ (same ∙ none) a b c

-- the line of a link that failed is told
pub line_told : (line bytes : List ℕ) → line ≡ link_fault_line → bytes ≡ line → (ended : Status) (old new : Option (List ℕ)) (before now : ℕ)
    → TellsText ReadFault bytes ended old new before now → TellsText ReadFault link_fault_line ended old new before now
line_told line bytes is same ended old new before now told = subst (λ text. TellsText ReadFault text ended old new before now) (same ∙ is) told

-- which counts rose as a play ended
pub play_causes : (end : PlayEnd) (links links' before now : ℕ) → PlayCause links links' before now end → PlayLinks end links links' × PlayWrites end before now
play_causes (Ok played) links links' before now cause = cause
play_causes (Err play_stop.Ended) links links' before now cause = cause
play_causes (Err play_stop.LinkFault) links links' before now cause = cause
play_causes (Err play_stop.NoMemory) links links' before now cause = cause
play_causes (Err play_stop.WriteFault) links links' before now cause = cause
