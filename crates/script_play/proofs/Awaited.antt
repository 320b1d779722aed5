-- Requests that are sent before a reply is waited for: for the clauses `prompt`.
use Rattle.std.proofs.Common.{◌≡◌, ◌∙◌, ℕ, Bool, true, List, [], ◌∷◌, ◌++◌, take, drop, Option, Some, inl, inr, refl, sym, ap, append_assoc}
use Rattle.std.proofs.lemmas.List.{take-append-drop}
use Rattle.lam_outside.specs.Moments.{Moment}
use Rattle.lam_outside.specs.LinkSteps.{AtEachRead}
use Rattle.lam_outside.proofs.Waiting.{none_read, reads_on, reads_weaken}
use Rattle.std.specs.Io.KnownBytes.{append_known}
use Rattle.core_terms.specs.Formats.{Hash}
use Rattle.core_terms.specs.Terms.{Program}
use Rattle.printed_syntax.specs.Literals.{ConstructorNames}
use Rattle.session_meaning.specs.Client as meant
use Rattle.session_meaning.specs.Messages.{AtEnd, IsCut, Messages, NoMore, Reply, messages, reply_of}
use Rattle.session_meaning.specs.MessageFields.{read_reply}
use Rattle.session_meaning.proofs.WholeMessages.{replies_stop}
use Rattle.wire_form.specs.ReadMessages.{StopsShort}
use Rattle.wire_form.specs.Waits.{WaitsInside}
use Rattle.wire_form.proofs.Coming.{short_read}
use Rattle.script_play.specs.Halting.{TakesNone}
use Rattle.script_play.specs.HaltingInCode.{TakesSoFar}
use Rattle.script_play.specs.DeedLines.{bytes_sent}
use Rattle.script_play.specs.Playing.{World, done}
use Rattle.script_play.specs.Plays.{Deed, Play, Stops, behind, ends, if_goes, if_waiting, take_replies, then_play}
use Rattle.script_play.specs.Prompt.{IsPromptOn, WaitsForReply}
use Rattle.script_play.proofs.Halted.{played_here}
use Rattle.script_play.proofs.Worlds.{done_more}

-- none can be read of bytes that are none, or end inside of a reply
short_none : (bytes taken rest : List ℕ) (left : Option (List ℕ)) → bytes ≡ taken ++ rest → left ≡ Some rest → StopsShort (read_reply taken) → TakesNone bytes left
short_none bytes taken rest left parted is (inl none) =
    record { taken = taken; rest = rest; parted = parted; left = is; stop = AtEnd; short = inl refl; are_none = replies_stop taken AtEnd none }
short_none bytes taken rest left parted is (inr none) =
    record { taken = taken; rest = rest; parted = parted; left = is; stop = IsCut; short = inr refl; are_none = replies_stop taken IsCut none }

pub waits_for_reply : (bytes : List ℕ) (sent : Option (List ℕ)) (reads reads' : Option (List Moment)) → AtEachRead (WaitsInside bytes sent) reads reads' → AtEachRead (WaitsForReply bytes sent) reads reads'
waits_for_reply bytes sent reads reads' waits =
    reads_weaken (WaitsInside bytes sent) (WaitsForReply bytes sent) (λ m stood. (
      stood.0,
      short_none bytes (take stood.1.taken bytes) (drop stood.1.taken bytes) m.left (sym (take-append-drop stood.1.taken bytes)) stood.1.left
          (short_read reply_of (take stood.1.taken bytes) stood.1.unfinished),
    )) reads reads' waits

module _ (hash : Hash) (P : Program) (own : List ℕ) (names : ConstructorNames) (waiting : meant.Client → Bool) (Is : meant.Client → Type 0) (bytes : List ℕ) (left' : Option (List ℕ))
    (w w' : World) (plays : Messages Reply → Play) (far : TakesSoFar P names Is bytes left' w w' plays (take_replies hash P own waiting)) (on : waiting far.client ≡ true) where
  awaited_now : (m : Moment) → WaitsForReply far.rest w'.sent m → IsPromptOn bytes w.sent plays m
  awaited_now m waits =
      let none = waits.1 in
      let stop = none.stop in
      record {
        taken = far.taken ++ none.taken;
        rest = none.rest;
        parted = far.parted ∙ ap (λ l. far.taken ++ l) none.parted ∙ sym (append_assoc far.taken none.taken none.rest);
        left = none.left;
        awaits = record {
          front = far.deeds;
          stop = stop;
          short = none.short;
          behind = [];
          parted = ap (λ (p : Play). p.deeds) (far.plays_on none.taken)
              ∙ ap (λ ms. far.deeds ++ (take_replies hash P own waiting far.client ms).deeds) none.are_none
              ∙ ap (λ b. far.deeds ++ (if_waiting b far.client (NoMore stop) (λ c. behind (Stops stop ∷ []) (ends c (NoMore stop)))).deeds) on;
          sent_is = waits.0 ∙ ap (λ (w : World). w.sent) far.worlds;
        };
      }

  pub awaits_more : (reads reads' reads'' : Option (List Moment)) → AtEachRead (IsPromptOn bytes w.sent plays) reads reads' → AtEachRead (WaitsForReply far.rest w'.sent) reads' reads''
      → AtEachRead (IsPromptOn bytes w.sent plays) reads reads''
  awaits_more reads reads' reads'' before waits =
      reads_on (IsPromptOn bytes w.sent plays) reads reads' reads'' before
      (reads_weaken (WaitsForReply far.rest w'.sent) (IsPromptOn bytes w.sent plays) awaited_now reads' reads'' waits)

module _ (P : Program) (names : ConstructorNames) where
  -- A PLAY BEHIND DEEDS OF WHICH NO BYTE WAS TAKEN
  module _ (w w1 : World) (ds : List Deed) (first : w1 ≡ done P names w ds) (plays q : Messages Reply → Play) (e : (ms : Messages Reply) → plays ms ≡ behind ds (q ms)) (bytes : List ℕ) where
    prompt_behind : (m : Moment) → IsPromptOn bytes w1.sent q m → IsPromptOn bytes w.sent plays m
    prompt_behind m on =
        let a = on.awaits in
        record {
          taken = on.taken;
          rest = on.rest;
          parted = on.parted;
          left = on.left;
          awaits = record {
            front = ds ++ a.front;
            stop = a.stop;
            short = a.short;
            behind = a.behind;
            parted = ap (λ (p : Play). p.deeds) (e (messages reply_of on.taken)) ∙ ap (λ l. ds ++ l) a.parted ∙ sym (append_assoc ds a.front (Stops a.stop ∷ a.behind));
            sent_is = a.sent_is ∙ ap (λ (x : World). append_known x.sent (bytes_sent a.front)) first ∙ ap (λ (x : World). x.sent) (done_more P names w ds a.front);
          };
        }

    -- these deeds made no read
    pub reads_behind : (reads reads1 reads2 : Option (List Moment)) → reads1 ≡ reads → AtEachRead (IsPromptOn bytes w1.sent q) reads1 reads2 → AtEachRead (IsPromptOn bytes w.sent plays) reads reads2
    reads_behind reads reads1 reads2 same prompt =
        let Q = IsPromptOn bytes w.sent plays in
        reads_on Q reads reads1 reads2 (none_read Q reads reads1 same) (reads_weaken (IsPromptOn bytes w1.sent q) Q prompt_behind reads1 reads2 prompt)

  -- A PLAY THAT GOES ON
  module _ (Is : meant.Client → Type 0) (bytes : List ℕ) (left : Option (List ℕ)) (w0 w : World) (plays : Messages Reply → Play) (more : meant.Client → Messages Reply → Play)
      (far : TakesSoFar P names Is bytes left w0 w plays more) (next : meant.Client → Messages Reply → Play) (p : Messages Reply → Play)
      (e : (ms : Messages Reply) → more far.client ms ≡ then_play (p ms) next) where
    prompt_here : (m : Moment) → IsPromptOn far.rest w.sent p m → IsPromptOn bytes w0.sent plays m
    prompt_here m on =
        let a = on.awaits in
        let q = p (messages reply_of on.taken) in
        let later = (if_goes q.goes_on q.client q.coming next).deeds in
        record {
          taken = far.taken ++ on.taken;
          rest = on.rest;
          parted = far.parted ∙ ap (λ r. far.taken ++ r) on.parted ∙ sym (append_assoc far.taken on.taken on.rest);
          left = on.left;
          awaits = record {
            front = far.deeds ++ a.front;
            stop = a.stop;
            short = a.short;
            behind = a.behind ++ later;
            parted = ap (λ (p : Play). p.deeds) (played_here P names Is bytes left w0 w plays more far next p e on.taken)
                ∙ ap (λ l. far.deeds ++ (l ++ later)) a.parted ∙ ap (λ l. far.deeds ++ l) (append_assoc a.front (Stops a.stop ∷ a.behind) later)
                ∙ sym (append_assoc far.deeds a.front (Stops a.stop ∷ (a.behind ++ later)));
            sent_is = a.sent_is ∙ ap (λ (x : World). append_known x.sent (bytes_sent a.front)) far.worlds ∙ ap (λ (x : World). x.sent) (done_more P names w0 far.deeds a.front);
          };
        }

    pub prompt_more : (reads reads1 reads2 : Option (List Moment)) → AtEachRead (IsPromptOn bytes w0.sent plays) reads reads1 → AtEachRead (IsPromptOn far.rest w.sent p) reads1 reads2
        → AtEachRead (IsPromptOn bytes w0.sent plays) reads reads2
    prompt_more reads reads1 reads2 before prompt =
        let Q = IsPromptOn bytes w0.sent plays in
        reads_on Q reads reads1 reads2 before (reads_weaken (IsPromptOn far.rest w.sent p) Q prompt_here reads1 reads2 prompt)
