-- Plays one behind another on the bytes that came, and where the link or the sink broke one off: for the clauses `halts`.
use Rattle.std.proofs.Common.{inl, inr, ◌≡◌, ◌⊎◌, ℕ, Bool, true, false, List, [], ◌∷◌, ◌++◌, take, drop, Option, Some, None, Result, Ok, Err, refl, sym, ap, ◌∙◌, subst}
use Rattle.std.proofs.lemmas.List.{append-nil, append_assoc, drop-drop, take-append-drop}
use Rattle.std.specs.Option.{option_or}
use Rattle.std.specs.Io.KnownBytes.{append_known}
use Rattle.lam_outside.proofs.Moved.{append_none}
use Rattle.core_terms.specs.Formats.{Hash}
use Rattle.core_terms.specs.Terms.{Program}
use Rattle.printed_syntax.specs.Literals.{ConstructorNames}
use Rattle.session_meaning.specs.Client as meant
use Rattle.session_meaning.specs.Messages.{AtEnd, BadMessage as BadMessageOf, Got, IsCut, Messages, NoMore, Read, Reply, Stop, Stops as Stopped, Then, TooLong as TooLongOf, goes_on, left_by, messages, reply_of}
use Rattle.session_meaning.specs.MessageFields.{read_reply}
use Rattle.session_meaning.proofs.OnlyMessages.{messages_go_on}
use Rattle.session_meaning.proofs.WholeMessages.{message_long, message_read, message_refused, replies_stop}
use Rattle.wire_form.specs.MessageViews.{reply_meant}
use Rattle.wire_form.specs.ReadMessages.{ReadsMessage, StopsShort}
use Rattle.wire_form.specs.Incoming.{length_field}
use Rattle.wire_form.specs.declared.message.ReadStop.{ReadStop}
use Rattle.wire_form.specs.declared.message.ReadStop.TheVariants.{BadMessage, Cut, End, LinkFault as FailsToRead, NoMemory as LacksMemory, TooLong}
use Rattle.script_play.specs.DeedLines.{deed_bytes, deed_line, stop_line}
use Rattle.script_play.specs.Halting.{HaltsAt, IsLeast, StopsWithin, TakesNone}
use Rattle.script_play.specs.HaltingInCode.{FailsOn, HaltsOn, IsWhole, PlaysTo, TakesNext, TakesSoFar, TakesTold}
use Rattle.script_play.specs.Playing.{World, done, world}
use Rattle.script_play.specs.PlayingInCode.{IsTelling, TellingIsTold, take_one}
use Rattle.script_play.specs.Plays.{Deed, Play, Stops, behind, goes_behind, hears, if_goes, rests, then_play, told_of}
use Rattle.script_play.specs.Tellings.{IsStop, IsStopTold}
use Rattle.script_play.specs.declared.play_stop.PlayStop.{PlayStop}
use Rattle.script_play.specs.declared.play_stop.PlayStop.TheVariants.{LinkFault, WriteFault}
use Rattle.script_play.specs.declared.telling.Telling.{Telling}
use Rattle.script_play.proofs.LeastTaken.{last_of, no_last, whole_read}
use Rattle.script_play.proofs.Steps.{no_deeds}
use Rattle.script_play.proofs.Worlds.{behind_twice, done_more, fails_as, fails_before, fails_behind, worlds_same}

behind_nil : (ds : List Deed) (p : Play) → behind (ds ++ []) p ≡ behind ds p
behind_nil ds p = ap (λ (l : List Deed). behind l p) (append-nil ds)

module _ (P : Program) (names : ConstructorNames) where
  -- DEEDS BEFORE, AND BEHIND
  pub halts_behind : (w w1 w2 : World) (ds : List Deed) → w1 ≡ done P names w ds → (deeds : List Deed) → HaltsAt P names w1 w2 deeds → HaltsAt P names w w2 (ds ++ deeds)
  halts_behind w w1 w2 ds first deeds h =
      let front_is : done P names w1 h.front ≡ done P names w (ds ++ h.front) = ap (λ x. done P names x h.front) first ∙ done_more P names w ds h.front in
      record {
        front = ds ++ h.front;
        next = h.next;
        left = h.left;
        parted = ap (λ x. ds ++ x) h.parted ∙ sym (append_assoc ds h.front (h.next ∷ h.left));
        count = h.count;
        unmet = h.unmet;
        sent = h.sent ∙ ap (λ (x : World). append_known x.sent (take h.count (deed_bytes h.next))) front_is;
        written = h.written ∙ ap (λ (x : World). x.written) front_is;
        last = h.last ∙ ap (λ (x : World). x.last) front_is;
      }

  pub halts_before : (w w2 : World) (deeds more : List Deed) → HaltsAt P names w w2 deeds → HaltsAt P names w w2 (deeds ++ more)
  halts_before w w2 deeds more h = record {
    front = h.front;
    next = h.next;
    left = h.left ++ more;
    parted = ap (λ y. y ++ more) h.parted ∙ append_assoc h.front (h.next ∷ h.left) more;
    count = h.count;
    unmet = h.unmet;
    sent = h.sent;
    written = h.written;
    last = h.last;
  }

  -- nothing is done
  pub done_none : (w : World) → w ≡ done P names w []
  done_none w = worlds_same _ _ _ _ _ _ (sym (append_none w.sent)) (sym (append_none w.written)) refl

  -- THE PLAY THAT BEGINS, GOES ON, AND ENDS
  pub begins_to : (Is : meant.Client → Type 0) (bytes : List ℕ) (left : Option (List ℕ)) (w : World) (more : meant.Client → Messages Reply → Play) (c : meant.Client)
      → Is c → left ≡ Some bytes → TakesSoFar P names Is bytes left w w (more c) more
  begins_to Is bytes left w more c stands told = record {
    taken = [];
    rest = bytes;
    parted = refl;
    left = told;
    deeds = [];
    client = c;
    stands = stands;
    worlds = done_none w;
    plays_on = λ x. refl;
    least = λ before last is. absurd (no_last before last is);
  }

  module _ (Is : meant.Client → Type 0) (bytes : List ℕ) (left : Option (List ℕ)) (w0 w : World) (plays : Messages Reply → Play) (more : meant.Client → Messages Reply → Play)
      (far : TakesSoFar P names Is bytes left w0 w plays more) where
    module _ (next : meant.Client → Messages Reply → Play) (p : Messages Reply → Play) (e : (ms : Messages Reply) → more far.client ms ≡ then_play (p ms) next) where
      -- more was taken of what was left
      from_here : (taken : List ℕ) (x : List ℕ) → plays (messages reply_of ((far.taken ++ taken) ++ x)) ≡ behind far.deeds (then_play (p (messages reply_of (taken ++ x))) next)
      from_here taken x =
          ap (λ (l : List ℕ). plays (messages reply_of l)) (append_assoc far.taken taken x) ∙ far.plays_on (taken ++ x) ∙ ap (behind far.deeds) (e (messages reply_of (taken ++ x)))

      pub played_here : (taken : List ℕ) → plays (messages reply_of (far.taken ++ taken)) ≡ behind far.deeds (then_play (p (messages reply_of taken)) next)
      played_here taken =
          ap (λ (l : List ℕ). plays (messages reply_of l)) (sym (append-nil (far.taken ++ taken))) ∙ from_here taken []
          ∙ ap (λ (l : List ℕ). behind far.deeds (then_play (p (messages reply_of l)) next)) (append-nil taken)

      -- fewer bytes of what was left
      stops_here : (front : List Deed) (taken : List ℕ) → StopsWithin front (p (messages reply_of taken)).deeds
          → StopsWithin (far.deeds ++ front) (plays (messages reply_of (far.taken ++ taken))).deeds
      stops_here front taken s =
          let q = p (messages reply_of taken) in
          let later = (if_goes q.goes_on q.client q.coming next).deeds in
          record {
            before = far.deeds ++ s.before;
            more = s.more;
            stop = s.stop;
            behind = s.behind ++ later;
            within = ap (λ l. far.deeds ++ l) s.within ∙ sym (append_assoc far.deeds s.before s.more);
            parted = ap (λ (q : Play). q.deeds) (played_here taken) ∙ ap (λ l. far.deeds ++ (l ++ later)) s.parted
                ∙ ap (λ l. far.deeds ++ l) (append_assoc s.before (Stops s.stop ∷ s.behind) later) ∙ sym (append_assoc far.deeds s.before (Stops s.stop ∷ (s.behind ++ later)));
          }

      least_here : (front : List Deed) (taken : List ℕ) → IsLeast p taken front → IsLeast plays (far.taken ++ taken) (far.deeds ++ front)
      least_here front taken least before last is = by (last_of far.taken taken before last is)
        where
          by : (taken ≡ []) ⊎ ((few : List ℕ) × (taken ≡ few ++ last ∷ []) × (before ≡ far.taken ++ few)) → StopsWithin (far.deeds ++ front) (plays (messages reply_of before)).deeds
          by (inl none) =
              let s = far.least before last (sym (append-nil far.taken) ∙ ap (λ l. far.taken ++ l) (sym none) ∙ is) in
              record {
                before = s.before;
                more = s.more ++ front;
                stop = s.stop;
                behind = s.behind;
                within = ap (λ l. l ++ front) s.within ∙ append_assoc s.before s.more front;
                parted = s.parted;
              }
          by (inr (few, whole, all)) =
              subst (λ bytes. StopsWithin (far.deeds ++ front) (plays (messages reply_of bytes)).deeds) (sym all) (stops_here front few (least few last whole))

      pub goes_on_to : (Is' : meant.Client → Type 0) (left' : Option (List ℕ)) (w' : World) → TakesSoFar P names Is' far.rest left' w w' p rests
          → TakesSoFar P names Is' bytes left' w0 w' plays next
      goes_on_to Is' left' w' step = record {
        taken = far.taken ++ step.taken;
        rest = step.rest;
        parted = far.parted ∙ ap (λ r. far.taken ++ r) step.parted ∙ sym (append_assoc far.taken step.taken step.rest);
        left = step.left;
        deeds = far.deeds ++ step.deeds;
        client = step.client;
        stands = step.stands;
        worlds = step.worlds ∙ ap (λ x. done P names x step.deeds) far.worlds ∙ done_more P names w0 far.deeds step.deeds;
        plays_on = λ x.
            let c = step.client in
            let ms = messages reply_of x in
            from_here step.taken x ∙ ap (λ q. behind far.deeds (then_play q next)) (step.plays_on x)
            ∙ ap (behind far.deeds) (behind_nil step.deeds (next c ms)) ∙ behind_twice far.deeds step.deeds (next c ms);
        least = least_here step.deeds step.taken step.least;
      }

      pub halts_to : (left' : Option (List ℕ)) (w' : World) → HaltsOn P names far.rest left' w w' p → HaltsOn P names bytes left' w0 w' plays
      halts_to left' w' h =
          let q = p (messages reply_of h.taken) in
          record {
            taken = far.taken ++ h.taken;
            rest = h.rest;
            parted = far.parted ∙ ap (λ r. far.taken ++ r) h.parted ∙ sym (append_assoc far.taken h.taken h.rest);
            left = h.left;
            halts = subst (λ (p : Play). HaltsAt P names w0 w' p.deeds) (sym (played_here h.taken))
                (halts_behind w0 w w' far.deeds far.worlds (then_play q next).deeds (halts_before w w' q.deeds (if_goes q.goes_on q.client q.coming next).deeds h.halts));
          }

      fails_to : (left' : Option (List ℕ)) (w' : World) → FailsOn P names far.rest left' w w' p → FailsOn P names bytes left' w0 w' plays
      fails_to left' w' h =
          let q = p (messages reply_of h.taken) in
          let later = (if_goes q.goes_on q.client q.coming next).deeds in
          record {
            taken = far.taken ++ h.taken;
            rest = h.rest;
            parted = far.parted ∙ ap (λ r. far.taken ++ r) h.parted ∙ sym (append_assoc far.taken h.taken h.rest);
            left = h.left;
            fails = record {
              fails = fails_as P names w0 w' (far.deeds ++ (q.deeds ++ later)) (plays (messages reply_of (far.taken ++ h.taken))).deeds (ap (λ (q : Play). q.deeds) (played_here h.taken))
                  (fails_behind P names w0 w w' far.deeds far.worlds (q.deeds ++ later) (fails_before P names w w' q.deeds later h.fails.fails));
              least = least_here h.fails.fails.front h.taken h.fails.least;
            };
          }

      pub breaks_to : (Is' Is'' : meant.Client → Type 0) (left' : Option (List ℕ)) (w' : World) (halt : PlayStop) → PlaysTo P names {T = Unit {0}} Is' far.rest left' w w' p (Err halt)
          → PlaysTo P names {T = Unit {0}} Is'' bytes left' w0 w' plays (Err halt)
      breaks_to Is' Is'' left' w' LinkFault h = halts_to left' w' h
      breaks_to Is' Is'' left' w' WriteFault h = fails_to left' w' h
      breaks_to Is' Is'' left' w' halt h = tt

    pub ends_to : ((ms : Messages Reply) → more far.client ms ≡ rests far.client ms) → TakesSoFar P names Is bytes left w0 w plays rests
    ends_to e = record {
      taken = far.taken;
      rest = far.rest;
      parted = far.parted;
      left = far.left;
      deeds = far.deeds;
      client = far.client;
      stands = far.stands;
      worlds = far.worlds;
      plays_on = λ x. far.plays_on x ∙ ap (behind far.deeds) (e (messages reply_of x));
      least = far.least;
    }

  -- A PLAY BEHIND DEEDS OF WHICH NO BYTE WAS TAKEN
  module _ (w w1 w2 : World) (ds : List Deed) (first : w1 ≡ done P names w ds) (plays q : Messages Reply → Play) (e : (ms : Messages Reply) → plays ms ≡ behind ds (q ms))
      (Is : meant.Client → Type 0) (bytes : List ℕ) (left' : Option (List ℕ)) where
    -- fewer bytes of what was taken behind these deeds
    least_behind : (front : List Deed) (taken : List ℕ) → IsLeast q taken front → IsLeast plays taken (ds ++ front)
    least_behind front taken least before last is =
        let s = least before last is in
        record {
          before = ds ++ s.before;
          more = s.more;
          stop = s.stop;
          behind = s.behind;
          within = ap (λ l. ds ++ l) s.within ∙ sym (append_assoc ds s.before s.more);
          parted = ap (λ (p : Play). p.deeds) (e (messages reply_of before)) ∙ ap (λ l. ds ++ l) s.parted ∙ sym (append_assoc ds s.before (Stops s.stop ∷ s.behind));
        }

    pub plays_to_behind : {T : Type 0} (r : Result T PlayStop) → PlaysTo P names Is bytes left' w1 w2 q r → PlaysTo P names Is bytes left' w w2 plays r
    plays_to_behind (Ok u) h = record {
      taken = h.taken;
      rest = h.rest;
      parted = h.parted;
      left = h.left;
      deeds = ds ++ h.deeds;
      client = h.client;
      stands = h.stands;
      worlds = h.worlds ∙ ap (λ x. done P names x h.deeds) first ∙ done_more P names w ds h.deeds;
      plays_on = λ x. e (messages reply_of (h.taken ++ x)) ∙ ap (behind ds) (h.plays_on x) ∙ behind_twice ds h.deeds (rests h.client (messages reply_of x));
      least = least_behind h.deeds h.taken h.least;
    }
    plays_to_behind (Err LinkFault) h = record {
      taken = h.taken;
      rest = h.rest;
      parted = h.parted;
      left = h.left;
      halts = subst (λ (p : Play). HaltsAt P names w w2 p.deeds) (sym (e (messages reply_of h.taken))) (halts_behind w w1 w2 ds first (q (messages reply_of h.taken)).deeds h.halts);
    }
    plays_to_behind (Err WriteFault) h = record {
      taken = h.taken;
      rest = h.rest;
      parted = h.parted;
      left = h.left;
      fails = record {
        fails = fails_as P names w w2 (ds ++ (q (messages reply_of h.taken)).deeds) (plays (messages reply_of h.taken)).deeds (ap (λ (p : Play). p.deeds) (e (messages reply_of h.taken)))
            (fails_behind P names w w1 w2 ds first (q (messages reply_of h.taken)).deeds h.fails.fails);
        least = least_behind h.fails.fails.front h.taken h.fails.least;
      };
    }
    plays_to_behind (Err halt) h = tt

-- ONE REPLY
module _ (hash : Hash) (P : Program) (names : ConstructorNames) (own : List ℕ) (Is : meant.Client → Type 0) (bytes : List ℕ) (left' : Option (List ℕ)) (c : meant.Client) where
  -- it was read whole, and heard
  pub reply_taken : (r : Reply) (rest : List ℕ) (telling : Telling) → read_reply bytes ≡ Got r rest → left' ≡ Some rest
      → IsTelling P names (told_of hash P own c r) (goes_behind (hears hash P own c r).answer) telling → Is (hears hash P own c r).client
      → TakesNext hash P names own Is bytes left' c (Ok telling)
  reply_taken r rest telling read left tells stands =
      let first = message_read reply_of bytes r rest read in
      let taken = first.0 in
      let goes_first : (x : List ℕ) → messages reply_of (taken ++ x) ≡ Then r (messages reply_of x) =
      λ x. (messages_go_on (taken ++ x)).1 ∙ ap (λ (q : Read Reply). goes_on q (messages reply_of)) (first.2 x) in
      let alone : read_reply taken ≡ Got r [] = ap read_reply (sym (append-nil taken)) ∙ first.2 [] in
      let whole : IsWhole taken = whole_read taken (Got r []) alone refl in
      let answer = (hears hash P own c r).answer in
      let client = (hears hash P own c r).client in (
        record {
          taken = taken;
          rest = rest;
          parted = first.1;
          left = left;
          deed = told_of hash P own c r;
          alone = ap (λ ms. (take_one hash P own c ms).deeds) (ap (messages reply_of) (sym (append-nil taken)) ∙ goes_first [])
              ∙ ap (λ ds. told_of hash P own c r ∷ ds) (no_deeds (goes_behind answer) client (messages reply_of []));
          tells = subst (λ b. IsTelling P names (told_of hash P own c r) b telling) (sym tells.goes_on) tells;
          whole = whole;
        },
        λ goes.
            let on : goes_behind answer ≡ true = sym tells.goes_on ∙ goes in
            record {
              taken = taken;
              rest = rest;
              parted = first.1;
              left = left;
              reply = r;
              is_first = goes_first;
              goes = on;
              tells = subst (λ b. IsTelling P names (told_of hash P own c r) b telling) on tells;
              whole = whole;
              stands = stands;
            },
      )

  -- the bytes that were taken are none, and that is told
  stop_alone : (taken rest : List ℕ) (stop : Stop) (telling : Telling) → bytes ≡ taken ++ rest → left' ≡ Some rest → read_reply taken ≡ Stopped stop
      → telling.line.items ≡ stop_line stop → telling.made ≡ None → TakesTold hash P names own bytes left' c telling
  stop_alone taken rest stop telling parted left read line made = record {
    taken = taken;
    rest = rest;
    parted = parted;
    left = left;
    deed = Stops stop;
    alone = ap (λ ms. (take_one hash P own c ms).deeds) (replies_stop taken stop read);
    tells = record { line = line; made = made; goes_on = refl };
    whole = whole_read taken (Stopped stop) read tt;
  }

  stop_taken : (s : ReadStop) (stop : Stop) → IsStop s stop → (telling : Telling) → telling.line.items ≡ stop_line stop → telling.made ≡ None
      → ReadsMessage reply_meant read_reply bytes left' (Err s) → TakesTold hash P names own bytes left' c telling
  stop_taken End stop is telling line made reads =
      stop_alone bytes [] stop telling (sym (append-nil bytes)) reads.1 (reads.0 ∙ ap (λ (x : Stop). let q : Read Reply = Stopped x in q) (sym is)) line made
  stop_taken Cut stop is telling line made reads =
      stop_alone bytes [] stop telling (sym (append-nil bytes)) reads.1 (reads.0 ∙ ap (λ (x : Stop). let q : Read Reply = Stopped x in q) (sym is)) line made
  stop_taken (TooLong len) stop is telling line made reads =
      let taken = take 4 bytes in
      let read : read_reply taken ≡ Stopped (TooLongOf len) = ap read_reply (sym (append-nil taken)) ∙ message_long reply_of bytes len reads.0 [] in
      stop_alone taken (drop 4 bytes) stop telling (sym (take-append-drop 4 bytes)) reads.1 (read ∙ ap (λ (x : Stop). let q : Read Reply = Stopped x in q) (sym is)) line made
  stop_taken (BadMessage kind offset) stop is telling line made reads =
      let first = message_refused reply_of bytes kind offset reads.0 in
      let read : read_reply first.0 ≡ Stopped (BadMessageOf kind offset) = ap read_reply (sym (append-nil first.0)) ∙ first.2 [] in
      stop_alone first.0 (left_by (BadMessageOf kind offset) bytes) stop telling first.1 (reads.1 ∙ ap Some (sym (drop-drop (length_field bytes) 4 bytes)))
      (read ∙ ap (λ (x : Stop). let q : Read Reply = Stopped x in q) (sym is)) line made
  stop_taken FailsToRead stop is telling line made reads = absurd is
  stop_taken LacksMemory stop is telling line made reads = absurd is

  -- none was
  pub none_taken : (s : ReadStop) (result : Result Telling PlayStop) → IsStopTold s result → ReadsMessage reply_meant read_reply bytes left' (Err s)
      → TakesNext hash P names own Is bytes left' c result
  none_taken s (Ok telling) told reads = (stop_taken s told.0 told.1 telling told.2 told.3 reads, λ goes. absurd (let clash : false ≡ true = sym told.4 ∙ goes in cc))
  none_taken s (Err LinkFault) told reads = short_of (subst (λ s. ReadsMessage reply_meant read_reply bytes left' (Err s)) told reads)
    where
      short_of : (taken : ℕ) × (left' ≡ Some (drop taken bytes)) × StopsShort (read_reply (take taken bytes)) → TakesNone bytes left'
      short_of (n, left, inl none) = record {
        taken = take n bytes;
        rest = drop n bytes;
        parted = sym (take-append-drop n bytes);
        left = left;
        stop = AtEnd;
        short = inl refl;
        are_none = replies_stop (take n bytes) AtEnd none;
      }
      short_of (n, left, inr cut) = record {
        taken = take n bytes;
        rest = drop n bytes;
        parted = sym (take-append-drop n bytes);
        left = left;
        stop = IsCut;
        short = inr refl;
        are_none = replies_stop (take n bytes) IsCut cut;
      }
  none_taken s (Err WriteFault) told reads = told
  none_taken s (Err halt) told reads = tt

  -- without a reply nothing is done
  none_first : (front : List Deed) (before : List ℕ) → ((stop : Stop) × (messages reply_of before ≡ NoMore stop)) → StopsWithin front (take_one hash P own c (messages reply_of before)).deeds
  none_first front before (stop, are) =
      record { before = []; more = front; stop = stop; behind = []; within = refl; parted = ap (λ ms. (take_one hash P own c ms).deeds) are }

  -- what is told of it is played
  module _ (sent sent' written written' last last' : Option (List ℕ)) (same : sent' ≡ sent) where
    pub reply_played : (telling : Telling) (result : Result (Unit {0}) PlayStop) → TakesNext hash P names own Is bytes left' c (Ok telling)
        → TellingIsTold telling written written' last last' result
        → PlaysTo P names Is bytes left' (world sent written last) (world sent' written' last') (take_one hash P own c) result
    reply_played telling (Ok u) takes told =
        let one = takes.1 told.0 in
        let deed = told_of hash P own c one.reply in
        record {
          taken = one.taken;
          rest = one.rest;
          parted = one.parted;
          left = one.left;
          deeds = deed ∷ [];
          client = (hears hash P own c one.reply).client;
          stands = one.stands;
          worlds = worlds_same _ _ _ _ _ _ (same ∙ sym (append_none sent))
              (told.1 ∙ ap (append_known written) (one.tells.line ∙ sym (append-nil (deed_line P names deed)))) (told.2 ∙ ap (λ m. option_or m last) one.tells.made);
          plays_on = λ x.
              ap (take_one hash P own c) (one.is_first x)
              ∙ ap (λ b. behind (deed ∷ []) (if_goes b (hears hash P own c one.reply).client (messages reply_of x) rests)) one.goes;
          least = λ before last is. none_first (deed ∷ []) before (one.whole before last is);
        }
    reply_played telling (Err LinkFault) takes told = absurd told
    reply_played telling (Err WriteFault) takes told =
        let one = takes.0 in
        record {
          taken = one.taken;
          rest = one.rest;
          parted = one.parted;
          left = one.left;
          fails = record {
            fails = record {
              front = [];
              next = one.deed;
              left = [];
              parted = one.alone;
              count = told.0;
              sent = same ∙ sym (append_none sent);
              written = told.1 ∙ ap (λ (l : List ℕ). append_known written (take told.0 l)) one.tells.line
                  ∙ ap (λ (w : Option (List ℕ)). append_known w (take told.0 (deed_line P names one.deed))) (sym (append_none written));
              last = told.2 ∙ ap (λ m. option_or m last) one.tells.made;
            };
            least = λ before last is. none_first [] before (one.whole before last is);
          };
        }
    reply_played telling (Err halt) takes told = tt

    none_played : TakesNone bytes left' → HaltsOn P names bytes left' (world sent written last) (world sent' written last) (take_one hash P own c)
    none_played none = record {
      taken = none.taken;
      rest = none.rest;
      parted = none.parted;
      left = none.left;
      halts = subst (λ (ms : Messages Reply). HaltsAt P names (world sent written last) (world sent' written last) (take_one hash P own c ms).deeds) (sym none.are_none)
          (record {
            front = [];
            next = Stops none.stop;
            left = [];
            parted = refl;
            count = 0;
            unmet = none.short;
            sent = same ∙ sym (append_none sent) ∙ sym (append_none (append_known sent []));
            written = sym (append_none written);
            last = refl;
          });
    }

    pub cut_played : (halt : PlayStop) → TakesNext hash P names own Is bytes left' c (Err halt)
        → PlaysTo P names {T = Unit {0}} Is bytes left' (world sent written last) (world sent' written last) (take_one hash P own c) (Err halt)
    cut_played LinkFault none = none_played none
    cut_played WriteFault none = absurd none
    cut_played halt none = tt
