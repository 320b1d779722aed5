-- Plays one behind another, and what they do outside: for `take_one`, `take_replies`, `play_step`, `play`.
use Rattle.std.proofs.Common.{◌≡◌, ℕ, zero, suc, Bool, true, false, List, [], ◌∷◌, ◌++◌, take, Option, Some, None, Result, Ok, Err, refl, sym, ap, ◌∙◌, subst}
use Rattle.std.proofs.lemmas.Grind.{flat_map-append}
use Rattle.std.proofs.lemmas.List.{append-nil, append_assoc}
use Rattle.std.specs.Option.{option_or}
use Rattle.std.specs.Io.KnownBytes.{append_known}
use Rattle.lam_outside.proofs.Moved.{append_none, append_twice}
use Rattle.core_terms.specs.Formats.{Hash}
use Rattle.core_terms.specs.Terms.{Program}
use Rattle.printed_syntax.specs.Literals.{ConstructorNames}
use Rattle.session_meaning.specs.Client as meant
use Rattle.session_meaning.specs.Messages.{Messages, NoMore, Then, Reply}
use Rattle.script_play.specs.DeedLines.{bytes_sent, deed_bytes, deed_line, lines_told}
use Rattle.script_play.specs.Plays.{Deed, Stops, Play, behind, deed_made, ends, goes_behind, hears, if_goes, if_waiting, made_last, rests, take_replies, then_play, told_of}
use Rattle.script_play.specs.Playing.{AreComing, BreaksOff, FailsAtLine, PlaysAs, World, done, first_sent, world}
use Rattle.script_play.specs.PlayingInCode.{take_one}
use Rattle.script_play.specs.declared.play_stop.PlayStop.{PlayStop}
use Rattle.script_play.specs.declared.play_stop.PlayStop.TheVariants.{Ended, LinkFault, WriteFault, NoMemory}

pub worlds_same : (s s' w w' l l' : Option (List ℕ)) → s ≡ s' → w ≡ w' → l ≡ l' → world s w l ≡ world s' w' l'
worlds_same s s' w w' l l' e f g = ap (λ x. world x w l) e ∙ ap (λ x. world s' x l) f ∙ ap (λ x. world s' w' x) g

take_none : (n : ℕ) → let none : List ℕ = [] in take n none ≡ none
take_none zero = refl
take_none (suc n) = refl

last_more : (before : Option (List ℕ)) (a b : List Deed) → made_last (made_last before a) b ≡ made_last before (a ++ b)
last_more before [] b = refl
last_more before (x ∷ a) b = last_more (option_or (deed_made x) before) a b

pub behind_twice : (a b : List Deed) (p : Play) → behind a (behind b p) ≡ behind (a ++ b) p
behind_twice a b p =
    ap (λ (ds : List Deed). let q : Play = record { deeds = ds; client = p.client; coming = p.coming; goes_on = p.goes_on } in q) (sym (append_assoc a b p.deeds))

module _ (P : Program) (names : ConstructorNames) where
  pub done_more : (w : World) (a b : List Deed) → done P names (done P names w a) b ≡ done P names w (a ++ b)
  done_more w a b =
      worlds_same _ _ _ _ _ _
      (append_twice w.sent (bytes_sent a) (bytes_sent b) ∙ ap (append_known w.sent) (sym (flat_map-append deed_bytes a b)))
      (append_twice w.written (lines_told P names a) (lines_told P names b) ∙ ap (append_known w.written) (sym (flat_map-append (deed_line P names) a b)))
      (last_more w.last a b)

  module _ (w w1 w2 : World) (ds : List Deed) (first : w1 ≡ done P names w ds) where
    pub front_is : (front : List Deed) → done P names w1 front ≡ done P names w (ds ++ front)
    front_is front = ap (λ x. done P names x front) first ∙ done_more w ds front

    pub breaks_behind : (deeds : List Deed) → BreaksOff P names w1 w2 deeds → BreaksOff P names w w2 (ds ++ deeds)
    breaks_behind deeds h = record {
      front = ds ++ h.front;
      left = h.left;
      parted = ap (λ x. ds ++ x) h.parted ∙ sym (append_assoc ds h.front h.left);
      count = h.count;
      sent = h.sent ∙ ap (λ (x : World). append_known x.sent (take h.count (first_sent h.left))) (front_is h.front);
      written = h.written ∙ ap (λ (x : World). x.written) (front_is h.front);
      last = h.last ∙ ap (λ (x : World). x.last) (front_is h.front);
    }

    abbrev pub fails_behind : (deeds : List Deed) → FailsAtLine P names w1 w2 deeds → FailsAtLine P names w w2 (ds ++ deeds)
    fails_behind deeds h = record {
      front = ds ++ h.front;
      next = h.next;
      left = h.left;
      parted = ap (λ x. ds ++ x) h.parted ∙ sym (append_assoc ds h.front (h.next ∷ h.left));
      count = h.count;
      sent = h.sent ∙ ap (λ (x : World). x.sent) (front_is h.front);
      written = h.written ∙ ap (λ (x : World). append_known x.written (take h.count (deed_line P names h.next))) (front_is h.front);
      last = h.last ∙ ap (λ (x : World). x.last) (front_is (h.front ++ h.next ∷ []) ∙ ap (done P names w) (sym (append_assoc ds h.front (h.next ∷ []))));
    }

    module _ (Is : meant.Client → Type 0) (left' : Option (List ℕ)) where
      pub plays_behind : (p : Play) (r : Result (Unit {0}) PlayStop) → PlaysAs P names Is left' w1 w2 p r → PlaysAs P names Is left' w w2 (behind ds p) r
      plays_behind p (Ok u) h = (h.0, h.1 ∙ front_is p.deeds, h.2, h.3)
      plays_behind p (Err Ended) h = (h.0, h.1 ∙ front_is p.deeds)
      plays_behind p (Err LinkFault) h = breaks_behind p.deeds h
      plays_behind p (Err NoMemory) h = breaks_behind p.deeds h
      plays_behind p (Err WriteFault) h = fails_behind p.deeds h

  module _ (w w2 : World) where
    -- the same deeds, said otherwise
    abbrev pub fails_as : (deeds deeds' : List Deed) → deeds' ≡ deeds → FailsAtLine P names w w2 deeds → FailsAtLine P names w w2 deeds'
    fails_as deeds deeds' same h = record {
      front = h.front;
      next = h.next;
      left = h.left;
      parted = same ∙ h.parted;
      count = h.count;
      sent = h.sent;
      written = h.written;
      last = h.last;
    }

    breaks_before : (deeds more : List Deed) → BreaksOff P names w w2 deeds → BreaksOff P names w w2 (deeds ++ more)
    breaks_before deeds more h = by h.left h.parted h.sent
      where
        by : (left : List Deed) → deeds ≡ h.front ++ left → w2.sent ≡ append_known (done P names w h.front).sent (take h.count (first_sent left))
            → BreaksOff P names w w2 (deeds ++ more)
        by [] parted sent = record {
          front = h.front;
          left = more;
          parted = ap (λ x. x ++ more) (parted ∙ append-nil h.front);
          count = 0;
          sent = sent ∙ ap (append_known (done P names w h.front).sent) (take_none h.count);
          written = h.written;
          last = h.last;
        }
        by (x ∷ left) parted sent = record {
          front = h.front;
          left = x ∷ (left ++ more);
          parted = ap (λ y. y ++ more) parted ∙ append_assoc h.front (x ∷ left) more;
          count = h.count;
          sent = sent;
          written = h.written;
          last = h.last;
        }

    abbrev pub fails_before : (deeds more : List Deed) → FailsAtLine P names w w2 deeds → FailsAtLine P names w w2 (deeds ++ more)
    fails_before deeds more h = record {
      front = h.front;
      next = h.next;
      left = h.left ++ more;
      parted = ap (λ y. y ++ more) h.parted ∙ append_assoc h.front (h.next ∷ h.left) more;
      count = h.count;
      sent = h.sent;
      written = h.written;
      last = h.last;
    }

    -- a play that is broken off breaks off all that would be played
    pub plays_cut : (Is Is' : meant.Client → Type 0) (left' left'' : Option (List ℕ)) (p : Play) (more : meant.Client → Messages Reply → Play) (h : PlayStop)
        → PlaysAs P names {T = Unit {0}} Is left' w w2 p (Err h) → PlaysAs P names {T = Unit {0}} Is' left'' w w2 (then_play p more) (Err h)
    plays_cut Is Is' left' left'' p more Ended h =
        subst (λ g. let q = if_goes g p.client p.coming more in (q.goes_on ≡ false) × (w2 ≡ done P names w (p.deeds ++ q.deeds))) (sym h.0)
        (refl, h.1 ∙ ap (done P names w) (sym (append-nil p.deeds)))
    plays_cut Is Is' left' left'' p more LinkFault h = breaks_before p.deeds (if_goes p.goes_on p.client p.coming more).deeds h
    plays_cut Is Is' left' left'' p more NoMemory h = breaks_before p.deeds (if_goes p.goes_on p.client p.coming more).deeds h
    plays_cut Is Is' left' left'' p more WriteFault h = fails_before p.deeds (if_goes p.goes_on p.client p.coming more).deeds h

  -- nothing was done of what would be played
  pub nothing_done : (w : World) (deeds : List Deed) → BreaksOff P names w w deeds
  nothing_done w deeds = record {
    front = [];
    left = deeds;
    parted = refl;
    count = 0;
    sent = sym (append_twice w.sent [] [] ∙ append_none w.sent);
    written = sym (append_none w.written);
    last = refl;
  }

  -- A PLAY AS FAR AS IT WAS PLAYED
  pub record SoFar (whole : Play) (more : meant.Client → Messages Reply → Play) (Is : meant.Client → Type 0) (left : Option (List ℕ)) (w0 w : World) : Type 0 where
    pub front : List Deed
    pub client : meant.Client
    pub coming : Messages Reply
    pub goes : whole ≡ behind front (more client coming)
    pub worlds : w ≡ done P names w0 front
    pub stands : Is client
    pub comes : AreComing left coming

  module _ (whole : Play) (more : meant.Client → Messages Reply → Play) (Is : meant.Client → Type 0) (left : Option (List ℕ)) (w0 w : World)
      (far : SoFar whole more Is left w0 w) where
    pub goes_on_so : (next : meant.Client → Messages Reply → Play) (p : Play) → more far.client far.coming ≡ then_play p next
        → (Is' : meant.Client → Type 0) (left' : Option (List ℕ)) (w' : World) (u : Unit {0}) → PlaysAs P names Is' left' w w' p (Ok u)
        → SoFar whole next Is' left' w0 w'
    goes_on_so next p e Is' left' w' u h = record {
      front = far.front ++ p.deeds;
      client = p.client;
      coming = p.coming;
      goes = far.goes ∙ ap (behind far.front) (e ∙ ap (λ g. behind p.deeds (if_goes g p.client p.coming next)) h.0)
          ∙ behind_twice far.front p.deeds (next p.client p.coming);
      worlds = h.1 ∙ ap (λ x. done P names x p.deeds) far.worlds ∙ done_more w0 far.front p.deeds;
      stands = h.2;
      comes = h.3;
    }

    pub halts_so : (next : meant.Client → Messages Reply → Play) (p : Play) → more far.client far.coming ≡ then_play p next
        → (Is' Is'' : meant.Client → Type 0) (left' left'' : Option (List ℕ)) (w' : World) (h : PlayStop) → PlaysAs P names {T = Unit {0}} Is' left' w w' p (Err h)
        → PlaysAs P names {T = Unit {0}} Is'' left'' w0 w' whole (Err h)
    halts_so next p e Is' Is'' left' left'' w' h plays =
        subst (λ q. PlaysAs P names {T = Unit {0}} Is'' left'' w0 w' q (Err h)) (sym far.goes)
        (plays_behind w0 w w' far.front far.worlds Is'' left'' (more far.client far.coming) (Err h)
        (subst (λ q. PlaysAs P names {T = Unit {0}} Is'' left'' w w' q (Err h)) (sym e) (plays_cut w w' Is' Is'' left' left'' p next h plays)))

    pub ends_so : more far.client far.coming ≡ rests far.client far.coming → (u : Unit {0}) → PlaysAs P names Is left w0 w whole (Ok u)
    ends_so e u =
        subst (λ q. PlaysAs P names Is left w0 w q (Ok u)) (sym (far.goes ∙ ap (behind far.front) e))
        (refl, far.worlds ∙ ap (done P names w0) (sym (append-nil far.front)), far.stands, far.comes)

  pub begins_so : (more : meant.Client → Messages Reply → Play) (Is : meant.Client → Type 0) (left : Option (List ℕ)) (w : World) (c : meant.Client) (ms : Messages Reply)
      → Is c → AreComing left ms → SoFar (more c ms) more Is left w w
  begins_so more Is left w c ms is comes = record {
    front = [];
    client = c;
    coming = ms;
    goes = refl;
    worlds = worlds_same _ _ _ _ _ _ (sym (append_none w.sent)) (sym (append_none w.written)) refl;
    stands = is;
    comes = comes;
  }

-- REPLIES ARE TAKEN ONE BY ONE
module _ (hash : Hash) (P : Program) (own : List ℕ) (waiting : meant.Client → Bool) where
  pub waits_more : (c : meant.Client) (ms : Messages Reply) → waiting c ≡ true
      → take_replies hash P own waiting c ms ≡ then_play (take_one hash P own c ms) (take_replies hash P own waiting)
  waits_more c (NoMore stop) e = ap (λ b. if_waiting b c (NoMore stop) (λ c. behind (Stops stop ∷ []) (ends c (NoMore stop)))) e
  waits_more c (Then reply more) e =
      ap (λ b. if_waiting b c (Then reply more) (λ c. behind (told_of hash P own c reply ∷ [])
      (if_goes (goes_behind (hears hash P own c reply).answer) (hears hash P own c reply).client more (λ c ms. take_replies hash P own waiting c more)))) e
      ∙ by (goes_behind (hears hash P own c reply).answer)
    where
      by : (g : Bool) → let d = told_of hash P own c reply in let c' = (hears hash P own c reply).client in
          behind (d ∷ []) (if_goes g c' more (λ c ms. take_replies hash P own waiting c more))
          ≡ then_play (behind (d ∷ []) (if_goes g c' more rests)) (take_replies hash P own waiting)
      by true = refl
      by false = refl

  pub waits_no_more : (c : meant.Client) (ms : Messages Reply) → waiting c ≡ false → take_replies hash P own waiting c ms ≡ rests c ms
  waits_no_more c (NoMore stop) e = ap (λ b. if_waiting b c (NoMore stop) (λ c. behind (Stops stop ∷ []) (ends c (NoMore stop)))) e
  waits_no_more c (Then reply more) e =
      ap (λ b. if_waiting b c (Then reply more) (λ c. behind (told_of hash P own c reply ∷ [])
      (if_goes (goes_behind (hears hash P own c reply).answer) (hears hash P own c reply).client more (λ c ms. take_replies hash P own waiting c more)))) e
