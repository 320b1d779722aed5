-- What one reply does: for `take_one`, and what is given of a result.
use Rattle.std.proofs.Common.{◌≡◌, ℕ, Bool, true, false, List, [], ◌∷◌, ◌++◌, take, Option, Some, None, Result, Ok, Err, IfOk, refl, sym, ap, ◌∙◌, subst}
use Rattle.std.proofs.lemmas.List.{append-nil}
use Rattle.std.specs.Option.{option_or}
use Rattle.std.specs.Io.KnownBytes.{append_known}
use Rattle.lam_outside.proofs.Moved.{append_none}
use Rattle.core_terms.specs.Formats.{Hash}
use Rattle.core_terms.specs.Terms.{Program}
use Rattle.printed_syntax.specs.Literals.{ConstructorNames}
use Rattle.session_meaning.specs.Client as meant
use Rattle.session_meaning.specs.Messages.{Messages, Reply}
use Rattle.script_play.specs.DeedLines.{deed_bytes, deed_line}
use Rattle.script_play.specs.Plays.{Deed, Play, behind, if_goes, rests}
use Rattle.script_play.specs.Playing.{AreComing, PlaysAs, World, done, world}
use Rattle.script_play.specs.PlayingInCode.{IsCutShort, IsTelling, TellingIsTold, PlayCause, take_one}
use Rattle.script_play.specs.Tellings.{IsNext}
use Rattle.script_play.specs.declared.play_stop.PlayStop.{PlayStop}
use Rattle.script_play.specs.declared.play_stop.PlayStop.TheVariants.{Ended, LinkFault, WriteFault, NoMemory}
use Rattle.script_play.specs.declared.telling.Telling.{Telling}
use Rattle.script_play.proofs.Worlds.{nothing_done, worlds_same}

pub no_deeds : (goes : Bool) (c : meant.Client) (ms : Messages Reply) → (if_goes goes c ms rests).deeds ≡ []
no_deeds true c ms = refl
no_deeds false c ms = refl

module _ (P : Program) (names : ConstructorNames) where
  -- what is broken off before anything is done
  pub cut_short : (Is : meant.Client → Type 0) (left' : Option (List ℕ)) (w : World) (p : Play) (h : PlayStop) → IsCutShort h
      → PlaysAs P names {T = Unit {0}} Is left' w w p (Err h)
  cut_short Is left' w p LinkFault e = nothing_done P names w p.deeds
  cut_short Is left' w p NoMemory e = nothing_done P names w p.deeds
  cut_short Is left' w p Ended e = absurd e
  cut_short Is left' w p WriteFault e = absurd e

  -- ONE DEED THAT TELLS
  module _ (deed : Deed) (goes : Bool) (telling : Telling) (silent : deed_bytes deed ≡ []) (tells : IsTelling P names deed goes telling)
      (sent written written' last last' : Option (List ℕ)) where
    told_world : written' ≡ append_known written telling.line.items → last' ≡ (option_or telling.made last)
        → world sent written' last' ≡ done P names (world sent written last) (deed ∷ [])
    told_world e f =
        worlds_same _ _ _ _ _ _
        (sym (ap (λ (b : List ℕ). append_known sent (b ++ [])) silent ∙ append_none sent))
        (e ∙ ap (append_known written) (tells.line ∙ sym (append-nil (deed_line P names deed))))
        (f ∙ ap (λ (m : Option (List ℕ)). option_or m last) tells.made)

    pub told_plays : (Is : meant.Client → Type 0) (left' : Option (List ℕ)) (c : meant.Client) (ms : Messages Reply)
        → (goes ≡ true → Is c) → (goes ≡ true → AreComing left' ms) → (r : Result (Unit {0}) PlayStop) → TellingIsTold telling written written' last last' r
        → PlaysAs P names Is left' (world sent written last) (world sent written' last') (behind (deed ∷ []) (if_goes goes c ms rests)) r
    told_plays Is left' c ms stands comes (Ok u) h =
        let true_is : goes ≡ true = sym tells.goes_on ∙ h.0 in
        subst (λ g. PlaysAs P names Is left' (world sent written last) (world sent written' last') (behind (deed ∷ []) (if_goes g c ms rests)) (Ok u)) (sym true_is)
        (refl, told_world h.1 h.2, stands true_is, comes true_is)
    told_plays Is left' c ms stands comes (Err Ended) h =
        let false_is : goes ≡ false = sym tells.goes_on ∙ h.0 in
        subst (λ g. PlaysAs P names {T = Unit {0}} Is left' (world sent written last) (world sent written' last') (behind (deed ∷ []) (if_goes g c ms rests)) (Err Ended)) (sym false_is)
        (refl, told_world h.1 h.2)
    told_plays Is left' c ms stands comes (Err WriteFault) h = record {
      front = [];
      next = deed;
      left = [];
      parted = ap (λ (ds : List Deed). deed ∷ ds) (no_deeds goes c ms);
      count = h.0;
      sent = sym (append_none sent);
      written = h.1 ∙ ap (λ (b : List ℕ). append_known written (take h.0 b)) tells.line
          ∙ ap (λ (x : Option (List ℕ)). append_known x (take h.0 (deed_line P names deed))) (sym (append_none written));
      last = h.2 ∙ ap (λ (m : Option (List ℕ)). option_or m last) tells.made;
    }
    told_plays Is left' c ms stands comes (Err LinkFault) h = absurd h
    told_plays Is left' c ms stands comes (Err NoMemory) h = absurd h

  -- one reply
  pub next_plays : (hash : Hash) (own : List ℕ) (Is : meant.Client → Type 0) (left' : Option (List ℕ)) (c : meant.Client) (ms : Messages Reply) (telling : Telling)
      → IsNext hash P names own Is left' c ms telling → (sent sent' written written' last last' : Option (List ℕ)) → sent' ≡ sent
      → (r : Result (Unit {0}) PlayStop) → TellingIsTold telling written written' last last' r
      → PlaysAs P names Is left' (world sent written last) (world sent' written' last') (take_one hash P own c ms) r
  next_plays hash own Is left' c ms telling next sent sent' written written' last last' same r h =
      subst (λ s. PlaysAs P names Is left' (world sent written last) (world s written' last') (take_one hash P own c ms) r) (sym same)
      (subst (λ q. PlaysAs P names Is left' (world sent written last) (world sent written' last') q r) (sym next.takes)
      (told_plays next.deed next.goes telling next.silent next.tells sent written written' last last' Is left' next.later next.coming next.stands next.comes r h))

  -- the link moved nothing
  pub cut_so : (Is : meant.Client → Type 0) (left' : Option (List ℕ)) (sent sent' written last : Option (List ℕ)) (p : Play) (h : PlayStop) → sent' ≡ sent → IsCutShort h
      → PlaysAs P names {T = Unit {0}} Is left' (world sent written last) (world sent' written last) p (Err h)
  cut_so Is left' sent sent' written last p h same e =
      subst (λ s. PlaysAs P names {T = Unit {0}} Is left' (world sent written last) (world s written last) p (Err h)) (sym same) (cut_short Is left' (world sent written last) p h e)

-- WHAT IS GIVEN OF A RESULT
pub ok_map : {T E : Type 0} {Q R : T → Type 0} (r : Result T E) → IfOk r Q → ((x : T) → Q x → R x) → IfOk r R
ok_map (Ok x) q f = f x q
ok_map (Err e) q f = tt

pub ok_map2 : {T E : Type 0} {Q1 Q2 R : T → Type 0} (r : Result T E) → IfOk r Q1 → IfOk r Q2 → ((x : T) → Q1 x → Q2 x → R x) → IfOk r R
ok_map2 (Ok x) q1 q2 f = f x q1 q2
ok_map2 (Err e) q1 q2 f = tt

pub ok_map4 : {T E : Type 0} {Q1 Q2 Q3 Q4 R : T → Type 0} (r : Result T E) → IfOk r Q1 → IfOk r Q2 → IfOk r Q3 → IfOk r Q4
    → ((x : T) → Q1 x → Q2 x → Q3 x → Q4 x → R x) → IfOk r R
ok_map4 (Ok x) q1 q2 q3 q4 f = f x q1 q2 q3 q4
ok_map4 (Err e) q1 q2 q3 q4 f = tt

-- THE COUNTS OF FAULTS
pub cause_after : {T : Type 0} (old new sink sink' : ℕ) (r : Result T PlayStop) → new ≡ old → ((link : ℕ) → PlayCause link link sink sink' r) → PlayCause old new sink sink' r
cause_after old new sink sink' r same cause = subst (λ l. PlayCause l new sink sink' r) same (cause new)

pub cause_err : (T U : Type 0) (link link' sink sink' : ℕ) (h : PlayStop) → PlayCause {T = T} link link' sink sink' (Err h) → PlayCause {T = U} link link' sink sink' (Err h)
cause_err T U link link' sink sink' Ended k = k
cause_err T U link link' sink sink' LinkFault k = k
cause_err T U link link' sink sink' NoMemory k = k
cause_err T U link link' sink sink' WriteFault k = k
