-- What the code of a play does outside, against the play of the definition.
use Rattle.std.specs.Prelude.{◌≡◌, ℕ, true, false, List, [], ◌∷◌, ◌++◌, take, Option, Some, Result, Ok, Err}
use Rattle.std.specs.Io.KnownBytes.{append_known}
use Rattle.core_terms.specs.Terms.{Program}
use Rattle.printed_syntax.specs.Literals.{ConstructorNames}
use Rattle.session_meaning.specs.Client as meant
use Rattle.session_meaning.specs.Messages.{Messages, Reply, reply_of, messages}
use Rattle.script_play.specs.DeedLines.{bytes_sent, deed_bytes, deed_line, lines_told}
use Rattle.script_play.specs.Plays.{Deed, Play, made_last}
use Rattle.script_play.specs.declared.play_stop.PlayStop.{PlayStop}
use Rattle.script_play.specs.declared.play_stop.PlayStop.TheVariants.{Ended, LinkFault, WriteFault, NoMemory}

-- What a play changes: the bytes that were sent and those that were written, where the link and the sink tell them, and the state
-- that was told last, where one was.
pub record World : Type 0 where
  pub sent : Option (List ℕ)
  pub written : Option (List ℕ)
  pub last : Option (List ℕ)

abbrev pub world : (sent written last : Option (List ℕ)) → World
world sent written last = record { sent = sent; written = written; last = last }

-- the bytes that are left on a link are these replies, as far as they are any
pub record AreComing (left : Option (List ℕ)) (ms : Messages Reply) : Type 0 where
  pub bytes : List ℕ
  pub told : left ≡ Some bytes
  pub are : ms ≡ messages reply_of bytes

-- the request that is sent first by deeds of which the first one sends
abbrev pub first_sent : List Deed → List ℕ
first_sent [] = []
first_sent (deed ∷ deeds) = deed_bytes deed

module _ (P : Program) (names : ConstructorNames) where
  -- behind these deeds
  abbrev pub done : World → List Deed → World
  done w deeds = record {
    sent = append_known w.sent (bytes_sent deeds);
    written = append_known w.written (lines_told P names deeds);
    last = made_last w.last deeds;
  }

  -- The deeds in front are done, and of the next one at most a front of its request was sent.
  pub record BreaksOff (w w' : World) (deeds : List Deed) : Type 0 where
    pub front : List Deed
    pub left : List Deed
    pub parted : deeds ≡ front ++ left
    pub count : ℕ
    pub sent : w'.sent ≡ append_known (done w front).sent (take count (first_sent left))
    pub written : w'.written ≡ (done w front).written
    pub last : w'.last ≡ (done w front).last

  -- The deeds in front are done, and the next one too, but that only a front of its line was written.
  pub record FailsAtLine (w w' : World) (deeds : List Deed) : Type 0 where
    pub front : List Deed
    pub next : Deed
    pub left : List Deed
    pub parted : deeds ≡ front ++ next ∷ left
    pub count : ℕ
    pub sent : w'.sent ≡ (done w front).sent
    pub written : w'.written ≡ append_known (done w front).written (take count (deed_line P names next))
    pub last : w'.last ≡ (done w (front ++ next ∷ [])).last

  -- The play is played, and the script goes on; or it is played to its end; or it was broken off.
  abbrev pub PlaysAs : {T : Type 0} → (meant.Client → Type 0) → (left' : Option (List ℕ)) → (w w' : World) → Play → Result T PlayStop → Type 0
  PlaysAs Is left' w w' p (Ok played) = (p.goes_on ≡ true) × (w' ≡ done w p.deeds) × Is p.client × AreComing left' p.coming
  PlaysAs Is left' w w' p (Err Ended) = (p.goes_on ≡ false) × (w' ≡ done w p.deeds)
  PlaysAs Is left' w w' p (Err LinkFault) = BreaksOff w w' p.deeds
  PlaysAs Is left' w w' p (Err NoMemory) = BreaksOff w w' p.deeds
  PlaysAs Is left' w w' p (Err WriteFault) = FailsAtLine w w' p.deeds
