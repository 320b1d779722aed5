-- The steps of a mirror on a link: a message, and a link.
use Rattle.std.specs.Prelude.{◌≡◌, ◌⊎◌, ◌≤◌, ℕ, suc, List, [], ◌∷◌, ◌++◌, length, take, Bool, true, false, Option, Some, None, Result, Ok, Err}
use Rattle.std.specs.Io.KnownBytes.{append_known}
use Rattle.core_terms.specs.declared.digest.Digest.{Digest}
use Rattle.lam_outside.specs.Links.{Linked}
use Rattle.ideal_meaning.specs.Fetched.{Got}
use Rattle.session_meaning.specs.Messages.{Stop, Got as Reads, Stops}
use Rattle.session_meaning.specs.FetchMessages.{answer_bytes, asked_in, read_fetch}
use Rattle.link_ends.specs.Ends.{is_fault}
use Rattle.link_ends.specs.MoreLinks.{TakesBytes}
use Rattle.link_ends.specs.declared.end.ConnectionEnd.{ConnectionEnd}
use Rattle.link_ends.specs.declared.end.ConnectionEnd.TheVariants as connection
use Rattle.link_ends.specs.declared.link_stop.LinkStop.{LinkStop}
use Rattle.link_ends.specs.declared.link_stop.LinkStop.TheVariants as link_stop
use Rattle.mirror_links.specs.Answered.{IsAnswered, IsSentPart}
use Rattle.mirror_links.specs.AnsweredLinks.{IsAnsweredOn}

-- these bytes are a message that asks for this digest, whatever stands behind it
abbrev pub IsAskedBy : (taken digest : List ℕ) → Type 0
IsAskedBy taken digest = (more : List ℕ) → read_fetch (taken ++ more) ≡ Reads digest more

-- these bytes begin with no message that asks for a piece
abbrev pub AsksNothing : List ℕ → Type 0
AsksNothing bytes = (stop : Stop) × (read_fetch bytes ≡ Stops stop)

-- What is asked for next, where these bytes come and some of them are taken. Where the link failed no message stands whole in those that were
-- taken; where memory was wanting, at most one.
abbrev pub AsksNext : (bytes : List ℕ) (left' : Option (List ℕ)) → Result (Option Digest) LinkStop → Type 0
AsksNext bytes left' (Ok (Some digest)) = (taken : List ℕ) × TakesBytes bytes taken left' × IsAskedBy taken digest.0
AsksNext bytes left' (Ok None) = (taken : List ℕ) × TakesBytes bytes taken left' × AsksNothing bytes
AsksNext bytes left' (Err link_stop.LinkFault) = (taken : List ℕ) × TakesBytes bytes taken left' × AsksNothing taken
AsksNext bytes left' (Err link_stop.Stopped) =
    (taken : List ℕ) × TakesBytes bytes taken left' × (AsksNothing taken ⊎ ((digest : List ℕ) × IsAskedBy taken digest))

-- all of these bytes were sent, or a front of them
abbrev pub SendsFront : (bytes : List ℕ) (sent sent' : Option (List ℕ)) → Result (Unit {0}) LinkStop → Type 0
SendsFront bytes sent sent' (Ok done) = sent' ≡ append_known sent bytes
SendsFront bytes sent sent' (Err stop) = (n : ℕ) × (n ≤ length bytes) × (sent' ≡ append_known sent (take n bytes))

module _ (get : List ℕ → Got) where
  -- a digest was asked for and answered, and the connection goes on
  pub record MirrorGoesOn (bytes : List ℕ) (left' : Option (List ℕ)) (sent sent' : Option (List ℕ)) : Type 0 where
    pub digest : List ℕ
    pub taken : List ℕ
    pub takes : TakesBytes bytes taken left'
    pub asked : IsAskedBy taken digest
    pub sends : sent' ≡ append_known sent (answer_bytes (get digest))

  -- The link failed, or memory was wanting: what is asked for in the bytes that were taken was answered in part.
  pub record BreaksOff (bytes : List ℕ) (left' : Option (List ℕ)) (sent sent' : Option (List ℕ)) : Type 0 where
    pub taken : List ℕ
    pub out : List ℕ
    pub takes : TakesBytes bytes taken left'
    pub sends : sent' ≡ append_known sent out
    pub part : (most : ℕ) → IsSentPart get (asked_in (suc most) taken) out

  -- a message of the connection, behind which it goes on, or not
  abbrev pub AnswersMessage : (bytes : List ℕ) (left' sent sent' : Option (List ℕ)) → Result Bool LinkStop → Type 0
  AnswersMessage bytes left' sent sent' (Ok true) = MirrorGoesOn bytes left' sent sent'
  AnswersMessage bytes left' sent sent' (Ok false) = (taken : List ℕ) × TakesBytes bytes taken left' × AsksNothing bytes × (sent' ≡ sent)
  AnswersMessage bytes left' sent sent' (Err stop) = BreaksOff bytes left' sent sent'

  -- the connection on which these bytes come has ended, when some of them were taken
  pub record Ends (bytes : List ℕ) (left' : Option (List ℕ)) (sent sent' : Option (List ℕ)) (end : ConnectionEnd) : Type 0 where
    pub taken : List ℕ
    pub out : List ℕ
    pub takes : TakesBytes bytes taken left'
    pub sends : sent' ≡ append_known sent out
    pub answered : IsAnswered get bytes taken out end

  -- Where the links are told, there is one more, to this port, on which the mirror answered.
  pub record IsOneAnswered (port : ℕ) (links : Option (List Linked)) (after : List Linked) (end : ConnectionEnd) : Type 0 where
    pub before : List Linked
    pub link : Linked
    pub told : links ≡ Some before
    pub all : after ≡ before ++ link ∷ []
    pub at_port : link.port ≡ port
    pub answered : IsAnsweredOn get link end

  -- the same without want of memory: whether it ended in a link fault
  pub record IsOneWhole (port : ℕ) (links : Option (List Linked)) (after : List Linked) (faulted : Bool) : Type 0 where
    pub end : ConnectionEnd
    pub one : IsOneAnswered port links after end
    pub unstopped : end ≡ connection.Stopped → ⊥
    pub fault : faulted ≡ is_fault end

  -- so it is at an accepted link; where none was, the links are the same
  abbrev pub AnswersNext : (port : ℕ) → (links links' : Option (List Linked)) → Result Bool LinkStop → Type 0
  AnswersNext port links links' (Ok faulted) = (after : List Linked) → links' ≡ Some after → IsOneWhole port links after faulted
  AnswersNext port links links' (Err link_stop.LinkFault) = links' ≡ links
  AnswersNext port links links' (Err link_stop.Stopped) = (after : List Linked) → links' ≡ Some after → IsOneAnswered port links after connection.Stopped
