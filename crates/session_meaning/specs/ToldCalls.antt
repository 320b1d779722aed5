-- The told calls of a session, and what it means that they are true up to a split.
use Rattle.std.specs.Prelude.{◌≡◌, ◌⊎◌, ℕ, Bool, true, false, List, [], ◌∷◌, ◌++◌, Option, Some, unwrap_or, nat_eq, if◌then◌else◌}
use Rattle.core_terms.specs.Formats.{Hash}
use Rattle.core_terms.specs.Values.{Value, UnitV}
use Rattle.core_terms.specs.Reading.{Read, Good, BadAt}
use Rattle.core_terms.specs.Terms.{Program}
use Rattle.core_terms.specs.Projection.{digest_at, read_at}
use Rattle.ideal_meaning.specs.Ideal.{Outcome, outcome_projection, honest_pieces, bytes_of}
use Rattle.ideal_meaning.specs.Frames.{offered, offered_pieces}
use Rattle.ideal_meaning.specs.SplitPieces.{IsSplitAt}
use Rattle.ideal_meaning.specs.Headline.{call_values}
use Rattle.session_meaning.specs.Messages.{Proof, session_of}
use Rattle.session_meaning.specs.Tables.{find}
use Rattle.session_meaning.specs.Calls.{role_in, RoleCall, outcome_of, new_state}
use Rattle.session_meaning.specs.Client.{Known, Asked, Standing, Greeting, Idle, Leaving, Calling, Client, Event, Hellos, Calls, Byes, Hears, Forgets, Answer, Tells, take_event}

-- A told call: what the client knew of the session, the call, the frames of the proof, and the outcome that was told.
pub record ToldCall : Type 0 where
  pub known : Known
  pub asked : Asked
  pub frames : List ℕ
  pub outcome : Outcome

-- the session of an event
abbrev pub event_session : Event → ℕ
event_session (Hellos session n state) = session
event_session (Calls session role fuel argument) = session
event_session (Byes session) = session
event_session (Hears reply) = session_of reply
event_session (Forgets session) = session

-- the call that an event tells of, where a session stands so and the client answers so
abbrev pub told_by : Option Standing → Event → Answer → List ToldCall
told_by (Some (Calling known asked)) (Hears (Proof session frames)) (Tells o) = record { known = known; asked = asked; frames = frames; outcome = o } ∷ []
told_by standing event answer = []

-- the session hasn't ended or failed
abbrev pub lives : Option Standing → Bool
lives (Some (Greeting known)) = true
lives (Some (Idle known)) = true
lives (Some (Calling known asked)) = true
lives (Some (Leaving known)) = true
lives standing = false

module _ (hash : Hash) (P : Program) (own : List ℕ) where
  -- the call of the session with a number that an event tells of, if it tells of one
  abbrev pub told_of : ℕ → Client → Event → List ToldCall
  told_of number c e = if nat_eq (event_session e) number then told_by (find number c.sessions) e (take_event hash P own c e).answer else []

  -- the told calls of a session up to its end, in order
  abbrev pub told_calls : ℕ → Client → List Event → List ToldCall
  told_calls number c [] = []
  told_calls number c (e ∷ es) =
      let later = (take_event hash P own c e).client in
      told_of number c e ++ (if lives (find number later.sessions) then told_calls number later es else [])

-- the value that was read
abbrev pub value_read : Read Value → Value
value_read (Good v rest end) = v
value_read (BadAt offset) = UnitV

module _ (hash : Hash) (P : Program) where
  -- the call, with the value of its argument
  abbrev pub call_asked : Asked → RoleCall
  call_asked asked = record { role = asked.role; argument = value_read (read_at P (role_in P asked.role).argument asked.argument); fuel = asked.fuel }

  -- the pieces that its proof offered, where the client kept its ring
  abbrev pub pieces_offered : ToldCall → List (List ℕ)
  pieces_offered told = offered_pieces (offered P.format.limit told.frames told.known.kept told.known.recent)

  -- On the state v the told call is true: its proof offered the honest pieces, and the outcome told is the projection of the
  -- ideal one.
  pub record IsTrueCall (v : Value) (told : ToldCall) : Type 0 where
    pub pieces : pieces_offered told ≡ bytes_of (honest_pieces hash P (role_in P told.asked.role).function
        (call_values v (call_asked told.asked).argument) told.asked.fuel)
    pub outcome : told.outcome ≡ outcome_projection hash P (role_in P told.asked.role).result (outcome_of P v (call_asked told.asked))

  -- On the state v there is a split: the first offered piece that differs from the honest one has its digest, at one place.
  abbrev pub IsSplitCall : Value → ToldCall → Type 0
  IsSplitCall v told =
      (i : ℕ) × IsSplitAt (digest_at hash P) (pieces_offered told) (honest_pieces hash P (role_in P told.asked.role).function
      (call_values v (call_asked told.asked).argument) told.asked.fuel) i

  -- the ideal state behind a call: the first component of an update's value, else the same
  abbrev pub state_after : Value → ToldCall → Value
  state_after v told = unwrap_or (new_state P (call_asked told.asked) (outcome_of P v (call_asked told.asked))) v

  -- Each told call is true, each on the ideal state that those before it leave; or there is a first that isn't, and at that one
  -- there is a split.
  abbrev pub TrueUpToSplit : Value → List ToldCall → Type 0
  TrueUpToSplit v [] = Unit {0}
  TrueUpToSplit v (told ∷ more) = (IsTrueCall v told × TrueUpToSplit (state_after v told) more) ⊎ IsSplitCall v told

-- the session was greeted with what the client knows of it, or is idle with it
abbrev pub BeginsWith : Known → Option Standing → Type 0
BeginsWith known (Some (Greeting k)) = k ≡ known
BeginsWith known (Some (Idle k)) = k ≡ known
BeginsWith known standing = ⊥
