-- The client of the definitions that a core stands for.
use Rattle.std.specs.Prelude.{◌≡◌, ℕ, true, List, Option}
use Rattle.core_terms.specs.Terms.{Program}
use Rattle.ideal_meaning.specs.Told.{cause_told}
use Rattle.reuse_buffer.specs.Kept.{kept}
use Rattle.session_meaning.specs.Calls.{reads_state, role_in}
use Rattle.session_meaning.specs.Client as meant
use Rattle.session_meaning.specs.Tables.{Numbered}
use Rattle.session_tables.specs.Related.{AreRows}
use Rattle.ask_core.specs.declared.standing.Known.{Known}
use Rattle.ask_core.specs.declared.asked.Asked.{Asked}
use Rattle.ask_core.specs.declared.standing.Standing.{Standing}
use Rattle.ask_core.specs.declared.standing.Standing.TheVariants.{Greeting, Idle, Calling, Leaving, FailedBy, BrokenBy}

-- What is known of a session: its state's spelling, and a ring of its size that holds the last of the new pieces of its proofs.
pub record IsKnown (known : Known) (k : meant.Known) : Type 0 where
  pub state : k.state ≡ known.state
  pub size : k.kept ≡ known.ring.size
  pub ring : known.ring ≡ kept k.kept k.recent

-- a call that was sent, of a role that reads the state
pub record IsAsked (P : Program) (asked : Asked) (a : meant.Asked) : Type 0 where
  pub role : a.role ≡ asked.role
  pub argument : a.argument ≡ asked.argument
  pub fuel : a.fuel ≡ asked.fuel
  pub reads : reads_state (role_in P a.role).kind ≡ true

-- how a session stands
abbrev pub Stands : Program → Standing → meant.Standing → Type 0
Stands P (Greeting known) (meant.Greeting k) = IsKnown known k
Stands P (Idle known) (meant.Idle k) = IsKnown known k
Stands P (Calling known asked) (meant.Calling k a) = IsKnown known k × IsAsked P asked a
Stands P (Leaving known) (meant.Leaving k) = IsKnown known k
Stands P (FailedBy cause) (meant.FailedBy c) = c ≡ cause_told cause
Stands P (BrokenBy kind) (meant.BrokenBy k) = k ≡ kind
Stands P standing s = ⊥

-- The client: the cause of an end for all sessions, if one came, and each session as it stands.
pub record IsClient (P : Program) (closed : Option ℕ) (rows : List (Numbered Standing)) (c : meant.Client) : Type 0 where
  pub closed_is : c.closed ≡ closed
  pub sessions : AreRows (Stands P) rows c.sessions
