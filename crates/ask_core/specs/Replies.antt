-- What a core tells of a reply, for the client of the definitions.
use Rattle.std.specs.Prelude.{◌≡◌, ℕ, Option, Some, None, Result, Ok, Err}
use Rattle.core_terms.specs.Formats.{Hash}
use Rattle.core_terms.specs.Terms.{Program}
use Rattle.core_terms.specs.Types.{Ty, UnitTy}
use Rattle.ideal_meaning.specs.Ideal as ideal
use Rattle.ideal_meaning.specs.SpelledOutcomes.{SpellsOutcome}
use Rattle.session_meaning.specs.Calls.{role_in}
use Rattle.session_meaning.specs.Client as meant
use Rattle.session_meaning.specs.Messages as message
use Rattle.session_meaning.specs.Tables.{find}
use Rattle.session_tables.specs.Related.{AreSame}
use Rattle.verifier_mode.specs.declared.verdict.Verdict.{Verdict}
use Rattle.verifier_mode.specs.declared.verdict.Verdict.TheVariants as verdict
use Rattle.ask_core.specs.Answers.{fault_told}
use Rattle.ask_core.specs.Clients.{Stands}
use Rattle.ask_core.specs.declared.replied.Replied.{Replied}
use Rattle.ask_core.specs.declared.standing.Standing.{Standing}
use Rattle.ask_core.specs.declared.standing.Standing.TheVariants.{FailedBy}
use Rattle.ask_core.specs.declared.told.AskFault.{AskFault}
use Rattle.ask_core.specs.declared.told.AskFault.TheVariants.{BadState, BadArgument, Rejected, NoMemory}
use Rattle.ask_core.specs.declared.told.Told.{Told}
use Rattle.ask_core.specs.declared.told.Told.TheVariants.{Welcome, Outcome, Stale, Refused, Ended}

-- the type of what the call of a session gives
abbrev pub called_type : Program → Option meant.Standing → Ty
called_type P (Some (meant.Calling known asked)) = (role_in P asked.role).result
called_type P standing = UnitTy

-- The answer is told: an outcome with the spelling of its value, which has type t, and a fault as itself.
abbrev pub IsAnswer : Program → Ty → meant.Answer → Result Told AskFault → Type 0
IsAnswer P t answer (Ok Welcome) = answer ≡ meant.TellsWelcome
IsAnswer P t answer (Ok (Outcome told)) = (o : ideal.Outcome) × (answer ≡ meant.Tells o) × SpellsOutcome P t o told
IsAnswer P t answer (Ok (Stale state)) = answer ≡ meant.TellsStale state
IsAnswer P t answer (Ok (Refused cause)) = answer ≡ meant.TellsRefused cause
IsAnswer P t answer (Ok Ended) = answer ≡ meant.TellsEnded
IsAnswer P t answer (Err fault) = answer ≡ fault_told fault

-- the step that is taken where this is told: that of the reply, and for want of memory that which forgets its session
abbrev pub step_taken : (hears forgets : meant.Taken) → Result Told AskFault → meant.Taken
step_taken hears forgets (Err NoMemory) = forgets
step_taken hears forgets told = hears

-- The client c takes a reply: its step is answered so, and the client behind it is this one. A reply for all sessions wants no memory.
abbrev pub ClientTakes : (meant.Client → Type 0) → Program → meant.Client → message.Reply → (hears forgets : meant.Taken) → Result Told AskFault → Type 0
ClientTakes Is P c reply hears forgets told =
    let t = step_taken hears forgets told in
    IsAnswer P (called_type P (find (message.session_of reply) c.sessions)) t.answer told × Is t.client × (told ≡ Err NoMemory → meant.cause_for_all reply ≡ None)

-- A REPLY TO A SESSION THAT WAITS FOR ONE
-- the step behind which the session stands so, or is absent
abbrev pub step_to : meant.Client → ℕ → Option meant.Standing → meant.Answer → meant.Taken
step_to c number (Some standing) answer = meant.standing_step c number standing answer
step_to c number None answer = meant.absent_step c number answer

-- The step of a reply to a session that stands as m is told so, and the session stands so behind it.
pub record StepFollows (hash : Hash) (P : Program) (m : meant.Standing) (c : meant.Client) (reply : message.Reply) (replied : Replied) : Type 0 where
  pub standing : Option meant.Standing
  pub answer : meant.Answer
  pub step : meant.reply_step hash P (Some m) c (message.session_of reply) reply ≡ step_to c (message.session_of reply) standing answer
  pub stands : AreSame (Stands P) replied.standing standing
  pub tells : IsAnswer P (called_type P (Some m)) answer replied.told
  pub has_memory : (hears forgets : meant.Taken) → step_taken hears forgets replied.told ≡ hears

-- so it is whatever the client
abbrev pub IsReplied : Hash → Program → Standing → message.Reply → Replied → Type 0
IsReplied hash P standing reply replied = (c : meant.Client) (m : meant.Standing) → Stands P standing m → StepFollows hash P m c reply replied

-- what follows of a verdict that isn't an outcome; of a failure of the source nothing does, nor of want of memory
abbrev pub IsRefused : ℕ → Verdict → Replied → Type 0
IsRefused session (verdict.Rejected cause) replied = (replied.standing ≡ Some (FailedBy cause)) × (replied.told ≡ Err (Rejected session cause))
IsRefused session (verdict.BadState offset) replied = (replied.standing ≡ None) × (replied.told ≡ Err (BadState offset))
IsRefused session (verdict.BadArgument offset) replied = (replied.standing ≡ None) × (replied.told ≡ Err (BadArgument offset))
IsRefused session verdict.ReadFault replied = ⊥
IsRefused session verdict.NoMemory replied = ⊥
