-- What refusals of the code stand for, and what a test of a request comes to.
use Rattle.std.specs.Prelude.{◌≡◌, Result, Ok, Err, ⊤}
use Rattle.session_meaning.specs.Causes as meant
use Rattle.shallow_codec.specs.declared.fault.UnspellFault.{UnspellFault}
use Rattle.shallow_codec.specs.declared.fault.UnspellFault.TheVariants.{Bad, NoMemory as NoNodeMemory}
use Rattle.session_turns.specs.declared.refusal.Refusal.{Refusal}
use Rattle.session_turns.specs.declared.refusal.Refusal.TheVariants.{OtherProgram, NoVersion, NoSession, SessionThere, CallRuns, NoRole, NoArgument, ManySessions, ManyVersions, LargeRing, NoMessage, MuchFuel, LongProof}
use Rattle.session_turns.specs.declared.refusal.Denial.{Denial}
use Rattle.session_turns.specs.declared.refusal.Denial.TheVariants.{Refused, NoMemory}

abbrev pub refusal_meant : Refusal → meant.Refusal
refusal_meant OtherProgram = meant.OtherProgram
refusal_meant NoVersion = meant.NoVersion
refusal_meant NoSession = meant.NoSession
refusal_meant SessionThere = meant.SessionThere
refusal_meant CallRuns = meant.CallRuns
refusal_meant NoRole = meant.NoRole
refusal_meant NoArgument = meant.NoArgument
refusal_meant ManySessions = meant.ManySessions
refusal_meant ManyVersions = meant.ManyVersions
refusal_meant LargeRing = meant.LargeRing
refusal_meant NoMessage = meant.NoMessage
refusal_meant MuchFuel = meant.MuchFuel
refusal_meant LongProof = meant.LongProof

-- What a test of a request grants is what that of the definitions grants, and what it refuses is refused there for the same cause.
-- Where memory is wanting nothing is said.
abbrev pub IsTestedAs : {A : Type 0} → Result A Denial → Result A meant.Refusal → Type 0
IsTestedAs (Ok a) tested = tested ≡ Ok a
IsTestedAs (Err (Refused refusal)) tested = tested ≡ Err (refusal_meant refusal)
IsTestedAs (Err NoMemory) tested = ⊤

-- An argument that spells nothing is refused.
abbrev pub Denies : UnspellFault → Denial → Type 0
Denies (Bad offset) denial = denial ≡ Refused NoArgument
Denies NoNodeMemory denial = denial ≡ NoMemory
