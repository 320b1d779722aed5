-- Outcomes that are told with the spelling of their value.
use Rattle.std.specs.Prelude.{◌≡◌}
use Rattle.core_terms.specs.Spelling.{Spells}
use Rattle.core_terms.specs.Terms.{Program}
use Rattle.core_terms.specs.Types.{Ty}
use Rattle.core_terms.specs.Values.{Value}
use Rattle.core_terms.specs.declared.byte_string.ByteString.{ByteString as Spelling}
use Rattle.core_terms.specs.declared.outcome.Outcome.{Outcome}
use Rattle.core_terms.specs.declared.outcome.Outcome.TheVariants as told
use Rattle.ideal_meaning.specs.Ideal as ideal
use Rattle.ideal_meaning.specs.Told.{trap_told}

-- The outcome of the definitions that an outcome with a spelling tells: its value is a shallow one of type t within the limits, with this
-- spelling.
abbrev pub SpellsOutcome : Program → Ty → ideal.Outcome → Outcome Spelling → Type 0
SpellsOutcome P t o (told.Done bytes) = (v : Value) × (o ≡ ideal.Done v) × Spells P.format.limit P.types bytes t v
SpellsOutcome P t o (told.Trapped trap) = o ≡ ideal.Trapped (trap_told trap)
SpellsOutcome P t o told.Out = o ≡ ideal.Out
