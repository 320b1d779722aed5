-- An outcome whose value stands among nodes, and the same with the spelling of its value.
use Rattle.std.specs.Prelude.{◌≡◌, List}
use Rattle.core_terms.specs.Types.{Table, Ty}
use Rattle.core_terms.specs.Values.{Value}
use Rattle.core_terms.specs.Spelling.{spelling}
use Rattle.core_terms.specs.Terms.{Program}
use Rattle.core_terms.specs.declared.outcome.Outcome.{Outcome}
use Rattle.core_terms.specs.declared.outcome.Outcome.TheVariants.{Done, Trapped, Out}
use Rattle.core_terms.specs.declared.byte_string.ByteString.{ByteString as Spelling}
use Rattle.value_store.specs.Nodes.{Node}
use Rattle.value_store.specs.Standing.{StandsFor, VerifierNodes}
use Rattle.value_store.specs.declared.node.Ref.{Ref}

-- its value, if it has one, is a shallow one of type t
abbrev pub OutcomeStands : Program → List Node → Ty → Outcome Ref → Type 0
OutcomeStands P nodes t (Done r) = (v : Value) × StandsFor VerifierNodes P.types nodes r.0 t v
OutcomeStands P nodes t (Trapped trap) = Unit {0}
OutcomeStands P nodes t Out = Unit {0}

-- the second outcome is the first with the spelling of its value
abbrev pub IsSpelledAs : Table → List Node → Ty → Outcome Ref → Outcome Spelling → Type 0
IsSpelledAs types nodes t (Done r) (Done bytes) = (v : Value) → StandsFor VerifierNodes types nodes r.0 t v → bytes ≡ spelling v
IsSpelledAs types nodes t (Trapped trap) (Trapped trap') = trap ≡ trap'
IsSpelledAs types nodes t Out Out = Unit {0}
IsSpelledAs types nodes t outcome told = ⊥
