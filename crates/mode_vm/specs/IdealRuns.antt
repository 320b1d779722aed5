-- An ideal run, as the code tells it.
use Rattle.std.specs.Prelude.{◌≡◌, List}
use Rattle.core_terms.specs.Types.{Ty, Table}
use Rattle.core_terms.specs.Values.{Value}
use Rattle.core_terms.specs.declared.outcome.Outcome.{Outcome}
use Rattle.core_terms.specs.declared.outcome.Outcome.TheVariants as told
use Rattle.ideal_meaning.specs.Ideal as ideal
use Rattle.ideal_meaning.specs.Told.{trap_told}
use Rattle.value_store.specs.Nodes.{Node}
use Rattle.value_store.specs.Standing.{Kind, StandsFor}
use Rattle.value_store.specs.declared.node.Ref.{Ref}

-- the outcome is this one; its value, of type z, is what a node of the kind stands for
abbrev pub IsOutcome : Kind → Table → List Node → Ty → Outcome Ref → ideal.Outcome → Type 0
IsOutcome kind types nodes z (told.Done r) o = (v : Value) × StandsFor kind types nodes r.0 z v × (o ≡ ideal.Done v)
IsOutcome kind types nodes z (told.Trapped trap) o = o ≡ ideal.Trapped (trap_told trap)
IsOutcome kind types nodes z told.Out o = o ≡ ideal.Out
