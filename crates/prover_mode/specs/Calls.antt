-- The frames of the proof of a call, and that its file is accepted.
use Rattle.std.specs.Prelude.{◌≡◌, ℕ, List}
use Rattle.core_terms.specs.Formats.{Hash}
use Rattle.core_terms.specs.Projection.{projection}
use Rattle.core_terms.specs.Roles.{argument_type}
use Rattle.core_terms.specs.Spelling.{spelling}
use Rattle.core_terms.specs.Terms.{Program, function_at}
use Rattle.core_terms.specs.Values.{Value}
use Rattle.ideal_meaning.specs.Checked.{Accepted, verdict}
use Rattle.ideal_meaning.specs.Headline.{call_values}
use Rattle.ideal_meaning.specs.Ideal as ideal

-- The verdict on these bytes of a proof file, for a call of function f with fuel k, given the spellings of the projected state and
-- argument alone: it is accepted with the projection of the ideal outcome.
abbrev pub IsAccepted : Hash → Program → ℕ → (state argument : Value) → ℕ → List ℕ → Type 0
IsAccepted hash P f state argument k proof =
    verdict hash P (argument_type P f) f (spelling (projection hash P P.state state)) (spelling (projection hash P (argument_type P f) argument)) k proof
    ≡ Accepted (ideal.outcome_projection hash P (function_at P f).result (ideal.outcome (ideal.ideal P f (call_values state argument) k)))
