-- The relation between the ideal and the checked run of code. No source is named: it holds of every accepted code.
use Rattle.std.specs.Prelude.{◌≡◌, ◌⊎◌, ℕ, [], None}
use Rattle.core_terms.specs.Types.{UnitTy, Table}
use Rattle.core_terms.specs.Formats.{Format, Hash, IsHash, IsFormat}
use Rattle.core_terms.specs.Values.{Value, Values, AreIdeal}
use Rattle.core_terms.specs.Terms.{Program}
use Rattle.core_terms.specs.Projection.{projection, projections, AllFit}
use Rattle.ideal_meaning.specs.Run.{Run}
use Rattle.ideal_meaning.specs.Ideal.{ideal_mode}
use Rattle.ideal_meaning.specs.Checked.{Taking, checked_mode}
use Rattle.ideal_meaning.specs.Agreement.{FollowsIdeal, Parts}
use Rattle.core_terms.specs.Bodies.{Body, code_at}
use Rattle.ideal_meaning.specs.Execution.{Coded, Ran, call_code}
use Rattle.core_terms.specs.Accepted.{IsAccepted}

-- these types in this format, as a program without functions: the checked mode and projections ask no more of a program
abbrev pub over : Format → Table → Program
over format types = record { format = format; types = types; state = UnitTy; functions = []; code = None }

-- neither is stuck, and the runs are related
abbrev pub BothRan : {C W D V : Type 0} → (Run C W Value → Run D V Value → Type 0) → Coded C W → Coded D V → Type 0
BothRan R (Ran r) (Ran q) = R r q
BothRan R c d = ⊥

-- A function of accepted code, called in both modes on ideal values within the limits and on their projections, with the same
-- fuel and whatever pieces are offered, does the same in both, the checked run in projection, or the two part at one opening. It
-- holds at every bound of nested calls.
abbrev pub CodeAgreement : Type 0
CodeAgreement = (hash : Hash) → IsHash hash → (format : Format) → IsFormat format → (B : Body) → B.limit ≡ format.limit → IsAccepted B
    → (nesting f : ℕ) (args : Values) (k : ℕ) (began : Taking)
    → let P = over format B.types in
    let parameters = (code_at B f).parameters in
    let result = (code_at B f).result in
    AreIdeal B.types parameters args → AllFit P parameters args
    → BothRan (λ ideal checked. FollowsIdeal hash P (projection hash P result) began ideal checked ⊎ Parts hash P began ideal checked)
    (call_code B ideal_mode nesting f args k [])
    (call_code B (checked_mode hash P) nesting f (projections hash P parameters args) k began)
