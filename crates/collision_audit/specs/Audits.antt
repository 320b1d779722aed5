-- What an audit of a proof comes to.
use Rattle.std.specs.Prelude.{ℕ, List, Option, Some, None}
use Rattle.core_terms.specs.Types.{Ty}
use Rattle.core_terms.specs.Formats.{Hash}
use Rattle.core_terms.specs.Projection.{projection}
use Rattle.core_terms.specs.Spelling.{spelling}
use Rattle.core_terms.specs.Terms.{Program}
use Rattle.core_terms.specs.Values.{Value}
use Rattle.ideal_meaning.specs.Checked.{Verdict, BadState, BadArgument, verdict}
use Rattle.collision_audit.specs.Splits.{Split, split_of}

-- an audit shows a collision, or comes to the verifier's verdict
pub data Audit : Type 0 where
  Collides : (split : Split) → Audit
  Judges : (v : Verdict) → Audit

-- the split where there is one, else the verdict
abbrev pub unless_split : Option Split → Verdict → Audit
unless_split (Some split) v = Collides split
unless_split None v = Judges v

-- what a verifier answers who is given no more of the state and of the argument, which has type t, than the spellings of their projections
abbrev pub verdict_on_projections : Hash → Program → Ty → ℕ → (state argument : Value) → ℕ → List ℕ → Verdict
verdict_on_projections hash P t f state argument k bytes = verdict hash P t f (spelling (projection hash P P.state state)) (spelling (projection hash P t argument)) k bytes

-- The audit of the bytes of a proof file, for a call of function f with fuel k on an ideal state and an ideal argument of type t:
-- the first pieces that differ, offered and honest, where they have one digest; else the verifier's verdict.
abbrev pub audit_of : Hash → Program → Ty → ℕ → (state argument : Value) → ℕ → List ℕ → Audit
audit_of hash P t f state argument k bytes = unless_split (split_of hash P f state argument k bytes) (verdict_on_projections hash P t f state argument k bytes)

-- the verdict is one on the proof, and none on the state or the argument
abbrev pub IsOnProof : Verdict → Type 0
IsOnProof (BadState offset) = ⊥
IsOnProof (BadArgument offset) = ⊥
IsOnProof v = Unit {0}
