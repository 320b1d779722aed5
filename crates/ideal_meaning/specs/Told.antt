-- The causes of a rejection and the traps that the code tells, as those of the definitions.
use Rattle.core_terms.specs.declared.cause.Cause as code
use Rattle.core_terms.specs.declared.cause.Cause.TheVariants as cause
use Rattle.core_terms.specs.declared.outcome.Trap as code_trap
use Rattle.core_terms.specs.declared.outcome.Trap.TheVariants as trap
use Rattle.ideal_meaning.specs.Checked.{Cause, Short, Cut, BadKind, PieceLong, BadUse, WrongPiece, BadPiece, Header, Leftover}
use Rattle.ideal_meaning.specs.Run.{Trap, Overflow, DivZero, TooBig, TooDeep, Index}

-- the cause, with each of its fields; a digest is its 32 bytes
abbrev pub cause_told : code.Cause → Cause
cause_told cause.Header = Header
cause_told (cause.Short place) = Short place
cause_told (cause.BadKind place byte) = BadKind place byte
cause_told (cause.Cut place) = Cut place
cause_told (cause.PieceLong place len) = PieceLong place len
cause_told (cause.BadUse place k held) = BadUse place k held
cause_told (cause.WrongPiece place want found) = WrongPiece place want.0 found.0
cause_told (cause.BadPiece place offset) = BadPiece place offset
cause_told (cause.Leftover bytes) = Leftover bytes

abbrev pub trap_told : code_trap.Trap → Trap
trap_told trap.Overflow = Overflow
trap_told trap.DivZero = DivZero
trap_told trap.TooBig = TooBig
trap_told trap.TooDeep = TooDeep
trap_told trap.Index = Index
