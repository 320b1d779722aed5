-- The causes and traps that the code tells: each by its own name, with its fields in their order.
use Rattle.std.specs.Prelude.{◌≡◌, refl}
use Rattle.core_terms.specs.declared.cause.Cause.TheVariants as cause
use Rattle.core_terms.specs.declared.outcome.Trap.TheVariants as trap
use Rattle.ideal_meaning.specs.Checked.{Short, Cut, BadKind, PieceLong, BadUse, BadPiece, Header, Leftover}
use Rattle.ideal_meaning.specs.Run.{Overflow, DivZero, TooBig, TooDeep, Index}
use Rattle.ideal_meaning.specs.Told.{cause_told, trap_told}

pub header_is_told : cause_told cause.Header ≡ Header
header_is_told = refl

pub short_is_told : cause_told (cause.Short 3) ≡ Short 3
short_is_told = refl

pub cut_is_told : cause_told (cause.Cut 3) ≡ Cut 3
cut_is_told = refl

pub kind_is_told : cause_told (cause.BadKind 3 7) ≡ BadKind 3 7
kind_is_told = refl

pub length_is_told : cause_told (cause.PieceLong 3 65537) ≡ PieceLong 3 65537
length_is_told = refl

pub use_is_told : cause_told (cause.BadUse 3 5 4) ≡ BadUse 3 5 4
use_is_told = refl

pub piece_is_told : cause_told (cause.BadPiece 3 8) ≡ BadPiece 3 8
piece_is_told = refl

pub leftover_is_told : cause_told (cause.Leftover 9) ≡ Leftover 9
leftover_is_told = refl

pub overflow_is_told : trap_told trap.Overflow ≡ Overflow
overflow_is_told = refl

pub zero_divisor_is_told : trap_told trap.DivZero ≡ DivZero
zero_divisor_is_told = refl

pub size_is_told : trap_told trap.TooBig ≡ TooBig
size_is_told = refl

pub depth_is_told : trap_told trap.TooDeep ≡ TooDeep
depth_is_told = refl

pub index_is_told : trap_told trap.Index ≡ Index
index_is_told = refl
