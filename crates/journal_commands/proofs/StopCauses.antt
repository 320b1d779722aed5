-- Which counts of faults rose, from work on files and on a disk to both together.
use Rattle.std.proofs.Common.{◌≡◌, ◌+◌, ℕ, inl, inr, Result, Ok, Err, IsErrAnd, sym, ap, ap₂, subst, arith}
use Rattle.lam_outside.specs.Causes.{Rose}
use Rattle.printed_lines.specs.declared.refusal.Refusal.TheVariants as refusal
use Rattle.command_parts.specs.Halting.{MayHalt}
use Rattle.command_parts.specs.declared.report.Halt.{Halt}
use Rattle.command_parts.specs.declared.report.Halt.TheVariants.{Usage, Refused, ReadFault, NoMemory}
use Rattle.journal_commands.specs.Stops.{DiskCause, WorkCause}
use Rattle.journal_commands.specs.declared.stop.DiskStop.{DiskStop}
use Rattle.journal_commands.specs.declared.stop.DiskStop.TheVariants.{Halts, WriteFault}

-- a result with this error
pub is_err : {T E : Type 0} (result : Result T E) (e : E) → IsErrAnd result (λ other. other ≡ e) → result ≡ Err e
is_err (Ok done) e is = absurd is
is_err (Err other) e is = ap Err is

-- ---- a sum of two counts, of which one stays

pub rose_first : (a a' b b' : ℕ) → Rose a a' → b' ≡ b → Rose (a + b) (a' + b')
rose_first a a' b b' rose same = omega (arith, rose, same)

pub rose_second : (a a' b b' : ℕ) → a' ≡ a → Rose b b' → Rose (a + b) (a' + b')
rose_second a a' b b' same rose = omega (arith, same, rose)

pub none_rose : (a a' b b' : ℕ) → a' ≡ a → b' ≡ b → a' + b' ≡ a + b
none_rose a a' b b' first second = ap₂ (λ (a b : ℕ). a + b) first second

-- ---- work on files and on a disk

module _ (T : Type 0) (files files' reads reads' writes writes' : ℕ) where
  -- what halted the work on the files
  by_halt : (halt : Halt) → reads' ≡ reads → writes' ≡ writes → MayHalt files files' halt → WorkCause {T = T} files files' reads reads' writes writes' (Err (Halts halt))
  by_halt Usage same kept cause = cause
  by_halt (Refused (refusal.Program kind line column)) same kept cause = (cause, same, kept)
  by_halt (Refused (refusal.Object kind)) same kept cause = (cause, same, kept)
  by_halt (Refused (refusal.Input fault)) same kept cause = (cause, same, kept)
  by_halt (Refused (refusal.Proof why)) same kept cause = cause
  by_halt ReadFault same kept cause = (inl (cause, same), kept)
  by_halt NoMemory same kept cause = (cause, same, kept)

  pub halt_cause : (halt : Halt) (result : Result T DiskStop) → result ≡ Err (Halts halt) → reads' ≡ reads → writes' ≡ writes → MayHalt files files' halt
      → WorkCause files files' reads reads' writes writes' result
  halt_cause halt result is same kept cause = subst (WorkCause files files' reads reads' writes writes') (sym is) (by_halt halt same kept cause)

module _ (T U : Type 0) (files files' reads reads' writes writes' : ℕ) where
  -- what stopped that on the disk
  by_stop : (stop : DiskStop) → files' ≡ files → DiskCause {T = T} reads reads' writes writes' (Err stop) → WorkCause {T = U} files files' reads reads' writes writes' (Err stop)
  by_stop (Halts Usage) same cause = cause
  by_stop (Halts (Refused (refusal.Program kind line column))) same cause = (same, cause.0, cause.1)
  by_stop (Halts (Refused (refusal.Object kind))) same cause = (same, cause.0, cause.1)
  by_stop (Halts (Refused (refusal.Input fault))) same cause = (same, cause.0, cause.1)
  by_stop (Halts (Refused (refusal.Proof why))) same cause = cause
  by_stop (Halts ReadFault) same cause = (inr (same, cause.0), cause.1)
  by_stop (Halts NoMemory) same cause = (same, cause.0, cause.1)
  by_stop WriteFault same cause = (same, cause.1, cause.0)

-- and what it gave
pub work_cause : {T : Type 0} (files files' reads reads' writes writes' : ℕ) (result : Result T DiskStop) → files' ≡ files → DiskCause reads reads' writes writes' result
    → WorkCause files files' reads reads' writes writes' result
work_cause files files' reads reads' writes writes' (Ok done) same cause = (same, cause.0, cause.1)
work_cause {T} files files' reads reads' writes writes' (Err stop) same cause = by_stop T T files files' reads reads' writes writes' stop same cause

-- and behind what left the count
pub later_cause : {T : Type 0} (files mid now reads reads' writes writes' : ℕ) (result : Result T DiskStop) → now ≡ mid → WorkCause files mid reads reads' writes writes' result
    → WorkCause files now reads reads' writes writes' result
later_cause files mid now reads reads' writes writes' result same cause = subst (λ n. WorkCause files n reads reads' writes writes' result) (sym same) cause

-- what halted the work
module _ (T : Type 0) (files files' reads reads' writes writes' : ℕ) where
  pub may_halt : (halt : Halt) → WorkCause {T = T} files files' reads reads' writes writes' (Err (Halts halt)) → MayHalt (files + reads) (files' + reads') halt
  may_halt Usage cause = cause
  may_halt (Refused (refusal.Program kind line column)) cause = none_rose files files' reads reads' cause.0 cause.1
  may_halt (Refused (refusal.Object kind)) cause = none_rose files files' reads reads' cause.0 cause.1
  may_halt (Refused (refusal.Input fault)) cause = none_rose files files' reads reads' cause.0 cause.1
  may_halt (Refused (refusal.Proof why)) cause = cause
  may_halt ReadFault (inl (rose, same), kept) = rose_first files files' reads reads' rose same
  may_halt ReadFault (inr (same, rose), kept) = rose_second files files' reads reads' same rose
  may_halt NoMemory cause = none_rose files files' reads reads' cause.0 cause.1

  pub writes_kept : (halt : Halt) → WorkCause {T = T} files files' reads reads' writes writes' (Err (Halts halt)) → writes' ≡ writes
  writes_kept Usage cause = absurd cause
  writes_kept (Refused (refusal.Program kind line column)) cause = cause.2
  writes_kept (Refused (refusal.Object kind)) cause = cause.2
  writes_kept (Refused (refusal.Input fault)) cause = cause.2
  writes_kept (Refused (refusal.Proof why)) cause = absurd cause
  writes_kept ReadFault cause = cause.1
  writes_kept NoMemory cause = cause.2
