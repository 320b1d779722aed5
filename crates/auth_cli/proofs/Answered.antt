-- How a run ended, by the number of its status: where no count rose, and what it stored.
use Rattle.std.proofs.Common.{◌≡◌, ◌≢◌, ◌⊎◌, ◌<◌, ◌^◌, ◌-◌, ℕ, List, [], Option, Some, None, refl, ap, inl, inr, sym, ◌∙◌, arith}
use Rattle.std.specs.Io.KnownBytes.{append_known}
use Rattle.std.specs.List.{concat}
use Rattle.std.specs.Prelude.{codes}
use Rattle.std.specs.Option.{ForSome}
use Rattle.lam_outside.specs.Causes.{Rose}
use Rattle.lam_outside.specs.Told.{AddsStores, Contents, Stores}
use Rattle.command_parts.specs.AnswerForms.{Answer}
use Rattle.command_parts.specs.Codes.{code}
use Rattle.command_parts.specs.Ending.{EndsAnswered, EndsAs, IsToldAs, IsToldByCode, MayWrite, NoneRose, StoresSome, WritesPart, lines_of, no_memory_text}
use Rattle.command_parts.specs.Outsides.{Outside}
use Rattle.command_parts.specs.declared.status.Status.{Status}
use Rattle.command_parts.specs.declared.status.Status.TheVariants as status
use Rattle.lam_outside.proofs.Moved.{append_none}

by_code : (found : Option Answer) (old new : Outside) (ended : Status) → IsToldAs found old new ended → IsToldByCode found old new (code ended)
by_code None old new ended told = told
by_code (Some a) old new ended told = (ap code (sym told.0), told.1, told.2)

told_stored : (found : Option Answer) (old new : Outside) (ended : Status) → IsToldAs found old new ended → StoresSome found old.stores new.stores
told_stored None old new ended told = absurd told
told_stored (Some a) old new ended told = inr told.2

none_stored : (found : Option Answer) (old new : Option Stores) → AddsStores old new [] → StoresSome found old new
none_stored None old new none = none
none_stored (Some a) old new none = inl none

-- a count that stands where it stood didn't rise
pub no_rise : {before now : ℕ} → before < 2 ^ 64 - 1 → now ≡ before → Rose before now → ⊥
no_rise below same rose = omega (arith, below, same, rose)

module _ (answer : Contents → Option Answer) (old new : Outside) where
  all_told : (ended : Status) → EndsAnswered answer old new ended → ForSome old.contents (λ files. IsToldByCode (answer files) old new (code ended))
  all_told ended ends files known = by_code (answer files) old new ended (ends.told files known)

  pub answered : (ended : Status) → EndsAs answer old new ended → NoneRose old new → code ended ≢ 10 → ForSome old.contents (λ files. IsToldByCode (answer files) old new (code ended))
  answered status.ReadFault ends none other files known = absurd (none.reads ends.rose)
  answered status.WriteFault (inl fails) none other files known = absurd (none.writes fails.rose)
  answered status.WriteFault (inr fails) none other files known = absurd (none.stores fails.rose)
  answered status.NoMemory ends none other files known = absurd (other refl)
  answered status.Done ends none other files known = all_told status.Done ends files known
  answered status.Usage ends none other files known = all_told status.Usage ends files known
  answered status.Trap ends none other files known = all_told status.Trap ends files known
  answered status.OutOfFuel ends none other files known = all_told status.OutOfFuel ends files known
  answered status.Rejected ends none other files known = all_told status.Rejected ends files known
  answered status.ProgramRefused ends none other files known = all_told status.ProgramRefused ends files known
  answered status.InputRefused ends none other files known = all_told status.InputRefused ends files known
  answered status.Collision ends none other files known = all_told status.Collision ends files known

  answer_stored : (ended : Status) → EndsAnswered answer old new ended → ForSome old.contents (λ files. StoresSome (answer files) old.stores new.stores)
  answer_stored ended ends files known = told_stored (answer files) old new ended (ends.told files known)

  pub stored : (ended : Status) → EndsAs answer old new ended → ForSome old.contents (λ files. StoresSome (answer files) old.stores new.stores)
  stored status.ReadFault ends files known = none_stored (answer files) old.stores new.stores ends.stored
  stored status.WriteFault (inl fails) files known = fails.stored files known
  stored status.WriteFault (inr fails) files known = fails.stored files known
  stored status.NoMemory ends files known = ends.stored files known
  stored status.Done ends files known = answer_stored status.Done ends files known
  stored status.Usage ends files known = answer_stored status.Usage ends files known
  stored status.Trap ends files known = answer_stored status.Trap ends files known
  stored status.OutOfFuel ends files known = answer_stored status.OutOfFuel ends files known
  stored status.Rejected ends files known = answer_stored status.Rejected ends files known
  stored status.ProgramRefused ends files known = answer_stored status.ProgramRefused ends files known
  stored status.InputRefused ends files known = answer_stored status.InputRefused ends files known
  stored status.Collision ends files known = answer_stored status.Collision ends files known

  -- what was written where the sink or `store` failed is a front of a text that the run may begin
  pub part_written : (ended : Status) → EndsAs answer old new ended → code ended ≡ 9 → ForSome old.contents (λ files. (text : List ℕ) × MayWrite (answer files) text × WritesPart old.written new.written text)
  part_written status.WriteFault (inl fails) is files known = fails.part files known
  part_written status.WriteFault (inr fails) is files known = (concat (lines_of (answer files)), inl refl, (0, fails.nothing ∙ sym (append_none old.written)))
  part_written status.ReadFault ends is files known = absurd (omega arith)
  part_written status.NoMemory ends is files known = absurd (omega arith)
  part_written status.Done ends is files known = absurd (omega arith)
  part_written status.Usage ends is files known = absurd (omega arith)
  part_written status.Trap ends is files known = absurd (omega arith)
  part_written status.OutOfFuel ends is files known = absurd (omega arith)
  part_written status.Rejected ends is files known = absurd (omega arith)
  part_written status.ProgramRefused ends is files known = absurd (omega arith)
  part_written status.InputRefused ends is files known = absurd (omega arith)
  part_written status.Collision ends is files known = absurd (omega arith)

  -- where a file could not be stored, nothing was written
  pub stored_first : old.store_faults < 2 ^ 64 - 1 → (ended : Status) → EndsAs answer old new ended → Rose old.store_faults new.store_faults → new.written ≡ old.written
  stored_first below status.WriteFault (inl fails) rose = absurd (no_rise below fails.stores rose)
  stored_first below status.WriteFault (inr fails) rose = fails.nothing
  stored_first below status.ReadFault ends rose = absurd (no_rise below ends.stores rose)
  stored_first below status.NoMemory ends rose = absurd (no_rise below ends.stores rose)
  stored_first below status.Done ends rose = absurd (no_rise below ends.stores rose)
  stored_first below status.Usage ends rose = absurd (no_rise below ends.stores rose)
  stored_first below status.Trap ends rose = absurd (no_rise below ends.stores rose)
  stored_first below status.OutOfFuel ends rose = absurd (no_rise below ends.stores rose)
  stored_first below status.Rejected ends rose = absurd (no_rise below ends.stores rose)
  stored_first below status.ProgramRefused ends rose = absurd (no_rise below ends.stores rose)
  stored_first below status.InputRefused ends rose = absurd (no_rise below ends.stores rose)
  stored_first below status.Collision ends rose = absurd (no_rise below ends.stores rose)

  -- what was written at 8, and at 10
  pub fault_line : (ended : Status) → EndsAs answer old new ended → code ended ≡ 8 → new.written ≡ append_known old.written (codes "read fault\n")
  fault_line status.ReadFault ends is = ends.written
  fault_line status.WriteFault ends is = absurd (omega arith)
  fault_line status.NoMemory ends is = absurd (omega arith)
  fault_line status.Done ends is = absurd (omega arith)
  fault_line status.Usage ends is = absurd (omega arith)
  fault_line status.Trap ends is = absurd (omega arith)
  fault_line status.OutOfFuel ends is = absurd (omega arith)
  fault_line status.Rejected ends is = absurd (omega arith)
  fault_line status.ProgramRefused ends is = absurd (omega arith)
  fault_line status.InputRefused ends is = absurd (omega arith)
  fault_line status.Collision ends is = absurd (omega arith)

  pub memory_line : (ended : Status) → EndsAs answer old new ended → code ended ≡ 10
      → ForSome old.contents (λ files. (k : ℕ) × (new.written ≡ append_known old.written (no_memory_text (answer files) k)))
  memory_line status.NoMemory ends is = ends.written
  memory_line status.WriteFault ends is = absurd (omega arith)
  memory_line status.ReadFault ends is = absurd (omega arith)
  memory_line status.Done ends is = absurd (omega arith)
  memory_line status.Usage ends is = absurd (omega arith)
  memory_line status.Trap ends is = absurd (omega arith)
  memory_line status.OutOfFuel ends is = absurd (omega arith)
  memory_line status.Rejected ends is = absurd (omega arith)
  memory_line status.ProgramRefused ends is = absurd (omega arith)
  memory_line status.InputRefused ends is = absurd (omega arith)
  memory_line status.Collision ends is = absurd (omega arith)

-- four counts that stand where they stood didn't rise
pub none_rose : (links listens accepts dials : ℕ) → links < 2 ^ 64 - 1 → listens < 2 ^ 64 - 1 → accepts < 2 ^ 64 - 1 → dials < 2 ^ 64 - 1
    → Rose links links ⊎ (Rose listens listens ⊎ (Rose accepts accepts ⊎ Rose dials dials)) → ⊥
none_rose links listens accepts dials a b c d (inl rose) = no_rise a refl rose
none_rose links listens accepts dials a b c d (inr (inl rose)) = no_rise b refl rose
none_rose links listens accepts dials a b c d (inr (inr (inl rose))) = no_rise c refl rose
none_rose links listens accepts dials a b c d (inr (inr (inr rose))) = no_rise d refl rose
