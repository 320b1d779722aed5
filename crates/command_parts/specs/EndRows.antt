-- Rows for how a run ends: an answer of two lines with which a file is stored. What each word takes, and what it refuses.
use Rattle.std.specs.Prelude.{◌≡◌, ℕ, zero, suc, List, [], ◌∷◌, map, take, codes, Option, Some, None, Ok, Err, Vec, refl}
use Rattle.std.specs.Io.KnownBytes.{append_known}
use Rattle.std.specs.List.{concat}
use Rattle.std.specs.Option.{ForSome}
use Rattle.std.specs.declared.alloc.Global.{Global}
use Rattle.std.proofs.Common.{arith, inl, inr, lit≤, subst}
use Rattle.lam_outside.specs.Causes.{Rose}
use Rattle.lam_outside.specs.Told.{AddsStores, Contents, Stores}
use Rattle.command_parts.specs.AnswerForms.{Answer}
use Rattle.command_parts.specs.Codes.{code}
use Rattle.command_parts.specs.Ending.{EndsAnswered, EndsAs, EndsInNoMemory, EndsInReadFault, EndsInWriteFault, FailsToStore, FailsToWrite, IsOfFault, IsToldAs, IsToldByCode, MayWrite, NoneRose, StoresSome, WritesPart, lines_of, no_memory_text}
use Rattle.command_parts.specs.EndingInCode.{EndsOnSink, IsOfRefused, with_sink}
use Rattle.command_parts.specs.Outsides.{Outside}
use Rattle.command_parts.specs.Halting.{HaltsAs, ending_status}
use Rattle.command_parts.specs.Storing.{FindsOutput, IsOutput, StoresAndTells, stored_as}
use Rattle.command_parts.specs.Telling.{TellsText}
use Rattle.command_parts.specs.TellingInCode.{Tells}
use Rattle.command_parts.specs.declared.report.Halt.{Halt}
use Rattle.command_parts.specs.declared.report.Halt.TheVariants as halt
use Rattle.command_parts.specs.declared.report.Output.{Output}
use Rattle.command_parts.specs.declared.status.Status.{Status}
use Rattle.command_parts.specs.declared.status.Status.TheVariants.{Done, Usage, Trap, OutOfFuel, Rejected, ProgramRefused, InputRefused, ReadFault, WriteFault, NoMemory, Collision}

-- STATUSES
pub codes_of : map code (Done ∷ Usage ∷ Trap ∷ OutOfFuel ∷ Rejected ∷ ProgramRefused ∷ InputRefused ∷ ReadFault ∷ WriteFault ∷ NoMemory ∷ Collision ∷ [])
    ≡ 0 ∷ 2 ∷ 3 ∷ 4 ∷ 5 ∷ 6 ∷ 7 ∷ 8 ∷ 9 ∷ 10 ∷ 11 ∷ []
codes_of = refl

pub of_faults : IsOfFault 8 × IsOfFault 9 × IsOfFault 10
of_faults = (inl refl, inr (inl refl), inr (inr refl))

pub of_no_fault : IsOfFault 7 → ⊥
of_no_fault (inl e) = omega (arith, e)
of_no_fault (inr (inl e)) = omega (arith, e)
of_no_fault (inr (inr e)) = omega (arith, e)

pub of_refused : IsOfRefused Usage × IsOfRefused WriteFault × IsOfRefused NoMemory × (IsOfRefused Done → ⊥) × (IsOfRefused ReadFault → ⊥) × (IsOfRefused InputRefused → ⊥)
of_refused = (tt, tt, tt, (λ r. r), (λ r. r), (λ r. r))

-- AN ANSWER
abbrev pub answer : Answer
answer = record { status = Done; lines = (1 ∷ 10 ∷ []) ∷ (2 ∷ 10 ∷ []) ∷ []; stored = (7 ∷ [], 8 ∷ []) ∷ [] }

abbrev pub answers : Contents → Option Answer
answers files = Some answer

abbrev pub no_files : Contents
no_files name = None

abbrev pub before : Outside
before = record { contents = Some no_files; stores = Some []; written = Some []; read_faults = 0; store_faults = 0; write_faults = 0 }

-- what is so of the files that are told
of_told : (P : Contents → Type 0) → P no_files → ForSome before.contents P
of_told P p files e = let same : no_files ≡ files = cc (e) in subst P same p

pub rose : Rose 0 1
rose = lit≤ tt

-- LINES
pub its_lines : (lines_of (Some answer) ≡ answer.lines) × (lines_of None ≡ [])
its_lines = (refl, refl)

-- it may begin to write its lines; that a file could not be read; or some of its lines and that memory is wanting
pub may_write : MayWrite (Some answer) (1 ∷ 10 ∷ 2 ∷ 10 ∷ []) × MayWrite (Some answer) (codes "read fault\n") × MayWrite (Some answer) (1 ∷ 10 ∷ codes "no memory\n")
may_write = (inl refl, inr (inl refl), inr (inr (1, refl)))

starts_so : (x y : ℕ) (xs ys : List ℕ) → x ∷ xs ≡ y ∷ ys → x ≡ y
starts_so x y xs ys e = cc (e)

pub may_not_write : MayWrite None (9 ∷ []) → ⊥
may_not_write (inl e) = let none : 9 ∷ [] ≡ [] = e in cc (none)
may_not_write (inr (inl e)) = let same : 9 ≡ 114 = starts_so 9 114 [] (codes "ead fault\n") e in omega (arith, same)
may_not_write (inr (inr (zero, e))) = let same : 9 ≡ 110 = starts_so 9 110 [] (codes "o memory\n") e in omega (arith, same)
may_not_write (inr (inr (suc k, e))) = let same : 9 ≡ 110 = starts_so 9 110 [] (codes "o memory\n") e in omega (arith, same)

pub part_is_written : WritesPart (Some (5 ∷ [])) (Some (5 ∷ 1 ∷ [])) (1 ∷ 10 ∷ [])
part_is_written = (1, refl)

some_other : (x y : ℕ) (xs ys : List ℕ) → Some (x ∷ xs) ≡ Some (y ∷ ys) → x ≡ y
some_other x y xs ys e = cc (e)

pub no_other_is_written : WritesPart (Some []) (Some (9 ∷ [])) (1 ∷ 10 ∷ []) → ⊥
no_other_is_written (zero, e) = let none : Some (9 ∷ []) ≡ Some [] = e in cc (none)
no_other_is_written (suc n, e) = let same : 9 ≡ 1 = some_other 9 1 [] (take n (10 ∷ [])) e in omega (arith, same)

-- FILES
-- `store` is given the files of the answer, or nothing; without an answer nothing
pub some_stored : StoresSome (Some answer) (Some []) (Some []) × StoresSome (Some answer) (Some []) (Some answer.stored) × StoresSome None (Some []) (Some [])
some_stored = (inl refl, inr refl, refl)

pub none_stored : StoresSome None (Some []) (Some answer.stored) → ⊥
none_stored e = let none : Some answer.stored ≡ Some [] = e in cc (none)

-- ENDS
-- the run behind it: with the answer; with a file that can't be read; with a line, or a file, that fails; without memory
abbrev pub behind : (stores : Stores) → (written : List ℕ) → Outside
behind stores written = record before { stores = Some stores; written = Some written }

pub is_told : IsToldAs (Some answer) before (behind answer.stored (1 ∷ 10 ∷ 2 ∷ 10 ∷ [])) Done
    × IsToldByCode (Some answer) before (behind answer.stored (1 ∷ 10 ∷ 2 ∷ 10 ∷ [])) 0
is_told = ((refl, refl, refl), (refl, refl, refl))

pub none_is_told : (new : Outside) (s : Status) (n : ℕ) → (IsToldAs None before new s → ⊥) × (IsToldByCode None before new n → ⊥)
none_is_told new s n = ((λ t. t), (λ t. t))

pub ends_answered : EndsAnswered answers before (behind answer.stored (1 ∷ 10 ∷ 2 ∷ 10 ∷ [])) Done
ends_answered = record { told = of_told (λ files. IsToldAs (answers files) before (behind answer.stored (1 ∷ 10 ∷ 2 ∷ 10 ∷ [])) Done) (refl, refl, refl); reads = refl; stores = refl; writes = refl }

pub ends_unread : EndsInReadFault before (record (behind [] (codes "read fault\n")) { read_faults = 1 })
ends_unread = record { rose = rose; written = refl; stored = refl; stores = refl; writes = refl }

abbrev pub unwritten : Outside
unwritten = record (behind answer.stored (1 ∷ [])) { write_faults = 1 }

pub fails_to_write : FailsToWrite answers before unwritten
fails_to_write = record {
  rose = rose;
  part = of_told (λ files. (text : List ℕ) × MayWrite (answers files) text × WritesPart before.written unwritten.written text) (1 ∷ 10 ∷ 2 ∷ 10 ∷ [], inl refl, (1, refl));
  stored = of_told (λ files. StoresSome (answers files) before.stores unwritten.stores) (inr refl);
  stores = refl;
}

abbrev pub unstored : Outside
unstored = record (behind [] []) { store_faults = 1 }

pub fails_to_store : FailsToStore answers before unstored
fails_to_store = record { rose = rose; nothing = refl; stored = of_told (λ files. StoresSome (answers files) before.stores unstored.stores) (inl refl); writes = refl }

abbrev pub lacking : Outside
lacking = behind [] (1 ∷ 10 ∷ codes "no memory\n")

pub ends_lacking : EndsInNoMemory answers before lacking
ends_lacking = record {
  written = of_told (λ files. (k : ℕ) × (lacking.written ≡ append_known before.written (no_memory_text (answers files) k))) (1, refl);
  stored = of_told (λ files. StoresSome (answers files) before.stores lacking.stores) (inl refl);
  stores = refl;
  writes = refl;
}

pub ends_in_write_fault : EndsInWriteFault answers before unwritten × EndsInWriteFault answers before unstored
ends_in_write_fault = (inl fails_to_write, inr fails_to_store)

-- each status has its own end
pub ends_as : EndsAs answers before (behind answer.stored (1 ∷ 10 ∷ 2 ∷ 10 ∷ [])) Done × EndsAs answers before (record (behind [] (codes "read fault\n")) { read_faults = 1 }) ReadFault
    × EndsAs answers before unwritten WriteFault × EndsAs answers before lacking NoMemory
ends_as = (ends_answered, ends_unread, inl fails_to_write, ends_lacking)

pub not_ended : (status : Status) → EndsAnswered answers before unwritten status → ⊥
not_ended status e = let rose : 1 ≡ 0 = e.writes in omega (arith, rose)

pub none_rose : (old new : Outside) (n : NoneRose old new) → (Rose old.read_faults new.read_faults → ⊥) × (Rose old.store_faults new.store_faults → ⊥)
    × (Rose old.write_faults new.write_faults → ⊥)
none_rose old new n = (n.reads, n.stores, n.writes)

pub on_sink : (old new : Option (List ℕ)) (was now : ℕ) (status : Status) → ((seen : Outside) → EndsAs answers (with_sink seen old was) (with_sink seen new now) status)
    → EndsOnSink answers old new was now status
on_sink old new was now status ends = ends

-- TELLING
-- all of a text is written, or a front of it where the sink failed
pub text_is_told : TellsText Done (1 ∷ 10 ∷ []) Done (Some []) (Some (1 ∷ 10 ∷ [])) 0 0 × TellsText Done (1 ∷ 10 ∷ []) WriteFault (Some []) (Some (1 ∷ [])) 0 1
text_is_told = (inl (refl, refl, refl), inr (refl, (1, refl), rose))

-- what was found is told, or that memory was wanting for it
pub halt_is_told : Tells (Err halt.ReadFault) ReadFault (Some []) (Some (codes "read fault\n")) 0 0 × Tells (Err halt.ReadFault) NoMemory (Some []) (Some (codes "no memory\n")) 0 0
halt_is_told = (inl (inl (refl, refl, refl)), inr (inl (refl, refl, refl)))

-- OUTPUTS
pub stored_under : (name : List ℕ) (bytes : Vec ℕ Global) → (stored_as name (Some bytes) ≡ (name, bytes.items) ∷ []) × (stored_as name None ≡ [])
stored_under name bytes = (refl, refl)

pub output_is_found : (name : List ℕ) (output : Output) → IsOutput answer name output → FindsOutput name (Some answer) (Ok output)
output_is_found name output is = (answer, refl, is)

-- an output is what the answer says
pub is_output : (a : Answer) (name : List ℕ) (output : Output) (i : IsOutput a name output)
    → (a.status ≡ ending_status output.report.ending) × (concat a.lines ≡ output.report.text.items) × (a.stored ≡ stored_as name output.file)
is_output a name output i = (i.status, i.lines, i.stored)

pub halt_is_found : (name : List ℕ) (found : Option Answer) (h : Halt) → HaltsAs found h → FindsOutput name found (Err h)
halt_is_found name found h halts = halts

-- what halted is told and nothing stored; an output's file is stored first
pub halt_stores_none : (name : List ℕ) → StoresAndTells name (Err halt.ReadFault) ReadFault (Some []) (Some []) 3 3 (Some []) (Some (codes "read fault\n")) 0 0
halt_stores_none name = (refl, refl, inl (inl (refl, refl, refl)))

pub output_is_stored : (name : List ℕ) (output : Output) (stores : Option Stores) → AddsStores (Some []) stores (stored_as name output.file)
    → StoresAndTells name (Ok output) WriteFault (Some []) stores 0 1 (Some []) (Some []) 0 0 × StoresAndTells name (Ok output) NoMemory (Some []) stores 3 3 (Some []) (Some (codes "no memory\n")) 0 0
output_is_stored name output stores adds = ((adds, inl (refl, refl, refl, rose)), (adds, inr (refl, inr (inl (refl, refl, refl)))))
