use Rattle.std.proofs.Common.{◌≡◌, ◌∙◌, Result, Ok, Err}
use Rattle.std.specs.Prelude.{IfOk}
use Rattle.core_terms.specs.Programs.{meaning, types_in}
use Rattle.core_terms.specs.TypeTables.{type_at}
use Rattle.core_terms.specs.Types.{AuthTy, Ty}
use Rattle.core_terms.specs.declared.program.Program.{Program}
use Rattle.store_tests.proofs.EmptyPrograms.{at_number}
use Rattle.store_tests.proofs.spelled.held_int.Goals as goal

is_auth : {E : Type 0} (result : Result Program E) (a t : Ty) → IfOk result (λ program. (meaning program).state ≡ a) → a ≡ AuthTy t
    → IfOk result (λ program. (t : Ty) × ((meaning program).state ≡ AuthTy t))
is_auth (Ok program) a t h e = (t, h ∙ e)
is_auth (Err e) a t h f = tt

pub returns : goal.returns
returns c =
    is_auth c.of_types.result (type_at (types_in c.intern-2.new.self) c.in_ok-held.held) (type_at (types_in c.intern.new.self) c.in_ok-int.int) c.of_types.ensures
    (at_number (types_in c.intern-2.new.self) c.in_ok-held.held.0 _ c.in_ok-held.ensures.number)
