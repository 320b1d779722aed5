-- What the code of a written program names is there.
use Rattle.std.proofs.Common.{◌≡◌, ℕ, suc, List, [], ◌∷◌, Some, slice_get, unwrap_or}
use Rattle.core_terms.specs.Types.{Ty}
use Rattle.core_terms.specs.Terms.{Program}
use Rattle.core_terms.specs.TypingRules.{IsWrittenWell}
use Rattle.core_terms.specs.Instructions.{Instruction, PushInt, PushText, Call}
use Rattle.core_terms.specs.Bodies.{Body, FunctionCode, no_function_code}
use Rattle.core_terms.specs.Accepted.{Fits, IsFine}
use Rattle.core_terms.specs.CodeShapes.{Shape}
use Rattle.core_terms.specs.GeneratedCode.{written_body}
use Rattle.code_meaning.proofs.Generated.{written_accepted}
use Rattle.object_meaning.proofs.There.{IsThere, AreThere, AllThere}

there_of_fit : (B : Body) (z : Ty) (i : Instruction) (ls os : List Ty) (to : ℕ → List Ty → List Ty → Type 0) → Fits B z i ls os to → IsThere B i
there_of_fit B z (PushInt n) ls os to h = h.0
there_of_fit B z (PushText bytes) ls os to h = (h.0, h.1)
there_of_fit B z (Call f) ls os to h = h.3
there_of_fit B z _ ls os to h = tt

there_of_fine : (B : Body) (z : Ty) (is : List Instruction) (shapes : List Shape) → IsFine B z is shapes → AreThere B is
there_of_fine B z [] shapes h = tt
there_of_fine B z (i ∷ is) [] h = elim h [ ]
there_of_fine B z (i ∷ is) (s ∷ shapes) h = (there_of_fit B z i s.locals s.operands (λ n ls os. slice_get shapes n ≡ Some (record { locals = ls; operands = os })) h.0, there_of_fine B z is shapes h.1)

all_there : (B : Body) (gs : List FunctionCode) → ((f : ℕ) → (shapes : List Shape) × IsFine B (unwrap_or (slice_get gs f) no_function_code).result (unwrap_or (slice_get gs f) no_function_code).code shapes) → AllThere B gs
all_there B [] h = tt
all_there B (g ∷ gs) h = let f = h 0 in (there_of_fine B g.result g.code f.0 f.1, all_there B gs (λ f. h (suc f)))

pub written_there : (P : Program) → IsWrittenWell P → AllThere (written_body P) (written_body P).functions
written_there P typed = all_there (written_body P) (written_body P).functions there
  where
    there : (f : ℕ) → (shapes : List Shape) × IsFine (written_body P) (unwrap_or (slice_get (written_body P).functions f) no_function_code).result
        (unwrap_or (slice_get (written_body P).functions f) no_function_code).code shapes
    there f = let h = written_accepted P typed f in (h.0, h.1)
