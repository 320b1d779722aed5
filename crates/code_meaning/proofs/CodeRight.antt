-- The code of a typed program, written or compiled, does what the program means.
use Rattle.std.proofs.Common.{◌≡◌, ◌≤◌, ℕ, Bool, List, length, arith, Option, Some, None, sym, ap, subst}
use Rattle.std.proofs.lemmas.List.{length-map}
use Rattle.core_terms.specs.Instructions.{Instruction}
use Rattle.core_terms.specs.Types.{Ty}
use Rattle.core_terms.specs.Values.{Value, Values}
use Rattle.core_terms.specs.Bodies.{Body, FunctionCode, code_at}
use Rattle.core_terms.specs.Accepted.{IsAccepted}
use Rattle.core_terms.specs.Terms.{Program, function_at, body_of}
use Rattle.core_terms.specs.TypingRules.{IsTyped, IsTypedAs}
use Rattle.ideal_meaning.specs.Run.{Mode}
use Rattle.ideal_meaning.specs.Called.{call_as, call_from}
use Rattle.ideal_meaning.specs.Execution.{Ran, call_code_from}
use Rattle.ideal_meaning.specs.CodeTypes.{IsOf, AreOf, IsMode}
use Rattle.ideal_meaning.proofs.Never.{never}
use Rattle.ideal_meaning.proofs.Coded.{as_many, no_more, coded_found, not_stuck}
use Rattle.core_terms.specs.GeneratedCode.{codes_as, function_code, generated}
use Rattle.code_meaning.proofs.Follows.{code_found, written_right}
use Rattle.code_meaning.proofs.Generated.{written_accepted}

-- a function's signature is that of its code
pub signature_found : (P : Program) → IsTyped P → (f : ℕ) → ((code_at (generated P) f).parameters ≡ (function_at P f).parameters) × ((code_at (generated P) f).result ≡ (function_at P f).result)
signature_found P typed f = by P.code typed
  where
    body : Option (List (List Instruction)) → Body
    body o = record { limit = P.format.limit; types = P.types; functions = codes_as P o }

    by : (o : Option (List (List Instruction))) → IsTypedAs P o → ((code_at (body o) f).parameters ≡ (function_at P f).parameters) × ((code_at (body o) f).result ≡ (function_at P f).result)
    by None h = (ap (λ (c : FunctionCode). c.parameters) (code_found P f), ap (λ (c : FunctionCode). c.result) (code_found P f))
    by (Some codes) h = coded_found P codes h.each f

-- there is code for no more functions than there are
pub no_more_functions : (P : Program) → length (generated P).functions ≤ length P.functions
no_more_functions P = by P.code
  where
    by : (o : Option (List (List Instruction))) → length (codes_as P o) ≤ length P.functions
    by None = let l = length-map P.functions (function_code P.types) in omega (arith, l)
    by (Some codes) = no_more P.functions codes

-- and where the program is typed, for each
pub functions_found : (P : Program) → IsTyped P → length (generated P).functions ≡ length P.functions
functions_found P typed = by P.code typed
  where
    by : (o : Option (List (List Instruction))) → IsTypedAs P o → length (codes_as P o) ≡ length P.functions
    by None h = length-map P.functions (function_code P.types)
    by (Some codes) h = as_many P.functions codes h.each

-- the code of a typed program is accepted
pub generated_accepted : (P : Program) → IsTyped P → IsAccepted (generated P)
generated_accepted P typed = by P.code typed
  where
    by : (o : Option (List (List Instruction))) → IsTypedAs P o → IsAccepted (record { limit = P.format.limit; types = P.types; functions = codes_as P o })
    by None h = written_accepted P h
    by (Some codes) h = h.accepted

module _ (C W : Type 0) (P : Program) (typed : IsTyped P) (mode : Mode C W) (A : Ty → Value → Bool) (laws : IsMode P.types A mode) where
  pub right : (f : ℕ) (args : Values) (k : ℕ) (w : W) → AreOf P.types A (function_at P f).parameters args → call_code_from (generated P) mode f args k w ≡ Ran (call_from P mode f args k w)
  right f args k w a = by P.code typed
    where
      by : (o : Option (List (List Instruction))) → IsTypedAs P o → call_code_from (record { limit = P.format.limit; types = P.types; functions = codes_as P o }) mode f args k w ≡ Ran (call_as P o mode k f args k w)
      by None h = written_right C W P h mode A laws f args k w a
      by (Some codes) h =
          not_stuck (IsOf P.types A (code_at (body_of P codes) f).result) (call_code_from (body_of P codes) mode f args k w) k w
          (never C W (body_of P codes) mode A laws h.accepted k f args k w (subst (λ ts. AreOf P.types A ts args) (sym (coded_found P codes h.each f).0) a))
