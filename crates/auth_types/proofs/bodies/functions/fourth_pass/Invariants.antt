use Rattle.std.proofs.Common.{◌≡◌, ℕ, List, ◌++◌, drop, map, take}
use Rattle.std.specs.Prelude.{All}
use Rattle.core_terms.specs.Types.{Ty}
use Rattle.core_terms.specs.ProgramTrees.{function_of}
use Rattle.core_terms.specs.declared.term.Function.{Function}
use Rattle.auth_syntax.specs.Syntax.{FunctionSyntax}
use Rattle.auth_types.specs.Bodies.{checked_functions}
use Rattle.auth_types.specs.CheckedLaws.{HasGoodLiterals}
use Rattle.declared_types.specs.DeclaredPrograms.{signature_of}
use Rattle.auth_types.specs.Elaborators.{Keeps, scope_of, types_of}
use Rattle.declared_types.specs.Scopes.{functions_meant, signature_meant}
use Rattle.declared_types.specs.declared.scope.Head.{Head}
use Rattle.auth_types.proofs.FunctionSteps.{functions_behind}
use Rattle.auth_types.proofs.bodies.functions.fourth_pass.Given as goal

-- the functions so far stand before those that are left
abbrev pub invariant-loop-head : goal.invariant-loop-head
invariant-loop-head l = record {
  keeps : Keeps l.initial.elaborator l.elaborator;
  found : (names : List (List ℕ)) → map (signature_meant (types_of l.initial.elaborator)) l.scope.heads.items ≡ map (signature_of (scope_of l.initial.elaborator).format names)
      (functions_meant l.scope)
      → (more : List Ty) → checked_functions names (scope_of l.initial.elaborator) (functions_meant l.scope)
      ≡ functions_behind (map (function_of (types_of l.elaborator ++ more)) l.functions.items)
      (checked_functions names (scope_of l.initial.elaborator) (drop l.head-index (functions_meant l.scope)));
  parameters : map (λ (f : Function). f.parameters.items) l.functions.items ≡ take l.head-index
      (map (λ (h : Head). h.parameters.items) l.scope.heads.items);
  results : map (λ (f : Function). f.result) l.functions.items ≡ take l.head-index (map (λ (h : Head). h.result) l.scope.heads.items);
  literals : All (λ (f : FunctionSyntax). HasGoodLiterals f.body) (drop l.head-index (functions_meant l.scope))
      → All (λ (f : FunctionSyntax). HasGoodLiterals f.body) (functions_meant l.scope);
}
