use Rattle.std.proofs.Common.{◌≡◌, ◌<◌, List, drop}
use Rattle.std.specs.Prelude.{IfSome}
use Rattle.core_terms.specs.Types.{Ty}
use Rattle.auth_types.specs.Bodies.{last_named, or_else}
use Rattle.auth_types.specs.Locals.{locals_meant}
use Rattle.auth_types.proofs.bodies.elaborator.innermost.Given as goal

abbrev pub invariant-loop-number : goal.invariant-loop-number
invariant-loop-number l = record {
  found : (types : List Ty) → last_named 0 (locals_meant types l.locals) l.name ≡ or_else
      (last_named l.number (locals_meant types (drop l.number l.locals)) l.name) l.found;
  inside : IfSome l.found (λ number. number < l.number);
}
