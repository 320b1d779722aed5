-- The numbers of named types.
use Rattle.std.specs.Prelude.{ℕ, nat_lt, Option, Some, None, if◌then◌else◌}
use Rattle.core_terms.specs.declared.types.TyForm.{TyForm}
use Rattle.core_terms.specs.declared.types.TyForm.TheVariants.{NamedForm}

-- a type's number among so many named types; none where it isn't one of them
abbrev pub named_place : ℕ → TyForm → Option ℕ
named_place count (NamedForm named) = if nat_lt named.0 count then Some named.0 else None
named_place count form = None
