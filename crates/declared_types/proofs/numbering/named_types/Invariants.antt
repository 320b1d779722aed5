use Rattle.std.proofs.Common.{◌≡◌, map, take}
use Rattle.core_terms.specs.Programs.{types_in}
use Rattle.auth_syntax.specs.Trees.{declaration_of}
use Rattle.declared_types.specs.Numbering.{AreNamedOf}
use Rattle.declared_types.specs.OverTypes.{Grows}
use Rattle.declared_types.specs.ScopeNames.{names_in}
use Rattle.declared_types.proofs.numbering.named_types.Given as goal

abbrev pub invariant-loop-declaration : goal.invariant-loop-declaration
invariant-loop-declaration l = record {
  grows : Grows (types_in l.initial.types) (types_in l.types);
  format : l.types.format ≡ l.initial.types.format;
  found : AreNamedOf l.initial.types.format (names_in l.names.keys) (types_in l.types) (map declaration_of (take l.declaration-index l.declarations)) l.named.items;
}
