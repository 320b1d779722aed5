use Rattle.std.proofs.Common.{◌≡◌, map, take}
use Rattle.core_terms.specs.Programs.{types_in}
use Rattle.auth_syntax.specs.Trees.{constructor_of}
use Rattle.declared_types.specs.Numbering.{AreConstructorsOf}
use Rattle.declared_types.specs.OverTypes.{Grows}
use Rattle.declared_types.specs.ScopeNames.{names_in}
use Rattle.declared_types.proofs.numbering.constructors.Given as goal

abbrev pub invariant-loop-one : goal.invariant-loop-one
invariant-loop-one l = record {
  grows : Grows (types_in l.initial.types) (types_in l.types);
  format : l.types.format ≡ l.initial.types.format;
  found : AreConstructorsOf l.initial.types.format (names_in l.names.keys) (types_in l.types) (map constructor_of (take l.one-index l.declared)) l.constructors.items;
}
