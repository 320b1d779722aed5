use Rattle.std.proofs.Common.{◌≡◌, map, take}
use Rattle.core_terms.specs.Programs.{types_in}
use Rattle.auth_syntax.specs.Trees.{type_of}
use Rattle.declared_types.specs.OverTypes.{AreNumbers, Grows}
use Rattle.declared_types.specs.ScopeNames.{names_in}
use Rattle.declared_types.specs.WrittenTypes.{type_meant}
use Rattle.declared_types.proofs.numbering.numbers.Given as goal

abbrev pub invariant-loop-tree : goal.invariant-loop-tree
invariant-loop-tree l = record {
  grows : Grows (types_in l.initial.types) (types_in l.types);
  format : l.types.format ≡ l.initial.types.format;
  found : AreNumbers (types_in l.types) l.ids.items (map (type_meant l.initial.types.format (names_in l.names.keys)) (map type_of (take l.tree-index l.trees)));
}
