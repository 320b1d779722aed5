use Rattle.std.proofs.Common.{◌≡◌, take}
use Rattle.std.specs.List.{AllZip}
use Rattle.core_terms.specs.Programs.{types_in}
use Rattle.declared_types.specs.Numbering.{IsHeadOf}
use Rattle.declared_types.specs.OverTypes.{Grows, functions_written}
use Rattle.declared_types.specs.ScopeNames.{names_in}
use Rattle.declared_types.proofs.numbering.heads.Given as goal

abbrev pub invariant-loop-declaration : goal.invariant-loop-declaration
invariant-loop-declaration l = record {
  grows : Grows (types_in l.initial.types) (types_in l.types);
  format : l.types.format ≡ l.initial.types.format;
  found : AllZip (IsHeadOf l.initial.types.format (names_in l.names.keys) (types_in l.types)) (functions_written (take l.declaration-index l.declarations)) l.heads.items;
}
