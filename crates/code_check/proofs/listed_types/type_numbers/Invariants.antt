use Rattle.std.proofs.Common.{◌≡◌, ◌≤◌, true, length, map, drop}
use Rattle.core_terms.specs.ProgramTrees.{are_below, types_at}
use Rattle.core_terms.specs.Programs.{types_in}
use Rattle.object_meaning.specs.ObjectBodies.{trees_behind, trees_of}
use Rattle.object_reader.specs.ObjectViews.{type_of}
use Rattle.code_check.specs.ListedParts.{HavePartsBefore}
use Rattle.code_check.proofs.listed_types.type_numbers.Given as goal

-- the types so far have their numbers, and the others go on behind them
abbrev pub invariant-loop-ty : goal.invariant-loop-ty
invariant-loop-ty l = record {
  trees : trees_behind (types_at (types_in l.types) l.numbers.items) l.named (map type_of (drop l.ty-index l.listed)) ≡ trees_of (map type_of l.listed);
  within : are_below (length (types_in l.types)) l.numbers.items ≡ true;
  each : length l.numbers.items ≡ l.ty-index;
  parts : HavePartsBefore l.ty-index (map type_of (drop l.ty-index l.listed));
  counted : l.named ≤ l.ty-index;
  format : l.types.format ≡ l.initial.types.format;
}
