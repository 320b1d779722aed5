use Rattle.std.proofs.Common.{◌∙◌}
use Rattle.auth_syntax.specs.Trees.{type_of}
use Rattle.declared_types.specs.ScopeNames.{names_in}
use Rattle.declared_types.specs.WrittenTypes.{type_meant}
use Rattle.declared_types.proofs.NumberedParts.{numbers_taken}
use Rattle.declared_types.proofs.TypeNumbers.{grows_on}
use Rattle.declared_types.proofs.numbering.numbers.Goals as goal

pub loop-tree-preserved : goal.loop-tree-preserved
loop-tree-preserved c = record {
  grows = grows_on _ _ _ c.loop-tree.invariant.grows c.number.ensures.grows;
  format = c.number.ensures.format ∙ c.loop-tree.invariant.format;
  found = rw c.in_ok-push.ensures.items
      (numbers_taken _ _ (type_meant c.args.types.now.format (names_in c.args.names.now.keys)) type_of c.args.trees.now c.loop-tree.tree-index _ c.in_ok-number.field-0
      c.tree-item.result c.number.ensures.grows c.loop-tree-test.true c.tree-item.is
      c.loop-tree.invariant.found (rw c.loop-tree.invariant.format at c.in_ok-number.ensures.found));
}
