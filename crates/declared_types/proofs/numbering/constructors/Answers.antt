use Rattle.std.proofs.Common.{◌∙◌}
use Rattle.declared_types.specs.ScopeNames.{names_in}
use Rattle.declared_types.proofs.NumberedParts.{constructor_taken}
use Rattle.declared_types.proofs.TypeNumbers.{grows_on}
use Rattle.declared_types.proofs.numbering.constructors.Goals as goal

pub loop-one-preserved : goal.loop-one-preserved
loop-one-preserved c = record {
  grows = grows_on _ _ _ c.loop-one.invariant.grows c.constructor.ensures.grows;
  format = c.constructor.ensures.format ∙ c.loop-one.invariant.format;
  found = rw c.in_ok-push.ensures.items
      (constructor_taken c.args.types.now.format (names_in c.args.names.now.keys) _ _ c.constructor.ensures.grows c.args.declared.now c.loop-one.one-index
      _ c.in_ok-constructor.field-0 c.one-item.result c.loop-one-test.true c.one-item.is
      c.loop-one.invariant.found (rw c.loop-one.invariant.format at c.in_ok-constructor.ensures.found));
}
