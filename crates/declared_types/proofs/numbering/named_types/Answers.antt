use Rattle.std.proofs.Common.{◌∙◌}
use Rattle.declared_types.specs.ScopeNames.{names_in}
use Rattle.declared_types.proofs.NumberedParts.{named_passed, named_taken}
use Rattle.declared_types.proofs.TypeNumbers.{grows_on}
use Rattle.declared_types.proofs.numbering.named_types.Goals as goal
use Rattle.declared_types.proofs.numbering.named_types.Goals.{in_default, in-Type+in_ok-named_type+in_ok-push}

pub loop-declaration-preserved : goal.loop-declaration-preserved
loop-declaration-preserved c = elim c.match-declaration.branch [
  | in-Type+in_ok-named_type+in_ok-push w ↦ record {
    grows = rw w.types-is (grows_on _ _ _ c.loop-declaration.invariant.grows w.named_type.ensures.grows);
    format = rw w.types-is (w.named_type.ensures.format ∙ c.loop-declaration.invariant.format);
    found = rw (w.types-is, w.named-is, w.in_ok-push.ensures.items)
        (named_taken c.args.declarations.now c.loop-declaration.declaration-index c.declaration-item.result c.loop-declaration-test.true
        c.declaration-item.is c.args.types.now.format (names_in c.args.names.now.keys) _ _ c.loop-declaration.named.items _ _ w.in-Type.declared
        w.named_type.ensures.grows w.in-Type.is c.loop-declaration.invariant.found (rw c.loop-declaration.invariant.format at w.in_ok-named_type.ensures.found));
  }
  | in_default w ↦ record {
    grows = rw w.types-is c.loop-declaration.invariant.grows;
    format = rw w.types-is c.loop-declaration.invariant.format;
    found = rw (w.types-is, w.named-is) (named_passed c.args.declarations.now c.loop-declaration.declaration-index c.declaration-item.result
        c.loop-declaration-test.true c.declaration-item.is c.args.types.now.format (names_in c.args.names.now.keys) _ c.loop-declaration.named.items
        w.in_default.not-Type c.loop-declaration.invariant.found);
  }
]
