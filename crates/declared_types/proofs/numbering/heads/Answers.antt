use Rattle.std.proofs.Common.{◌∙◌}
use Rattle.declared_types.specs.ScopeNames.{names_in}
use Rattle.declared_types.proofs.NumberedParts.{head_taken, heads_passed}
use Rattle.declared_types.proofs.TypeNumbers.{grows_on}
use Rattle.declared_types.proofs.numbering.heads.Goals as goal
use Rattle.declared_types.proofs.numbering.heads.Goals.{in_default, in-Function+in_ok-head+in_ok-push}

pub loop-declaration-preserved : goal.loop-declaration-preserved
loop-declaration-preserved c = elim c.match-declaration.branch [
  | in-Function+in_ok-head+in_ok-push w ↦ record {
    grows = rw w.types-is (grows_on _ _ _ c.loop-declaration.invariant.grows w.head.ensures.grows);
    format = rw w.types-is (w.head.ensures.format ∙ c.loop-declaration.invariant.format);
    found = rw (w.types-is, w.heads-is, w.in_ok-push.ensures.items)
        (head_taken c.args.declarations.now c.loop-declaration.declaration-index c.declaration-item.result c.loop-declaration-test.true
        c.declaration-item.is c.args.types.now.format (names_in c.args.names.now.keys) _ _ c.loop-declaration.heads.items _ _ w.in-Function.function
        w.head.ensures.grows w.in-Function.is c.loop-declaration.invariant.found (rw c.loop-declaration.invariant.format at w.in_ok-head.ensures.found));
  }
  | in_default w ↦ record {
    grows = rw w.types-is c.loop-declaration.invariant.grows;
    format = rw w.types-is c.loop-declaration.invariant.format;
    found = rw (w.types-is, w.heads-is) (heads_passed c.args.declarations.now c.loop-declaration.declaration-index c.declaration-item.result
        c.loop-declaration-test.true c.declaration-item.is c.args.types.now.format (names_in c.args.names.now.keys) _ c.loop-declaration.heads.items
        w.in_default.not-Function c.loop-declaration.invariant.found);
  }
]
