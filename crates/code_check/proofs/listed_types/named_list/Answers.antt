use Rattle.std.proofs.Common.{length}
use Rattle.code_check.proofs.NamedTypes.{named_more, named_passed, own_constructors}
use Rattle.code_check.proofs.listed_types.named_list.Goals as goal
use Rattle.code_check.proofs.listed_types.named_list.Goals.{in-Named+in_ok-named_type+in_ok-push, in_default}

pub named_type-requires : goal.named_type-requires
named_type-requires c =
    own_constructors (length c.args.numbers.now) c.args.listed.now c.loop-ty.ty-index c.ty-item.result c.in-Named.constructors c.deref.result.now c.loop-ty-test.true c.ty-item.is c.requires c.in-Named.is
    c.deref.ensures.value

pub loop-ty-preserved : goal.loop-ty-preserved
loop-ty-preserved c = elim c.match-ty.branch [
  | in-Named+in_ok-named_type+in_ok-push w ↦
      rw (w.named-is, w.in_ok-push.ensures.items)
      (named_more c.args.numbers.now c.args.listed.now c.loop-ty.ty-index c.ty-item.result w.in-Named.constructors w.deref.result.now c.loop-ty.named.items w.in_ok-named_type.field-0
      c.loop-ty-test.true c.ty-item.is c.loop-ty.invariant w.in-Named.is w.deref.ensures.value w.in_ok-named_type.ensures)
  | in_default w ↦
      rw w.named-is
      (named_passed c.args.numbers.now c.args.listed.now c.loop-ty.ty-index c.ty-item.result c.loop-ty.named.items c.loop-ty-test.true c.ty-item.is w.in_default.not-Named c.loop-ty.invariant)
]
