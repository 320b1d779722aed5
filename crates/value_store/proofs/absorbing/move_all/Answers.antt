use Rattle.std.proofs.Common.{◌<◌, length, sym, subst, arith}
use Rattle.std.proofs.lemmas.List.{length-map}
use Rattle.value_store.specs.CodeNodes.{numbers_of}
use Rattle.value_store.specs.Shifting.{wrapped_ref}
use Rattle.value_store.specs.declared.node.Ref.{Ref}
use Rattle.value_store.proofs.Overwriting.{over_more}
use Rattle.value_store.proofs.absorbing.move_all.Goals as goal

pub loop-r-preserved : goal.loop-r-preserved
loop-r-preserved c =
    let lt : c.loop-r.r-index < length (numbers_of c.args.refs.now) = subst (λ n. c.loop-r.r-index < n) (sym (length-map c.args.refs.now (λ (r : Ref). r.0))) (omega arith) in
    over_more (λ (r : Ref). r.0) (wrapped_ref c.args.from c.args.up) (numbers_of c.args.refs.now) c.loop-r.refs c.loop-r.r-index lt c.loop-r.invariant (record { 0 = 0 }) (omega arith) c.moved_part.result c.moved_part.ensures
