use Rattle.std.proofs.Common.{◌∙◌, ap}
use Rattle.core_terms.specs.Types.{IntTy, VecTy}
use Rattle.value_store.specs.Markings.{kind_of}
use Rattle.value_store.proofs.StandingNodes.{there_stands}
use Rattle.mode_vm.specs.Meanings.{program_of}
use Rattle.mode_vm.proofs.ArrayOperations.{array_put, index_put, item_put, put_acts, put_enough}
use Rattle.mode_vm.proofs.Frames.{held_keeps}
use Rattle.mode_vm.proofs.frame.Frame.replace.Goals as goal

pub pop_three-array-requires : goal.pop_three-array-requires
pop_three-array-requires g c =
    let b = c.requires.before in
    put_enough b.0 (program_of c.args.code.now) (g.N.Nodes.nodes c.args.store.now) c.args.self.now b.1 b.2

pub new_replaced-requires : goal.new_replaced-requires
new_replaced-requires g c =
    let P = program_of c.args.code.now in
    let nodes = g.N.Nodes.nodes c.args.store.now in
    let b = c.requires.before in
    let kind = kind_of b.0 P in
    let x = array_put b.0 P nodes c.args.self.now b.1 b.2 c.pop_three-array.new.self.operands.items _ _ _ c.pop_three-array.ensures.top in
    let y = index_put b.0 P nodes c.args.self.now b.1 b.2 c.pop_three-array.new.self.operands.items _ _ _ c.pop_three-array.ensures.top in
    let e = item_put b.0 P nodes c.args.self.now b.1 b.2 c.pop_three-array.new.self.operands.items _ _ _ c.pop_three-array.ensures.top in
    record {
      array = (kind, P.types, x.0, x.1, x.2, held_keeps kind P.types _ _ c.in_ok-item.ensures.keeps _ (VecTy x.0 x.1) x.2 x.3);
      index = (kind, P.types, y.0, held_keeps kind P.types _ _ c.in_ok-item.ensures.keeps _ IntTy y.0 y.1);
      item = there_stands kind P.types (g.N.Nodes.nodes c.place.new.store) e.0 e.1 c.in_ok-item.item.0 (c.in_ok-item.ensures.stands kind P.types e.0 e.1 e.2);
    }

pub returns-clause-does : goal.returns-clause-does
returns-clause-does g c m values b =
    let P = program_of c.args.code.now in
    let kind = kind_of m P in
    put_acts m P (g.N.Nodes.nodes c.args.store.now) c.args.self.now values b c.pop_three-array.new.self.operands.items _ _ _ c.pop_three-array.ensures.top
    (g.N.Nodes.nodes c.new_replaced.new.store) (λ kind types r t v h. c.new_replaced.ensures.keeps kind types r t v (c.in_ok-item.ensures.keeps kind types r t v h))
    c.pop_three-array.new.self c.finish.new.self c.pop_three-array.ensures.at c.in_ok-made.made
    (λ n t u v e h j i. c.in_ok-made.ensures.makes P.format.limit (ap (λ l. l.limit) c.in_ok-item.ensures.lent ∙ c.requires.limit.is) m kind P.types n t u v e
    (held_keeps kind P.types _ _ c.in_ok-item.ensures.keeps _ (VecTy n t) u h) (held_keeps kind P.types _ _ c.in_ok-item.ensures.keeps _ IntTy v j)
    (c.in_ok-item.ensures.stands kind P.types t e i)) c.finish.result c.finish.ensures
