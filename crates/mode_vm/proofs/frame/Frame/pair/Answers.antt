use Rattle.std.proofs.Common.{◌∙◌, ap}
use Rattle.value_store.specs.Markings.{kind_of}
use Rattle.value_store.proofs.StandingNodes.{there_stands}
use Rattle.mode_vm.specs.Meanings.{program_of}
use Rattle.mode_vm.proofs.Frames.{held_keeps}
use Rattle.mode_vm.proofs.PairOperations.{pair_first, pair_second, pair_acts}
use Rattle.mode_vm.proofs.Enough.{pair_enough}
use Rattle.mode_vm.proofs.frame.Frame.pair.Goals as goal

pub new_pair-requires-clause-first : goal.new_pair-requires-clause-first
new_pair-requires-clause-first g c =
    let b = c.requires.before in
    let P = program_of c.args.code.now in
    let x = pair_first b.0 P (g.N.Nodes.nodes c.args.store.now) c.args.self.now b.1 b.2 _ _ _ c.pop_two-first.ensures.top in
    let kind = kind_of b.0 P in
    there_stands kind P.types (g.N.Nodes.nodes c.place-2.new.store) x.0 x.1 c.in_ok-first.first.0
    (c.in_ok-second.ensures.keeps kind P.types c.in_ok-first.first.0 x.0 x.1 (c.in_ok-first.ensures.stands kind P.types x.0 x.1 x.2))

pub new_pair-requires-clause-second : goal.new_pair-requires-clause-second
new_pair-requires-clause-second g c =
    let b = c.requires.before in
    let P = program_of c.args.code.now in
    let x = pair_second b.0 P (g.N.Nodes.nodes c.args.store.now) c.args.self.now b.1 b.2 _ _ _ c.pop_two-first.ensures.top in
    let kind = kind_of b.0 P in
    there_stands kind P.types (g.N.Nodes.nodes c.place-2.new.store) x.0 x.1 c.in_ok-second.second.0
    (c.in_ok-second.ensures.stands kind P.types x.0 x.1 (held_keeps kind P.types _ _ c.in_ok-first.ensures.keeps _ x.0 x.1 x.2))

pub returns-clause-does : goal.returns-clause-does
returns-clause-does g c m values b =
    let P = program_of c.args.code.now in
    let kind = kind_of m P in
    pair_acts m P (g.N.Nodes.nodes c.args.store.now) c.args.self.now values b c.pop_two-first.new.self.operands.items _ _ c.pop_two-first.ensures.top
    (g.N.Nodes.nodes c.new_pair.new.store)
    (λ kind types r t v h. c.new_pair.ensures.keeps kind types r t v (c.in_ok-second.ensures.keeps kind types r t v (c.in_ok-first.ensures.keeps kind types r t v h)))
    c.pop_two-first.new.self c.finish.new.self c.pop_two-first.ensures.at c.in_ok-made.made
    (λ s t x y h j. c.in_ok-made.ensures.makes P.format.limit (ap (λ l. l.limit) (c.in_ok-second.ensures.lent ∙ c.in_ok-first.ensures.lent) ∙ c.requires.limit.is) m kind P.types s t x y
    (c.in_ok-second.ensures.keeps kind P.types c.in_ok-first.first.0 s x (c.in_ok-first.ensures.stands kind P.types s x h))
    (c.in_ok-second.ensures.stands kind P.types t y (held_keeps kind P.types _ _ c.in_ok-first.ensures.keeps _ t y j))) c.finish.result c.finish.ensures

pub pop_two-first-requires : goal.pop_two-first-requires
pop_two-first-requires g c =
    let b = c.requires.before in
    pair_enough b.0 (program_of c.args.code.now) (g.N.Nodes.nodes c.args.store.now) c.args.self.now b.1 b.2
