use Rattle.std.proofs.Common.{◌∙◌, ap}
use Rattle.value_store.specs.Markings.{kind_of}
use Rattle.value_store.proofs.StandingNodes.{there_stands}
use Rattle.mode_vm.specs.Meanings.{program_of}
use Rattle.mode_vm.proofs.ArrayOperations.{fill_acts, filled_count, filled_with}
use Rattle.mode_vm.proofs.frame.Frame.fill.Goals as goal

pub new_filled-requires-clause-item : goal.new_filled-requires-clause-item
new_filled-requires-clause-item g c =
    let b = c.requires.before in
    let P = program_of c.args.code.now in
    let x = filled_with b.0 P (g.N.Nodes.nodes c.args.store.now) c.args.self.now c.args.count b.1 b.2 c.pop-top.new.self.operands.items c.pop-top.result c.pop-top.ensures.top in
    let kind = kind_of b.0 P in
    there_stands kind P.types (g.N.Nodes.nodes c.place.new.store) x.0 x.1 c.in_ok-item.item.0 (c.in_ok-item.ensures.stands kind P.types x.0 x.1 x.2)

pub new_filled-requires-clause-count : goal.new_filled-requires-clause-count
new_filled-requires-clause-count g c =
    let b = c.requires.before in
    filled_count b.0 (program_of c.args.code.now) (g.N.Nodes.nodes c.args.store.now) c.args.self.now c.args.count b.1 b.2 c.pop-top.new.self.operands.items c.pop-top.result c.pop-top.ensures.top

pub returns-clause-does : goal.returns-clause-does
returns-clause-does g c m values b =
    let P = program_of c.args.code.now in
    let kind = kind_of m P in
    fill_acts m P (g.N.Nodes.nodes c.args.store.now) c.args.self.now c.args.count values b c.pop-top.new.self.operands.items c.pop-top.result c.pop-top.ensures.top
    (g.N.Nodes.nodes c.new_filled.new.store) (λ kind types r t v h. c.new_filled.ensures.keeps kind types r t v (c.in_ok-item.ensures.keeps kind types r t v h))
    c.pop-top.new.self c.finish.new.self c.pop-top.ensures.at c.in_ok-made.made
    (λ t v h. c.in_ok-made.ensures.makes P.format.limit (ap (λ l. l.limit) c.in_ok-item.ensures.lent ∙ c.requires.limit.is) m kind P.types t v (c.in_ok-item.ensures.stands kind P.types t v h))
    c.finish.result c.finish.ensures
