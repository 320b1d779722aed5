use Rattle.value_store.specs.Markings.{kind_of}
use Rattle.mode_vm.specs.Meanings.{program_of}
use Rattle.mode_vm.proofs.TextOperations.{concat_acts, concat_first, concat_second}
use Rattle.mode_vm.proofs.Enough.{concat_enough}
use Rattle.mode_vm.proofs.frame.Frame.concat.Goals as goal

pub new_text-requires-clause-first : goal.new_text-requires-clause-first
new_text-requires-clause-first g c =
    let P = program_of c.args.code.now in
    let nodes = g.N.Nodes.nodes c.args.store.now in
    let b = c.requires.before in
    let x = concat_first b.0 P nodes c.args.self.now b.1 b.2 c.pop_two-first.new.self.operands.items _ _ c.pop_two-first.ensures.top in
    (kind_of b.0 P, P.types, x.0, x.1)

pub new_text-requires-clause-second : goal.new_text-requires-clause-second
new_text-requires-clause-second g c =
    let P = program_of c.args.code.now in
    let nodes = g.N.Nodes.nodes c.args.store.now in
    let b = c.requires.before in
    let x = concat_second b.0 P nodes c.args.self.now b.1 b.2 c.pop_two-first.new.self.operands.items _ _ c.pop_two-first.ensures.top in
    (kind_of b.0 P, P.types, x.0, x.1)

pub returns-clause-does : goal.returns-clause-does
returns-clause-does g c m values b =
    let P = program_of c.args.code.now in
    let nodes = g.N.Nodes.nodes c.args.store.now in
    concat_acts m P nodes c.args.self.now values b c.pop_two-first.new.self.operands.items _ _ c.pop_two-first.ensures.top (g.N.Nodes.nodes c.new_text.new.store) c.new_text.ensures.keeps
    c.pop_two-first.new.self c.finish.new.self c.pop_two-first.ensures.at c.in_ok-made.made (λ x y h j. c.in_ok-made.ensures.makes P.format.limit c.requires.limit.is m (kind_of m P) P.types x y h j)
    c.finish.result c.finish.ensures

pub pop_two-first-requires : goal.pop_two-first-requires
pop_two-first-requires g c =
    let b = c.requires.before in
    concat_enough b.0 (program_of c.args.code.now) (g.N.Nodes.nodes c.args.store.now) c.args.self.now b.1 b.2
