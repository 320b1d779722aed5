use Rattle.core_terms.specs.Programs.{types_of}
use Rattle.code_gen.specs.Programs.{program_in}
use Rattle.mode_vm.specs.Meanings.{program_of}
use Rattle.mode_vm.proofs.OwnInstructions.{before}
use Rattle.mode_vm.proofs.frame.Frame.act_rarely.Goals as goal

-- each of them does what its function does
pub returns-in-PushText-clause-does : goal.returns-in-PushText-clause-does
returns-in-PushText-clause-does g c m values b =
    let P = program_of c.args.code.now in
    c.push_text.ensures.does m values (before P (types_of (program_in c.args.code.now)) m (g.N.Nodes.nodes c.args.store.now) c.args.self.now values _ _ c.in-PushText.is b)

pub returns-in-TextCompare-clause-does : goal.returns-in-TextCompare-clause-does
returns-in-TextCompare-clause-does g c m values b =
    let P = program_of c.args.code.now in
    c.compare_texts.ensures.does m values (before P (types_of (program_in c.args.code.now)) m (g.N.Nodes.nodes c.args.store.now) c.args.self.now values _ _ c.in-TextCompare.is b)

pub returns-in-Cat-clause-does : goal.returns-in-Cat-clause-does
returns-in-Cat-clause-does g c m values b =
    let P = program_of c.args.code.now in
    c.concat.ensures.does m values (before P (types_of (program_in c.args.code.now)) m (g.N.Nodes.nodes c.args.store.now) c.args.self.now values _ _ c.in-Cat.is b)

pub returns-in-Len-clause-does : goal.returns-in-Len-clause-does
returns-in-Len-clause-does g c m values b =
    let P = program_of c.args.code.now in
    c.length.ensures.does m values (before P (types_of (program_in c.args.code.now)) m (g.N.Nodes.nodes c.args.store.now) c.args.self.now values _ _ c.in-Len.is b)

pub returns-in-VecFill-clause-does : goal.returns-in-VecFill-clause-does
returns-in-VecFill-clause-does g c m values b =
    let P = program_of c.args.code.now in
    c.fill.ensures.does m values (before P (types_of (program_in c.args.code.now)) m (g.N.Nodes.nodes c.args.store.now) c.args.self.now values _ _ c.in-VecFill.is b)

pub returns-in-VecGet-clause-does : goal.returns-in-VecGet-clause-does
returns-in-VecGet-clause-does g c m values b =
    let P = program_of c.args.code.now in
    c.element.ensures.does m values (before P (types_of (program_in c.args.code.now)) m (g.N.Nodes.nodes c.args.store.now) c.args.self.now values _ _ c.in-VecGet.is b)

pub returns-in-VecPut-clause-does : goal.returns-in-VecPut-clause-does
returns-in-VecPut-clause-does g c m values b =
    let P = program_of c.args.code.now in
    c.replace.ensures.does m values (before P (types_of (program_in c.args.code.now)) m (g.N.Nodes.nodes c.args.store.now) c.args.self.now values _ _ c.in-VecPut.is b)
