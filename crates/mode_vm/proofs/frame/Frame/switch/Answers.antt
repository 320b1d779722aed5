use Rattle.std.proofs.Common.{refl, arith, sym, ap, ap₂, ◌++◌, ◌∙◌, ◌<◌, length, subst, ◌+◌}
use Rattle.value_store.proofs.NodeLists.{form_within}
use Rattle.mode_vm.specs.Operands.{all_at}
use Rattle.mode_vm.specs.Meanings.{program_of}
use Rattle.mode_vm.proofs.LoadedLocals.{short}
use Rattle.mode_vm.proofs.Switching.{apart, seen_fields, seen_form, seen_skip, switched, switch_within, skip_read}
use Rattle.mode_vm.proofs.frame.Frame.switch.Goals as goal

pub node_in-requires : goal.node_in-requires
node_in-requires g c =
    let b = c.requires.before in
    let a = apart b.0 (program_of c.args.code.now) (g.N.Nodes.nodes c.args.store.now) c.args.self.now c.args.named.0 c.args.skips.now b.1 b.2 c.pop-top.new.self.operands.items c.pop-top.result
    c.pop-top.ensures.top in
    (a.node, a.is)

pub view-requires : goal.view-requires
view-requires g c =
    let P = program_of c.args.code.now in
    let b = c.requires.before in
    form_within (g.N.Nodes.nodes c.args.store.now) c.node_in.result.0 _
    (seen_form b.0 P (g.N.Nodes.nodes c.args.store.now) c.args.self.now c.args.named.0 c.args.skips.now b.1 b.2 c.pop-top.new.self.operands.items c.pop-top.result c.pop-top.ensures.top
    c.node_in.result c.node_in.ensures)

pub bounds-skips-from : goal.bounds-skips-from
bounds-skips-from g c =
    let P = program_of c.args.code.now in
    let b = c.requires.before in
    subst (λ i. i < length c.args.skips.now) (sym c.from.ensures)
    (short c.args.skips.now c.in-Constructor.tag.0 _ (seen_skip b.0 P
    (g.N.Nodes.nodes c.args.store.now) c.args.self.now c.args.named.0 c.args.skips.now b.1 b.2 c.pop-top.new.self.operands.items c.pop-top.result c.pop-top.ensures.top c.node_in.result c.node_in.ensures _ _ _
    c.in-Constructor.ensures.form))

pub overflow_add-self-in-Constructor : goal.overflow_add-self-in-Constructor
overflow_add-self-in-Constructor g c =
    let P = program_of c.args.code.now in
    let b = c.requires.before in
    let h = switch_within b.0 P (g.N.Nodes.nodes c.args.store.now) c.args.self.now c.args.named.0 c.args.skips.now b.1 b.2 c.pop-top.new.self.operands.items c.pop-top.result c.pop-top.ensures.top in
    let l = c.requires.length in
    let k = seen_skip b.0 P (g.N.Nodes.nodes c.args.store.now) c.args.self.now c.args.named.0 c.args.skips.now b.1 b.2 c.pop-top.new.self.operands.items c.pop-top.result c.pop-top.ensures.top c.node_in.result c.node_in.ensures _ _
    _ c.in-Constructor.ensures.form in
    let is = skip_read c.args.skips.now c.in-Constructor.tag.0 c.from.result _ c.from.ensures k in
    let p = c.pop-top.ensures.at.place in
    record { fits = omega (arith, h, l, is, p) }

pub returns : goal.returns
returns g c = record {
  does = λ m values b.
      let P = program_of c.args.code.now in
      let k = seen_skip m P (g.N.Nodes.nodes c.args.store.now) c.args.self.now c.args.named.0 c.args.skips.now values b c.pop-top.new.self.operands.items c.pop-top.result c.pop-top.ensures.top c.node_in.result c.node_in.ensures _ _
      _ c.in-Constructor.ensures.form in
      let is = skip_read c.args.skips.now c.in-Constructor.tag.0 c.from.result _ c.from.ensures k in
      switched m P (g.N.Nodes.nodes c.args.store.now) c.args.self.now c.args.named.0 c.args.skips.now values b c.pop-top.new.self.operands.items c.pop-top.result c.pop-top.ensures.top _
      c.in-Constructor.fields.now (seen_fields m P (g.N.Nodes.nodes c.args.store.now) c.args.self.now c.args.named.0 c.args.skips.now values b c.pop-top.new.self.operands.items
      c.pop-top.result c.pop-top.ensures.top c.node_in.result c.node_in.ensures _ _ _ c.in-Constructor.ensures.form)
      (record {
        function = c.pop-top.ensures.at.function;
        place = ap₂ (λ p n. p + 1 + n) c.pop-top.ensures.at.place is;
        locals = c.in_ok-push_nodes-in-Constructor.ensures.items ∙ ap (λ l. l ++ all_at c.in-Constructor.fields.now) c.pop-top.ensures.at.locals;
        operands = refl;
        over = record { locals = c.in_ok-push_nodes-in-Constructor.ensures.below ∙ c.pop-top.ensures.at.over.locals; operands = c.pop-top.ensures.at.over.operands };
      });
}
