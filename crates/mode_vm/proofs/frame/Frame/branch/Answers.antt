use Rattle.std.proofs.Common.{◌∙◌, ◌+◌, ap, refl, arith}
use Rattle.core_terms.specs.Values.{BoolV}
use Rattle.value_store.specs.Markings.{kind_of}
use Rattle.mode_vm.specs.Meanings.{program_of}
use Rattle.mode_vm.proofs.Branching.{branch_operand, branch_within, branched, skipped}
use Rattle.mode_vm.proofs.frame.Frame.branch.Goals as goal

pub bool_in-requires : goal.bool_in-requires
bool_in-requires g c =
    let P = program_of c.args.code.now in
    let nodes = g.N.Nodes.nodes c.args.store.now in
    let b = c.requires.before in
    let x = branch_operand b.0 P nodes c.args.self.now c.args.skip b.1 b.2 c.pop-r.new.self.operands.items _ c.pop-r.ensures.top in
    (kind_of b.0 P, P.types, x.0, x.1)

pub returns-then-bool_in : goal.returns-then-bool_in
returns-then-bool_in g c =
    record {
      does = λ m values b.
          let P = program_of c.args.code.now in
          let at = c.pop-r.ensures.at in
          branched m P (g.N.Nodes.nodes c.args.store.now) c.args.self.now c.args.skip values b c.pop-r.new.self.operands.items _ c.pop-r.ensures.top _
          (λ v h. c.bool_in.ensures (kind_of m P) P.types v h ∙ ap BoolV c.if-bool_in.true)
          (record { function = at.function; place = ap (λ p. p + 1) at.place; locals = at.locals; operands = refl; over = record { locals = at.over.locals; operands = at.over.operands } });
    }

pub returns : goal.returns
returns g c =
    record {
      does = λ m values b.
          let P = program_of c.args.code.now in
          let at = c.pop-r.ensures.at in
          skipped m P (g.N.Nodes.nodes c.args.store.now) c.args.self.now c.args.skip values b c.pop-r.new.self.operands.items _ c.pop-r.ensures.top _
          (λ v h. c.bool_in.ensures (kind_of m P) P.types v h ∙ ap BoolV c.if-bool_in.false)
          (record { function = at.function; place = ap (λ p. p + 1 + c.args.skip) at.place; locals = at.locals; operands = refl; over = record { locals = at.over.locals; operands = at.over.operands } });
    }

pub overflow_add-self-3 : goal.overflow_add-self-3
overflow_add-self-3 g c =
    let b = c.requires.before in
    let within =
    branch_within b.0 (program_of c.args.code.now) (g.N.Nodes.nodes c.args.store.now) c.args.self.now c.args.skip b.1 b.2
    c.pop-r.new.self.operands.items _ c.pop-r.ensures.top in
    let long = c.requires.length in
    let place = c.pop-r.ensures.at.place in
    record { fits = omega (arith, within, long, place) }
