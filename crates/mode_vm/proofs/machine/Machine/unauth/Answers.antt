use Rattle.mode_vm.specs.declared.operand.Operand.TheVariants.{At}
use Rattle.std.proofs.lemmas.Result.{err_from_is_err_and}
use Rattle.std.proofs.Common.{subst, sym, ◌∙◌, Ok, Err, ◌≡◌}
use Rattle.core_terms.specs.Programs.{meaning, types_of}
use Rattle.core_terms.specs.ProgramTypes.{types_meaning}
use Rattle.core_terms.specs.TypeTables.{type_at}
use Rattle.core_terms.specs.Types.{AuthTy}
use Rattle.code_gen.specs.Programs.{program_in}
use Rattle.mode_vm.specs.Machines.{end_of}
use Rattle.ideal_meaning.specs.Execution.{Ran}
use Rattle.mode_vm.proofs.Made.{from_popped}
use Rattle.mode_vm.proofs.Opens.{is_node, stands_at, operand, stop_is, ran_is, refused, opened_cores, opened_shows, opened_same, rest_then}
use Rattle.mode_vm.proofs.TypesAlone.{operand_by, opens_at, opens_by, some_by}
use Rattle.value_store.specs.declared.node.Ref.{Ref}
use Rattle.mode_vm.specs.declared.state.Step.{Step}
use Rattle.mode_vm.specs.declared.state.Step.TheVariants.{Paused}
use Rattle.mode_vm.proofs.Answering.{came_ok, came_err}
use Rattle.mode_vm.proofs.machine.Machine.unauth.Goals as goal

pub node_in-v-requires : goal.node_in-v-requires
node_in-v-requires g c =
    let m = g.M.Mode.marking in
    let p = program_in c.args.code.now in
    let nodes = g.N.Nodes.nodes c.args.store.now in
    let b = c.requires.before in
    let n = is_node m (meaning p) b.0 nodes nodes (λ kind types r t v h. h) c.args.self.now.state (type_at (types_of p) c.args.ty) b.1 b.2 b.3 c.requires.entered
    c.pop_top.new.self.top.operands.items c.pop_top.result c.pop_top.ensures.top in
    (n.0, n.1)

pub unauth-requires-clause-stands : goal.unauth-requires-clause-stands
unauth-requires-clause-stands g c =
    let m = g.M.Mode.marking in
    let p = program_in c.args.code.now in
    let nodes = g.N.Nodes.nodes c.args.store.now in
    let mid = c.pop_top.new.self in
    let b = c.requires.before in
    let x = operand m (meaning p) b.0 nodes nodes (λ kind types r t v h. h) c.args.self.now.state (type_at (types_of p) c.args.ty) b.1 b.2 b.3 c.requires.entered mid.top.operands.items
    c.pop_top.result c.pop_top.ensures.top in
    operand_by m p c.types.result.now c.types.ensures c.args.ty nodes c.node_in-v.result.0 AuthTy x.x
    (stands_at m (meaning p) b.0 nodes nodes (λ kind types r t v h. h) c.args.self.now.state (type_at (types_of p) c.args.ty) b.1 b.2 b.3 c.requires.entered mid.top.operands.items
    c.pop_top.result c.pop_top.ensures.top c.node_in-v.result c.node_in-v.ensures)

pub returns-in_err-opened-clause-is : goal.returns-in_err-opened-clause-is
returns-in_err-opened-clause-is g c z w run follows will next =
    let m = g.M.Mode.marking in
    let p = program_in c.args.code.now in
    let t = type_at (types_of p) c.args.ty in
    let old = g.N.Nodes.nodes c.args.store.now in
    let new = g.N.Nodes.nodes c.unauth.new.store in
    let before = c.args.self.now.state in
    let mid = c.pop_top.new.self in
    let cs = will.stack in
    let x = operand m (meaning p) z old new c.in_err-opened.ensures.keeps before t cs will.shows next c.requires.entered mid.top.operands.items c.pop_top.result c.pop_top.ensures.top in
    let opens = opens_by m p c.types.result.now c.types.ensures c.args.ty g.M.Mode.cause (λ t. g.M.Mode.Follows t c.args.self.now.mode c.args.world.now old)
    (λ t. g.M.Mode.Follows t c.unauth.new.self c.unauth.new.world new) old new c.node_in-v.result.0 (Err _) c.in_err-opened.ensures.opens in
    let ends = subst (λ b. end_of m (meaning p) b cs before.fuel w ≡ Ran run) c.requires.entered will.ends in
    let err = err_from_is_err_and c.from_residual.result c.from_residual.ensures.1 in rw (err.1, err.2)
    (stop_is m (meaning p) z g.M.Mode.cause (g.M.Mode.Follows p.types c.unauth.new.self c.unauth.new.world new) new t x.x w before.fuel mid.fuel c.pop_top.ensures.rest.fuel run
    (λ cause w' e. ran_is _ run _ ends (refused m (meaning p) z old new c.in_err-opened.ensures.keeps before t cs will.shows next c.requires.entered mid.top.operands.items c.pop_top.result
    c.pop_top.ensures.top before.fuel w w' cause e))
    _ (opens x.x w (stands_at m (meaning p) z old new c.in_err-opened.ensures.keeps before t cs will.shows next c.requires.entered mid.top.operands.items c.pop_top.result c.pop_top.ensures.top c.node_in-v.result c.node_in-v.ensures) follows))

pub returns-clause-stands : goal.returns-clause-stands
returns-clause-stands g c z cs shows next =
    let p = program_in c.args.code.now in
    let t = type_at (types_of p) c.args.ty in
    let old = g.N.Nodes.nodes c.args.store.now in
    let new = g.N.Nodes.nodes c.unauth.new.store in
    let before = c.args.self.now.state in
    let mid = c.pop_top.new.self in
    let y = some_by g.M.Mode.marking p c.types.result.now c.types.ensures c.args.ty {F = Unit {0}} new (Ok c.in_ok-opened.opened) c.in_ok-opened.ensures.some in
    let at = from_popped before.top mid.top c.push_top.new.self.top mid.top.operands.items c.pop_top.ensures.at (At c.in_ok-opened.opened) c.in_ok-push_top.ensures.at in
    let others = rest_then before mid c.push_top.new.self c.pop_top.ensures.rest c.in_ok-push_top.ensures.rest in (
      opened_cores g.M.Mode.marking (meaning p) z old new c.in_ok-opened.ensures.keeps before t cs shows next c.requires.entered mid.top.operands.items c.pop_top.result c.pop_top.ensures.top
          c.push_top.new.self c.in_ok-opened.opened at others y.0 y.1,
      opened_shows g.M.Mode.marking (meaning p) z old new c.in_ok-opened.ensures.keeps before t cs shows next c.requires.entered mid.top.operands.items c.pop_top.result c.pop_top.ensures.top
          c.push_top.new.self c.in_ok-opened.opened at others y.0 y.1,
    )

pub returns-clause-is : goal.returns-clause-is
returns-clause-is g c z w run follows will next =
    let m = g.M.Mode.marking in
    let p = program_in c.args.code.now in
    let t = type_at (types_of p) c.args.ty in
    let old = g.N.Nodes.nodes c.args.store.now in
    let new = g.N.Nodes.nodes c.unauth.new.store in
    let before = c.args.self.now.state in
    let mid = c.pop_top.new.self in
    let cs = will.stack in
    let x = operand m (meaning p) z old new c.in_ok-opened.ensures.keeps before t cs will.shows next c.requires.entered mid.top.operands.items c.pop_top.result c.pop_top.ensures.top in
    let opens = opens_by m p c.types.result.now c.types.ensures c.args.ty g.M.Mode.cause (λ t. g.M.Mode.Follows t c.args.self.now.mode c.args.world.now old)
    (λ t. g.M.Mode.Follows t c.unauth.new.self c.unauth.new.world new) old new c.node_in-v.result.0 (Ok c.in_ok-opened.opened) c.in_ok-opened.ensures.opens in
    let o = opens x.x w (stands_at m (meaning p) z old new c.in_ok-opened.ensures.keeps before t cs will.shows next c.requires.entered mid.top.operands.items c.pop_top.result c.pop_top.ensures.top c.node_in-v.result c.node_in-v.ensures) follows in
    let at = from_popped before.top mid.top c.push_top.new.self.top mid.top.operands.items c.pop_top.ensures.at (At c.in_ok-opened.opened) c.in_ok-push_top.ensures.at in
    let others = rest_then before mid c.push_top.new.self c.pop_top.ensures.rest c.in_ok-push_top.ensures.rest in (
      o.1,
      o.4,
      record {
        stack = opened_cores m (meaning p) z old new c.in_ok-opened.ensures.keeps before t cs will.shows next c.requires.entered mid.top.operands.items c.pop_top.result c.pop_top.ensures.top
            c.push_top.new.self c.in_ok-opened.opened at others o.0 o.3;
        shows = opened_shows m (meaning p) z old new c.in_ok-opened.ensures.keeps before t cs will.shows next c.requires.entered mid.top.operands.items c.pop_top.result c.pop_top.ensures.top
            c.push_top.new.self c.in_ok-opened.opened at others o.0 o.3;
        ends = sym (opened_same m (meaning p) z old new c.in_ok-opened.ensures.keeps before t cs will.shows next c.requires.entered mid.top.operands.items c.pop_top.result c.pop_top.ensures.top
            c.push_top.new.self c.in_ok-opened.opened at others o.0 o.3 w o.1 o.0 o.2 o.3) ∙ subst (λ b. end_of m (meaning p) b cs before.fuel w ≡ Ran run) c.requires.entered will.ends;
      },
    )

pub unauth-requires-clause-knows : goal.unauth-requires-clause-knows
unauth-requires-clause-knows g c = subst (λ t. g.M.Mode.Knows t c.args.self.now.mode (g.N.Nodes.nodes c.args.store.now)) (sym c.types.ensures) c.requires.knows

pub returns-clause-knows : goal.returns-clause-knows
returns-clause-knows g c = subst (λ t. g.M.Mode.Knows t c.unauth.new.self (g.N.Nodes.nodes c.unauth.new.store)) c.types.ensures c.in_ok-opened.ensures.knows

pub unauth-requires-clause-limit : goal.unauth-requires-clause-limit
unauth-requires-clause-limit g c = record { is = subst (λ t. (g.N.Nodes.lent c.args.store.now).limit ≡ (types_meaning t).format.limit) (sym c.types.ensures) c.requires.limit.is }

pub returns-clause-answers : goal.returns-clause-answers
returns-clause-answers g c asks =
    let m = g.M.Mode.marking in
    let p = program_in c.args.code.now in
    let t = type_at (types_of p) c.args.ty in
    let old = g.N.Nodes.nodes c.args.store.now in
    let new = g.N.Nodes.nodes c.unauth.new.store in
    let before = c.args.self.now.state in
    let mid = c.pop_top.new.self in
    came_ok g.M.Mode.May g.M.Mode.Last g.M.Mode.cause Ref Step c.in_ok-opened.opened Paused c.args.world.now c.unauth.new.world _ _ (c.in_ok-opened.ensures.answers asks)
    (λ got h z w run more expects will next.
    let cs = will.stack in
    let x = operand m (meaning p) z old new c.in_ok-opened.ensures.keeps before t cs will.shows next c.requires.entered mid.top.operands.items c.pop_top.result c.pop_top.ensures.top in
    let opens = opens_at m p c.types.result.now c.types.ensures c.args.ty g.M.Mode.cause (λ after. g.M.Mode.Expects c.unauth.new.self after more) old new c.node_in-v.result.0 (Ok c.in_ok-opened.opened) w
    (λ y s. h y w more s expects) in
    let o = opens x.x (stands_at m (meaning p) z old new c.in_ok-opened.ensures.keeps before t cs will.shows next c.requires.entered mid.top.operands.items c.pop_top.result c.pop_top.ensures.top c.node_in-v.result c.node_in-v.ensures) in
    let at = from_popped before.top mid.top c.push_top.new.self.top mid.top.operands.items c.pop_top.ensures.at (At c.in_ok-opened.opened) c.in_ok-push_top.ensures.at in
    let others = rest_then before mid c.push_top.new.self c.pop_top.ensures.rest c.in_ok-push_top.ensures.rest in (
      o.1,
      o.4,
      record {
        stack = opened_cores m (meaning p) z old new c.in_ok-opened.ensures.keeps before t cs will.shows next c.requires.entered mid.top.operands.items c.pop_top.result c.pop_top.ensures.top
            c.push_top.new.self c.in_ok-opened.opened at others o.0 o.3;
        shows = opened_shows m (meaning p) z old new c.in_ok-opened.ensures.keeps before t cs will.shows next c.requires.entered mid.top.operands.items c.pop_top.result c.pop_top.ensures.top
            c.push_top.new.self c.in_ok-opened.opened at others o.0 o.3;
        ends = sym (opened_same m (meaning p) z old new c.in_ok-opened.ensures.keeps before t cs will.shows next c.requires.entered mid.top.operands.items c.pop_top.result c.pop_top.ensures.top
            c.push_top.new.self c.in_ok-opened.opened at others o.0 o.3 w o.1 o.0 o.2 o.3) ∙ subst (λ b. end_of m (meaning p) b cs before.fuel w ≡ Ran run) c.requires.entered will.ends;
      },
    ))

pub returns-in_err-opened-clause-answers : goal.returns-in_err-opened-clause-answers
returns-in_err-opened-clause-answers g c asks =
    let m = g.M.Mode.marking in
    let p = program_in c.args.code.now in
    let t = type_at (types_of p) c.args.ty in
    let old = g.N.Nodes.nodes c.args.store.now in
    let new = g.N.Nodes.nodes c.unauth.new.store in
    let before = c.args.self.now.state in
    let mid = c.pop_top.new.self in
    let err = err_from_is_err_and c.from_residual.result c.from_residual.ensures.1 in rw (err.1, err.2)
    (came_err g.M.Mode.May g.M.Mode.Last g.M.Mode.cause Ref Step _ c.args.world.now c.unauth.new.world _ _ (c.in_err-opened.ensures.answers asks)
    (λ got h z w run more expects will next.
    let cs = will.stack in
    let x = operand m (meaning p) z old new c.in_err-opened.ensures.keeps before t cs will.shows next c.requires.entered mid.top.operands.items c.pop_top.result c.pop_top.ensures.top in
    let opens = opens_at m p c.types.result.now c.types.ensures c.args.ty g.M.Mode.cause (λ after. g.M.Mode.Expects c.unauth.new.self after more) old new c.node_in-v.result.0 (Err _) w
    (λ y s. h y w more s expects) in
    let ends = subst (λ b. end_of m (meaning p) b cs before.fuel w ≡ Ran run) c.requires.entered will.ends in
    stop_is m (meaning p) z g.M.Mode.cause (λ after. g.M.Mode.Expects c.unauth.new.self after more) new t x.x w before.fuel mid.fuel c.pop_top.ensures.rest.fuel run
    (λ cause w' e. ran_is _ run _ ends (refused m (meaning p) z old new c.in_err-opened.ensures.keeps before t cs will.shows next c.requires.entered mid.top.operands.items c.pop_top.result
    c.pop_top.ensures.top before.fuel w w' cause e))
    _ (opens x.x (stands_at m (meaning p) z old new c.in_err-opened.ensures.keeps before t cs will.shows next c.requires.entered mid.top.operands.items c.pop_top.result c.pop_top.ensures.top c.node_in-v.result c.node_in-v.ensures))))
