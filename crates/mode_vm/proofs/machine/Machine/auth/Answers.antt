use Rattle.std.proofs.Common.{subst, true, refl, sym, ◌≡◌}
use Rattle.core_terms.specs.Programs.{meaning, types_of}
use Rattle.core_terms.specs.TypeTables.{type_at}
use Rattle.code_gen.specs.Programs.{program_in}
use Rattle.ideal_meaning.specs.Execution.{Ran}
use Rattle.value_store.specs.Markings.{kind_of}
use Rattle.mode_vm.specs.declared.operand.Operand.TheVariants.{At}
use Rattle.mode_vm.specs.Meanings.{program_of}
use Rattle.mode_vm.specs.Machines.{end_of}
use Rattle.mode_vm.specs.declared.state.Step.TheVariants.{Paused}
use Rattle.mode_vm.proofs.Made.{from_popped}
use Rattle.mode_vm.proofs.Opens.{rest_then}
use Rattle.mode_vm.proofs.Stepping.{leads_is}
use Rattle.mode_vm.proofs.Authenticating.{operand, authenticated}
use Rattle.mode_vm.proofs.TypesAlone.{made_by, operand_by}
use Rattle.mode_vm.proofs.machine.Machine.auth.Goals as goal

pub auth-requires : goal.auth-requires
auth-requires g c =
    let b = c.requires.before in
    let m = g.M.Mode.marking in
    let P = program_of c.args.code.now in
    let t = type_at (types_of (program_in c.args.code.now)) c.args.ty in
    let o = operand m P b.0 (g.N.Nodes.nodes c.args.store.now) c.args.self.now.state t b.1 b.2 b.3 c.pop_top-top.new.self.top.operands.items c.pop_top-top.result c.pop_top-top.ensures.top in
    record {
      stands = operand_by m (program_in c.args.code.now) c.types.result.now c.types.ensures c.args.ty (g.N.Nodes.nodes c.place.new.store) c.in_ok-v.v.0 (λ t. t) o.x
          (c.in_ok-v.ensures.stands (kind_of m P) P.types t o.x o.stands);
      knows = subst (λ t. g.M.Mode.Knows t c.args.self.now.mode (g.N.Nodes.nodes c.place.new.store)) (sym c.types.ensures)
          (g.met.M.Mode.knows_on (program_in c.args.code.now).types c.args.self.now.mode (g.N.Nodes.nodes c.args.store.now) (g.N.Nodes.nodes c.place.new.store) c.in_ok-v.ensures.keeps c.requires.knows);
    }

pub returns-clause-stands : goal.returns-clause-stands
returns-clause-stands g c z cs shows next =
    let m = g.M.Mode.marking in
    let p = program_in c.args.code.now in
    let old = g.N.Nodes.nodes c.args.store.now in
    let put = g.N.Nodes.nodes c.place.new.store in
    let new = g.N.Nodes.nodes c.auth.new.store in
    let before = c.args.self.now.state in
    let mid = c.pop_top-top.new.self in
    let o = operand m (meaning p) z old before (type_at (types_of p) c.args.ty) cs shows next mid.top.operands.items c.pop_top-top.result c.pop_top-top.ensures.top in
    let made = made_by m p c.types.result.now c.types.ensures c.args.ty put new c.in_ok-v.v.0 c.in_ok-made.made.0 c.in_ok-made.ensures.stands in
    let led = authenticated m (meaning p) z old before (type_at (types_of p) c.args.ty) cs shows next mid.top.operands.items c.pop_top-top.result c.pop_top-top.ensures.top new
    (λ kind types r t v h. c.in_ok-made.ensures.keeps kind types r t v (c.in_ok-v.ensures.keeps kind types r t v h)) c.push_top.new.self c.requires.entered (At c.in_ok-made.made)
    (from_popped before.top mid.top c.push_top.new.self.top mid.top.operands.items c.pop_top-top.ensures.at (At c.in_ok-made.made) c.in_ok-push_top.ensures.at)
    (rest_then before mid c.push_top.new.self c.pop_top-top.ensures.rest c.in_ok-push_top.ensures.rest) (made o.x (c.in_ok-v.ensures.stands (kind_of m (program_of c.args.code.now)) (program_of c.args.code.now).types (type_at (types_of p) c.args.ty) o.x o.stands)) in
    (led.0, led.1)

pub returns-clause-is : goal.returns-clause-is
returns-clause-is g c z w run follows will next =
    let m = g.M.Mode.marking in
    let p = program_in c.args.code.now in
    let old = g.N.Nodes.nodes c.args.store.now in
    let put = g.N.Nodes.nodes c.place.new.store in
    let new = g.N.Nodes.nodes c.auth.new.store in
    let before = c.args.self.now.state in
    let mid = c.pop_top-top.new.self in
    let cs = will.stack in
    let o = operand m (meaning p) z old before (type_at (types_of p) c.args.ty) cs will.shows next mid.top.operands.items c.pop_top-top.result c.pop_top-top.ensures.top in
    let made = made_by m p c.types.result.now c.types.ensures c.args.ty put new c.in_ok-v.v.0 c.in_ok-made.made.0 c.in_ok-made.ensures.stands in
    let led = authenticated m (meaning p) z old before (type_at (types_of p) c.args.ty) cs will.shows next mid.top.operands.items c.pop_top-top.result c.pop_top-top.ensures.top new
    (λ kind types r t v h. c.in_ok-made.ensures.keeps kind types r t v (c.in_ok-v.ensures.keeps kind types r t v h)) c.push_top.new.self c.requires.entered (At c.in_ok-made.made)
    (from_popped before.top mid.top c.push_top.new.self.top mid.top.operands.items c.pop_top-top.ensures.at (At c.in_ok-made.made) c.in_ok-push_top.ensures.at)
    (rest_then before mid c.push_top.new.self c.pop_top-top.ensures.rest c.in_ok-push_top.ensures.rest) (made o.x (c.in_ok-v.ensures.stands (kind_of m (program_of c.args.code.now)) (program_of c.args.code.now).types (type_at (types_of p) c.args.ty) o.x o.stands)) in
    let kept = subst (λ mode. g.M.Mode.Follows p.types mode c.args.world.now new w) (sym c.in_ok-made.ensures.mode)
    (g.met.M.Mode.follows_on p.types c.args.self.now.mode c.args.world.now old new w (λ kind types r t v h. c.in_ok-made.ensures.keeps kind types r t v (c.in_ok-v.ensures.keeps kind types r t v h)) follows) in
    leads_is m (meaning p) z new true before.fuel cs c.push_top.new.self g.M.Mode.cause (g.M.Mode.Follows p.types c.auth.new.self c.args.world.now new) w kept run
    (subst (λ b. end_of m (meaning p) b cs before.fuel w ≡ Ran run) c.requires.entered will.ends) (Unit {0}) Paused led

pub returns-clause-stays : goal.returns-clause-stays
returns-clause-stays g c z w run will next =
    let m = g.M.Mode.marking in
    let p = program_in c.args.code.now in
    let old = g.N.Nodes.nodes c.args.store.now in
    let put = g.N.Nodes.nodes c.place.new.store in
    let new = g.N.Nodes.nodes c.auth.new.store in
    let before = c.args.self.now.state in
    let mid = c.pop_top-top.new.self in
    let cs = will.stack in
    let o = operand m (meaning p) z old before (type_at (types_of p) c.args.ty) cs will.shows next mid.top.operands.items c.pop_top-top.result c.pop_top-top.ensures.top in
    let made = made_by m p c.types.result.now c.types.ensures c.args.ty put new c.in_ok-v.v.0 c.in_ok-made.made.0 c.in_ok-made.ensures.stands in
    let led = authenticated m (meaning p) z old before (type_at (types_of p) c.args.ty) cs will.shows next mid.top.operands.items c.pop_top-top.result c.pop_top-top.ensures.top new
    (λ kind types r t v h. c.in_ok-made.ensures.keeps kind types r t v (c.in_ok-v.ensures.keeps kind types r t v h)) c.push_top.new.self c.requires.entered (At c.in_ok-made.made)
    (from_popped before.top mid.top c.push_top.new.self.top mid.top.operands.items c.pop_top-top.ensures.at (At c.in_ok-made.made) c.in_ok-push_top.ensures.at)
    (rest_then before mid c.push_top.new.self c.pop_top-top.ensures.rest c.in_ok-push_top.ensures.rest) (made o.x (c.in_ok-v.ensures.stands (kind_of m (program_of c.args.code.now)) (program_of c.args.code.now).types (type_at (types_of p) c.args.ty) o.x o.stands)) in
    leads_is m (meaning p) z new true before.fuel cs c.push_top.new.self g.M.Mode.cause (λ after. after ≡ w) w refl run
    (subst (λ b. end_of m (meaning p) b cs before.fuel w ≡ Ran run) c.requires.entered will.ends) (Unit {0}) Paused led
