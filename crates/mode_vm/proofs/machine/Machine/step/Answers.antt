use Rattle.std.specs.declared.alloc.AllocError.{AllocError}
use Rattle.std.proofs.Common.{subst, arith, true, false, [], refl, ap, sym, ◌∙◌, ◌≡◌}
use Rattle.core_terms.specs.Programs.{types_of}
use Rattle.code_gen.specs.Programs.{program_in}
use Rattle.core_terms.specs.Bodies.{code_at}
use Rattle.core_terms.specs.GeneratedCode.{generated}
use Rattle.core_terms.specs.InstructionViews.{instruction_of, instructions_of}
use Rattle.mode_vm.specs.StateParts.{fuel_after}
use Rattle.mode_vm.specs.Machines.{IsNext, end_of}
use Rattle.ideal_meaning.specs.Execution.{Ran}
use Rattle.mode_vm.specs.Meanings.{program_of}
use Rattle.mode_vm.proofs.OwnInstructions.{asked, none_told, opened, plain}
use Rattle.mode_vm.proofs.SparedNodes.{same_puts}
use Rattle.mode_vm.proofs.Stepping.{leads_stands, leads_is, fewer_left, on_ok, step_by}
use Rattle.mode_vm.proofs.Answering.{came_on, came_none}
use Rattle.mode_vm.proofs.machine.Machine.step.Goals as goal

pub fetch-requires : goal.fetch-requires
fetch-requires g c =
    let r = c.requires.ready in
    record { shows = (g.M.Mode.marking, r.0, g.N.Nodes.nodes c.args.store.now, r.1.0, r.1.1); held = c.requires.held }

pub unauth-requires-clause-before : goal.unauth-requires-clause-before
unauth-requires-clause-before g c =
    let r = c.requires.ready in (
      r.0,
      r.1.0,
      r.1.1,
      subst (λ i. IsNext (instruction_of (types_of (program_in c.args.code.now)) i) r.1.0.top) c.in-Some-opened.ensures
          (c.next-instruction.ensures.next g.M.Mode.marking r.0 (g.N.Nodes.nodes c.args.store.now) r.1.0 r.1.1),
    )

pub auth-requires-clause-before : goal.auth-requires-clause-before
auth-requires-clause-before g c =
    let r = c.requires.ready in (
      r.0,
      r.1.0,
      r.1.1,
      subst (λ i. IsNext (instruction_of (types_of (program_in c.args.code.now)) i) r.1.0.top) c.in-Some.ensures
          (c.next-instruction.ensures.next g.M.Mode.marking r.0 (g.N.Nodes.nodes c.args.store.now) r.1.0 r.1.1),
    )

pub act-requires : goal.act-requires
act-requires g c =
    let r = c.requires.ready in
    record {
      before = (g.M.Mode.marking, r.0, r.1.0, r.1.1, c.next-instruction.ensures.next g.M.Mode.marking r.0 (g.N.Nodes.nodes c.args.store.now) r.1.0 r.1.1);
      limit = c.requires.limit;
      plain = plain (types_of (program_in c.args.code.now)) c.next-instruction.result.now (none_told _ c.authenticated.result c.in_default.not-Some c.authenticated.ensures)
          (none_told _ c.opened.result c.in_default-opened.not-Some c.opened.ensures);
      entered = c.if-not-self.false;
      room = c.next-instruction.ensures.room;
      length = c.next-instruction.ensures.length;
    }

pub returns-in-Some-opened-clause-stands : goal.returns-in-Some-opened-clause-stands
returns-in-Some-opened-clause-stands g c z ready =
    c.unauth.ensures.stands z ready.0 ready.1 (subst (λ i. IsNext (instruction_of (types_of (program_in c.args.code.now)) i) ready.0.top) c.in-Some-opened.ensures
    (c.next-instruction.ensures.next g.M.Mode.marking z (g.N.Nodes.nodes c.args.store.now) ready.0 ready.1))

pub returns-in-Some-opened-clause-is : goal.returns-in-Some-opened-clause-is
returns-in-Some-opened-clause-is g c z w run follows will =
    c.unauth.ensures.is z w run follows will (subst (λ i. IsNext (instruction_of (types_of (program_in c.args.code.now)) i) will.stack.top) c.in-Some-opened.ensures
    (c.next-instruction.ensures.next g.M.Mode.marking z (g.N.Nodes.nodes c.args.store.now) will.stack will.shows))

pub returns : goal.returns
returns g c = record {
  stands = λ z ready. leads_stands g.M.Mode.marking (program_of c.args.code.now) z (g.N.Nodes.nodes c.act.new.store) true c.args.self.now.state.fuel ready.0 c.act.new.self (Unit {0}) c.in_ok-act.field-0
      (c.in_ok-act.ensures.leads g.M.Mode.marking z ready.0 ready.1 (c.next-instruction.ensures.next g.M.Mode.marking z (g.N.Nodes.nodes c.args.store.now) ready.0 ready.1));
  is = λ z w run follows will.
      leads_is g.M.Mode.marking (program_of c.args.code.now) z (g.N.Nodes.nodes c.act.new.store) true c.args.self.now.state.fuel will.stack c.act.new.self g.M.Mode.cause
      (g.M.Mode.Follows (program_in c.args.code.now).types c.args.self.now.mode c.args.world.now (g.N.Nodes.nodes c.act.new.store)) w
      (g.met.M.Mode.follows_on (program_in c.args.code.now).types c.args.self.now.mode c.args.world.now (g.N.Nodes.nodes c.args.store.now)
      (g.N.Nodes.nodes c.act.new.store) w c.in_ok-act.ensures.keeps follows) run
      (subst (λ b. end_of g.M.Mode.marking (program_of c.args.code.now) b will.stack c.args.self.now.state.fuel w ≡ Ran run) c.if-not-self.false will.ends)
      (Unit {0}) c.in_ok-act.field-0
      (c.in_ok-act.ensures.leads g.M.Mode.marking z will.stack will.shows (c.next-instruction.ensures.next g.M.Mode.marking z (g.N.Nodes.nodes c.args.store.now) will.stack will.shows));
  fewer = (let r = c.requires.ready in fewer_left (Unit {0}) g.M.Mode.marking (program_of c.args.code.now) r.0 (g.N.Nodes.nodes c.args.store.now)
      (g.N.Nodes.nodes c.act.new.store) c.args.self.now.state c.act.new.self r.1.0 r.1.1 true c.if-not-self.false c.in_ok-act.field-0
      (c.in_ok-act.ensures.leads g.M.Mode.marking r.0 r.1.0 r.1.1 (c.next-instruction.ensures.next g.M.Mode.marking r.0 (g.N.Nodes.nodes c.args.store.now) r.1.0 r.1.1)) (Unit {0}));
  keeps = c.in_ok-act.ensures.keeps;
  lent = c.in_ok-act.ensures.lent;
  in_hand = λ in_hand. c.in_ok-act.ensures.in_hand (in_hand c.if-not-self.false _ c.next-instruction.ensures.at);
  held = subst (λ f. instructions_of (types_of (program_in c.args.code.now)) c.fetch.result.now ≡ (code_at (generated (program_of c.args.code.now)) f.0).code) (sym c.running.ensures) c.fetch.ensures;
  opened = omega arith;
  fuel = c.in_ok-act.ensures.fuel ∙ sym (ap (λ b. fuel_after b c.args.self.now.state.fuel) c.if-not-self.false);
  faults = refl;
  rest = refl;
  moves = g.met.M.Mode.moves_not c.args.self.now.mode c.args.world.now;
  knows = g.met.M.Mode.knows_on (program_in c.args.code.now).types c.args.self.now.mode (g.N.Nodes.nodes c.args.store.now) (g.N.Nodes.nodes c.act.new.store) c.in_ok-act.ensures.keeps c.requires.knows;
  answers = λ asks. (
    [],
    refl,
    λ z w run more expects will.
        leads_is g.M.Mode.marking (program_of c.args.code.now) z (g.N.Nodes.nodes c.act.new.store) true c.args.self.now.state.fuel will.stack c.act.new.self g.M.Mode.cause
        (λ after. g.M.Mode.Expects c.args.self.now.mode after more) w expects run
        (subst (λ b. end_of g.M.Mode.marking (program_of c.args.code.now) b will.stack c.args.self.now.state.fuel w ≡ Ran run) c.if-not-self.false will.ends)
        (Unit {0}) c.in_ok-act.field-0
        (c.in_ok-act.ensures.leads g.M.Mode.marking z will.stack will.shows (c.next-instruction.ensures.next g.M.Mode.marking z (g.N.Nodes.nodes c.args.store.now) will.stack will.shows)),
  );
}

pub returns-then-not-self-clause-answers : goal.returns-then-not-self-clause-answers
returns-then-not-self-clause-answers g c asks = (
  [],
  refl,
  λ z w run more expects will.
      leads_is g.M.Mode.marking (program_of c.args.code.now) z (g.N.Nodes.nodes c.args.store.now) false c.args.self.now.state.fuel will.stack c.enter.new.self g.M.Mode.cause
      (λ after. g.M.Mode.Expects c.args.self.now.mode after more) w expects run
      (subst (λ b. end_of g.M.Mode.marking (program_of c.args.code.now) b will.stack c.args.self.now.state.fuel w ≡ Ran run) c.if-not-self.true will.ends)
      AllocError c.enter.result (c.enter.ensures.leads g.M.Mode.marking (program_of c.args.code.now) z (g.N.Nodes.nodes c.args.store.now) will.stack will.shows),
)

pub returns-in-Some-opened-clause-answers : goal.returns-in-Some-opened-clause-answers
returns-in-Some-opened-clause-answers g c asks =
    came_on g.M.Mode.May g.M.Mode.Last g.M.Mode.cause _ c.unauth.result c.args.world.now c.unauth.new.world _ _ (c.unauth.ensures.answers asks)
    (λ got h z w run more expects will. h z w run more expects will (subst (λ i. IsNext (instruction_of (types_of (program_in c.args.code.now)) i) will.stack.top) c.in-Some-opened.ensures
    (c.next-instruction.ensures.next g.M.Mode.marking z (g.N.Nodes.nodes c.args.store.now) will.stack will.shows)))

pub returns-in-Some-clause-answers : goal.returns-in-Some-clause-answers
returns-in-Some-clause-answers g c asks =
    came_none g.M.Mode.May g.M.Mode.Last g.M.Mode.cause _ c.auth.result c.auth.ensures.memory c.args.world.now _
    (λ z w run more expects will. step_by g.M.Mode.marking (program_of c.args.code.now) z (g.N.Nodes.nodes c.auth.new.store) c.auth.new.self.state g.M.Mode.cause (λ after. after ≡ w)
    (λ after. g.M.Mode.Expects c.auth.new.self.mode after more)
    (λ after same. subst (λ u. g.M.Mode.Expects c.auth.new.self.mode u more) (sym same) (subst (λ mode. g.M.Mode.Expects mode w more) (sym c.auth.ensures.mode) expects)) run c.auth.result
    (c.auth.ensures.stays z w run will (subst (λ i. IsNext (instruction_of (types_of (program_in c.args.code.now)) i) will.stack.top) c.in-Some.ensures
    (c.next-instruction.ensures.next g.M.Mode.marking z (g.N.Nodes.nodes c.args.store.now) will.stack will.shows))))

pub returns-then-not-self-clause-fewer : goal.returns-then-not-self-clause-fewer
returns-then-not-self-clause-fewer g c =
    let r = c.requires.ready in
    fewer_left AllocError g.M.Mode.marking (program_of c.args.code.now) r.0 (g.N.Nodes.nodes c.args.store.now)
    (g.N.Nodes.nodes c.args.store.now) c.args.self.now.state c.enter.new.self r.1.0 r.1.1 false c.if-not-self.true c.enter.result
    (c.enter.ensures.leads g.M.Mode.marking (program_of c.args.code.now) r.0 (g.N.Nodes.nodes c.args.store.now) r.1.0 r.1.1) (Unit {0})

pub returns-in-Some-clause-stands : goal.returns-in-Some-clause-stands
returns-in-Some-clause-stands g c z ready =
    c.auth.ensures.stands z ready.0 ready.1 (subst (λ i. IsNext (instruction_of (types_of (program_in c.args.code.now)) i) ready.0.top) c.in-Some.ensures
    (c.next-instruction.ensures.next g.M.Mode.marking z (g.N.Nodes.nodes c.args.store.now) ready.0 ready.1))

pub returns-in-Some-clause-is : goal.returns-in-Some-clause-is
returns-in-Some-clause-is g c z w run follows will =
    c.auth.ensures.is z w run follows will (subst (λ i. IsNext (instruction_of (types_of (program_in c.args.code.now)) i) will.stack.top) c.in-Some.ensures
    (c.next-instruction.ensures.next g.M.Mode.marking z (g.N.Nodes.nodes c.args.store.now) will.stack will.shows))

pub returns-then-not-self-clause-moves : goal.returns-then-not-self-clause-moves
returns-then-not-self-clause-moves g c = g.met.M.Mode.moves_not c.args.self.now.mode c.args.world.now

pub returns-in-Some-clause-knows : goal.returns-in-Some-clause-knows
returns-in-Some-clause-knows g c = on_ok c.auth.result
    (subst (λ mode. g.M.Mode.Knows (program_in c.args.code.now).types mode (g.N.Nodes.nodes c.auth.new.store)) (sym c.auth.ensures.mode)
    (g.met.M.Mode.knows_on (program_in c.args.code.now).types c.args.self.now.mode (g.N.Nodes.nodes c.args.store.now) (g.N.Nodes.nodes c.auth.new.store) c.auth.ensures.keeps c.requires.knows))

pub returns-in-Some-clause-in_hand : goal.returns-in-Some-clause-in_hand
returns-in-Some-clause-in_hand g c in_hand = absurd
    (asked (types_of (program_in c.args.code.now)) c.next-instruction.result.now c.in-Some.ty c.in-Some.ensures (in_hand c.if-not-self.false _ c.next-instruction.ensures.at))

pub returns-in-Some-opened-clause-in_hand : goal.returns-in-Some-opened-clause-in_hand
returns-in-Some-opened-clause-in_hand g c in_hand = absurd
    (opened (types_of (program_in c.args.code.now)) c.next-instruction.result.now c.in-Some-opened.ty c.in-Some-opened.ensures (in_hand c.if-not-self.false _ c.next-instruction.ensures.at))

pub returns-in_err-act-clause-in_hand : goal.returns-in_err-act-clause-in_hand
returns-in_err-act-clause-in_hand g c in_hand =
    same_puts _ _ _ (c.in_err-act.ensures.in_hand (in_hand c.if-not-self.false _ c.next-instruction.ensures.at)) c.from_residual.result
