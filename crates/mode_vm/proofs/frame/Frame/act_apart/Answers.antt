use Rattle.std.proofs.Common.{Option, Ok, subst}
use Rattle.core_terms.specs.declared.outcome.Trap.{Trap}
use Rattle.mode_vm.specs.Meanings.{program_of}
use Rattle.mode_vm.specs.Outcomes.{Acts}
use Rattle.mode_vm.proofs.frame.Frame.act_apart.Goals as goal

pub returns-in-Ok-None-clause-does : goal.returns-in-Ok-None-clause-does
returns-in-Ok-None-clause-does g c m values b =
    subst (λ (told : Option Trap). Acts m (program_of c.args.code.now) (g.N.Nodes.nodes c.act_rarely.new.store) {E = Unit {0}} c.args.self.now values c.act_rarely.new.self (Ok told))
    c.in-Ok-None.field-0-is (c.in-Ok-None.ensures.does m values b)

pub returns-in-Ok-Some-clause-does : goal.returns-in-Ok-Some-clause-does
returns-in-Ok-Some-clause-does g c m values b =
    subst (λ (told : Option Trap). Acts m (program_of c.args.code.now) (g.N.Nodes.nodes c.act_rarely.new.store) {E = Unit {0}} c.args.self.now values c.act_rarely.new.self (Ok told))
    c.in-Ok-Some.field-0-is (c.in-Ok-Some.ensures.does m values b)
