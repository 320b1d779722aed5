use Rattle.std.proofs.Common.{refl, Ok}
use Rattle.core_terms.specs.Types.{UnitTy}
use Rattle.core_terms.specs.Values.{UnitV}
use Rattle.ideal_meaning.specs.Run.{Gives}
use Rattle.core_terms.specs.Instructions as instruction
use Rattle.mode_vm.specs.Meanings.{program_of}
use Rattle.mode_vm.specs.declared.operand.Operand.TheVariants.{Unit as UnitIn}
use Rattle.mode_vm.proofs.Frames.{fits_next}
use Rattle.mode_vm.proofs.Made.{made_acts}
use Rattle.mode_vm.proofs.frame.Frame.push_unit.Goals as goal

pub returns : goal.returns
returns g c = record {
  does = λ m values b.
      let P = program_of c.args.code.now in
      made_acts m P (g.N.Nodes.nodes c.args.store.now) (g.N.Nodes.nodes c.args.store.now) (λ kind types r t v h. h) c.args.self.now c.finish.new.self instruction.PushUnit values b
      c.args.self.now.operands.items UnitTy values.operand_types values.operands (λ k w. Gives UnitV k w)
      (λ next k w. refl)
      (fits_next m P (g.N.Nodes.nodes c.args.store.now) c.args.self.now instruction.PushUnit values b)
      b.top.is.operands
      (Ok UnitIn)
      (UnitV, tt, λ k w. refl)
      c.finish.result c.finish.ensures;
}
