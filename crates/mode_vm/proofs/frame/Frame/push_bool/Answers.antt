use Rattle.std.proofs.Common.{refl, Ok}
use Rattle.core_terms.specs.Types.{BoolTy}
use Rattle.core_terms.specs.Values.{BoolV}
use Rattle.ideal_meaning.specs.Run.{Gives}
use Rattle.core_terms.specs.Instructions as instruction
use Rattle.mode_vm.specs.Meanings.{program_of}
use Rattle.mode_vm.specs.declared.operand.Operand.TheVariants.{Bool as BoolIn}
use Rattle.mode_vm.proofs.Frames.{fits_next}
use Rattle.mode_vm.proofs.Made.{made_acts}
use Rattle.mode_vm.proofs.frame.Frame.push_bool.Goals as goal

pub returns : goal.returns
returns g c = record {
  does = λ m values b.
      let P = program_of c.args.code.now in
      let nodes = g.N.Nodes.nodes c.args.store.now in
      let i = instruction.PushBool c.args.value in
      made_acts m P nodes (g.N.Nodes.nodes c.args.store.now) (λ kind types r t v h. h) c.args.self.now c.finish.new.self i values b
      c.args.self.now.operands.items BoolTy values.operand_types values.operands (λ k w. Gives (BoolV c.args.value) k w)
      (λ next k w. refl)
      (fits_next m P nodes c.args.self.now i values b)
      b.top.is.operands
      (Ok (BoolIn c.args.value))
      (BoolV c.args.value, refl, λ k w. refl)
      c.finish.result c.finish.ensures;
}
