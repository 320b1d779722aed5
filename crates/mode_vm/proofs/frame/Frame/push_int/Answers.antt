use Rattle.std.proofs.Common.{refl, Ok, subst, arith}
use Rattle.core_terms.specs.Types.{IntTy}
use Rattle.core_terms.specs.Values.{IntV}
use Rattle.ideal_meaning.specs.Run.{Gives}
use Rattle.core_terms.specs.Instructions as instruction
use Rattle.mode_vm.specs.Meanings.{program_of}
use Rattle.mode_vm.specs.declared.operand.Operand.TheVariants.{Int as IntIn}
use Rattle.mode_vm.specs.StateParts.{Finishes}
use Rattle.mode_vm.proofs.PassedInts.{kept}
use Rattle.mode_vm.proofs.Frames.{fits_next}
use Rattle.mode_vm.proofs.Made.{made_acts}
use Rattle.mode_vm.proofs.frame.Frame.push_int.Goals as goal

pub returns : goal.returns
returns g c = record {
  does = λ m values b.
      let P = program_of c.args.code.now in
      let nodes = g.N.Nodes.nodes c.args.store.now in
      let i = instruction.PushInt c.args.value in
      made_acts m P nodes (g.N.Nodes.nodes c.args.store.now) (λ kind types r t v h. h) c.args.self.now c.finish.new.self i values b
      c.args.self.now.operands.items IntTy values.operand_types values.operands (λ k w. Gives (IntV c.args.value) k w)
      (λ next k w. refl)
      (fits_next m P nodes c.args.self.now i values b).1
      b.top.is.operands
      (Ok (IntIn c.args.value)) (
        IntV c.args.value,
        refl,
        λ k w. refl,
      )
      c.finish.result (subst (λ z. Finishes {E = _} c.args.self.now (Ok (IntIn z)) c.finish.new.self c.finish.result) (kept c.args.value (omega arith)) c.finish.ensures);
}
