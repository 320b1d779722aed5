use Rattle.std.proofs.Common.{Ok, refl, length, pos, subst, arith}
use Rattle.value_store.specs.Markings.{kind_of}
use Rattle.mode_vm.specs.Meanings.{program_of}
use Rattle.mode_vm.specs.declared.operand.Operand.TheVariants.{Int as IntIn}
use Rattle.mode_vm.specs.StateParts.{Finishes}
use Rattle.mode_vm.proofs.PassedInts.{kept}
use Rattle.mode_vm.proofs.TextOperations.{length_acts, length_operand}
use Rattle.mode_vm.proofs.frame.Frame.length.Goals as goal

pub text_in-text-requires : goal.text_in-text-requires
text_in-text-requires g c =
    let P = program_of c.args.code.now in
    let nodes = g.N.Nodes.nodes c.args.store.now in
    let b = c.requires.before in
    let x = length_operand b.0 P nodes c.args.self.now b.1 b.2 c.pop-r.new.self.operands.items _ c.pop-r.ensures.top in
    (kind_of b.0 P, P.types, x.0, x.1)

pub returns : goal.returns
returns g c = record {
  does = λ m values b.
      let P = program_of c.args.code.now in
      let nodes = g.N.Nodes.nodes c.args.store.now in
      length_acts m P nodes c.args.self.now values b c.pop-r.new.self.operands.items _ c.pop-r.ensures.top nodes (λ kind types r t v h. h)
      c.pop-r.new.self c.finish.new.self c.pop-r.ensures.at (IntIn (pos (length c.text_in-text.result.now))) c.text_in-text.result.now
      (λ v h. c.text_in-text.ensures (kind_of m P) P.types v h)
      refl
      c.finish.result (subst (λ z. Finishes {E = _} c.pop-r.new.self (Ok (IntIn z)) c.finish.new.self c.finish.result) (kept (pos (length c.text_in-text.result.now)) (omega arith)) c.finish.ensures);
}
