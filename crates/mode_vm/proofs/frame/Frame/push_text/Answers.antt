use Rattle.std.proofs.Common.{◌≡◌, ◌∙◌, refl, Ok, subst, arith, length, ap}
use Rattle.core_terms.specs.Texts.{bytes_of}
use Rattle.core_terms.specs.Types.{TextTy}
use Rattle.core_terms.specs.Values.{TextV}
use Rattle.ideal_meaning.specs.Run.{Gives}
use Rattle.value_store.specs.Markings.{kind_of}
use Rattle.value_store.specs.Standing.{StandsFor}
use Rattle.core_terms.specs.Instructions as instruction
use Rattle.mode_vm.specs.Meanings.{program_of}
use Rattle.mode_vm.specs.declared.operand.Operand.TheVariants.{At}
use Rattle.mode_vm.proofs.Frames.{fits_next}
use Rattle.mode_vm.proofs.Made.{made_acts}
use Rattle.mode_vm.proofs.frame.Frame.push_text.Goals as goal

pub returns-clause-does : goal.returns-clause-does
returns-clause-does g c m values b =
    let P = program_of c.args.code.now in
    let nodes = g.N.Nodes.nodes c.args.store.now in
    let i = instruction.PushText (bytes_of c.args.text.now) in
    let same : c.in-Ok.text.now ≡ bytes_of c.args.text.now = c.in-Ok.ensures.cases.0 ∙ c.as_bytes.ensures in
    made_acts m P nodes (g.N.Nodes.nodes c.put_text.new.self) c.put_text.ensures.keeps c.args.self.now c.finish.new.self i values b
    c.args.self.now.operands.items TextTy values.operand_types values.operands (λ k w. Gives (TextV (bytes_of c.args.text.now)) k w)
    (λ next k w. refl)
    (fits_next m P nodes c.args.self.now i values b).2
    b.top.is.operands
    (Ok (At c.in_ok-r.r)) (
      TextV (bytes_of c.args.text.now),
      subst (λ bytes. StandsFor (kind_of m P) P.types (g.N.Nodes.nodes c.put_text.new.self) c.in_ok-r.r.0 TextTy (TextV bytes)) same (c.in_ok-r.ensures.stands (kind_of m P) P.types),
      λ k w. refl,
    )
    c.finish.result c.finish.ensures

pub put_text-requires : goal.put_text-requires
put_text-requires g c =
    let same : c.in-Ok.text.now ≡ bytes_of c.args.text.now = c.in-Ok.ensures.cases.0 ∙ c.as_bytes.ensures in
    let long = ap length same in
    let fits = c.args.text.now.fits in
    let least = g.met.N.Nodes.least c.args.store.now in
    record { fits = omega (arith, long, fits, least) }
