use Rattle.std.proofs.Common.{◌≤◌, ◌∙◌, ap, arith, length}
use Rattle.reference_run.specs.PlainValues.{plains_of}
use Rattle.reference_run.proofs.Elements.{replaced_past, replaced_there}
use Rattle.reference_run.proofs.arrays.replaced.Goals as goal
use Rattle.reference_run.proofs.arrays.replaced.Goals.{then-place-len, else-place-len}

pub returns : goal.returns
returns c =
    let vs = c.args.values.items in
    let i = c.args.place in
    elim c.if-place-len.branch [
      | then-place-len w ↦ ap (λ values. plains_of values.items) w.values-is ∙ replaced_there vs i c.args.value
      | else-place-len w ↦
          let past : length vs ≤ i = omega (arith, w.if-place-len.false, c.len.ensures, c.args.values.ok) in ap (λ values. plains_of values.items) w.values-is ∙ replaced_past vs i c.args.value past
    ]
