use Rattle.std.proofs.Common.{◌∷◌, ◌++◌, [], ◌∙◌, None, ap, length, refl}
use Rattle.std.proofs.lemmas.List.{length-map}
use Rattle.core_terms.specs.ProgramTypes.{types_by_number}
use Rattle.object_writer.proofs.NumberedTypes.{with_unit, with_own_unit}
use Rattle.object_writer.proofs.numbering.Numbering.new.Goals as goal

pub returns-in-Some : goal.returns-in-Some
returns-in-Some c =
    with_unit c.args.types.now (record { numbers = c.in_ok-numbers.numbers; order = c.new-order.result; unit = c.in-Some.unit }) c.new-order.ensures.items c.in_ok-numbers.ensures c.in-Some.ensures.found

pub returns-in_ok-push-in-None : goal.returns-in_ok-push-in-None
returns-in_ok-push-in-None c =
    with_own_unit c.args.types.now (record { numbers = c.push.new.self; order = c.new-order.result; unit = record { 0 = c.len.result } }) c.new-order.ensures.items
    (c.in_ok-push-in-None.ensures.items ∙ ap (λ l. l ++ None ∷ []) c.in_ok-numbers.ensures)
    (c.len.ensures ∙ c.in_ok-numbers.numbers.ok.0 ∙ ap length c.in_ok-numbers.ensures ∙ length-map (types_by_number c.args.types.now) _)
    (c.in-None.ensures.none refl refl)
