use Rattle.std.proofs.Common.{◌∙◌, Some, refl, sym}
use Rattle.core_terms.proofs.Fingerprints.{second_fronts}
use Rattle.core_terms.proofs.fronts.Fronts.of_types.Goals as goal

pub returns-in_ok-fingerprints-in-Second : goal.returns-in_ok-fingerprints-in-Second
returns-in_ok-fingerprints-in-Second g c =
    second_fronts g.H.Hash32.hash c.args.types.now (sym c.format.ensures ∙ c.in-Second.is) (record { prints = c.in_ok-fingerprints-in-Second.field-0; unit = Some c.of.result })
    c.of.result c.in_ok-fingerprints-in-Second.ensures refl c.of.ensures
