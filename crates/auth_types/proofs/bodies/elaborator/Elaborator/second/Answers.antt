use Rattle.std.proofs.Common.{◌∙◌, ap, sym}
use Rattle.core_terms.specs.TypeTables.{stands_behind, type_of_form}
use Rattle.auth_types.specs.Elaborators.{types_of}
use Rattle.auth_types.proofs.OperationSteps.{second_refused, second_shows, pair_inside}
use Rattle.auth_types.proofs.bodies.elaborator.Elaborator.second.Goals as goal

pub returns-in-PairForm-clause-found : goal.returns-in-PairForm-clause-found
returns-in-PairForm-clause-found c = λ found h.
    let parts = pair_inside _ _ c.in-PairForm.first c.in-PairForm.second
    (ap (stands_behind c.args.operand.ty.0) (sym c.in-PairForm.is) ∙ c.form.ensures.parts) c.requires in
    c.typed.ensures.found _
    (second_shows (types_of c.args.self.now) c.args.operand c.requires c.args.at found h c.in-PairForm.first c.in-PairForm.second
    (ap (type_of_form (types_of c.args.self.now)) (sym c.in-PairForm.is) ∙ c.form.ensures.form) parts.0 parts.1)

pub returns-in_default : goal.returns-in_default
returns-in_default c = record {
  found = λ found h. second_refused (types_of c.args.self.now) c.args.operand c.requires c.args.at found h c.form.result
      c.form.ensures.form c.in_default.not-PairForm;
  inside = tt;
}
