use Rattle.std.proofs.Common.{◌∙◌, ap, sym}
use Rattle.core_terms.specs.TypeTables.{stands_behind, type_of_form}
use Rattle.auth_types.specs.Elaborators.{types_of}
use Rattle.auth_types.proofs.OperationSteps.{auth_inside, opened_refused, opened_shows}
use Rattle.auth_types.proofs.bodies.elaborator.Elaborator.opened.Goals as goal

pub returns-in-AuthForm-clause-found : goal.returns-in-AuthForm-clause-found
returns-in-AuthForm-clause-found c = λ found h.
    let inside = auth_inside _ _ c.in-AuthForm.ty (ap (stands_behind c.args.operand.ty.0) (sym c.in-AuthForm.is) ∙ c.form.ensures.parts) c.requires in
    c.typed.ensures.found _
    (opened_shows (types_of c.args.self.now) c.args.operand c.requires c.args.at found h c.in-AuthForm.ty
    (ap (type_of_form (types_of c.args.self.now)) (sym c.in-AuthForm.is) ∙ c.form.ensures.form) inside)

pub returns-in_default : goal.returns-in_default
returns-in_default c = record {
  found = λ found h. opened_refused (types_of c.args.self.now) c.args.operand c.requires c.args.at found h c.form.result
      c.form.ensures.form c.in_default.not-AuthForm;
  inside = tt;
}
