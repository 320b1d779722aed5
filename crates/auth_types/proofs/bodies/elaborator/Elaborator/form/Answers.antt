use Rattle.auth_types.specs.Elaborators.{scope_of}
use Rattle.auth_types.proofs.ArrayForms.{form_is_in}
use Rattle.auth_types.proofs.bodies.elaborator.Elaborator.form.Goals as goal

pub returns-clause-format : goal.returns-clause-format
unfolding scope_of
returns-clause-format c =
    let table = c.args.self.now.types in
    form_is_in table.format table.forms.keys c.args.ty.0 c.form.result table.of_format c.form.ensures.form
