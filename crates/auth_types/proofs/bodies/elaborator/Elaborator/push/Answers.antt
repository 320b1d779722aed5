use Rattle.std.proofs.Common.{◌∙◌, ◌∷◌, [], ◌++◌, refl, ap}
use Rattle.core_terms.specs.TypeTables.{type_at}
use Rattle.auth_types.specs.Elaborators.{locals_of, types_of}
use Rattle.auth_types.proofs.ElaboratorSteps.{locals_one, scope_same}
use Rattle.auth_types.proofs.bodies.elaborator.Elaborator.push.Goals as goal

pub returns-in_err-push-clause-scope : goal.returns-in_err-push-clause-scope
returns-in_err-push-clause-scope c = scope_same c.args.self.now _ refl refl

pub returns-clause-scope : goal.returns-clause-scope
returns-clause-scope c = scope_same c.args.self.now _ refl refl

pub returns-clause-locals : goal.returns-clause-locals
returns-clause-locals c =
    locals_one c.args.self.now _ (record { name = c.as_bytes-name.result; ty = c.args.ty }) refl c.in_ok-push.ensures.items
    ∙ ap (λ name. locals_of c.args.self.now ++ record { name = name; of_type = type_at (types_of c.args.self.now) c.args.ty } ∷ [])
    c.as_bytes-name.ensures.bytes
