use Rattle.std.proofs.Common.{◌<◌, ◌∙◌, length, sym, ap, subst}
use Rattle.auth_types.specs.Bodies.{last_named}
use Rattle.auth_types.specs.Elaborators.{types_of}
use Rattle.auth_types.specs.Locals.{locals_meant}
use Rattle.auth_types.specs.declared.bodies.elaborator.Local.{Local}
use Rattle.auth_types.proofs.LocalSteps.{local_shows, local_unknown}
use Rattle.auth_types.proofs.bodies.elaborator.Elaborator.local.Goals as goal

pub returns-in-Some-clause-found : goal.returns-in-Some-clause-found
returns-in-Some-clause-found c =
    let e = c.args.self.now in
    let l = c.index.result.now in
    let inside : c.in-Some.number < length e.locals.items = rw c.deref.ensures.value at c.in-Some.ensures.inside in
    c.typed.ensures.found _
    (local_shows e c.args.at c.args.name.now c.in-Some.number l l inside c.index.ensures
    (ap (λ ls. last_named 0 (locals_meant (types_of e) ls) c.args.name.now) (sym c.deref.ensures.value) ∙ c.innermost.ensures.found (types_of e)
    ∙ c.in-Some.is)
    (subst (λ (l : Local). l.ty.0 < length (types_of e)) (sym c.index.ensures) (e.locals_within c.in-Some.number l inside)))

pub returns-in-None-clause-found : goal.returns-in-None-clause-found
returns-in-None-clause-found c =
    local_unknown c.args.self.now c.args.at c.args.name.now
    (ap (λ ls. last_named 0 (locals_meant (types_of c.args.self.now) ls) c.args.name.now) (sym c.deref.ensures.value)
    ∙ c.innermost.ensures.found (types_of c.args.self.now) ∙ c.in-None.is)
