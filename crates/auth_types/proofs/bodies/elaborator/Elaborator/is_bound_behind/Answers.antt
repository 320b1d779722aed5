use Rattle.std.proofs.Common.{◌∙◌, sym, ap, bytes_eq, drop}
use Rattle.std.specs.List.{list_any}
use Rattle.auth_types.specs.declared.bodies.elaborator.Local.{Local}
use Rattle.auth_types.proofs.ElaboratorSteps.{among_locals}
use Rattle.auth_types.proofs.bodies.elaborator.Elaborator.is_bound_behind.Goals as goal

pub returns : goal.returns
returns c =
    c.has_name.ensures ∙ ap (λ ls. list_any (λ (l : Local). bytes_eq l.name.now c.args.name.now) (drop c.args.outer ls)) c.deref.ensures.value
    ∙ sym (among_locals c.args.self.now c.args.outer c.args.name.now)
