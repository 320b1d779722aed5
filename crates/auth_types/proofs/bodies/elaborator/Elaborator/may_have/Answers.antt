use Rattle.std.proofs.Common.{◌∙◌, ap}
use Rattle.declared_types.specs.WrittenTypes.{may_have}
use Rattle.auth_types.specs.Elaborators.{scope_of}
use Rattle.auth_types.proofs.bodies.elaborator.Elaborator.may_have.Goals as goal

pub returns : goal.returns
unfolding scope_of
returns c = c.may_have.ensures ∙ ap (λ format. may_have format c.args.count) c.format.ensures
