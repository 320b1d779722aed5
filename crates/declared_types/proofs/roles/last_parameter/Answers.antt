use Rattle.std.proofs.Common.{◌∙◌}
use Rattle.declared_types.proofs.RolesOfHeads.{last_place_is}
use Rattle.declared_types.proofs.roles.last_parameter.Goals as goal

pub returns-in-Some : goal.returns-in-Some
returns-in-Some c = c.first_token.ensures ∙ last_place_is c.args.function.now.name.at c.args.function.now.parameters.items c.in-Some.parameter.now
    (rw c.deref.ensures.value at c.in-Some.ensures.value)
