use Rattle.std.proofs.Common.{◌∙◌, sym, ap, option_map}
use Rattle.core_terms.specs.Programs.{meaning, types_of}
use Rattle.core_terms.specs.RoleTypes.{role_function}
use Rattle.core_terms.proofs.FoundRoles.{role_by_name}
use Rattle.core_terms.proofs.program.Program.role.Goals as goal

pub returns-in-Some : goal.returns-in-Some
returns-in-Some c =
    ap (option_map (role_function (meaning c.args.self.now))) (sym c.in-Some.is ∙ (rw c.deref.ensures.value at c.place_of.ensures))
    ∙ role_by_name (types_of c.args.self.now) (meaning c.args.self.now).functions c.args.self.now.roles.items c.args.name.now c.args.self.now.found

pub returns-in-None : goal.returns-in-None
returns-in-None c =
    ap (option_map (role_function (meaning c.args.self.now))) (sym c.in-None.is ∙ (rw c.deref.ensures.value at c.place_of.ensures))
    ∙ role_by_name (types_of c.args.self.now) (meaning c.args.self.now).functions c.args.self.now.roles.items c.args.name.now c.args.self.now.found
