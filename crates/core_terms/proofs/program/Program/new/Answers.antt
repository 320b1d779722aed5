use Rattle.std.proofs.Common.{refl}
use Rattle.core_terms.specs.ProgramTrees.{program_of}
use Rattle.core_terms.specs.TypeTables.{types_of_forms}
use Rattle.core_terms.proofs.Limited.{limited_tags}
use Rattle.core_terms.proofs.RoleShapes.{arguments_there}
use Rattle.core_terms.proofs.program.Program.new.Goals as goal

pub new-requires-clause-tags : goal.new-requires-clause-tags
new-requires-clause-tags c =
    limited_tags (program_of c.args.types.format c.args.types.forms.keys c.args.named.items c.args.state c.args.functions.items) c.requires.limits

pub roles_of-requires : goal.roles_of-requires
roles_of-requires c =
    let forms = c.args.types.forms.keys in
    let functions = c.args.functions.items in
    rw c.deref.ensures.value (arguments_there (program_of c.args.types.format forms c.args.named.items c.args.state functions) (types_of_forms forms) functions refl c.requires.shaped)
