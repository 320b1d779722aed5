use Rattle.std.proofs.Common.{List, sym, ap, ◌∙◌}
use Rattle.core_terms.specs.Programs.{types_in}
use Rattle.core_terms.specs.ProgramTrees.{kind_of, types_at}
use Rattle.core_terms.specs.Terms.{Query}
use Rattle.core_terms.specs.TypeTables.{type_at}
use Rattle.core_terms.specs.RoleShapes.{shape_test}
use Rattle.core_terms.specs.declared.types.TyId.{TyId}
use Rattle.code_check.specs.ObjectParts.{parts_program}
use Rattle.code_check.proofs.shapes.has_shape.Goals as goal

pub returns-in-Query : goal.returns-in-Query
returns-in-Query c =
    let P = parts_program c.args.parts.now in
    let T = types_in c.args.parts.now.types in
    let f = c.args.function.now in
    let gives = type_at T f.result in
    c.is_query.ensures gives
    ∙ ap (λ (ids : List TyId). shape_test P Query (types_at T ids) gives) c.deref-in-Query.ensures.value
    ∙ ap (λ kind. shape_test P (kind_of kind) (types_at T f.parameters.items) gives) (sym c.in-Query.is)
