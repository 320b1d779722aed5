use Rattle.std.proofs.Common.{[], ◌∙◌, ap, append-nil, length, reverse, subst}
use Rattle.core_terms.specs.Programs.{types_in}
use Rattle.core_terms.specs.ProgramTrees.{types_at}
use Rattle.code_check.specs.TypeLists.{IsList}
use Rattle.code_check.proofs.ListsOfTypes.{below_more, list_stays, types_stay}
use Rattle.code_check.proofs.kinds.start_of.Goals as goal

pub stacked-requires-clause-types : goal.stacked-requires-clause-types
stacked-requires-clause-types c =
    rw c.deref.ensures.value
    (below_more (length (types_in c.args.lists.now.types)) (length (types_in c.plain.new.lists.types)) c.args.function.now.parameters.items c.in_ok-operands.ensures.longer c.requires.parameters)

pub returns-clause-frame : goal.returns-clause-frame
returns-clause-frame c =
    let same =
    append-nil (reverse (types_at (types_in c.plain.new.lists.types) c.deref.result.now)) ∙ ap (λ ids. reverse (types_at (types_in c.plain.new.lists.types) ids)) c.deref.ensures.value
    ∙ ap reverse (types_stay (types_in c.args.lists.now.types) (types_in c.plain.new.lists.types) c.args.function.now.parameters.items c.in_ok-operands.ensures.grows c.requires.parameters) in (
      subst (IsList (types_in c.stacked.new.lists.types) c.in_ok-locals.locals) same (c.in_ok-locals.ensures.list [] c.in_ok-operands.ensures.ty),
      list_stays (types_in c.plain.new.lists.types) (types_in c.stacked.new.lists.types) c.in_ok-operands.operands [] c.in_ok-locals.ensures.grows c.in_ok-operands.ensures.ty,
    )
