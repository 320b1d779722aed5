use Rattle.std.proofs.Common.{◌∙◌, length, ap, sym, ltb-true}
use Rattle.core_terms.proofs.SameTypes.{first_of, second_of}
use Rattle.core_terms.specs.Bodies.{code_at}
use Rattle.core_terms.specs.Programs.{types_in}
use Rattle.core_terms.specs.ProgramTrees.{are_below, types_at}
use Rattle.core_terms.specs.TypeTables.{type_at}
use Rattle.code_check.specs.ObjectParts.{body_of_parts}
use Rattle.code_check.proofs.ListsOfTypes.{below_more, grows_not, longer_by, type_stays, types_stay}
use Rattle.code_check.proofs.SteppedFrames.{taken_later}
use Rattle.code_check.proofs.operations.called.Goals as goal

pub behind_operands-requires-clause-takes : goal.behind_operands-requires-clause-takes
behind_operands-requires-clause-takes c =
    rw c.deref.ensures.value
    (below_more (length (types_in c.args.parts.now.types)) (length (types_in c.args.lists.now.types)) c.in-Some.function.now.parameters.items
    (longer_by (types_in c.args.parts.now.types) (types_in c.args.lists.now.types) c.requires.table) (first_of _ _ c.in-Some.ensures.within))

pub returns-in-Some-clause-next : goal.returns-in-Some-clause-next
returns-in-Some-clause-next c = λ z.
    let below = first_of _ _ c.in-Some.ensures.within in
    let inside = ltb-true c.in-Some.function.now.result.0 (length (types_in c.args.parts.now.types))
    (second_of (are_below (length (types_in c.args.parts.now.types)) c.in-Some.function.now.parameters.items) _ c.in-Some.ensures.within) in
    taken_later (types_in c.args.lists.now.types) (types_in c.args.lists.now.types) (types_in c.behind_operands.new.lists.types) c.args.at c.behind_operands.result
    (types_at (types_in c.args.lists.now.types) c.deref.result.now) (code_at (body_of_parts c.args.parts.now) c.args.function.0).parameters
    (type_at (types_in c.args.lists.now.types) c.in-Some.function.now.result) (code_at (body_of_parts c.args.parts.now) c.args.function.0).result (grows_not (types_in c.args.lists.now.types))
    (ap (types_at (types_in c.args.lists.now.types)) c.deref.ensures.value
    ∙ types_stay (types_in c.args.parts.now.types) (types_in c.args.lists.now.types) c.in-Some.function.now.parameters.items c.requires.table below ∙ sym c.in-Some.ensures.function.0)
    (type_stays (types_in c.args.parts.now.types) (types_in c.args.lists.now.types) c.in-Some.function.now.result c.requires.table inside ∙ sym c.in-Some.ensures.function.1)
    c.behind_operands.ensures.next
