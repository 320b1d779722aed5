use Rattle.std.proofs.Common.{length}
use Rattle.std.proofs.lemmas.Option.{get_or_from_slice_get}
use Rattle.core_terms.specs.Programs.{types_in}
use Rattle.core_terms.specs.ProgramTrees.{types_at}
use Rattle.core_terms.specs.Types.{UnitTy, NamedTy, fields_at}
use Rattle.core_terms.specs.TypeTables.{type_at}
use Rattle.code_check.specs.ObjectParts.{body_of_parts}
use Rattle.code_check.proofs.ListsOfTypes.{below_more, grows_on, longer_by, types_stay}
use Rattle.code_check.proofs.SteppedFrames.{made_later}
use Rattle.code_check.proofs.operations.made.Goals as goal

pub behind_operands-requires-clause-takes : goal.behind_operands-requires-clause-takes
behind_operands-requires-clause-takes c =
    below_more (length (types_in c.args.parts.now.types)) (length (types_in c.plain.new.lists.types)) c.in-Some.fields.now
    (longer_by (types_in c.args.parts.now.types) (types_in c.plain.new.lists.types)
    (grows_on (types_in c.args.parts.now.types) (types_in c.args.lists.now.types) (types_in c.plain.new.lists.types) c.requires.table c.in_ok-gives.ensures.grows)) c.in-Some.ensures.within

pub returns-clause-next : goal.returns-clause-next
returns-clause-next c = λ z.
    made_later (types_in c.args.lists.now.types) (types_in c.plain.new.lists.types) (types_in c.behind_operands.new.lists.types) c.args.at c.behind_operands.result
    (fields_at (body_of_parts c.args.parts.now).types c.args.named.0 c.args.tag.0) (types_at (types_in c.plain.new.lists.types) c.in-Some.fields.now)
    (types_at (types_in c.args.parts.now.types) c.in-Some.fields.now) (type_at (types_in c.plain.new.lists.types) c.in_ok-gives.gives) (NamedTy c.args.named.0) c.in_ok-gives.ensures.grows
    c.in-Some.ensures.fields
    (types_stay (types_in c.args.parts.now.types) (types_in c.plain.new.lists.types) c.in-Some.fields.now
    (grows_on (types_in c.args.parts.now.types) (types_in c.args.lists.now.types) (types_in c.plain.new.lists.types) c.requires.table c.in_ok-gives.ensures.grows) c.in-Some.ensures.within)
    (get_or_from_slice_get (types_in c.plain.new.lists.types) c.in_ok-gives.gives.0 (NamedTy c.args.named.0) UnitTy c.in_ok-gives.ensures.ty) c.behind_operands.ensures.next
