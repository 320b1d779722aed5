use Rattle.std.proofs.Common.{◌∙◌, length}
use Rattle.core_terms.specs.Programs.{types_in}
use Rattle.code_check.specs.ObjectParts.{body_of_parts}
use Rattle.code_check.proofs.GoneWays.{arm_types, arms_below, arms_stay, switched_ok}
use Rattle.code_check.proofs.ListsOfTypes.{grows_on, longer_by}
use Rattle.code_check.proofs.ways.switch.Goals as goal

pub arms-requires-clause-fields : goal.arms-requires-clause-fields
arms-requires-clause-fields c =
    arms_below (length (types_in c.args.parts.now.types)) (length (types_in c.without_plain.new.lists.types)) c.constructors_of.result.now
    (longer_by (types_in c.args.parts.now.types) (types_in c.without_plain.new.lists.types)
    (grows_on (types_in c.args.parts.now.types) (types_in c.args.lists.now.types) (types_in c.without_plain.new.lists.types) c.requires.table c.in_ok-operands.ensures.grows)) c.constructors_of.ensures.within

pub returns-clause-behind : goal.returns-clause-behind
returns-clause-behind c = λ z.
    switched_ok (body_of_parts c.args.parts.now) z (types_in c.args.lists.now.types) (types_in c.without_plain.new.lists.types) (types_in c.arms.new.lists.types) c.args.at c.in-Some.operands c.args.behind.now
    c.arms.new.behind c.args.named.0 c.args.places.now (arm_types (types_in c.without_plain.new.lists.types) c.constructors_of.result.now) c.arms.result c.in_ok-operands.ensures.grows
    (rw c.in-Some.is at c.in_ok-operands.ensures.left)
    (arms_stay (types_in c.args.parts.now.types) (types_in c.without_plain.new.lists.types) c.constructors_of.result.now
    (grows_on (types_in c.args.parts.now.types) (types_in c.args.lists.now.types) (types_in c.without_plain.new.lists.types) c.requires.table c.in_ok-operands.ensures.grows) c.constructors_of.ensures.within
    ∙ c.constructors_of.ensures.fields)
    c.arms.ensures.behind
