use Rattle.std.proofs.Common.{[], ◌∙◌, length, reverse, subst, ap, append-nil}
use Rattle.core_terms.specs.Programs.{types_in}
use Rattle.core_terms.specs.ProgramTrees.{types_at}
use Rattle.code_check.specs.TypeLists.{IsList}
use Rattle.code_check.proofs.ListsOfTypes.{below_more, grows_on, types_stay}
use Rattle.code_check.proofs.SteppedFrames.{without_left}
use Rattle.code_check.proofs.operations.without.Goals as goal

pub returns-clause-left : goal.returns-clause-left
returns-clause-left c =
    let old = types_in c.args.lists.now.types in
    let first = types_in c.plain.new.lists.types in
    let mid = types_in c.stacked.new.lists.types in
    let takes = types_at (types_in c.args.lists.now.types) c.args.takes.now in
    let same = types_stay (types_in c.args.lists.now.types) (types_in c.plain.new.lists.types) c.args.takes.now c.in_ok-nothing.ensures.grows c.requires.takes in
    let list = c.in_ok-takes.ensures.list [] c.in_ok-nothing.ensures.ty in
    λ os h.
    without_left (types_in c.args.lists.now.types) (types_in c.stacked.new.lists.types) (types_at (types_in c.args.lists.now.types) c.args.takes.now) os c.in_ok-takes.takes c.args.operands c.taken_off.result
    (grows_on (types_in c.args.lists.now.types) (types_in c.plain.new.lists.types) (types_in c.stacked.new.lists.types) c.in_ok-nothing.ensures.grows c.in_ok-takes.ensures.grows) h
    (subst (IsList (types_in c.stacked.new.lists.types) c.in_ok-takes.takes) (append-nil (reverse (types_at (types_in c.plain.new.lists.types) c.args.takes.now)) ∙ ap reverse same) list) c.taken_off.ensures.left

pub stacked-requires-clause-types : goal.stacked-requires-clause-types
stacked-requires-clause-types c =
    below_more (length (types_in c.args.lists.now.types)) (length (types_in c.plain.new.lists.types)) c.args.takes.now c.in_ok-nothing.ensures.longer c.requires.takes
