use Rattle.std.proofs.lemmas.Option.{slice_get-get_or}
use Rattle.core_terms.specs.Kinds.{without}
use Rattle.core_terms.specs.Programs.{types_in}
use Rattle.core_terms.specs.ProgramTrees.{types_at}
use Rattle.core_terms.specs.Types.{UnitTy}
use Rattle.core_terms.specs.TypeTables.{type_at}
use Rattle.code_check.proofs.ListsOfTypes.{there_stays}
use Rattle.code_check.proofs.SteppedFrames.{taken_next}
use Rattle.code_check.proofs.operations.behind_operands.Goals as goal

pub returns-clause-next : goal.returns-clause-next
returns-clause-next c = λ s h.
    let there =
    there_stays (types_in c.args.lists.now.types) (types_in c.without.new.lists.types) c.args.gives.0 (type_at (types_in c.args.lists.now.types) c.args.gives) c.in_ok-left.ensures.grows
    (slice_get-get_or (types_in c.args.lists.now.types) c.args.gives.0 UnitTy c.requires.gives) in
    taken_next (types_in c.args.lists.now.types) (types_in c.without.new.lists.types) (types_in c.with_top.new.lists.types) c.args.at (without (types_at (types_in c.args.lists.now.types) c.args.takes.now) s.operands)
    c.args.gives c.in-Some.left c.in_ok-operands.operands (type_at (types_in c.args.lists.now.types) c.args.gives) s c.in_ok-left.ensures.grows c.in_ok-operands.ensures.grows h
    (rw c.in-Some.is at (c.in_ok-left.ensures.left s.operands h.1)) there c.in_ok-operands.ensures.list
