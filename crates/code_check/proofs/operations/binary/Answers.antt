use Rattle.std.proofs.Common.{[], ◌∷◌, ap}
use Rattle.std.proofs.lemmas.Option.{get_or_from_slice_get}
use Rattle.core_terms.specs.Programs.{types_in}
use Rattle.core_terms.specs.Types.{Ty, UnitTy}
use Rattle.core_terms.specs.TypeTables.{type_at, type_of_form}
use Rattle.code_check.proofs.ListsOfTypes.{grows_on, there_stays}
use Rattle.code_check.proofs.SteppedFrames.{taken_later}
use Rattle.code_check.proofs.operations.binary.Goals as goal

pub returns-clause-next : goal.returns-clause-next
returns-clause-next c =
    let first = types_in c.plain.new.lists.types in
    let mid = types_in c.plain-2.new.lists.types in
    taken_later (types_in c.args.lists.now.types) (types_in c.plain-2.new.lists.types) (types_in c.behind_operands.new.lists.types) c.args.at c.behind_operands.result
    (type_at (types_in c.plain-2.new.lists.types) c.in_ok-takes.takes ∷ type_at (types_in c.plain-2.new.lists.types) c.in_ok-takes.takes ∷ []) (type_of_form [] c.args.takes ∷ type_of_form [] c.args.takes ∷ []) (type_at (types_in c.plain-2.new.lists.types) c.in_ok-gives.gives) (type_of_form [] c.args.gives)
    (grows_on (types_in c.args.lists.now.types) (types_in c.plain.new.lists.types) (types_in c.plain-2.new.lists.types) c.in_ok-takes.ensures.grows c.in_ok-gives.ensures.grows)
    (ap (λ (t : Ty). t ∷ t ∷ []) (get_or_from_slice_get (types_in c.plain-2.new.lists.types) c.in_ok-takes.takes.0 (type_of_form [] c.args.takes) UnitTy
    (there_stays (types_in c.plain.new.lists.types) (types_in c.plain-2.new.lists.types) c.in_ok-takes.takes.0 (type_of_form [] c.args.takes) c.in_ok-gives.ensures.grows c.in_ok-takes.ensures.ty)))
    (get_or_from_slice_get (types_in c.plain-2.new.lists.types) c.in_ok-gives.gives.0 (type_of_form [] c.args.gives) UnitTy c.in_ok-gives.ensures.ty)
    c.behind_operands.ensures.next
