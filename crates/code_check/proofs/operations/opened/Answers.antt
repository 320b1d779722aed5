use Rattle.std.proofs.Common.{[], ◌∷◌, ap}
use Rattle.std.proofs.lemmas.Option.{get_or_from_slice_get}
use Rattle.core_terms.specs.Programs.{types_in}
use Rattle.core_terms.specs.Types.{Ty, UnitTy, AuthTy}
use Rattle.core_terms.specs.TypeTables.{type_at}
use Rattle.code_check.proofs.ListsOfTypes.{type_stays}
use Rattle.code_check.proofs.SteppedFrames.{taken_later}
use Rattle.code_check.proofs.operations.opened.Goals as goal

pub returns-clause-next : goal.returns-clause-next
returns-clause-next c =
    taken_later (types_in c.args.lists.now.types) (types_in c.interned.new.lists.types) (types_in c.behind_operands.new.lists.types) c.args.at c.behind_operands.result
    (type_at (types_in c.interned.new.lists.types) c.in_ok-auth.auth ∷ []) (AuthTy (type_at (types_in c.args.lists.now.types) c.args.ty) ∷ []) (type_at (types_in c.interned.new.lists.types) c.args.ty)
    (type_at (types_in c.args.lists.now.types) c.args.ty) c.in_ok-auth.ensures.grows
    (ap (λ (t : Ty). t ∷ []) (get_or_from_slice_get (types_in c.interned.new.lists.types) c.in_ok-auth.auth.0 (AuthTy (type_at (types_in c.args.lists.now.types) c.args.ty)) UnitTy c.in_ok-auth.ensures.ty))
    (type_stays (types_in c.args.lists.now.types) (types_in c.interned.new.lists.types) c.args.ty c.in_ok-auth.ensures.grows c.requires.ty)
    c.behind_operands.ensures.next
