use Rattle.std.proofs.Common.{refl, Some, lit≤}
use Rattle.core_terms.specs.ProgramTypes.{types_meaning}
use Rattle.core_terms.specs.Types.{UnitTy}
use Rattle.core_terms.specs.Values.{UnitV}
use Rattle.images.specs.Images.{checked_entry, entry}
use Rattle.value_store.specs.Markings.{kind_of}
use Rattle.value_store.specs.Stores.{nodes_in}
use Rattle.images.proofs.Checked.{loaded, small_fits}
use Rattle.images.proofs.Seen.{unit_seen}
use Rattle.core_terms.specs.declared.types.TyForm.TheVariants.{UnitForm}
use Rattle.images.proofs.TypeNumbers.{numbered}
use Rattle.images.proofs.entries.unit.Goals as goal

pub returns-clause-loaded : goal.returns-clause-loaded
returns-clause-loaded c marking size =
    let p = c.args.parts.now.types.now in
    loaded p size c.args.number UnitTy UnitV (λ go. checked_entry (types_meaning p) size c.args.number (Some (entry UnitTy UnitV)) go) (λ go. refl) c.in-Some.ensures.0
    (small_fits p 0 (lit≤ tt)) (lit≤ tt) marking (nodes_in c.put_unit.new.self) (record { ty = c.in-Some.ty; value = c.in_ok-value.value }) UnitV
    (numbered c.args.parts.now.types.now UnitForm c.in-Some.ty c.in-Some.ensures) (unit_seen marking (types_meaning p))
    (c.in_ok-value.ensures.stands (kind_of marking (types_meaning p)) (types_meaning p).types)
