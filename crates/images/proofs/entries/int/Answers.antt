use Rattle.std.proofs.Common.{◌≡◌, ◌<◌, ◌^◌, refl, Some, lit≤, subst, arith}
use Rattle.std.specs.Int.{w64, cast_signed, cast_unsigned}
use Rattle.std.proofs.lemmas.Int.{to_z-of_z}
use lib.Signed.{mag}
use Rattle.core_terms.specs.ProgramTypes.{types_meaning}
use Rattle.core_terms.specs.Types.{IntTy}
use Rattle.core_terms.specs.Values.{IntV}
use Rattle.images.specs.Images.{checked_entry, entry}
use Rattle.value_store.specs.Markings.{kind_of}
use Rattle.value_store.specs.Standing.{StandsFor}
use Rattle.value_store.specs.Stores.{nodes_in}
use Rattle.images.proofs.Checked.{loaded, small_fits}
use Rattle.images.proofs.Seen.{int_seen}
use Rattle.core_terms.specs.declared.types.TyForm.TheVariants.{IntForm}
use Rattle.images.proofs.TypeNumbers.{numbered}
use Rattle.images.proofs.entries.int.Goals as goal

pub returns-clause-loaded : goal.returns-clause-loaded
returns-clause-loaded c marking size =
    let p = c.args.parts.now.types.now in
    let same : cast_signed w64 (cast_unsigned w64 c.args.value) ≡ c.args.value =
    (let small : mag c.args.value < 2 ^ 63 = omega arith in to_z-of_z w64 c.args.value (record { sfits = small })) in
    loaded p size c.args.number IntTy (IntV c.args.value) (λ go. checked_entry (types_meaning p) size c.args.number (Some (entry IntTy (IntV c.args.value))) go)
    (λ go. refl) c.in-Some.ensures.0
    (small_fits p 8 (lit≤ tt)) (lit≤ tt) marking (nodes_in c.put_int.new.self) (record { ty = c.in-Some.ty; value = c.in_ok-value.value }) (IntV c.args.value)
    (numbered c.args.parts.now.types.now IntForm c.in-Some.ty c.in-Some.ensures) (int_seen marking (types_meaning p) c.args.value)
    (subst (λ z. StandsFor (kind_of marking (types_meaning p)) (types_meaning p).types (nodes_in c.put_int.new.self) c.in_ok-value.value.0 IntTy (IntV z)) same
    (c.in_ok-value.ensures.stands (kind_of marking (types_meaning p)) (types_meaning p).types))
