use Rattle.std.proofs.Common.{refl, Some, lit≤, arith}
use Rattle.core_terms.specs.ProgramTypes.{types_meaning}
use Rattle.core_terms.specs.Types.{TextTy}
use Rattle.core_terms.specs.Values.{TextV}
use Rattle.images.specs.Images.{checked_entry, entry}
use Rattle.value_store.specs.Markings.{kind_of}
use Rattle.value_store.specs.Stores.{nodes_in}
use Rattle.images.proofs.Checked.{loaded}
use Rattle.images.proofs.Seen.{text_seen}
use Rattle.core_terms.specs.declared.types.TyForm.TheVariants.{TextForm}
use Rattle.images.proofs.TypeNumbers.{numbered}
use Rattle.images.proofs.entries.text.Goals as goal

pub returns-clause-loaded : goal.returns-clause-loaded
returns-clause-loaded c marking size =
    let p = c.args.parts.now.types.now in
    loaded p size c.args.number TextTy (TextV c.args.text.now)
    (λ go. checked_entry (types_meaning p) size c.args.number (Some (entry TextTy (TextV c.args.text.now))) go) (λ go. refl) c.in-Some.ensures.0
    (omega (arith, c.limit.ensures, c.requires.limit.is)) (lit≤ tt) marking (nodes_in c.put_text.new.self) (record { ty = c.in-Some.ty; value = c.in_ok-value.value }) (TextV c.args.text.now)
    (numbered c.args.parts.now.types.now TextForm c.in-Some.ty c.in-Some.ensures) (text_seen marking (types_meaning p) c.args.text.now)
    (c.in_ok-value.ensures.stands (kind_of marking (types_meaning p)) (types_meaning p).types)
