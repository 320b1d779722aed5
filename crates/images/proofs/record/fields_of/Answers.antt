use Rattle.std.proofs.Common.{◌≡◌, Some, slice_get, length}
use Rattle.core_terms.specs.ProgramTypes.{types_by_number}
use Rattle.core_terms.proofs.Constructors.{constructor_fields}
use Rattle.images.proofs.RecordFronts.{found, fields_below}
use Rattle.images.proofs.record.fields_of.Goals as goal

pub returns : goal.returns
returns c =
    let p = c.args.types.now in
    let lookup = rw c.named_types.ensures.named at c.in_ok-declared.ensures.lookup in
    let there : slice_get p.named.items c.args.named.0 ≡ Some c.in_ok-declared.declared.now = found p.named.items c.args.named.0 c.in_ok-declared.declared.now lookup.3.0 lookup.1 in
    let lookup_tag = rw c.deref.ensures.value at c.in_ok-constructor.ensures.lookup in
    let at : slice_get c.in_ok-declared.declared.now.constructors.items c.args.tag.0 ≡ Some c.in_ok-constructor.constructor.now =
    found c.in_ok-declared.declared.now.constructors.items c.args.tag.0 c.in_ok-constructor.constructor.now lookup_tag.3.0 lookup_tag.1 in
    record {
      fields = (
        c.in_ok-part_of.ensures.0,
        rw c.deref-2.ensures.value
            (constructor_fields (types_by_number p) p.named.items c.args.named.0 c.args.tag.0 c.in_ok-declared.declared.now c.in_ok-constructor.constructor.now there at),
        rw c.deref-2.ensures.value (fields_below (length (types_by_number p)) p.named.items c.args.named.0 c.args.tag.0 c.in_ok-declared.declared.now c.in_ok-constructor.constructor.now
            (rw c.named_types.ensures.named at c.named_types.ensures.within) there at),
      );
    }
