use Rattle.core_terms.specs.ProgramTypes.{types_meaning}
use Rattle.images.specs.Images.{field_count}
use Rattle.images.proofs.RecordFronts.{no_constructor}
use Rattle.images.proofs.record.read_constructor.Goals as goal

pub returns-in_default-fields_of-clause-read : goal.returns-in_default-fields_of-clause-read
returns-in_default-fields_of-clause-read c size =
    let front = c.in-Some.ensures.cases in
    no_constructor (field_count (types_meaning c.args.types.now) size) c.args.bytes.now c.in-Some.number.now c.in-Some.behind.now c.in-Some-split_first.behind.now c.from_be_bytes.result
    c.in-Some-split_first.tag.now front.0 front.1 front.2 c.in-Some-split_first.ensures.cases.0 c.from_be_bytes.ensures (c.in_default-fields_of.ensures.fields size)
