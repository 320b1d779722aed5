use Rattle.std.proofs.Common.{ap, sym, ◌∙◌, Bool}
use Rattle.core_terms.specs.ProgramTypes.{types_meaning}
use Rattle.images.specs.Images.{field_count, with_record}
use Rattle.images.specs.Records.{read_record}
use Rattle.images.proofs.load.next_front.Goals as goal

pub returns-in-Ok-clause-front : goal.returns-in-Ok-clause-front
returns-in-Ok-clause-front c =
    ap (λ (arrays : Bool). read_record arrays (field_count (types_meaning c.args.parts.now.types.now) c.args.size) c.args.bytes.now) (sym c.has_arrays.ensures) ∙ c.in-Ok.ensures.read c.args.size

pub returns-in-Err-Cut-clause-front : goal.returns-in-Err-Cut-clause-front
returns-in-Err-Cut-clause-front c entries go =
    let read = rw c.in-Err-Cut.field-0-is at (c.in-Err-Cut.ensures.read c.args.size) in
    ap (λ read. with_record (types_meaning c.args.parts.now.types.now) c.args.size c.args.number entries read go)
    (ap (λ (arrays : Bool). read_record arrays (field_count (types_meaning c.args.parts.now.types.now) c.args.size) c.args.bytes.now) (sym c.has_arrays.ensures) ∙ read)

pub returns-in-Err-Bad-clause-front : goal.returns-in-Err-Bad-clause-front
returns-in-Err-Bad-clause-front c entries go =
    let read = rw c.in-Err-Bad.field-0-is at (c.in-Err-Bad.ensures.read c.args.size) in
    ap (λ read. with_record (types_meaning c.args.parts.now.types.now) c.args.size c.args.number entries read go)
    (ap (λ (arrays : Bool). read_record arrays (field_count (types_meaning c.args.parts.now.types.now) c.args.size) c.args.bytes.now) (sym c.has_arrays.ensures) ∙ read)
