use Rattle.std.proofs.Common.{sym, ap, ◌∙◌}
use Rattle.images.specs.Records.{ReadRecord, TextRecord}
use Rattle.images.proofs.TextRecords.{text_is, no_text}
use Rattle.images.proofs.record.read_text.Goals as goal

pub returns-in-Ok-clause-read : goal.returns-in-Ok-clause-read
returns-in-Ok-clause-read c =
    let head = c.in-Some.ensures.cases in
    let cut = c.in-Some-split_at_checked.ensures.cases in
    text_is c.args.bytes.now _ _ _ _ _ head.0 head.1 head.2 c.from_be_bytes.ensures cut.0 cut.1 cut.2 c.in-Ok.ensures.cases.1
    ∙ ap (λ text. ReadRecord (TextRecord text) c.in-Some-split_at_checked.rest.now) (sym c.in-Ok.ensures.cases.0)

pub returns-in-Err-clause-read : goal.returns-in-Err-clause-read
returns-in-Err-clause-read c =
    let head = c.in-Some.ensures.cases in
    let cut = c.in-Some-split_at_checked.ensures.cases in
    no_text c.args.bytes.now _ _ _ _ _ head.0 head.1 head.2 c.from_be_bytes.ensures cut.0 cut.1 cut.2 c.in-Err.ensures.cases.0
