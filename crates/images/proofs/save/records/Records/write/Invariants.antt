use Rattle.std.proofs.Common.{◌≡◌, ◌++◌, drop, map}
use Rattle.images.specs.FormRecords.{bytes_of, joined}
use Rattle.images.proofs.save.records.Records.write.Given as goal

-- what is written and the rest are what was there and the whole
abbrev pub invariant-loop-record : goal.invariant-loop-record
invariant-loop-record l = l.image.items ++ joined (map bytes_of (drop l.record-index l.record-items)) ≡ l.fn.image.items ++ joined (map bytes_of l.record-items)
