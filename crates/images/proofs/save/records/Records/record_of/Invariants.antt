use Rattle.std.proofs.Common.{◌≡◌, ◌≤◌, ◌++◌, length, take, ◌-◌}
use Rattle.value_store.specs.Nodes.{refs_in}
use Rattle.value_store.specs.Views.{form_shown}
use Rattle.images.specs.FormRecords.{head_of, numbered}
use Rattle.images.specs.SavedRecords.{number_or_first}
use Rattle.images.proofs.save.records.Records.record_of.Given as goal

abbrev pub invariant-loop-part : goal.invariant-loop-part
invariant-loop-part l = record {
  index : l.index ≤ length (refs_in (form_shown l.view));
  bytes : l.bytes.items ≡ head_of (form_shown l.view) ++ numbered (number_or_first l.self) (take l.index (refs_in (form_shown l.view)));
}

abbrev pub decreases-loop-part : goal.decreases-loop-part
decreases-loop-part l = length (refs_in (form_shown l.view)) - l.index
