use Rattle.std.proofs.Common.{◌≡◌, [], reverse, true}
use Rattle.core_terms.specs.Types.{Table, Ty, has_numbers}
use Rattle.core_terms.specs.Values.{Value}
use Rattle.images.specs.SavedImages.{distinct, walk}
use Rattle.value_store.specs.Standing.{IdealNodes, StandsFor}
use Rattle.value_store.specs.Stores.{nodes_in}
use Rattle.images.specs.SavedRecords.{KeepsNodes}
use Rattle.images.proofs.ReachedNodes.{FirstReached, FramesReached}
use Rattle.images.proofs.Saving.{Saving}
use Rattle.images.proofs.WaitingFrames.{AreWaiting, HasRecord}
use Rattle.images.proofs.Weights.{left_in}
use Rattle.images.proofs.save.records_of.Given as goal

abbrev pub invariant-loop-frame : goal.invariant-loop-frame
invariant-loop-frame l = record {
  most : l.records.most ≡ l.most;
  keeps : l.fn.keeps_nodes ≡ true → KeepsNodes l.records;
  reached : FramesReached (nodes_in l.store) l.fn.root.0 (reverse l.frames.items) × FirstReached (nodes_in l.store) l.fn.root.0 l.records;
  waiting : AreWaiting (nodes_in l.store) (HasRecord l.records) (reverse l.frames.items);
  saving : (types : Table) (t : Ty) (v : Value) → has_numbers types ≡ true → StandsFor IdealNodes types (nodes_in l.store) l.fn.root.0 t v
      → Saving types (nodes_in l.store) (distinct [] (walk types t v)) l.records (reverse l.frames.items);
}

abbrev pub decreases-loop-frame : goal.decreases-loop-frame
decreases-loop-frame l = left_in (nodes_in l.store) l.frames.items
