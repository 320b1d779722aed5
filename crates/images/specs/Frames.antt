-- Nodes that wait for their records.
use Rattle.std.specs.Prelude.{ℕ}
use Rattle.value_store.specs.declared.node.Ref.{Ref}
use Rattle.images.specs.declared.save.Frame.{Frame}

abbrev pub frame_of : Ref → ℕ → Frame
frame_of node next = record { node = node; next = next }
