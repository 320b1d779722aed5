use Rattle.std.proofs.Common.{◌-◌, length, take}
use Rattle.reuse_buffer.specs.Index.{bucket_of}
use Rattle.reuse_buffer.proofs.Linking.{HasCome}
use Rattle.reuse_buffer.proofs.ring.Ring.place_in.Given as goal

abbrev pub invariant-loop-held : goal.invariant-loop-held
invariant-loop-held l = HasCome (bucket_of l.self-inside.pieces.capacity l.bytes) l.bytes l.place (take l.self-inside.held l.self-inside.pieces.items)

abbrev pub decreases-loop-held : goal.decreases-loop-held
decreases-loop-held l = length (take l.self-inside.held l.self-inside.pieces.items) - l.place
