use Rattle.std.specs.Int.{w16, to_be_bytes}
use Rattle.proof_stream.proofs.Putting.{put_behind}
use Rattle.proof_stream.proofs.frame_writer.put_header.Goals as goal

pub returns : goal.returns
returns c =
    put_behind c.args.magic (to_be_bytes w16 c.args.size) c.to_be_bytes.result c.args.out.now.items c.extend_from_slice.new.self.items c.extend_from_slice-2.new.self.items
    c.extend_from_slice-2.result c.in_ok-extend_from_slice.ensures.items c.to_be_bytes.ensures c.extend_from_slice-2.ensures.items
