use Rattle.std.proofs.Common.{drop}
use Rattle.proof_stream.specs.Readers.{limit_of, piece_of}
use Rattle.proof_stream.proofs.Taking.{kind_known}
use Rattle.proof_stream.proofs.frame_reader.FrameReader.next.Goals as goal

pub returns-in-1-clause-takes : goal.returns-in-1-clause-takes
returns-in-1-clause-takes g c = λ bytes told.
    let kind = c.in_ok-kind.ensures.came bytes told in
    kind_known (limit_of c.args.self.now) _ 1 bytes (piece_of c.args.self.now) (g.S.Source.left c.read_kind.new.source) (g.S.Source.left c.next_back.new.source) c.next_back.result c.in-1.is kind
    (c.next_back.ensures.takes (limit_of c.args.self.now) (piece_of c.args.self.now) (drop 1 bytes) kind.2)

pub returns-in-1-clause-hand : goal.returns-in-1-clause-hand
returns-in-1-clause-hand g c = c.next_back.ensures.hand (limit_of c.args.self.now) (piece_of c.args.self.now)
