use Rattle.std.proofs.Common.{◌≡◌, ◌∷◌, ℕ, drop, Vec, Global, Ok, ap, sym, subst}
use Rattle.proof_stream.specs.declared.frame.Frame.TheVariants.{New}
use Rattle.proof_stream.specs.TakenFrames.{TakesFrame}
use Rattle.proof_stream.specs.Readers.{limit_of, piece_of}
use Rattle.proof_stream.proofs.Taking.{ends_with, length_ends, piece_ends, piece_taken}
use Rattle.proof_stream.proofs.frame_reader.FrameReader.next_new.Goals as goal

pub returns-in_err-len-clause-takes : goal.returns-in_err-len-clause-takes
returns-in_err-len-clause-takes g c = λ bytes told.
    ends_with (TakesFrame (limit_of c.args.self.now) (0 ∷ bytes) (piece_of c.args.self.now) (g.S.Source.left c.read_length.new.source)) _ _ c.from_residual.ensures.1
    (length_ends (limit_of c.args.self.now) bytes (piece_of c.args.self.now) _ _ (c.in_err-len.ensures.came bytes told))

pub returns-in_err-read_piece-clause-takes : goal.returns-in_err-read_piece-clause-takes
returns-in_err-read_piece-clause-takes g c = λ bytes told.
    let head = c.in_ok-len.ensures.came bytes told in
    ends_with (TakesFrame (limit_of c.args.self.now) (0 ∷ bytes) (piece_of c.args.self.now) (g.S.Source.left c.read_piece.new.source)) _ _ c.from_residual-in_err-read_piece.ensures.1
    (piece_ends (limit_of c.args.self.now) bytes c.read_piece.new.piece.items c.in_ok-len.len (g.S.Source.left c.read_length.new.source) _ _ head
    (c.in_err-read_piece.ensures.came (drop 4 bytes) head.3))

pub returns-clause-takes : goal.returns-clause-takes
returns-clause-takes g c = λ bytes told.
    let limit = limit_of c.args.self.now in
    let head = c.in_ok-len.ensures.came bytes told in
    let is : c.swap.new.x.items ≡ c.read_piece.new.piece.items = ap (λ (v : Vec ℕ Global). v.items) c.swap.ensures.x_after in
    subst (λ piece. TakesFrame limit (0 ∷ bytes) piece (g.S.Source.left c.read_piece.new.source) (Ok New)) (sym is)
    (piece_taken limit bytes c.read_piece.new.piece.items c.in_ok-len.len (g.S.Source.left c.read_length.new.source) (g.S.Source.left c.read_piece.new.source) head
    (c.in_ok-read_piece.ensures.came (drop 4 bytes) head.3))
