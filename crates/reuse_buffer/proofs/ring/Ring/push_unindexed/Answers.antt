use Rattle.std.proofs.Common.{◌≡◌, ◌+◌, ◌∙◌, arith, min}
use Rattle.reuse_buffer.specs.declared.held_piece.HeldPiece.{HeldPiece}
use Rattle.reuse_buffer.proofs.Linking.{seen, seen_last}
use Rattle.reuse_buffer.proofs.ring.Ring.push_unindexed.Goals as goal

pub returns-clause-pieces : goal.returns-clause-pieces
returns-clause-pieces c =
    let held : HeldPiece = record { bytes = c.args.piece; bucket = 0; between = 0 } in
    let behind : c.held_behind-self-inside.result ≡ min c.self.inside.pieces.capacity (c.self.inside.held + 1) =
    omega (arith, c.held_behind-self-inside.ensures, c.capacity.ensures.capacity) in
    rw c.push_front-oldest.ensures.items
    (seen c.self.inside.pieces.capacity c.self.inside.held c.held_behind-self-inside.result held c.self.inside.pieces.items c.args.self.now behind c.self.view_is)

pub returns-clause-last : goal.returns-clause-last
returns-clause-last c = λ recent before. returns-clause-pieces c ∙ seen_last c.args.self.now c.args.piece.items recent before
