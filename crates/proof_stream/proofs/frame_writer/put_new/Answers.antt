use Rattle.std.proofs.Common.{[], ◌∷◌, ◌++◌, length, sym, ap₂, ◌∙◌, append-nil, append_assoc}
use Rattle.std.specs.Int.{w32, to_be_bytes}
use Rattle.proof_stream.proofs.Putting.{put_behind}
use Rattle.proof_stream.proofs.frame_writer.put_new.Goals as goal

pub returns : goal.returns
returns c =
    let head = to_be_bytes w32 (length c.args.piece.now) in
    put_behind (0 ∷ head) (c.args.piece.now ++ []) c.args.piece.now c.args.out.now.items c.extend_from_slice.new.self.items c.extend_from_slice-2.new.self.items c.extend_from_slice-2.result
    (c.in_ok-extend_from_slice.ensures.items ∙ ap₂ (λ xs ys. xs ++ ys) c.in_ok-push.ensures.items c.to_be_bytes.ensures ∙ append_assoc c.args.out.now.items (0 ∷ []) head)
    (sym (append-nil c.args.piece.now)) c.extend_from_slice-2.ensures.items
