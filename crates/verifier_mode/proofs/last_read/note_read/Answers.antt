use Rattle.std.proofs.Common.{◌≡◌, ◌∙◌, ◌++◌, true, if◌then◌else◌, is_ok, ap, sym, subst}
use Rattle.verifier_mode.specs.LastReads.{IsRead}
use Rattle.verifier_mode.proofs.last_read.note_read.Goals as goal

pub returns-then-is_ok : goal.returns-then-is_ok
returns-then-is_ok c types nodes knows read =
    let empty = c.piece_of-noted.result.items in
    let piece = c.args.piece.now in
    let whole : is_ok c.extend_from_slice.result ≡ true = sym c.is_ok.ensures.value ∙ c.if-is_ok.true in
    let items = c.extend_from_slice.ensures.items ∙ ap (λ b. if b then empty ++ piece else empty) whole ∙ ap (λ l. l ++ piece) c.piece_of-noted.ensures in
    subst (λ l. IsRead types nodes c.args.ty l c.args.value) (sym items) read
