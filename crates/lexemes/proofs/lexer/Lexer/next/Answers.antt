use Rattle.std.proofs.Common.{◌≡◌, ◌∙◌, ap, arith, length, Some, length-take, length-drop}
use Rattle.lexemes.specs.Tokens.{PassedOver, Taken, Wrong, Next}
use Rattle.lexemes.specs.PieceViews.{head_piece}
use Rattle.lexemes.specs.TokenViews.{token_view}
use Rattle.lexemes.proofs.TokenLemmas.{found_piece, piece_is_part, tokens-passed_over, tokens-taken, same_left}
use Rattle.lexemes.proofs.lexer.Lexer.next.Goals as goal

pub pass-requires : goal.pass-requires
pass-requires c =
    let format = c.loop-piece.self.format in
    let text = c.loop-piece.self.rest.now in
    let found : Some (PassedOver c.in-PassedOver.size) ≡ head_piece format text = found_piece format text _ _ _ c.in_ok-piece.ensures c.in-Some.is c.in-PassedOver.is in
    (piece_is_part format text (PassedOver c.in-PassedOver.size) found).1

pub loop-piece-smaller : goal.loop-piece-smaller
loop-piece-smaller c =
    let format = c.loop-piece.self.format in
    let text = c.loop-piece.self.rest.now in
    let found : Some (PassedOver c.in-PassedOver.size) ≡ head_piece format text = found_piece format text _ _ _ c.in_ok-piece.ensures c.in-Some.is c.in-PassedOver.is in
    let part = piece_is_part format text (PassedOver c.in-PassedOver.size) found in
    omega (arith, ap length c.pass.ensures.rest, length-drop c.in-PassedOver.size text)

pub loop-piece-preserved : goal.loop-piece-preserved
loop-piece-preserved c =
    let format = c.loop-piece.self.format in
    let text = c.loop-piece.self.rest.now in
    let found : Some (PassedOver c.in-PassedOver.size) ≡ head_piece format text = found_piece format text _ _ _ c.in_ok-piece.ensures c.in-Some.is c.in-PassedOver.is in
    c.loop-piece.invariant
    ∙ (tokens-passed_over format text c.loop-piece.self.at c.in-PassedOver.size found ∙ same_left _ _ _ _ _ _ c.pass.ensures.format c.pass.ensures.at c.pass.ensures.rest)

pub pass-requires-in-Taken : goal.pass-requires-in-Taken
pass-requires-in-Taken c =
    let format = c.loop-piece.self.format in
    let text = c.loop-piece.self.rest.now in
    let found : Some (Taken (token_view c.in-Taken.token) c.in-Taken.size) ≡ head_piece format text = found_piece format text _ _ _ c.in_ok-piece.ensures c.in-Some.is c.in-Taken.is in
    (piece_is_part format text (Taken (token_view c.in-Taken.token) c.in-Taken.size) found).1

pub returns-in-Taken : goal.returns-in-Taken
returns-in-Taken c =
    let format = c.loop-piece.self.format in
    let text = c.loop-piece.self.rest.now in
    let found : Some (Taken (token_view c.in-Taken.token) c.in-Taken.size) ≡ head_piece format text = found_piece format text _ _ _ c.in_ok-piece.ensures c.in-Some.is c.in-Taken.is in
    c.loop-piece.invariant
    ∙ (tokens-taken format text c.loop-piece.self.at (token_view c.in-Taken.token) c.in-Taken.size found
    ∙ ap (Next c.loop-piece.self.at (token_view c.in-Taken.token)) (same_left _ _ _ _ _ _ c.pass-in-Taken.ensures.format c.pass-in-Taken.ensures.at c.pass-in-Taken.ensures.rest))

pub slice_bounds-behind-end : goal.slice_bounds-behind-end
slice_bounds-behind-end c =
    let format = c.loop-piece.self.format in
    let text = c.loop-piece.self.rest.now in
    let found : Some (Wrong c.in-Wrong.kind c.in-Wrong.offset) ≡ head_piece format text = found_piece format text _ _ _ c.in_ok-piece.ensures c.in-Some.is c.in-Wrong.is in
    let part = piece_is_part format text (Wrong c.in-Wrong.kind c.in-Wrong.offset) found in
    grind (arith, length-take)
