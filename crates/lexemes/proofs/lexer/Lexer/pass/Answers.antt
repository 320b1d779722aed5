use Rattle.std.proofs.Common.{◌≡◌, ◌+◌, ◌-◌, length, take, drop, arith, length-take, length-drop}
use Rattle.lexemes.specs.Places.{HasRoom}
use Rattle.lexemes.proofs.PlaceLemmas.{room_behind}
use Rattle.lexemes.proofs.lexer.Lexer.pass.Goals as goal

pub invariant_of-self : goal.invariant_of-self
invariant_of-self c =
    let lexer = c.args.self.now in
    let text = lexer.rest.now in
    let passed = take c.args.size text in
    let left = length (take (length text - c.args.size) (drop c.args.size text)) in
    let same : length passed + left ≡ length text = grind (arith, length-take, length-drop) in
    let before : HasRoom lexer.at (length text) = lexer.counted in
    let room : HasRoom lexer.at (length passed + left) = (omega arith, omega arith, omega arith) in
    record { counted = rw c.behind-self.ensures (room_behind lexer.at passed left room) }
