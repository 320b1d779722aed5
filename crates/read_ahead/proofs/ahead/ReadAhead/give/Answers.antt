use Rattle.std.proofs.Common.{◌≡◌, ◌≤◌, ◌+◌, ◌++◌, take, drop, sym, ap, ◌∙◌, arith, take-append-drop}
use Rattle.std.proofs.lemmas.Grind.{common_steps}
use Rattle.read_ahead.specs.Held.{held}
use Rattle.read_ahead.proofs.Filling.{behind}
use Rattle.read_ahead.proofs.ahead.ReadAhead.give.Goals as goal

pub returns-clause-bytes : goal.returns-clause-bytes
returns-clause-bytes c =
    let w = c.args.self.now in
    let n = c.min-count.result in
    let within : w.begin + n ≤ w.end = grind (arith, common_steps) in
    let front : take n (c.copy_from_slice.new.self ++ drop n c.args.into.now) ≡ take n (held w) = grind (arith, common_steps) in
    sym (take-append-drop n (held w)) ∙ ap (λ l. l ++ drop n (held w)) (sym front)
    ∙ ap (λ l. take n (c.copy_from_slice.new.self ++ drop n c.args.into.now) ++ l) (sym (behind w.bytes.items w.begin w.end n within))
