use Rattle.std.proofs.Common.{◌≡◌, ◌≤◌, ◌<◌, ◌++◌, take, length, ap, ◌∙◌, arith}
use Rattle.std.proofs.lemmas.Grind.{common_steps}
use Rattle.std.proofs.lemmas.List.{take_all}
use Rattle.lam_outside.proofs.Moved.{prepend_twice}
use Rattle.std.specs.Io.KnownBytes.{prepend_known}
use Rattle.proof_stream.specs.Incoming.{PieceCame}
use Rattle.proof_stream.specs.declared.frame.FrameEnd.TheVariants.{ReadFault}
use Rattle.proof_stream.proofs.Taking.{all_came, ends_with, took_one}
use Rattle.proof_stream.proofs.incoming.read_piece.Goals as goal

pub returns-in_err-count-clause-came : goal.returns-in_err-count-clause-came
returns-in_err-count-clause-came g c = λ bytes told.
    let held = take c.loop-start.start c.loop-start.piece.items in
    let part = c.in_err-count.ensures.part in
    let body = held ++ take part.0 c.fill.new.into in
    let some : part.0 < length c.fill.new.into = part.1 in
    let fits : length body ≤ c.args.len = grind (arith, common_steps) in
    ends_with (PieceCame c.args.len bytes _ (g.S.Source.left c.fill.new.source)) ReadFault _ c.from_residual-in_err-count.ensures.1
    (took_one c.args.len bytes body _ _ told (c.loop-start.invariant.came ∙ ap (prepend_known held) part.2 ∙ prepend_twice _ _ _) fits)

pub returns-clause-came : goal.returns-clause-came
returns-clause-came g c = λ bytes told.
    let start = c.loop-start.start in
    let items = c.loop-start.piece.items in
    let whole : length items ≡ c.args.len = omega (arith, c.loop-start-test.false, c.loop-start.invariant.there, c.loop-start.invariant.within) in
    let all : length items ≤ start = omega (arith, c.loop-start-test.false, c.loop-start.invariant.within) in
    all_came c.args.len bytes items _ _ told
    (c.loop-start.invariant.came ∙ ap (λ l. prepend_known l (g.S.Source.left c.loop-start.source)) (take_all start items all)) whole
