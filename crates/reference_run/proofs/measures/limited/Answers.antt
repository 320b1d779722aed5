use Rattle.std.proofs.Common.{◌<◌, ◌≤◌, arith, le-ltb, lt-ltb}
use Rattle.core_terms.specs.Formats.{depth_limit}
use Rattle.core_terms.specs.Programs.{meaning}
use Rattle.core_terms.specs.Values.{depth, size}
use Rattle.core_terms.proofs.CodePrograms.{is_format}
use Rattle.reference_run.specs.PlainValues.{plain_of}
use Rattle.reference_run.proofs.Limits.{above, below, limited_big, limited_deep, limited_gives}
use Rattle.reference_run.proofs.measures.limited.Goals as goal

pub returns-then-measures-spelling_limit : goal.returns-then-measures-spelling_limit
returns-then-measures-spelling_limit c = λ t h k seen.
    let P = meaning c.args.program.now in
    let v = plain_of c.args.value in
    let big : P.format.limit < size P.types t v = above _ c.args.measures.size _ h.0 (omega (arith, c.spelling_limit.ensures, c.if-measures-spelling_limit.true)) in
    (seen, limited_big P.format.limit P.types t v k seen (lt-ltb _ _ big))

pub returns-then-measures-gt-DEPTH_LIMIT : goal.returns-then-measures-gt-DEPTH_LIMIT
returns-then-measures-gt-DEPTH_LIMIT c = λ t h k seen.
    let P = meaning c.args.program.now in
    let v = plain_of c.args.value in
    let fits : size P.types t v ≤ P.format.limit =
    below _ c.args.measures.size _ h.0 (omega (arith, c.spelling_limit.ensures, c.if-measures-spelling_limit.false)) (is_format c.args.program.now).limit_fits in
    let deep : depth_limit < depth P.types t v = above _ c.args.measures.depth _ h.1 (omega (arith, c.if-measures-gt-DEPTH_LIMIT.true)) in
    (seen, limited_deep P.format.limit P.types t v k seen (le-ltb _ _ fits) (lt-ltb _ _ deep))

pub returns : goal.returns
returns c = λ t h k seen.
    let P = meaning c.args.program.now in
    let v = plain_of c.args.value in
    let fits : size P.types t v ≤ P.format.limit =
    below _ c.args.measures.size _ h.0 (omega (arith, c.spelling_limit.ensures, c.if-measures-spelling_limit.false)) (is_format c.args.program.now).limit_fits in
    let shallow : depth P.types t v ≤ depth_limit = below _ c.args.measures.depth _ h.1 (omega (arith, c.if-measures-gt-DEPTH_LIMIT.false)) (omega arith) in
    (seen, limited_gives P.format.limit P.types t v k seen (le-ltb _ _ fits) (le-ltb _ _ shallow))
