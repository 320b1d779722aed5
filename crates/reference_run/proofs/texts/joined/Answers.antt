use Rattle.std.proofs.Common.{◌≡◌, ◌<◌, ◌≤◌, ◌++◌, ◌∙◌, ap, sym, length-append, arith, le-ltb, lt-ltb}
use Rattle.std.specs.String.{string_bytes}
use Rattle.core_terms.specs.Formats.{depth_limit}
use Rattle.core_terms.specs.Programs.{meaning}
use Rattle.core_terms.specs.Types.{TextTy}
use Rattle.core_terms.specs.Values.{TextV, depth, size}
use Rattle.core_terms.proofs.CodePrograms.{is_format}
use Rattle.ideal_meaning.specs.Run.{Gives}
use Rattle.reference_run.proofs.Limits.{limited_big, limited_gives}
use Rattle.reference_run.proofs.ValueViews.{plain-TextValue}
use Rattle.reference_run.proofs.texts.joined.Goals as goal

pub returns-then-x-y : goal.returns-then-x-y
returns-then-x-y c = λ k seen.
    let P = meaning c.args.program.now in
    let both = c.args.x.now ++ c.args.y.now in
    let long = length-append c.args.x.now c.args.y.now in
    let big : P.format.limit < size P.types TextTy (TextV both) = omega (arith, long, c.spelling_limit.ensures, c.if-x-y.true) in
    (seen, limited_big P.format.limit P.types TextTy (TextV both) k seen (lt-ltb _ _ big))

pub returns : goal.returns
returns c = λ k seen.
    let P = meaning c.args.program.now in
    let both = c.args.x.now ++ c.args.y.now in
    let long = length-append c.args.x.now c.args.y.now in
    let fits : size P.types TextTy (TextV both) ≤ P.format.limit = omega (arith, long, c.spelling_limit.ensures, (is_format c.args.program.now).limit_holds, c.if-x-y.false) in
    let shallow : depth P.types TextTy (TextV both) ≤ depth_limit = omega arith in
    let same : string_bytes c.push_str.new.self ≡ both = c.in_ok-push_str.ensures.bytes ∙ ap (λ bytes. bytes ++ c.args.y.now) c.in_ok-text.ensures.ok in
    (seen, limited_gives P.format.limit P.types TextTy (TextV both) k seen (le-ltb _ _ fits) (le-ltb _ _ shallow) ∙ ap (λ v. Gives v k seen) (sym (plain-TextValue c.push_str.new.self ∙ ap TextV same)))
