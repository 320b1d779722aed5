use Rattle.std.proofs.Common.{◌<◌, ◌≤◌, get_or, length, reverse, arith}
use Rattle.std.proofs.lemmas.Option.{slice_get-get_or}
use Rattle.core_terms.specs.Programs.{types_in}
use Rattle.code_check.specs.declared.known.Known.TheVariants.{Unreached}
use Rattle.code_check.proofs.GoneWays.{reached, too_many, past_end}
use Rattle.code_check.proofs.known.reach.Goals as goal
use Rattle.code_check.proofs.known.reach.Goals.{then-count-gt-MOST_LOCALS-via-then-count-gt-MOST_LOCALS, then-count-gt-MOST_LOCALS-via-else-count-gt-MOST_LOCALS+then-passed-behind}

pub returns-then-count-gt-MOST_LOCALS : goal.returns-then-count-gt-MOST_LOCALS
returns-then-count-gt-MOST_LOCALS c = λ ks s h w.
    elim c.then-count-gt-MOST_LOCALS.branch [
      | then-count-gt-MOST_LOCALS-via-then-count-gt-MOST_LOCALS v ↦
          let many : 255 < length (reverse s.locals) = omega (arith, v.if-count-gt-MOST_LOCALS.true, c.count.ensures (reverse s.locals) w.0) in
          too_many (types_in c.args.lists.now.types) c.args.behind.now c.args.behind.now ks c.args.passed s many
      | then-count-gt-MOST_LOCALS-via-else-count-gt-MOST_LOCALS+then-passed-behind v ↦
          past_end (types_in c.args.lists.now.types) c.args.behind.now c.args.behind.now ks c.args.passed s h v.if-passed-behind.true
    ]

pub returns : goal.returns
returns c = λ ks s h w.
    let few : length (reverse s.locals) ≤ 255 = omega (arith, c.if-count-gt-MOST_LOCALS.false, c.count.ensures (reverse s.locals) w.0) in
    reached (types_in c.args.lists.now.types) c.args.behind.now ks c.args.passed s (get_or c.args.behind.now c.args.passed Unreached) c.met.result h few
    (slice_get-get_or c.args.behind.now c.args.passed Unreached c.if-passed-behind.false) (λ k i. c.met.ensures k s i w)
