use Rattle.std.proofs.Common.{◌<◌, ◌≤◌, ap, ◌∙◌, length, arith}
use Rattle.core_terms.specs.Programs.{types_of}
use Rattle.printed_syntax.specs.PrintedLengths.{bare_size}
use Rattle.printed_syntax.proofs.BareTypes.{all_sizes, size_added}
use Rattle.printed_syntax.proofs.printing.lengths.bare_lengths.Goals as goal

pub loop-number-preserved : goal.loop-number-preserved
loop-number-preserved c =
    let within : c.loop-number.number < length (types_of c.args.program.now) = omega (arith, c.type_count-count.ensures, c.loop-number-test.true) in
    let known = c.deref.ensures.value ∙ c.loop-number.invariant in
    let size = c.form_length-length.ensures (types_of c.args.program.now) c.loop-number.number (omega (arith, within)) known c.form.ensures.parts ∙ ap bare_size c.form.ensures.form in
    size_added (types_of c.args.program.now) c.loop-number.number c.loop-number.lengths.items c.push.new.self.items c.form_length-length.result within c.loop-number.invariant size c.in_ok-push.ensures.items

pub returns : goal.returns
returns c =
    let all : length (types_of c.args.program.now) ≤ c.loop-number.number = omega (arith, c.type_count-count.ensures, c.loop-number-test.false) in
    all_sizes (types_of c.args.program.now) c.loop-number.number c.loop-number.lengths.items all c.loop-number.invariant
