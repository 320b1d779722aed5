use Rattle.std.proofs.Common.{rules, ◌≡◌, ◌+◌, ◌≤◌, ◌++◌, length, take, ap, ◌∙◌, arith, length-append, length-take}
use Rattle.std.proofs.lemmas.Grind.{common_steps}
use Rattle.std.specs.Io.KnownBytes.{prepend_known}
use Rattle.lam_outside.proofs.Moved.{prepend_twice}
use Rattle.proof_stream.proofs.frame_reader.FrameReader.count_rest.Goals as goal

pub loop-count-preserved : goal.loop-count-preserved
loop-count-preserved g c =
    let taken = c.loop-count.invariant.came.0 in
    let more = take c.in_ok-read.read c.read.new.into in
    let bound : c.in_ok-read.read ≤ length c.read.new.into = search rules in
    let size : length (taken ++ more) ≡ c.loop-count.count + c.in_ok-read.read =
    omega (arith, length-append taken more, length-take c.in_ok-read.read c.read.new.into, bound, c.loop-count.invariant.came.1) in
    record {
      within = grind (arith, common_steps);
      came = (
        taken ++ more,
        size,
        c.loop-count.invariant.came.2 ∙ ap (prepend_known taken) c.in_ok-read.ensures.bytes.fewer_left ∙ prepend_twice (g.S.Source.left c.read.new.self) taken more,
      );
      rest = search rules;
      faults = search rules;
    }
