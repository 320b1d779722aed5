use Rattle.std.proofs.Common.{◌≡◌, ◌≤◌, ◌∙◌, length, arith}
use Rattle.proof_stream.proofs.Heads.{cut_head, whole_head}
use Rattle.proof_stream.proofs.frame_reader.FrameReader.header.Goals as goal

pub returns-in-Some-clause-takes : goal.returns-in-Some-clause-takes
returns-in-Some-clause-takes g c = λ bytes told.
    let six : length c.fill.new.into ≡ 6 = c.fill.auto.into in
    let whole : 6 ≤ c.in_ok-count.count = omega arith in
    let head = whole_head c.in_ok-count.count c.fill.new.into bytes _ _ told c.in_ok-count.ensures.left six whole in
    (λ format magic most. head.0 format ∙ c.in-Some.ensures.is format magic most, head.1)

pub returns-in-None-clause-takes : goal.returns-in-None-clause-takes
returns-in-None-clause-takes g c = λ bytes told.
    let six : length c.fill.new.into ≡ 6 = c.fill.auto.into in
    let whole : 6 ≤ c.in_ok-count.count = omega arith in
    let head = whole_head c.in_ok-count.count c.fill.new.into bytes _ _ told c.in_ok-count.ensures.left six whole in
    (λ format magic most. head.0 format ∙ c.in-None.ensures.is format magic most, head.1)

pub returns-then-count-lt6-clause-takes : goal.returns-then-count-lt6-clause-takes
returns-then-count-lt6-clause-takes g c = λ bytes told.
    let six : length c.fill.new.into ≡ 6 = c.fill.auto.into in
    let head = cut_head c.in_ok-count.count c.fill.new.into bytes _ _ told c.in_ok-count.ensures.left six c.if-count-lt6.true c.in_ok-count.ensures.at_end in
    (λ format magic most. head.0 format, head.1)
