use Rattle.std.proofs.Common.{ℕ, ◌≤◌, subst, drop}
use Rattle.wire_form.proofs.Coming.{whole_came}
use Rattle.wire_form.proofs.Moving.{moves_on}
use Rattle.wire_form.proofs.Waits.{field_waits, whole_waits}
use Rattle.wire_form.specs.Incoming.{BodyCame}
use Rattle.wire_form.proofs.reading.read_whole.Goals as goal

pub returns-clause-came : goal.returns-clause-came
returns-clause-came g c = λ bytes told.
    let head = c.in_ok-len.ensures.came bytes told in
    let body = c.read_body.ensures.came (drop 4 bytes) head.3 in
    let Fits : ℕ → Type 0 = λ n. n ≤ 16777216 in
    let Came : ℕ → Type 0 = λ n. BodyCame n (drop 4 bytes) (g.L.Source.left c.read_body.new.link) c.read_body.result in
    whole_came bytes _ _ head.0 (subst Fits head.1 head.2) (subst Came head.1 body)

pub returns-clause-moves : goal.returns-clause-moves
returns-clause-moves g c = moves_on _ _ _ _ _ _ c.in_ok-len.ensures.moves c.read_body.ensures.moves

pub returns-in_err-len-clause-waits : goal.returns-in_err-len-clause-waits
returns-in_err-len-clause-waits g c = λ bytes told. field_waits bytes _ _ _ (c.read_length.ensures.waits bytes told)

pub returns-clause-waits : goal.returns-clause-waits
returns-clause-waits g c = λ bytes told.
    let head = c.in_ok-len.ensures.came bytes told in
    whole_waits bytes c.in_ok-len.len _ _ _ _ _ head.0 head.1 head.2 c.read_length.ensures.sent (c.read_length.ensures.waits bytes told)
    (c.read_body.ensures.waits (drop 4 bytes) head.3)
