use Rattle.std.proofs.Common.{◌≡◌, rules, sym, ◌∙◌, arith}
use Rattle.std.proofs.KnownBytes.{prepend_known-nil}
use Rattle.read_ahead.specs.Held.{held}
use Rattle.read_ahead.proofs.Filling.{none_held, on_err}
use Rattle.read_ahead.proofs.ahead.ReadAhead.read.Goals as goal

pub returns-then-into-ge-MOST_ROOM-clause-bytes : goal.returns-then-into-ge-MOST_ROOM-clause-bytes
returns-then-into-ge-MOST_ROOM-clause-bytes g c =
    let w = c.args.self.now in
    let none = none_held w (omega (arith, c.if-self.false)) in
    rw (none, prepend_known-nil (g.R.Read.remaining c.args.source.now), prepend_known-nil (g.R.Read.remaining c.read.new.self)) c.read.ensures.bytes

pub returns-then-into-len-clause-bytes : goal.returns-then-into-len-clause-bytes
returns-then-into-len-clause-bytes g c =
    let w = c.args.self.now in
    let none = none_held w (omega (arith, c.if-self.false)) in
    rw (none, c.make_room.ensures.none, prepend_known-nil (g.R.Read.remaining c.args.source.now), prepend_known-nil (g.R.Read.remaining c.read-then-into-len.new.self))
    c.read-then-into-len.ensures.bytes

pub returns-in_err-fill-clause-bytes : goal.returns-in_err-fill-clause-bytes
returns-in_err-fill-clause-bytes g c =
    let w = c.args.self.now in
    let none = none_held w (omega (arith, c.if-self.false)) in
    let same : held w ≡ held c.make_room.new.self = none ∙ sym c.make_room.ensures.none in
    rw same (search (rules, c.in_err-fill.ensures, c.from_residual.ensures))

pub returns-then-into-ge-MOST_ROOM-clause-fault : goal.returns-then-into-ge-MOST_ROOM-clause-fault
returns-then-into-ge-MOST_ROOM-clause-fault g c = on_err c.read.result (none_held c.args.self.now (omega (arith, c.if-self.false)))

pub returns-then-into-len-clause-fault : goal.returns-then-into-len-clause-fault
returns-then-into-len-clause-fault g c = on_err c.read-then-into-len.result (none_held c.args.self.now (omega (arith, c.if-self.false)))

pub returns-in_err-fill-clause-fault : goal.returns-in_err-fill-clause-fault
returns-in_err-fill-clause-fault g c = on_err c.from_residual.result (none_held c.args.self.now (omega (arith, c.if-self.false)))
