use Rattle.std.proofs.Common.{◌∙◌, sym, suc, ◌-◌, ◌+◌, length, get_or, arith}
use Rattle.lexemes.specs.Places.{HasRoom}
use Rattle.lexemes.proofs.PlaceLemmas.{room_behind_byte, behind-drop}
use Rattle.lexemes.proofs.place.Place.behind.Goals as goal

pub loop-byte-preserved : goal.loop-byte-preserved
loop-byte-preserved c =
    let bytes = c.args.bytes.now in
    let i = c.loop-byte.byte-index in
    let rest = length bytes - (i + 1) in
    let room : HasRoom c.loop-byte.at (suc rest) = (omega arith, omega arith, omega arith) in
    rw c.behind_byte-at.ensures
    (record {
      place = sym (behind-drop c.loop-byte.at bytes i (omega arith)) ∙ c.loop-byte.invariant.place;
      room = room_behind_byte c.loop-byte.at (get_or bytes i 0) rest room;
    })
