use Rattle.std.proofs.Common.{◌≡◌, ◌-◌, length, drop}
use Rattle.lexemes.specs.Places.{behind, HasRoom}
use Rattle.lexemes.proofs.place.Place.behind.Given as goal

abbrev pub invariant-loop-byte : goal.invariant-loop-byte
invariant-loop-byte l = record {
  place : behind l.at (drop l.byte-index l.bytes) ≡ behind l.fn.self l.bytes;
  room : HasRoom l.at (length l.bytes - l.byte-index);
}
