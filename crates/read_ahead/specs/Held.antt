-- What was read ahead.
use Rattle.std.specs.Prelude.{ℕ, List, slice_range}
use Rattle.read_ahead.specs.declared.ahead.ReadAhead.{ReadAhead}

-- the bytes that were read from the source and not yet given
abbrev pub held : ReadAhead → List ℕ
held ahead = slice_range ahead.bytes.items ahead.begin ahead.end
