-- The rows of `specs/CauseRows` hold.
use Rattle.std.specs.Prelude.{refl}
use Rattle.definition_rows.specs.CauseRows.{CauseRows}

pub cause_rows : CauseRows
cause_rows = record {
  cause_of_each_end = λ want wire. (refl, refl, refl, refl, refl, refl, refl);
  digests_are_told = λ want found. refl;
}
