-- The rows of `specs/SpellingRows` hold.
use Rattle.std.specs.Prelude.{refl}
use Rattle.std.specs.Str.{is_utf8, chars}
use lib.Utf8.{encode}
use Rattle.definition_rows.specs.SpellingRows.{SpellingRows}

pub spelling_rows : SpellingRows
unfolding is_utf8 chars encode
spelling_rows = record {
  long_int_is_read = refl;
  text_is_read_before_another = refl;
  level_513_is_refused_at_the_end = refl;
}
