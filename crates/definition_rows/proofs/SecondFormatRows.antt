-- The rows of `specs/SecondFormatRows` hold.
use Rattle.std.specs.Prelude.{[], ◌∷◌, bytes_eq, T, refl}
use Rattle.std.proofs.Common.{ap, nat_lt, if◌then◌else◌, subst}
use Rattle.core_terms.specs.Reading.{BadAt, read_value, whole}
use Rattle.core_terms.specs.Types.{IntTy}
use Rattle.definition_rows.specs.SecondFormatRows.{SecondFormatRows}

pub second_format_rows : SecondFormatRows
second_format_rows = record {
  empty_piece_is_accepted = refl;
  digest_of_the_spelling_alone = refl;
  first_magic_is_refused = λ n. refl;
  too_many_bytes = λ bytes long. ap (λ n. if nat_lt 1048576 n then BadAt 1048576 else whole (read_value [] 512 IntTy bytes 0)) long;
  seventeen_doublings_fit = refl;
  eighteen_doublings_are_too_big = refl;
  pieces_split = ((λ e. subst (λ bytes. T (bytes_eq bytes (0 ∷ 1 ∷ []))) e tt), refl);
}
