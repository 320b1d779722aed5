-- The rows of `specs/FormatRows` hold.
use Rattle.std.proofs.Common.{◌≡◌, [], refl, arith}
use Rattle.std.specs.Prelude.{replicate}
use Rattle.core_terms.specs.Types.{UnitTy}
use Rattle.definition_rows.specs.FormatRows.{FormatRows}

pub format_rows : FormatRows
format_rows = record {
  too_short_digests = λ h. let k : 31 ≡ 32 = h.digest_length (λ bytes. replicate 32 0) (λ bytes. refl) UnitTy [] in absurd (omega (arith, k));
  too_short_a_magic = λ h. let k : 3 ≡ 4 = h.magic_length in absurd (omega (arith, k));
  too_short_an_image_magic = λ h. let k : 3 ≡ 4 = h.image_magic_length in absurd (omega (arith, k));
  second_magic = λ text most. (refl, refl);
  first_magic = λ most. (refl, refl);
  second_limit = λ text most. (refl, refl);
  second_print = λ text most hash t. (refl, refl);
  second_digest = λ text most hash bytes. refl;
  second_arrays = λ text most. (refl, refl);
  code_magics = (refl, refl, refl, refl);
  code_limits = (refl, refl);
  code_arrays = (refl, refl);
  code_prints = λ hash text t. (refl, refl);
  code_fronts = λ hash text t. (refl, refl);
  program_digests = λ hash text bytes t. (refl, refl);
  program_prints = λ hash text t. refl;
}
