-- The laws, from the lemmas.
use Rattle.std.proofs.Common.{ℕ, List, ◌++◌, refl, lit<, lit≤}
use Rattle.core_terms.specs.Formats.{IsFormat, fingerprint}
use Rattle.core_terms.specs.ProgramFormats.{format_with}
use Rattle.core_terms.specs.declared.format.Format.{Format}
use Rattle.core_terms.specs.declared.format.Format.TheVariants.{First, Second}
use Rattle.core_terms.specs.Laws.{FirstFormatIsFormat, FormatsAreTheTwo, NoneIsPrefix, OneIsSpelled, PlainIsOwnProjection, ProjectionIsReadBack, ProjectionIsShallow, ProjectionKeepsLimits, ReadingIsExact, SecondFormatIsFormat, ShapeTestIsExact, SizeIsLength, TypingTestIsExact}
use Rattle.core_terms.proofs.Plain.{own}
use Rattle.core_terms.proofs.Projection.{size_shallow, depth_shallow}
use Rattle.core_terms.proofs.ReadBack.{shallow_is, reads_back}
use Rattle.core_terms.proofs.ReadOnly.{read_spells}
use Rattle.core_terms.proofs.Shapes.{roles_sound, roles_complete}
use Rattle.core_terms.proofs.Spelled.{length_spelling, spells_read, spells_one, spells_prefix}
use Rattle.core_terms.proofs.TypingComplete.{typed_complete}
use Rattle.core_terms.proofs.TypingSound.{typed_sound}

pub first_format_is_format : FirstFormatIsFormat
first_format_is_format most small =
    record { digest_length = λ hash is_hash t bytes. is_hash bytes; limit_fits = lit< tt; message_fits = lit≤ tt; limit_holds = lit≤ tt; magic_length = refl; image_magic_length = refl; kept_fits = small }

pub second_format_is_format : SecondFormatIsFormat
second_format_is_format text most small =
    record {
      digest_length = λ hash is_hash t bytes. is_hash (fingerprint hash (hash text) t ++ bytes);
      limit_fits = lit< tt;
      message_fits = lit≤ tt;
      limit_holds = lit≤ tt;
      magic_length = refl;
      image_magic_length = refl;
      kept_fits = small;
    }

pub formats_are_the_two : FormatsAreTheTwo
formats_are_the_two text = (refl, refl)

-- so each is one that the laws speak of
pub each_format_is_format : (format : Format) (text : List ℕ) → IsFormat (format_with format text)
each_format_is_format First text = first_format_is_format 1024 (lit< tt)
each_format_is_format Second text = second_format_is_format text 1024 (lit< tt)

pub reading_is_exact : ReadingIsExact
reading_is_exact limit fits types bytes t s h = (λ r. spells_read types limit fits bytes t s r, λ r. read_spells types limit bytes t s _ r.0 h r.1)

pub one_is_spelled : OneIsSpelled
one_is_spelled limit fits types bytes t s s' h j = spells_one types limit fits bytes t s s' h j

pub none_is_prefix : NoneIsPrefix
none_is_prefix limit fits types bytes more t s s' h j = spells_prefix types limit fits bytes more t s s' h j

pub size_is_length : SizeIsLength
size_is_length types t s h = length_spelling types t s h

pub projection_keeps_limits : ProjectionKeepsLimits
projection_keeps_limits digest types t v = (size_shallow digest types t v, depth_shallow digest types t v)

pub projection_is_shallow : ProjectionIsShallow
projection_is_shallow digest long types t v h = shallow_is digest long types t v h

pub plain_is_own_projection : PlainIsOwnProjection
plain_is_own_projection digest types t v p h = own digest types t v p h

pub projection_is_read_back : ProjectionIsReadBack
projection_is_read_back digest long limit fits types t v h = reads_back digest long types limit fits t v h

pub typing_test_is_exact : TypingTestIsExact
typing_test_is_exact P = (typed_sound P, typed_complete P)

pub shape_test_is_exact : ShapeTestIsExact
shape_test_is_exact P = (roles_sound P, roles_complete P)
