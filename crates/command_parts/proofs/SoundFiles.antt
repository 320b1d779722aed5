-- The programs of texts and of accepted objects are sound.
use Rattle.std.proofs.Common.{◌≡◌, ◌⊎◌, inl, inr, ◌≤◌, ℕ, List, [], length, true, nat_le, le-leb, refl, sym, subst}
use Rattle.core_terms.specs.Formats.{Format, IsFormat}
use Rattle.core_terms.specs.Terms.{Program}
use Rattle.core_terms.proofs.LawProofs.{each_format_is_format}
use Rattle.auth_types.proofs.SoundPrograms.{checked_is_within_limits, parsed_is_typed}
use Rattle.declared_types.specs.DeclaredPrograms.{format_of}
use Rattle.auth_types.specs.CheckedPrograms.{declared_text_of}
use Rattle.core_terms.specs.ProgramLimits.{most_constructors}
use Rattle.core_terms.specs.Types.{Ty, has_tags}
use Rattle.core_terms.specs.declared.format.Format.TheVariants.{First}
use Rattle.core_terms.proofs.Limited.{all_pass, limited_tags}
use Rattle.object_meaning.proofs.ObjectPrograms.{objects_are_sound}
use Rattle.object_meaning.proofs.ReadWithin.{objects_are_within}
use Rattle.command_parts.specs.FilePrograms.{longest_program, program_of_file}
use Rattle.command_parts.specs.SoundPrograms.{IsOneOfTwo, IsSound}
use Rattle.command_parts.specs.TextPrograms.{IsProgram, program_of_text}
use Rattle.command_parts.proofs.FileReadings.{IsOfObject, IsOfText, object_fits, object_or_text}
use Rattle.command_parts.proofs.PassedTrees.{passes, text_of_program}

pub text_is_sound : (text : List ℕ) (P : Program) → program_of_text text ≡ IsProgram P → IsSound P
text_is_sound text P e =
    let found = text_of_program text P e in
    let typed = parsed_is_typed text found.tree P found.parsed found.checked in
    record { typed = typed.0; shaped = typed.1; format = (format_of found.tree, declared_text_of found.tree, (passes found.tree P found.passed).format) }

object_is_sound : (bytes : List ℕ) (P : Program) → IsOfObject bytes P → IsSound P
object_is_sound bytes P of = subst IsSound of.program (
    let sound = objects_are_sound bytes of.object of.accepted in
    record { typed = sound.passes; shaped = sound.shaped; format = (First, [], refl) })

pub file_is_sound : (bytes : List ℕ) (P : Program) → program_of_file bytes ≡ IsProgram P → IsSound P
file_is_sound bytes P is = by (object_or_text bytes P is)
  where
    by : IsOfObject bytes P ⊎ IsOfText bytes P → IsSound P
    by (inl of) = object_is_sound bytes P of
    by (inr of) = text_is_sound bytes P of.program

-- each of their constructors has a tag of one byte
text_tags : (text : List ℕ) (P : Program) → program_of_text text ≡ IsProgram P → has_tags P.types ≡ true
text_tags text P e =
    let found = text_of_program text P e in
    let limits = checked_is_within_limits found.tree P found.passed in
    all_pass (λ (constructors : List (List Ty)). length constructors ≤ most_constructors)
    (λ (constructors : List (List Ty)). nat_le (length constructors) 255) (λ constructors few. le-leb (length constructors) 255 few) P.types limits.constructors

pub file_tags : (bytes : List ℕ) (P : Program) → length bytes ≤ longest_program bytes → program_of_file bytes ≡ IsProgram P → has_tags P.types ≡ true
file_tags bytes P fits is = by (object_or_text bytes P is)
  where
    by : IsOfObject bytes P ⊎ IsOfText bytes P → has_tags P.types ≡ true
    by (inl of) = subst (λ (P : Program). has_tags P.types ≡ true) of.program (limited_tags _ (objects_are_within bytes of.object (object_fits bytes fits) of.accepted))
    by (inr of) = text_tags bytes P of.program

-- their format is one that the laws speak of
one_of_two : (format : Format) → IsOneOfTwo format → IsFormat format
one_of_two format (one, text, is) = subst IsFormat (sym is) (each_format_is_format one text)

pub sound_format : (P : Program) → IsSound P → IsFormat P.format
sound_format P sound = one_of_two P.format sound.format
