-- A text or an object has as many names of constructors as its program has constructors.
use Rattle.std.proofs.Common.{◌≡◌, ◌⊎◌, inl, inr, ℕ, List, [], ◌∷◌, length, map, slice_get, Option, Some, None, option_map, unwrap_or, refl, sym, ap, ap₂, ◌∙◌, subst}
use Rattle.std.proofs.lemmas.List.{length-map}
use Rattle.std.proofs.lemmas.Option.{slice_get-map}
use Rattle.core_terms.specs.Terms.{Program}
use Rattle.core_terms.specs.Types.{Ty}
use Rattle.object_meaning.specs.ObjectBodies.{constructor_names, listed_at, named_tables, program_in, trees_of}
use Rattle.object_meaning.specs.Objects.{ListedConstructor, ListedType, ListedUnit, ListedBool, ListedInt, ListedText, ListedPair, ListedNamed, ListedAuth}
use Rattle.auth_syntax.specs.Parsing.{parsed}
use Rattle.auth_types.proofs.SoundPrograms.{scope_is_of_program}
use Rattle.command_parts.specs.FilePrograms.{constructor_names_of_file, constructor_names_of_object, constructors_of_acceptance}
use Rattle.file_commands.specs.TextLaws.{ConstructorsAreNamed}
use Rattle.command_parts.specs.TextPrograms.{IsProgram, constructor_names_of_text, constructors_of_parsed, program_of_text}
use Rattle.command_parts.proofs.FileReadings.{IsOfObject, IsOfText, names_as_object, names_as_text, object_or_text}
use Rattle.command_parts.proofs.PassedTrees.{text_of_program}

-- the length of a list that is found
length_found : {A : Type 0} (xs : List (List A)) (n : ℕ) → length (unwrap_or (slice_get xs n) []) ≡ unwrap_or (slice_get (map length xs) n) 0
length_found {A = A} xs n = by (slice_get xs n) ∙ ap (λ o. unwrap_or o 0) (sym (slice_get-map length xs n))
  where
    by : (o : Option (List A)) → length (unwrap_or o []) ≡ unwrap_or (option_map length o) 0
    by None = refl
    by (Some ys) = refl

text_named : (text : List ℕ) (P : Program) → program_of_text text ≡ IsProgram P
    → (n : ℕ) → length (constructor_names_of_text text n) ≡ length (unwrap_or (slice_get P.types n) [])
unfolding constructor_names_of_text
text_named text P e n =
    let found = text_of_program text P e in
    let as_many = (scope_is_of_program found.tree P found.passed).constructors in
    length_found (constructors_of_parsed (parsed text)) n
    ∙ ap (λ lengths. unwrap_or (slice_get lengths n) 0) (ap (λ found. map length (constructors_of_parsed found)) found.parsed ∙ as_many)
    ∙ sym (length_found P.types n)

-- each named type of an object has as many names as constructors
module _ (trees : List Ty) where
  as_many : (types : List ListedType) → map length (constructor_names types) ≡ map length (named_tables trees types)
  as_many [] = refl
  as_many (ListedUnit ∷ types) = as_many types
  as_many (ListedBool ∷ types) = as_many types
  as_many (ListedInt ∷ types) = as_many types
  as_many (ListedText ∷ types) = as_many types
  as_many (ListedPair a b ∷ types) = as_many types
  as_many (ListedAuth a ∷ types) = as_many types
  as_many (ListedNamed cs ∷ types) =
      ap₂ (λ n ns. n ∷ ns)
      (length-map cs (λ (c : ListedConstructor). c.name) ∙ sym (length-map cs (λ (c : ListedConstructor). map (listed_at trees) c.fields)))
      (as_many types)

object_named : (bytes : List ℕ) (P : Program) → IsOfObject bytes P → (n : ℕ) → length (constructor_names_of_object bytes n) ≡ length (unwrap_or (slice_get P.types n) [])
unfolding constructor_names_of_object
object_named bytes P of n =
    ap (λ found. length (unwrap_or (slice_get (constructors_of_acceptance found) n) [])) of.accepted
    ∙ length_found (constructor_names of.object.types) n
    ∙ ap (λ lengths. unwrap_or (slice_get lengths n) 0) (as_many (trees_of of.object.types) of.object.types)
    ∙ sym (length_found (program_in of.object).types n)
    ∙ ap (λ (P : Program). length (unwrap_or (slice_get P.types n) [])) of.program

pub constructors_named : ConstructorsAreNamed
constructors_named bytes P e n = by (object_or_text bytes P e)
  where
    IsNamed : (ℕ → List (List ℕ)) → Type 0
    IsNamed names = length (names n) ≡ length (unwrap_or (slice_get P.types n) [])

    by : IsOfObject bytes P ⊎ IsOfText bytes P → IsNamed (constructor_names_of_file bytes)
    by (inl of) = subst IsNamed (sym (names_as_object bytes of.begins)) (object_named bytes P of n)
    by (inr of) = subst IsNamed (sym (names_as_text bytes of.begins)) (text_named bytes P of.program n)
