-- The rows of `specs/FrontRows` hold.
use Rattle.std.proofs.Common.{ℕ, List, [], ◌∷◌, map, Option, refl, ap₂, ◌∙◌}
use Rattle.std.specs.Prelude.{codes, slice_get, slice_index_or}
use Rattle.core_terms.specs.Formats.{fingerprint}
use Rattle.core_terms.specs.Fronts.{or_else}
use Rattle.core_terms.specs.ProgramTrees.{types_at}
use Rattle.core_terms.specs.TypeDeclarations.{types_text}
use Rattle.core_terms.specs.Types.{Ty, UnitTy, IntTy, AuthTy}
use Rattle.core_terms.specs.declared.digest.Digest.{Digest}
use Rattle.core_terms.specs.declared.term.Constructor.{Constructor}
use Rattle.core_terms.specs.declared.types.TyId.{TyId}
use Rattle.definition_rows.specs.FrontRows.{FrontRows}

pub front_rows : FrontRows
front_rows = record {
  texts_of_lengths = (refl, refl, refl);
  text_of_the_second = refl;
  text_of_a_type = λ declared constructor name constructors constructor_name fields.
      let types = UnitTy ∷ AuthTy IntTy ∷ [] in
      ap₂ (λ (name : List ℕ) (cs : List Constructor). types_text (name ∷ []) (map (λ (c : Constructor). c.name) cs ∷ []) (map (λ (c : Constructor). types_at types c.fields.items) cs ∷ []))
      name constructors
      ∙ ap₂ (λ (name : List ℕ) (ids : List TyId). types_text (codes "box" ∷ []) ((name ∷ []) ∷ []) ((types_at types ids ∷ []) ∷ [])) constructor_name fields;
  format_of_a_program = λ format forms named state functions. refl;
  bytes_of_a_digest = λ digest other. (refl, refl);
  first_of_two = λ digest other. (refl, refl);
  kept_by_number = λ fronts digest unit prints of_unit.
      (ap₂ (λ (ds : List Digest) (d : Option Digest). or_else (slice_get ds 0) d) prints of_unit, ap₂ (λ (ds : List Digest) (d : Option Digest). or_else (slice_get ds 1) d) prints of_unit);
  prints_of_leaves = λ hash declared. (refl, refl, refl, refl);
  print_of_a_pair = λ hash declared first second. refl;
  print_of_a_named_type = λ hash declared. refl;
  print_of_an_auth = λ hash declared part. refl;
  print_of_an_array = λ hash declared part. refl;
  print_of_another_number = λ hash declared. refl;
  prints_of_a_program = λ hash types digest by_number text h.
      h.1 0 digest refl ∙ ap₂ (λ (text : List ℕ) (ts : List Ty). fingerprint hash (hash text) (slice_index_or ts 0 UnitTy)) text by_number;
}
