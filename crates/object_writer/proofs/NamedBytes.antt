-- The named type with a number, as the code of a program declares it.
use Rattle.std.proofs.Common.{◌≡◌, ◌<◌, ℕ, suc, List, [], ◌∷◌, length, map, get_or, None, Some, slice_get, option_map, unwrap_or, refl, sym, ap, ap₂, ◌∙◌, subst}
use Rattle.std.specs.Prelude.{All}
use Rattle.std.proofs.lemmas.List.{get_or-map, length-map}
use Rattle.std.proofs.lemmas.List.Elements.{All-get_or}
use Rattle.std.proofs.lemmas.Option.{get_or_from_slice_get, slice_get-get_or, slice_get-map, slice_get_within}
use Rattle.core_terms.specs.ProgramTrees.{types_at}
use Rattle.core_terms.specs.ProgramTypes.{named_table, types_by_number}
use Rattle.core_terms.specs.TypeNames.{all_constructor_names}
use Rattle.core_terms.specs.Types.{Ty, NamedTy}
use Rattle.core_terms.specs.declared.program_types.Types.{Types}
use Rattle.core_terms.specs.declared.term.Constructor.{Constructor}
use Rattle.core_terms.specs.declared.term.NamedType.{NamedType}
use Rattle.object_meaning.specs.Objects.{ListedNamed}
use Rattle.object_meaning.specs.WrittenObjects.{constructors_written, type_written}
use Rattle.object_writer.specs.WrittenTypes.{HasFewParts, constructor_list, named_at, named_written}

nothing : (listing : List Ty) (names : List (List ℕ)) → constructors_written listing [] names ≡ []
nothing listing names = refl

module _ (types : Types) where
  abbrev fields : NamedType → List (List Ty)
  fields declared = map (λ (c : Constructor). types_at (types_by_number types) c.fields.items) declared.constructors.items

  abbrev names : NamedType → List (List ℕ)
  names declared = map (λ (c : Constructor). c.name) declared.constructors.items

  -- what a declaration with this number is written as
  pub named_found : (listing : List Ty) (i : ℕ) (declared : NamedType) → slice_get types.named.items i ≡ Some declared → named_at listing types i ≡ named_written listing (types_by_number types) declared
  named_found listing i declared at =
      let a : slice_get (named_table types) i ≡ Some (fields declared) = slice_get-map fields types.named.items i ∙ ap (option_map fields) at in
      let b : slice_get (all_constructor_names types.named.items) i ≡ Some (names declared) = slice_get-map names types.named.items i ∙ ap (option_map names) at in
      ap₂ (λ o p. ListedNamed (constructors_written listing (unwrap_or o []) (unwrap_or p []))) a b

  pub named_missing : (listing : List Ty) (i : ℕ) → slice_get types.named.items i ≡ None → named_at listing types i ≡ ListedNamed []
  named_missing listing i at =
      let a : slice_get (named_table types) i ≡ None = slice_get-map fields types.named.items i ∙ ap (option_map fields) at in
      ap (λ o. ListedNamed (constructors_written listing (unwrap_or o []) (unwrap_or (slice_get (all_constructor_names types.named.items) i) []))) a
      ∙ ap ListedNamed (nothing listing (unwrap_or (slice_get (all_constructor_names types.named.items) i) []))

  pub named_there : (listing : List Ty) (i : ℕ) (declared : NamedType) → i < length types.named.items → declared ≡ get_or types.named.items i declared
      → type_written listing (named_table types) (all_constructor_names types.named.items) (NamedTy i) ≡ named_written listing (types_by_number types) declared
  named_there listing i declared inside at = named_found listing i declared (slice_get-get_or types.named.items i declared inside ∙ ap Some (sym at))

  pub few_there : (i : ℕ) (declared : NamedType) → i < length types.named.items → declared ≡ get_or types.named.items i declared → All HasFewParts (named_table types) → HasFewParts (fields declared)
  few_there i declared inside at few =
      let long : i < length (named_table types) = subst (λ n. i < n) (sym (length-map types.named.items fields)) inside in
      subst HasFewParts (get_or-map fields types.named.items i declared (fields declared) inside ∙ ap fields (sym at))
      (All-get_or HasFewParts (named_table types) i (fields declared) long few)

  pub few_found : (i : ℕ) (declared : NamedType) → slice_get types.named.items i ≡ Some declared → All HasFewParts (named_table types) → HasFewParts (fields declared)
  few_found i declared at few =
      let inside = slice_get_within types.named.items i declared at in
      few_there i declared inside (sym (get_or_from_slice_get types.named.items i declared declared at)) few

-- as many constructors as are declared
pub as_many : (listing types : List Ty) (cs : List Constructor) → length (constructor_list listing types cs) ≡ length cs
as_many listing types [] = refl
as_many listing types (c ∷ cs) = ap suc (as_many listing types cs)
