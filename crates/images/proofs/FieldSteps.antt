-- The nodes of fields, found one after another.
use Rattle.std.proofs.Common.{◌≡◌, ℕ, suc, ◌+◌, ◌*◌, ◌<◌, Bool, true, false, List, [], ◌∷◌, ◌++◌, length, take, drop, drop-cons, Option, Some, None, slice_get, slice_index_or, option_map, nat_eq, if◌then◌else◌, refl, sym, ap, ◌∙◌, add-one, append_assoc, arith}
use Rattle.std.specs.Option.{option_and_then}
use Rattle.std.specs.Int.{w32, from_be_bytes}
use Rattle.images.specs.Records.{numbers_of}
use Rattle.core_terms.specs.declared.types.TyId.{TyId}
use Rattle.value_store.specs.declared.node.Ref.{Ref}
use Rattle.images.specs.StoredRecords.{refs_from}
use Rattle.images.specs.declared.stored.StoredRecord.{StoredRecord}

-- what a field that was found gives, in front of those of the rest
abbrev pub with_field : TyId → Option (List Ref) → StoredRecord → Option (List Ref)
with_field ty more r = if nat_eq r.ty.0 ty.0 then option_map (λ refs. r.value ∷ refs) more else None

pub nothing_found : (loaded : List StoredRecord) (o : Option (List Ref)) (refs : List Ref) (whole : Option (List Ref)) → o ≡ None → option_map (λ more. refs ++ more) o ≡ whole → None ≡ whole
nothing_found loaded o refs whole none found = ap (option_map (λ more. refs ++ more)) (sym none) ∙ found

pub one_found : (o : Option (List Ref)) (refs : List Ref) (r : Ref) → option_map (λ more. (refs ++ r ∷ []) ++ more) o ≡ option_map (λ more. refs ++ more) (option_map (λ more. r ∷ more) o)
one_found None refs r = refl
one_found (Some more) refs r = ap Some (rw append_assoc refl)

module _ (loaded : List StoredRecord) (types : List TyId) (i : ℕ) (d : TyId) (below : i < length types) (rest : List ℕ) where
  -- those of the rest of the fields
  abbrev pub from_rest : Option (List Ref)
  from_rest = refs_from loaded (numbers_of (length (drop i types)) rest) (drop i types)

  abbrev pub from_behind : List ℕ → Option (List Ref)
  from_behind behind = refs_from loaded (numbers_of (length (drop (i + 1) types)) behind) (drop (i + 1) types)

  rest_is : drop i types ≡ slice_index_or types i d ∷ drop (i + 1) types
  rest_is = drop-cons types i d below ∙ ap (λ n. slice_index_or types i d ∷ drop n types) (sym (add-one i))

  module _ (bytes behind : List ℕ) (is_bytes : bytes ≡ take 4 rest) (is_behind : behind ≡ drop 4 rest) where
    field_from : from_rest ≡ option_and_then (with_field (slice_index_or types i d) (from_behind behind)) (slice_get loaded (from_be_bytes w32 bytes))
    field_from =
        ap (λ ts. refs_from loaded (numbers_of (length ts) rest) ts) rest_is
        ∙ ap (λ bytes. option_and_then (with_field (slice_index_or types i d) (from_behind (drop 4 rest))) (slice_get loaded (from_be_bytes w32 bytes))) (sym is_bytes)
        ∙ ap (λ behind. option_and_then (with_field (slice_index_or types i d) (from_behind behind)) (slice_get loaded (from_be_bytes w32 bytes))) (sym is_behind)

    module _ (number : ℕ) (is_number : number ≡ from_be_bytes w32 bytes) where
      at_number : (o : Option StoredRecord) → o ≡ slice_get loaded number → from_rest ≡ option_and_then (with_field (slice_index_or types i d) (from_behind behind)) o
      at_number o at = field_from ∙ ap (option_and_then (with_field (slice_index_or types i d) (from_behind behind))) (ap (slice_get loaded) (sym is_number) ∙ sym at)

      -- no record has the number
      pub no_record : None ≡ slice_get loaded number → from_rest ≡ None
      no_record at = at_number None at

      module _ (r : StoredRecord) (at : Some r ≡ slice_get loaded number) (b : Bool) (same : b ≡ nat_eq r.ty.0 (slice_index_or types i d).0) where
        -- the record is of another type
        pub other_type : b ≡ false → from_rest ≡ None
        other_type differs = at_number (Some r) at ∙ ap (λ b. if b then option_map (λ refs. r.value ∷ refs) (from_behind behind) else None) (sym same ∙ differs)

        -- the record is of the type
        pub field_found : b ≡ true → from_rest ≡ option_map (λ refs. r.value ∷ refs) (from_behind behind)
        field_found is_same = at_number (Some r) at ∙ ap (λ b. if b then option_map (λ refs. r.value ∷ refs) (from_behind behind) else None) (sym same ∙ is_same)

        pub next_found : b ≡ true → (refs pushed : List Ref) (whole : Option (List Ref)) → pushed ≡ refs ++ r.value ∷ [] → option_map (λ more. refs ++ more) from_rest ≡ whole
            → option_map (λ more. pushed ++ more) (from_behind behind) ≡ whole
        next_found is_same refs pushed whole is found =
            ap (λ refs. option_map (λ more. refs ++ more) (from_behind behind)) is ∙ one_found (from_behind behind) refs r.value
            ∙ ap (option_map (λ more. refs ++ more)) (sym (field_found is_same)) ∙ found

  -- 4 bytes fewer are left
  pub fewer_left : (behind : List ℕ) → length rest ≡ 4 * length (drop i types) → length behind + 4 ≡ length rest → length behind ≡ 4 * length (drop (i + 1) types)
  fewer_left behind left more = let one : length (drop i types) ≡ suc (length (drop (i + 1) types)) = ap length rest_is in omega (arith, one, left, more)
