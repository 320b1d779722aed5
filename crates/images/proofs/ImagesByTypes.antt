-- What an image gives depends on the types of a program alone, and not on its functions.
use Rattle.std.proofs.Common.{◌≡◌, ℕ, zero, suc, List, [], ◌∷◌, ◌++◌, length, take, drop, Option, Some, None, Vec, refl, ap}
use Rattle.std.specs.declared.alloc.Global.{Global}
use Rattle.std.specs.Int.{w32, from_be_bytes}
use Rattle.core_terms.specs.ProgramTypes.{types_meaning}
use Rattle.core_terms.specs.ProgramParts.{program_of_parts}
use Rattle.core_terms.specs.Terms.{Program}
use Rattle.core_terms.specs.declared.instruction.Instruction.{Instruction}
use Rattle.core_terms.specs.declared.program_types.Types.{Types}
use Rattle.core_terms.specs.declared.term.Function.{Function}
use Rattle.images.specs.Images.{Entry, Loading, as_image, checked_entry, field_count, headed, image_of, load_records, stands_for, with_record, within_limits}
use Rattle.images.specs.Records.{RecordRead, ReadRecord, CutRecord, NoRecord, read_record}

module _ (types : Types) (functions : List Function) (code : Option (Vec (Vec Instruction Global) Global)) where
  abbrev P : Program
  P = program_of_parts types functions code

  abbrev Q : Program
  Q = types_meaning types

  module _ (file_size : ℕ) where
    checked_alike : (i : ℕ) (o : Option Entry) (go other : Entry → Loading) → ((e : Entry) → go e ≡ other e) → checked_entry P file_size i o go ≡ checked_entry Q file_size i o other
    checked_alike i None go other same = refl
    checked_alike i (Some e) go other same = ap (within_limits P file_size i e) (same e)

    record_alike : (i : ℕ) (entries : List Entry) (read : RecordRead) (go other : Entry → List ℕ → Loading) → ((e : Entry) (rest : List ℕ) → go e rest ≡ other e rest)
        → with_record P file_size i entries read go ≡ with_record Q file_size i entries read other
    record_alike i entries CutRecord go other same = refl
    record_alike i entries NoRecord go other same = refl
    record_alike i entries (ReadRecord found rest) go other same =
        checked_alike i (stands_for P.types entries found) (λ e. go e rest) (λ e. other e rest) (λ e. same e rest)

    loads_alike : (count : ℕ) (entries : List Entry) (bytes : List ℕ) → load_records P file_size count entries bytes ≡ load_records Q file_size count entries bytes
    loads_alike zero entries bytes = refl
    loads_alike (suc more) entries bytes =
        record_alike (length entries) entries (read_record P.format.arrays (field_count P file_size) bytes)
        (λ e rest. load_records P file_size more (entries ++ e ∷ []) rest) (λ e rest. load_records Q file_size more (entries ++ e ∷ []) rest)
        (λ e rest. loads_alike more (entries ++ e ∷ []) rest)

  pub images_alike : (digest bytes : List ℕ) → image_of P digest bytes ≡ image_of Q digest bytes
  images_alike digest bytes =
      let count = from_be_bytes w32 (take 4 (drop 36 bytes)) in
      let records = drop 40 bytes in
      ap (λ (loading : Loading). headed P.format.image_magic digest bytes (λ _ _. as_image P.state loading)) (loads_alike (length bytes) count [] records)
