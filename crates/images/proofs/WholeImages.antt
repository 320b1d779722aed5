-- The header and the records, as the image of a state.
use Rattle.std.proofs.Common.{◌≡◌, ℕ, ◌+◌, List, [], ◌++◌, length, Vec, Ok, Err, ap, ap₂, ◌∙◌, arith, length-append}
use Rattle.std.specs.Int.{w32, to_be_bytes}
use Rattle.std.specs.declared.alloc.Global.{Global}
use Rattle.core_terms.specs.Terms.{Program}
use Rattle.core_terms.specs.Values.{Value}
use Rattle.images.specs.Images.{Entry}
use Rattle.images.specs.SavedImages.{distinct, records_bytes, saved_image, walk}
use Rattle.images.specs.Saves.{IsSaved}
use Rattle.images.specs.declared.fault.SaveFault.{SaveFault}
use Rattle.images.specs.declared.fault.SaveFault.TheVariants.{TooLong, NoMemory}
use Rattle.images.specs.FormRecords.{most_bytes}
use Rattle.images.specs.SavedRecords.{AreSaved, bytes_in, records_in}
use Rattle.images.specs.declared.save.records.Records.{Records}

module _ (P : Program) (magic_length : length P.format.image_magic ≡ 4) (digest : List ℕ) (digest_length : length digest ≡ 32) (v : Value) where
  abbrev entries : List Entry
  entries = distinct [] (walk P.types P.state v)

  length-image : length (saved_image P digest v) ≡ 40 + length (records_bytes P.types entries entries)
  length-image =
      let front = P.format.image_magic ++ digest ++ to_be_bytes w32 (length entries) in
      let all = length-append front (records_bytes P.types entries entries) in
      let header = length-append (P.format.image_magic ++ digest) (to_be_bytes w32 (length entries)) in
      let start = length-append P.format.image_magic digest in
      all ∙ omega (arith, header, start, magic_length, digest_length)

  pub image_refused : (fault : SaveFault) → AreSaved most_bytes P.types entries (Err fault) → IsSaved (saved_image P digest v) (Err fault)
  image_refused NoMemory h = h
  image_refused TooLong h = let all = length-image in omega (arith, all, h)

  pub image_made : (records : Records) (told header : List ℕ) (count : ℕ) (image : Vec ℕ Global) → AreSaved most_bytes P.types entries (Ok records) → told ≡ digest → count ≡ length (records_in records)
      → header ≡ P.format.image_magic ++ told ++ to_be_bytes w32 count → image.items ≡ header ++ bytes_in records → IsSaved (saved_image P digest v) (Ok image)
  image_made records told header count image h is_told is_count is_header is_image =
      let front = ap₂ (λ (told : List ℕ) (n : ℕ). P.format.image_magic ++ told ++ to_be_bytes w32 n) is_told (is_count ∙ h.0) in
      let all = length-image in
      let bytes = ap length h.1 in
      (is_image ∙ ap₂ (λ (a b : List ℕ). a ++ b) (is_header ∙ front) h.1, omega (arith, all, bytes, h.2))
