-- The records that are saved so far.
use Rattle.std.specs.Prelude.{◌≡◌, ◌≢◌, ◌⊎◌, ℕ, ◌+◌, ◌<◌, ◌≤◌, List, [], ◌∷◌, ◌++◌, length, map, Option, Some, IsSome, Result, Ok, Err, nat_eq, slice_get, unwrap_or, if◌then◌else◌, ⊤}
use Rattle.core_terms.specs.Types.{Table}
use Rattle.images.specs.Images.{Entry}
use Rattle.images.specs.SavedImages.{records_bytes}
use Rattle.images.specs.declared.fault.SaveFault.{SaveFault}
use Rattle.images.specs.declared.fault.SaveFault.TheVariants.{TooLong, NoMemory}
use Rattle.value_store.specs.Nodes.{Form}
use Rattle.images.specs.FirstNodes.{KeepsFirst}
use Rattle.images.specs.FormRecords.{bytes_of, joined, record_at}
use Rattle.images.specs.NodeNumbers.{number_in}
use Rattle.images.specs.declared.save.records.Records.{Records}
use Rattle.value_store.specs.declared.node.Ref.{Ref}

-- the records as bytes, in the order of the image
abbrev pub records_in : Records → List (List ℕ)
records_in records = map bytes_of records.records.keys

-- and one behind the other
abbrev pub bytes_in : Records → List ℕ
bytes_in records = joined (records_in records)

-- the first node of each record is kept, and is one of these
abbrev pub KeepsNodes : Records → Type 0
KeepsNodes records = KeepsFirst records.first_nodes

abbrev pub node_numbers : Records → List ℕ
node_numbers records = map (λ (r : Ref). r.0) records.first_nodes.nodes.items

-- the number of the record of a node that has one
abbrev pub number_at : Records → ℕ → Option ℕ
number_at records r = number_in records.numbers r

abbrev pub number_or_first : Records → ℕ → ℕ
number_or_first records r = unwrap_or (number_at records r) 0

-- each of these nodes has a record
abbrev pub HaveRecords : Records → List ℕ → Type 0
HaveRecords records [] = Unit {0}
HaveRecords records (r ∷ rs) = IsSome (number_at records r) × HaveRecords records rs

-- the record of a node of this form
abbrev pub record_for : Records → Form → List ℕ
record_for records form = record_at (number_or_first records) form

-- the record is none of these
abbrev pub IsNew : List ℕ → Records → Type 0
IsNew found records = (i : ℕ) → slice_get (records_in records) i ≢ Some found

-- the record was there, or is added behind the others, with its node where these are kept
abbrev pub IsAmongOld : (old new : Records) → Type 0
IsAmongOld old new = (records_in new ≡ records_in old) × (KeepsNodes new → KeepsNodes old × (node_numbers new ≡ node_numbers old))

abbrev pub IsBehindOld : ℕ → List ℕ → (old new : Records) → Type 0
IsBehindOld node found old new =
    IsNew found old × (records_in new ≡ records_in old ++ found ∷ [])
    × (KeepsNodes new → KeepsNodes old × (node_numbers new ≡ node_numbers old ++ node ∷ []))

-- the record of a node is there once, with this number
abbrev pub HasNumber : ℕ → List ℕ → (old new : Records) → ℕ → Type 0
HasNumber node found old new number =
    (slice_get (records_in new) number ≡ Some found) × (IsAmongOld old new ⊎ IsBehindOld node found old new)

-- the record of the node of this form is there once, and the node has its number
abbrev pub IsAdded : ℕ → Form → (old new : Records) → Type 0
IsAdded node form old new =
    (number : ℕ) × HasNumber node (record_for old form) old new number × ((r : ℕ) → number_at new r ≡ (if nat_eq node r then Some number else number_at old r))

-- why a record isn't added: it is new, and too long to stand behind the others
abbrev pub IsTooMuch : List ℕ → Records → SaveFault → Type 0
IsTooMuch found records TooLong = IsNew found records × (records.most < length (bytes_in records) + length found)
IsTooMuch found records NoMemory = ⊤

-- the records are those of these entries, where they have no more than so many bytes
abbrev pub AreSaved : ℕ → Table → List Entry → Result Records SaveFault → Type 0
AreSaved most types entries (Ok records) =
    (length (records_in records) ≡ length entries) × (bytes_in records ≡ records_bytes types entries entries) × (length (bytes_in records) ≤ most)
AreSaved most types entries (Err TooLong) = most < length (records_bytes types entries entries)
AreSaved most types entries (Err NoMemory) = ⊤
