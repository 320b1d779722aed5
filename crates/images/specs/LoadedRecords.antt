-- How the results of the code tell what loading the records of an image gives.
use Rattle.std.specs.Prelude.{◌≡◌, ℕ, List, Result, Ok, Err}
use Rattle.core_terms.specs.Types.{Ty}
use Rattle.core_terms.specs.Values.{Value}
use Rattle.core_terms.specs.Terms.{Program}
use Rattle.images.specs.Images.{Entry, Image, Loading, FaultyImage, Loaded, Refused, Root, with_record}
use Rattle.images.specs.Loads.{TellsFault}
use Rattle.images.specs.Records.{RecordRead, ReadRecord}
use Rattle.images.specs.declared.fault.ImageFault.{ImageFault}
use Rattle.value_store.specs.Markings.{Marking, kind_of, seen_as}
use Rattle.value_store.specs.Nodes.{Node}
use Rattle.value_store.specs.Standing.{StandsFor}
use Rattle.value_store.specs.Stores.{nodes_in}
use Rattle.value_store.specs.declared.node.Ref.{Ref}
use Rattle.images.specs.ReadRecords.{record_told}
use Rattle.images.specs.StoredRecords.{AreStored}
use Rattle.images.specs.declared.load.Records.{Records}
use Rattle.images.specs.declared.record.Front.{Front}

-- The result tells what stands at the front, a record and the bytes behind it; or the fault of the record with this number, in an image of
-- so many bytes.
abbrev pub IsRecordFront : Program → (size number : ℕ) → RecordRead → Result Front ImageFault → Type 0
IsRecordFront P size number read (Ok front) = read ≡ ReadRecord (record_told front.record) front.rest.now
IsRecordFront P size number read (Err fault) =
    (entries : List Entry) (go : Entry → List ℕ → Loading) → TellsFault (λ f. with_record P size number entries read go ≡ FaultyImage f) fault

-- the result tells what loading gives: all records, each stored, and the bytes behind them; or the fault
abbrev pub AreLoaded : Marking → Program → List Ty → Loading → Result Records ImageFault → Type 0
AreLoaded marking P types loading (Ok records) =
    (entries : List Entry) × (loading ≡ Loaded entries records.rest.now) × AreStored marking P types (nodes_in records.store) records.loaded entries
AreLoaded marking P types loading (Err fault) = TellsFault (λ f. loading ≡ FaultyImage f) fault

-- the result tells the root, which stands for the value of the image's; or the fault
abbrev pub IsRoot : Marking → Program → List Node → Image → Result Ref ImageFault → Type 0
IsRoot marking P nodes image (Ok root) = (v : Value) × (image ≡ Root v) × StandsFor (kind_of marking P) P.types nodes root.0 P.state (seen_as marking P P.state v)
IsRoot marking P nodes image (Err fault) = TellsFault (λ f. image ≡ Refused f) fault
