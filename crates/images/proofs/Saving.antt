-- What is saved so far of a value, and what waits.
use Rattle.std.proofs.Common.{◌≡◌, ℕ, List, [], ◌∷◌, ◌++◌, map, drop, Some, slice_get, refl, ap, ◌∙◌}
use Rattle.core_terms.specs.Types.{Table}
use Rattle.core_terms.specs.Values.{IsIdeal}
use Rattle.images.specs.Images.{Entry}
use Rattle.images.specs.Parts.{HasLength}
use Rattle.images.specs.SavedImages.{distinct, record_bytes, records_bytes, walk}
use Rattle.value_store.specs.Nodes.{Node}
use Rattle.images.specs.FormRecords.{joined}
use Rattle.images.specs.SavedRecords.{KeepsNodes, bytes_in, node_numbers, number_at, records_in}
use Rattle.images.specs.declared.save.Frame.{Frame}
use Rattle.images.specs.declared.save.records.Records.{Records}
use Rattle.images.proofs.AmongEntries.{IsAmong, AreAmong}
use Rattle.images.proofs.EntryParts.{parts, walks}
use Rattle.images.specs.KeptNodes.{AllHave}
use Rattle.images.proofs.NodeEntries.{StandsAs, StandAs}
use Rattle.images.proofs.NumberedEntries.{AreOnce}
use Rattle.images.proofs.RecordReading.{record_of}

-- all that the walk over the entry meets is among these
pub record IsPlaced (types : Table) (done : List Entry) (e : Entry) : Type 0 where
  pub ideal : IsIdeal types e.of_type e.value
  pub has_length : HasLength e.of_type
  pub walked : AreAmong done (walk types e.of_type e.value)

-- The records are those of these entries, each behind its parts, and the nodes with numbers stand for them; the first nodes too, where
-- they are kept.
pub record AreNumbered (types : Table) (nodes : List Node) (done : List Entry) (records : Records) : Type 0 where
  pub keys : records_in records ≡ map (record_of types done) done
  pub placed : (e : Entry) → IsAmong done e → IsPlaced types done e
  pub once : AreOnce done
  pub have : KeepsNodes records → AllHave types nodes records (node_numbers records)
  pub stand : KeepsNodes records → StandAs types nodes (node_numbers records) done
  pub numbers : (r n : ℕ) → number_at records r ≡ Some n → (e : Entry) × StandsAs types nodes r e × (slice_get done n ≡ Some e)

-- the entries that are still to be met, where these nodes wait, the one that is walked now first
abbrev pub AreLeft : Table → List Node → List Frame → List Entry → Type 0
AreLeft types nodes [] left = left ≡ []
AreLeft types nodes (f ∷ fs) left =
    (e : Entry) × (rest : List Entry) × StandsAs types nodes f.node.0 e
    × (left ≡ walks types (drop f.next (parts types e.of_type e.value)) ++ (e ∷ rest)) × AreLeft types nodes fs rest

-- the entries so far, and those that are wanted in the end
pub record Saving (types : Table) (nodes : List Node) (wanted : List Entry) (records : Records) (frames : List Frame) : Type 0 where
  pub done : List Entry
  pub numbered : AreNumbered types nodes done records
  pub left : List Entry
  pub are_left : AreLeft types nodes frames left
  pub met : distinct done left ≡ wanted

records_joined : (types : Table) (done es : List Entry) → joined (map (record_of types done) es) ≡ records_bytes types done es
records_joined types done [] = refl
records_joined types done (e ∷ es) = ap (λ bytes. record_bytes types done e.of_type e.value ++ bytes) (records_joined types done es)

-- the bytes of the records are those of the entries
pub bytes_numbered : (types : Table) (nodes : List Node) (done : List Entry) (records : Records) → AreNumbered types nodes done records
    → bytes_in records ≡ records_bytes types done done
bytes_numbered types nodes done records h = ap joined h.keys ∙ records_joined types done done
