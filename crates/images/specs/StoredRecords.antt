-- What is loaded of an image: nodes that stand for what its records stand for.
use Rattle.std.specs.Prelude.{◌≡◌, ℕ, List, [], ◌∷◌, Option, Some, None, option_map, slice_get, nat_eq, Result, Ok, Err, if◌then◌else◌}
use Rattle.std.specs.Option.{option_and_then}
use Rattle.core_terms.specs.Types.{Ty}
use Rattle.core_terms.specs.Terms.{Program}
use Rattle.core_terms.specs.ProgramTypes.{types_by_number, types_meaning}
use Rattle.core_terms.specs.declared.program_types.Types.{Types}
use Rattle.images.specs.Images.{Entry, Loading, FaultyImage, checked_entry}
use Rattle.images.specs.Loads.{TellsFault}
use Rattle.images.specs.declared.fault.ImageFault.{ImageFault}
use Rattle.value_store.specs.Markings.{Marking, kind_of, seen_as}
use Rattle.value_store.specs.Nodes.{Node}
use Rattle.value_store.specs.Standing.{StandsFor}
use Rattle.value_store.specs.declared.node.Ref.{Ref}
use Rattle.core_terms.specs.declared.types.TyId.{TyId}
use Rattle.images.specs.declared.stored.StoredRecord.{StoredRecord}

module _ (marking : Marking) (P : Program) (types : List Ty) (nodes : List Node) where
  -- The node stands, over nodes of the marker's kind, for the entry's value as it is seen there; and the entry's type has the number,
  -- among the program's types.
  pub record IsStored (stored : StoredRecord) (e : Entry) : Type 0 where
    pub of_type : slice_get types stored.ty.0 ≡ Some e.of_type
    pub stands : StandsFor (kind_of marking P) P.types nodes stored.value.0 e.of_type (seen_as marking P e.of_type e.value)

  -- one after another, for as many entries
  abbrev pub AreStored : List StoredRecord → List Entry → Type 0
  AreStored [] [] = Unit {0}
  AreStored (r ∷ rs) (e ∷ es) = IsStored r e × AreStored rs es
  AreStored rs es = ⊥

  -- the result tells what a record stands for, with which loading goes on, and where that is stored; or the fault
  abbrev pub IsLoaded : ((Entry → Loading) → Loading) → Result StoredRecord ImageFault → Type 0
  IsLoaded loading (Ok stored) = (e : Entry) × IsStored stored e × ((go : Entry → Loading) → loading go ≡ go e)
  IsLoaded loading (Err fault) = (go : Entry → Loading) → TellsFault (λ f. loading go ≡ FaultyImage f) fault

-- the records of a program with these types are stored
abbrev pub AreKept : Marking → Types → List Node → List StoredRecord → List Entry → Type 0
AreKept marking types = AreStored marking (types_meaning types) (types_by_number types)

-- The result tells what the record with this number of a program with these types stands for, and where that is stored: this entry, where there
-- is one and it passes the checks; or the fault.
abbrev pub LoadsEntry : Marking → Types → List Node → ℕ → Option Entry → Result StoredRecord ImageFault → Type 0
LoadsEntry marking types nodes number found result =
    (size : ℕ) → IsLoaded marking (types_meaning types) (types_by_number types) nodes (λ go. checked_entry (types_meaning types) size number found go) result

-- the nodes of the records with these numbers, where each is one of the type with the number beside it
abbrev pub refs_from : List StoredRecord → List ℕ → List TyId → Option (List Ref)
refs_from loaded [] [] = Some []
refs_from loaded (i ∷ is) (t ∷ ts) =
    option_and_then (λ (r : StoredRecord). if nat_eq r.ty.0 t.0 then option_map (λ refs. r.value ∷ refs) (refs_from loaded is ts) else None) (slice_get loaded i)
refs_from loaded is ts = None

-- the first of the records with these numbers
abbrev pub first_from : List StoredRecord → List ℕ → Option StoredRecord
first_from loaded [] = None
first_from loaded (i ∷ is) = slice_get loaded i
