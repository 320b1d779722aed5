-- The records of an image, loaded one after another.
use Rattle.std.proofs.Common.{◌≡◌, ℕ, suc, ◌+◌, ◌-◌, ◌<◌, List, [], ◌∷◌, ◌++◌, length, Result, Ok, Err, sym, ap, ◌∙◌, subst, arith, length-append}
use Rattle.core_terms.specs.ProgramTypes.{types_by_number, types_meaning}
use Rattle.core_terms.specs.declared.program_types.Types.{Types}
use Rattle.images.specs.Images.{Entry, Loading, FaultyImage, checked_entry, field_count, load_records, stands_for, with_record}
use Rattle.images.specs.Loads.{TellsFault}
use Rattle.images.specs.Records.{ReadRecord, read_record}
use Rattle.images.specs.declared.fault.ImageFault.{ImageFault}
use Rattle.images.specs.LoadedRecords.{IsRecordFront}
use Rattle.images.specs.ReadRecords.{record_told}
use Rattle.images.specs.StoredRecords.{AreStored, IsLoaded}
use Rattle.images.specs.declared.record.Front.{Front}
use Rattle.images.specs.declared.stored.StoredRecord.{StoredRecord}
use Rattle.images.proofs.StoredLists.{stored_kept, stored_more}
use Rattle.value_store.specs.Markings.{Marking}
use Rattle.value_store.specs.Nodes.{Node}
use Rattle.value_store.specs.Standing.{Keeps}

module _ (p : Types) (file_size count number : ℕ) (entries : List Entry) (bytes : List ℕ) (counted : length entries ≡ number) (more : number < count) where
  -- so many more records, behind these
  abbrev pub loading : Loading
  loading = load_records (types_meaning p) file_size (count - number) entries bytes

  -- and one fewer, behind one more
  abbrev pub loading_on : Entry → List ℕ → Loading
  loading_on e rest = load_records (types_meaning p) file_size (count - (number + 1)) (entries ++ e ∷ []) rest

  -- loading, by its next record
  one_more : loading ≡ with_record (types_meaning p) file_size number entries (read_record (types_meaning p).format.arrays (field_count (types_meaning p) file_size) bytes) loading_on
  one_more =
      let left : count - number ≡ suc (count - (number + 1)) = omega arith in
      ap (λ left. load_records (types_meaning p) file_size left entries bytes) left
      ∙ ap (λ i. with_record (types_meaning p) file_size i entries (read_record (types_meaning p).format.arrays (field_count (types_meaning p) file_size) bytes) loading_on) counted

  pub front_fault : (fault : ImageFault) → IsRecordFront (types_meaning p) file_size number (read_record (types_meaning p).format.arrays (field_count (types_meaning p) file_size) bytes) (Err fault)
      → TellsFault (λ f. loading ≡ FaultyImage f) fault
  front_fault fault h = subst (λ l. TellsFault (λ f. l ≡ FaultyImage f) fault) (sym one_more) (h entries loading_on)

  module _ (front : Front) (read : read_record (types_meaning p).format.arrays (field_count (types_meaning p) file_size) bytes ≡ ReadRecord (record_told front.record) front.rest.now) where
    -- what loading goes on with, behind the record
    abbrev pub at_front : (Entry → Loading) → Loading
    at_front go = checked_entry (types_meaning p) file_size number (stands_for (types_meaning p).types entries (record_told front.record)) go

    by_front : loading ≡ at_front (λ e. loading_on e front.rest.now)
    by_front = one_more ∙ ap (λ read. with_record (types_meaning p) file_size number entries read loading_on) read

    pub stored_fault : (fault : ImageFault) → ((go : Entry → Loading) → TellsFault (λ f. at_front go ≡ FaultyImage f) fault) → TellsFault (λ f. loading ≡ FaultyImage f) fault
    stored_fault fault h = subst (λ l. TellsFault (λ f. l ≡ FaultyImage f) fault) (sym by_front) (h (λ e. loading_on e front.rest.now))

    pub stored_next : (e : Entry) → ((go : Entry → Loading) → at_front go ≡ go e) → loading_on e front.rest.now ≡ loading
    stored_next e h = sym (by_front ∙ h (λ e. loading_on e front.rest.now))

-- What is loaded so far: the entries of so many records, each stored; and loading goes on behind them as it would from the first one.
abbrev pub SoFar : Marking → Types → (file_size count : ℕ) (all : List ℕ) (number : ℕ) → List Node → List StoredRecord → (rest : List ℕ) → Type 0
SoFar marking p file_size count all number nodes records rest =
    (entries : List Entry) × (length entries ≡ number) × AreStored marking (types_meaning p) (types_by_number p) nodes records entries
    × (load_records (types_meaning p) file_size (count - number) entries rest ≡ load_records (types_meaning p) file_size count [] all)

module _ (marking : Marking) (p : Types) (file_size count : ℕ) (all : List ℕ) (number : ℕ) (nodes : List Node) (records : List StoredRecord) (rest : List ℕ)
    (so_far : SoFar marking p file_size count all number nodes records rest) (more : number < count) where
  -- the fault of the next record is that of all
  pub next_fault : (fault : ImageFault) → IsRecordFront (types_meaning p) file_size number (read_record (types_meaning p).format.arrays (field_count (types_meaning p) file_size) rest) (Err fault)
      → TellsFault (λ f. load_records (types_meaning p) file_size count [] all ≡ FaultyImage f) fault
  next_fault fault h =
      subst (λ l. TellsFault (λ f. l ≡ FaultyImage f) fault) so_far.3 (front_fault p file_size count number so_far.0 rest so_far.1 more fault h)

  module _ (front : Front) (read : read_record (types_meaning p).format.arrays (field_count (types_meaning p) file_size) rest ≡ ReadRecord (record_told front.record) front.rest.now)
      (lent : List StoredRecord) (same : lent ≡ records) (new : List Node) (result : Result StoredRecord ImageFault)
      (loads : (entries : List Entry) → AreStored marking (types_meaning p) (types_by_number p) nodes lent entries → (size : ℕ)
      → IsLoaded marking (types_meaning p) (types_by_number p) new
      (λ go. checked_entry (types_meaning p) size number (stands_for (types_meaning p).types entries (record_told front.record)) go) result) where
    loaded_next : IsLoaded marking (types_meaning p) (types_by_number p) new (at_front p file_size count number so_far.0 rest so_far.1 more front read) result
    loaded_next = loads so_far.0 (subst (λ records. AreStored marking (types_meaning p) (types_by_number p) nodes records so_far.0) (sym same) so_far.2) file_size

    pub loaded_fault : (fault : ImageFault) → result ≡ Err fault → TellsFault (λ f. load_records (types_meaning p) file_size count [] all ≡ FaultyImage f) fault
    loaded_fault fault is =
        subst (λ l. TellsFault (λ f. l ≡ FaultyImage f) fault) so_far.3
        (stored_fault p file_size count number so_far.0 rest so_far.1 more front read fault
        (subst (IsLoaded marking (types_meaning p) (types_by_number p) new (at_front p file_size count number so_far.0 rest so_far.1 more front read)) is loaded_next))

    -- one record more
    pub loaded_more : (r : StoredRecord) → result ≡ Ok r → Keeps nodes new → (pushed : List StoredRecord) → pushed ≡ records ++ r ∷ []
        → SoFar marking p file_size count all (number + 1) new pushed front.rest.now
    loaded_more r is keeps pushed is_pushed =
        let one = subst (IsLoaded marking (types_meaning p) (types_by_number p) new (at_front p file_size count number so_far.0 rest so_far.1 more front read)) is loaded_next in (
          so_far.0 ++ one.0 ∷ [],
          length-append so_far.0 (one.0 ∷ []) ∙ ap (λ n. n + 1) so_far.1,
          subst (λ records. AreStored marking (types_meaning p) (types_by_number p) new records (so_far.0 ++ one.0 ∷ [])) (sym is_pushed)
              (stored_more marking (types_meaning p) (types_by_number p) new records so_far.0
              (stored_kept marking (types_meaning p) (types_by_number p) nodes new keeps records so_far.0 so_far.2) r one.0 one.1),
          stored_next p file_size count number so_far.0 rest so_far.1 more front read one.0 one.2 ∙ so_far.3,
        )
