-- What is loaded of a record that is another one.
use Rattle.std.proofs.Common.{◌≡◌, ℕ, List, Result, sym, subst}
use Rattle.core_terms.specs.ProgramTypes.{types_by_number, types_meaning}
use Rattle.core_terms.specs.declared.program_types.Types.{Types}
use Rattle.images.specs.Images.{Entry, checked_entry, stands_for}
use Rattle.images.specs.declared.fault.ImageFault.{ImageFault}
use Rattle.value_store.specs.Markings.{Marking}
use Rattle.value_store.specs.Nodes.{Node}
use Rattle.images.specs.ReadRecords.{record_told}
use Rattle.images.specs.StoredRecords.{IsLoaded}
use Rattle.images.specs.declared.record.Record.{Record}
use Rattle.images.specs.declared.stored.StoredRecord.{StoredRecord}

pub at_record : (marking : Marking) (p : Types) (nodes : List Node) (entries : List Entry) (file_size number : ℕ) (found other : Record) (result : Result StoredRecord ImageFault)
    → found ≡ other
    → IsLoaded marking (types_meaning p) (types_by_number p) nodes (λ go. checked_entry (types_meaning p) file_size number (stands_for (types_meaning p).types entries (record_told other)) go) result
    → IsLoaded marking (types_meaning p) (types_by_number p) nodes (λ go. checked_entry (types_meaning p) file_size number (stands_for (types_meaning p).types entries (record_told found)) go) result
at_record marking p nodes entries file_size number found other result is h =
    subst (λ other. IsLoaded marking (types_meaning p) (types_by_number p) nodes (λ go. checked_entry (types_meaning p) file_size number
    (stands_for (types_meaning p).types entries (record_told other)) go) result) (sym is) h
