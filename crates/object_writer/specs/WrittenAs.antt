-- What is written of a program, as an answer. Where memory ran out nothing is said.
use Rattle.std.specs.Prelude.{◌≡◌, ℕ, List, ◌++◌, length, map, Option, Some, None, Result, Ok, Err, ⊤, Vec}
use Rattle.std.specs.declared.alloc.Global.{Global}
use Rattle.core_terms.specs.Types.{Ty}
use Rattle.core_terms.specs.ProgramTypes.{named_table}
use Rattle.core_terms.specs.TypeNames.{all_constructor_names}
use Rattle.core_terms.specs.declared.program_types.Types.{Types}
use Rattle.object_meaning.specs.ObjectBytes.{object_magic, word, bytes_of_all, type_bytes}
use Rattle.object_meaning.specs.WrittenObjects.{type_written}
use Rattle.object_writer.specs.declared.fault.WriteFault.{WriteFault}
use Rattle.object_writer.specs.declared.fault.WriteFault.TheVariants.{TooLong, NoMemory}

-- Ok gives the bytes; TooLong comes exactly where there are none.
abbrev pub WritesAs : Option (List ℕ) → Result (Vec ℕ Global) WriteFault → Type 0
WritesAs (Some bytes) (Ok object) = object.items ≡ bytes
WritesAs None (Err TooLong) = ⊤
WritesAs told (Err NoMemory) = ⊤
WritesAs told object = ⊥

-- how an object begins, with these types listed
abbrev pub types_part : Types → List Ty → List ℕ
types_part types listing =
    object_magic ++ (word (length listing) ++ bytes_of_all type_bytes (map (type_written listing (named_table types) (all_constructor_names types.named.items)) listing))
