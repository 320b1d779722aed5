-- The records that the code reads, as those of the definitions.
use Rattle.std.specs.Prelude.{◌≡◌, ◌*◌, ℕ, true, List, length, Option, Some, None, Result, Ok, Err}
use Rattle.std.specs.Borrow.{Bor}
use Rattle.core_terms.specs.ProgramTypes.{types_by_number, types_meaning}
use Rattle.core_terms.specs.ProgramTrees.{are_below, types_at}
use Rattle.core_terms.specs.Types.{NamedTy, fields_at}
use Rattle.core_terms.specs.declared.program_types.Types.{Types}
use Rattle.core_terms.specs.declared.types.TyId.{TyId}
use Rattle.images.specs.Images.{field_count}
use Rattle.images.specs.Parts.{is_part}
use Rattle.images.specs.Records.{RecordRead, ReadRecord, CutRecord, NoRecord, numbers_of}
use Rattle.images.specs.Records as meant
use Rattle.images.specs.declared.record.Front.{Front}
use Rattle.images.specs.declared.record.Record.{Record}
use Rattle.images.specs.declared.record.Record.TheVariants.{Unit as UnitRecord, Bool as BoolRecord, Int as IntRecord, Text as TextRecord, Pair as PairRecord, Constructor as OfConstructor, Auth as AuthRecord, Items as ItemsRecord}
use Rattle.images.specs.declared.record.RecordFault.{RecordFault}
use Rattle.images.specs.declared.record.RecordFault.TheVariants.{Cut, Bad}

-- the record of the definitions that a record stands for
abbrev pub record_told : Record → meant.Record
record_told UnitRecord = meant.UnitRecord
record_told (BoolRecord b) = meant.BoolRecord b
record_told (IntRecord z) = meant.IntRecord z
record_told (TextRecord text) = meant.TextRecord text.now
record_told (PairRecord first second) = meant.PairRecord first second
record_told (OfConstructor c) = meant.ConRecord c.named.0 c.tag.0 (numbers_of (length c.fields.now) c.numbers.now)
record_told (AuthRecord inner) = meant.AuthRecord inner
record_told (ItemsRecord count numbers) = meant.VecRecord (numbers_of count numbers.now)

-- These are the types of the fields of the constructor, whose type is a part of the state's, and they are in the program's table; or there is no
-- such constructor.
abbrev pub AreFieldsOf : Types → (number tag : ℕ) → Option (Bor (List TyId)) → Type 0
AreFieldsOf types number tag None = (size : ℕ) → field_count (types_meaning types) size number tag ≡ None
AreFieldsOf types number tag (Some fields) = (is_part (types_meaning types).types (NamedTy number) (types_meaning types).state ≡ true)
    × (fields_at (types_meaning types).types number tag ≡ Some (types_at (types_by_number types) fields.now))
    × (are_below (length (types_by_number types)) fields.now ≡ true)

-- A record of a constructor is of one whose type is a part of the state's; it has the types of its fields, which are in the program's table, and
-- 4 bytes for each.
abbrev pub HasConstructor : Types → Record → Type 0
HasConstructor types (OfConstructor c) = (is_part (types_meaning types).types (NamedTy c.named.0) (types_meaning types).state ≡ true)
    × (fields_at (types_meaning types).types c.named.0 c.tag.0 ≡ Some (types_at (types_by_number types) c.fields.now))
    × (are_below (length (types_by_number types)) c.fields.now ≡ true)
    × (length c.numbers.now ≡ 4 * length c.fields.now)
HasConstructor types (ItemsRecord count numbers) = length numbers.now ≡ 4 * count
HasConstructor types r = Unit {0}

-- the result tells what stands at the front: a record and the bytes behind it, or why there is none
abbrev pub IsRead : RecordRead → Result Front RecordFault → Type 0
IsRead read (Ok front) = read ≡ ReadRecord (record_told front.record) front.rest.now
IsRead read (Err Cut) = read ≡ CutRecord
IsRead read (Err Bad) = read ≡ NoRecord
