-- The faults of the check, as those of the definitions. Where memory ran out nothing is said.
use Rattle.std.specs.Prelude.{◌≡◌, ⊤}
use Rattle.object_meaning.specs.Accepting as meant
use Rattle.object_reader.specs.declared.fault.ObjectFault.{ObjectFault as ReadFault}
use Rattle.object_reader.specs.declared.fault.ObjectFault.TheVariants as read
use Rattle.code_check.specs.declared.fault.ObjectFault.{ObjectFault}
use Rattle.code_check.specs.declared.fault.ObjectFault.TheVariants as coded

-- the fault is the first one
abbrev pub FaultsAs : meant.Acceptance → ObjectFault → Type 0
FaultsAs told (coded.Cut length) = told ≡ meant.FirstFault (meant.Cut length)
FaultsAs told (coded.BadField offset) = told ≡ meant.FirstFault (meant.BadField offset)
FaultsAs told (coded.Leftover length) = told ≡ meant.FirstFault (meant.Leftover length)
FaultsAs told (coded.Shape function) = told ≡ meant.FirstFault (meant.BadShape function)
FaultsAs told (coded.Kind function instruction) = told ≡ meant.FirstFault (meant.BadKind function instruction)
FaultsAs told coded.NoMemory = ⊤

-- why bytes are no accepted object, where they are no object
abbrev pub of_read_fault : ReadFault → ObjectFault
of_read_fault (read.Cut length) = coded.Cut length
of_read_fault (read.BadField offset) = coded.BadField offset
of_read_fault (read.Leftover length) = coded.Leftover length
of_read_fault read.NoMemory = coded.NoMemory
