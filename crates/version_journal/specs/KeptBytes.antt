-- What a disk keeps of one journal.
use Rattle.std.specs.Prelude.{◌≡◌, ◌<◌, length}
use Rattle.lam_outside.specs.Disks.{DiskFile}

abbrev pub HasBytes : DiskFile → Type 0
HasBytes file = 0 < length file.reads

abbrev pub HasNone : DiskFile → Type 0
HasNone file = length file.reads ≡ 0
