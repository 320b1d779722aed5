-- The reads of a link in memory.
use Rattle.std.specs.Prelude.{◌≡◌, ◌≤◌, ℕ, Bool, true, false, List, [], ◌∷◌, ◌++◌, length, map, take, drop, Option, Some, None}
use Rattle.std.specs.Prelude.{Vec}
use Rattle.lam_outside.specs.Moments.{Moment}
use Rattle.lam_outside.specs.declared.mem_link.LinkRead.{LinkRead}

-- no more was sent by then than these bytes
abbrev pub IsSentBy : List ℕ → LinkRead → Type 0
IsSentBy sent read = read.sent ≤ length sent

-- a read of a link on which these bytes come, and on which these were sent
abbrev pub moment_of : (coming sent : List ℕ) → LinkRead → Moment
moment_of coming sent read = record { left = Some (drop read.at coming); sent = Some (take read.sent sent) }

abbrev pub reads_told : (forgot : Bool) → (coming sent : List ℕ) → List LinkRead → Option (List Moment)
reads_told true coming sent reads = None
reads_told false coming sent reads = Some (map (moment_of coming sent) reads)

-- a read was noted behind these, or it was forgotten that there was one
abbrev pub NotesAt : (forgot : Bool) → List LinkRead → (forgets : Bool) → List LinkRead → (at sent : ℕ) → Type 0
NotesAt forgot reads false reads' at sent = (forgot ≡ false) × ((read : LinkRead) × (read.at ≡ at) × (read.sent ≡ sent) × (reads' ≡ reads ++ read ∷ []))
NotesAt forgot reads true reads' at sent = (reads' ≡ reads)
