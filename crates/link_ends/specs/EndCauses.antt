-- When each end of a link comes.
use Rattle.std.specs.Prelude.{◌≡◌, ◌⊎◌, ℕ, Bool, true, false, Result, Ok, Err}
use Rattle.lam_outside.specs.Causes.{Rose}
use Rattle.link_ends.specs.declared.end.ConnectionEnd.{ConnectionEnd}
use Rattle.link_ends.specs.declared.end.ConnectionEnd.TheVariants as connection
use Rattle.link_ends.specs.declared.end.ServingEnd.{ServingEnd}
use Rattle.link_ends.specs.declared.end.ServingEnd.TheVariants.{Served, Stopped}
use Rattle.link_ends.specs.declared.link_stop.LinkStop.{LinkStop}
use Rattle.link_ends.specs.declared.link_stop.LinkStop.TheVariants as link_stop

-- The count rose at a link fault, and stayed where the connection is over. What is stopped may be so behind a fault too.
abbrev pub EndCause : ℕ → ℕ → ConnectionEnd → Type 0
EndCause before now connection.Over = now ≡ before
EndCause before now connection.LinkFault = Rose before now
EndCause before now connection.Stopped = (now ≡ before) ⊎ Rose before now

-- The count of the links' faults rose exactly where a connection ended in a link fault; what is stopped may be so behind a fault too.
abbrev pub LinkCause : (before now : ℕ) → Result Bool LinkStop → Type 0
LinkCause before now (Ok true) = Rose before now
LinkCause before now (Ok false) = now ≡ before
LinkCause before now (Err link_stop.LinkFault) = now ≡ before
LinkCause before now (Err link_stop.Stopped) = (now ≡ before) ⊎ Rose before now

-- A fault is told exactly where the count of the links' faults rose, or that of `accept`. Where it was stopped, no accept failed.
abbrev pub ServingCause : (faults faults' accepts accepts' : ℕ) → ServingEnd → Type 0
ServingCause faults faults' accepts accepts' (Served true) = Rose faults faults' ⊎ Rose accepts accepts'
ServingCause faults faults' accepts accepts' (Served false) = (faults' ≡ faults) × (accepts' ≡ accepts)
ServingCause faults faults' accepts accepts' Stopped = accepts' ≡ accepts
