-- Why serving breaks off, and which count of faults tells it.
use Rattle.std.specs.Prelude.{◌≡◌, ℕ, Result, Ok, Err}
use Rattle.lam_outside.specs.Causes.{Rose}
use Rattle.wire_form.specs.declared.message.WriteStop.{WriteStop}
use Rattle.wire_form.specs.declared.message.WriteStop.TheVariants as write
use Rattle.link_ends.specs.declared.link_stop.LinkStop.{LinkStop}
use Rattle.link_ends.specs.declared.link_stop.LinkStop.TheVariants as link_stop

-- why a message was not written whole, as why a connection breaks off
abbrev pub link_stop_of : WriteStop → LinkStop
link_stop_of write.LinkFault = link_stop.LinkFault
link_stop_of write.NoMemory = link_stop.Stopped

-- the count of the link's faults rose at a link fault, and nowhere else
abbrev pub LinkStopCause : {T : Type 0} → ℕ → ℕ → Result T LinkStop → Type 0
LinkStopCause before now (Ok done) = now ≡ before
LinkStopCause before now (Err link_stop.LinkFault) = Rose before now
LinkStopCause before now (Err link_stop.Stopped) = now ≡ before
