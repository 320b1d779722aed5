-- How the counts of faults tell the end of a connection, and that of the serving of links.
use Rattle.std.specs.Prelude.{Bool, true, false}
use Rattle.link_ends.specs.declared.end.ConnectionEnd.{ConnectionEnd}
use Rattle.link_ends.specs.declared.end.ConnectionEnd.TheVariants as connection
use Rattle.link_ends.specs.declared.end.ServingEnd.TheVariants.{Stopped}

-- the connection ended in a link fault
abbrev pub is_fault : ConnectionEnd → Bool
is_fault connection.Over = false
is_fault connection.LinkFault = true
is_fault connection.Stopped = false
