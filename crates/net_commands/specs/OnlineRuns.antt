-- What a net tells of a run that uses it.
use Rattle.std.specs.Prelude.{ℕ, List, Option}
use Rattle.lam_outside.specs.Links.{Linked, links_so_far}
use Rattle.lam_outside.specs.Moments.{Moment}
use Rattle.net_commands.specs.NetFaults.{NetFaults}

-- what a net tells: the links so far, in order, and the port that is listened to; and its counts of faults
pub record NetSeen : Type 0 where
  pub links : Option (List Linked)
  pub listened : Option ℕ
  pub faults : NetFaults

abbrev pub net_seen : {N : Type 0} → (ended : N → Option (List Linked)) → (linked : N → Option ℕ) → (given left sent : N → Option (List ℕ)) → (reads : N → Option (List Moment)) → (listened : N → Option ℕ)
    → (faults : N → NetFaults) → N → NetSeen
net_seen ended linked given left sent reads listened faults net = record {
  links = links_so_far (ended net) (linked net) (given net) (left net) (sent net) (reads net);
  listened = listened net;
  faults = faults net;
}
