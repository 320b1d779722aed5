-- What the net of the machine tells: its ports and its counts, and nothing of what comes and is sent.
use Rattle.std.specs.Prelude.{ℕ, Option, option_map}
use Rattle.host_net.specs.declared.net.HostNet.{HostNet}

-- the port of the link that was made last, and the one that is listened to
abbrev pub linked_port : HostNet → Option ℕ
linked_port net = net.linked

abbrev pub listened_port : HostNet → Option ℕ
listened_port net = option_map (λ listening. listening.port) net.listening

-- what a read and a send leave as it was
pub record Beyond : Type 0 where
  pub linked : Option ℕ
  pub listened : Option ℕ
  pub listen_faults : ℕ
  pub accept_faults : ℕ
  pub dial_faults : ℕ

abbrev pub beyond_of : HostNet → Beyond
beyond_of net = record {
  linked = linked_port net;
  listened = listened_port net;
  listen_faults = net.listen_faults;
  accept_faults = net.accept_faults;
  dial_faults = net.dial_faults;
}
