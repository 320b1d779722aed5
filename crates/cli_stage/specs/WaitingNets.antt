-- What a net with one waiting peer tells: its ports and its counts, and nothing of what comes and is sent.
use Rattle.std.specs.Prelude.{ℕ, Option}
use Rattle.cli_stage.specs.declared.waiting.WaitingNet.{WaitingNet}

-- what a read and a send leave as it was
pub record Beyond : Type 0 where
  pub linked : Option ℕ
  pub listened : Option ℕ
  pub listen_faults : ℕ
  pub accept_faults : ℕ
  pub dial_faults : ℕ

abbrev pub beyond_of : WaitingNet → Beyond
beyond_of net = record {
  linked = net.standing;
  listened = net.listening;
  listen_faults = net.listen_faults;
  accept_faults = net.accept_faults;
  dial_faults = net.dial_faults;
}
