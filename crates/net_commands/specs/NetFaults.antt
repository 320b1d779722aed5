-- When the count of a net rose.
use Rattle.std.specs.Prelude.{◌⊎◌, ℕ}
use Rattle.lam_outside.specs.Causes.{Rose}

-- how often a read or a send, `listen`, `accept` and `dial` failed
pub record NetFaults : Type 0 where
  pub links : ℕ
  pub listens : ℕ
  pub accepts : ℕ
  pub dials : ℕ

abbrev pub net_faults : {N : Type 0} → (N → ℕ) → (N → ℕ) → (N → ℕ) → (N → ℕ) → N → NetFaults
net_faults links listens accepts dials net = record { links = links net; listens = listens net; accepts = accepts net; dials = dials net }

-- one of the four counts rose
abbrev pub NetRose : NetFaults → NetFaults → Type 0
NetRose old new =
    Rose old.links new.links ⊎ (Rose old.listens new.listens ⊎ (Rose old.accepts new.accepts ⊎ Rose old.dials new.dials))
