-- What a run has of the outside: files, stores, output, and how often each failed.
use Rattle.std.specs.Prelude.{ℕ, List, Option}
use Rattle.lam_outside.specs.Told.{Contents, Stores}

-- what files and a sink tell, and their counts of faults
pub record Outside : Type 0 where
  pub contents : Option Contents
  pub stores : Option Stores
  pub written : Option (List ℕ)
  pub read_faults : ℕ
  pub store_faults : ℕ
  pub write_faults : ℕ

abbrev pub outside : {F O : Type 0} → (F → Option Contents) → (F → Option Stores) → (F → ℕ) → (F → ℕ) → (O → Option (List ℕ)) → (O → ℕ) → F → O → Outside
outside contents stores read_faults store_faults written write_faults files out = record {
  contents = contents files;
  stores = stores files;
  written = written out;
  read_faults = read_faults files;
  store_faults = store_faults files;
  write_faults = write_faults out;
}
