-- What a run answers: its status, the lines that it writes and the files that it stores.
use Rattle.std.specs.Prelude.{ℕ, List, [], ◌∷◌}
use Rattle.lam_outside.specs.Told.{Stores}
use Rattle.command_parts.specs.declared.status.Status.{Status}

-- what a run answers
pub record Answer : Type 0 where
  pub status : Status
  pub lines : List (List ℕ)
  pub stored : Stores

-- one line, and nothing stored
abbrev pub says : Status → List ℕ → Answer
says status line = record { status = status; lines = line ∷ []; stored = [] }
