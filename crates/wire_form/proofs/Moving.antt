-- Bytes that moved in two parts: for read_body and read_whole.
use Rattle.std.proofs.Common.{ℕ, List, ◌++◌, Option, ap, ◌∙◌}
use Rattle.std.specs.Io.KnownBytes.{append_known, prepend_known}
use Rattle.lam_outside.proofs.Moved.{append_twice, prepend_twice}
use Rattle.wire_form.specs.MovedBytes.{Moves}

pub moves_on : (given0 left0 given1 left1 given2 left2 : Option (List ℕ)) → Moves given0 left0 given1 left1 → Moves given1 left1 given2 left2
    → Moves given0 left0 given2 left2
moves_on given0 left0 given1 left1 given2 left2 first more = (
  first.0 ++ more.0,
  first.1 ∙ ap (prepend_known first.0) more.1 ∙ prepend_twice left2 first.0 more.0,
  more.2 ∙ ap (λ w. append_known w more.0) first.2 ∙ append_twice given0 first.0 more.0,
)
