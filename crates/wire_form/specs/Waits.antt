-- When a message is waited for.
use Rattle.std.specs.Prelude.{◌≡◌, ℕ, List, Option}
use Rattle.lam_outside.specs.Moments.{Moment}
use Rattle.wire_form.specs.Incoming.{TookUnfinished}

-- Of these bytes none were taken yet, or a front that ends inside of the message with which they begin; and this had been sent, and no more.
abbrev pub WaitsInside : List ℕ → Option (List ℕ) → Moment → Type 0
WaitsInside bytes sent moment = (moment.sent ≡ sent) × TookUnfinished bytes moment.left
