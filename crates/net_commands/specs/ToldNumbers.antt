-- The numbers that words tell to commands on the net.
use Rattle.std.specs.Prelude.{◌≡◌, ℕ, List, Option}
use Rattle.command_parts.specs.Answer.{Serving, ServingNumbers, with_serving_numbers}
use Rattle.command_parts.specs.FileInputs.{with_number}
use Rattle.command_parts.specs.AnswerForms.{Answer}
use Rattle.printed_lines.specs.declared.refusal.Argument.TheVariants as named
use Rattle.command_parts.specs.Arguments.{most_port, positive_within, most_links}

-- the numbers of a serving, and those that the server holds
abbrev pub numbers_served : Serving → ServingNumbers
numbers_served s = record { port = s.port; links = s.links; slice = s.slice }

-- The words tell these numbers: with them it is gone on, whatever the files hold.
abbrev pub TellNumbers : (port links slice : List ℕ) → ServingNumbers → Type 0
TellNumbers port links slice numbers = (go : ServingNumbers → Option Answer) → with_serving_numbers port links slice go ≡ go numbers

-- The word tells this port: with it it is gone on, whatever the files hold.
abbrev pub TellsPort : (word : List ℕ) → (port : ℕ) → Type 0
TellsPort word port = (go : ℕ → Option Answer) → with_number named.Port (positive_within most_port word) go ≡ go port

-- the same of the port and the number of connections of a mirror
abbrev pub TellMirrorNumbers : (port links : List ℕ) → (n m : ℕ) → Type 0
TellMirrorNumbers port links n m =
    (go : ℕ → ℕ → Option Answer)
    → with_number named.Port (positive_within most_port port) (λ n. with_number named.Connections (positive_within most_links links) (λ m. go n m)) ≡ go n m
