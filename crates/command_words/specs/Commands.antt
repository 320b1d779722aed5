-- The commands.
use Rattle.std.specs.Prelude.{◌≡◌, ◌⊎◌, ◌≤◌, ℕ, List, [], ◌∷◌, ◌++◌, length, map, find, bytes_eq, codes, Option, Some}
use Rattle.std.specs.Borrow.{Bor}
use Rattle.command_words.specs.declared.command.Command.{Command}
use Rattle.command_words.specs.declared.command.Command.TheVariants.{Check, Init, Ideal, Step, Shallow, Migrate, Prove, Verify, Audit, Library, Gen, Serve, Ask, Pieces, Fetch, Mirror, Draw, Found, Host, Replay, Emit}

abbrev pub Text : Type 0
Text = List ℕ

-- the words' bytes
abbrev pub texts : List (Bor Text) → List Text
texts words = map (λ word. word.now) words

-- A command with its name and the names of its arguments, and how many of them have to be there: those behind may be left out.
pub record Row : Type 0 where
  pub command : Command
  pub name : Text
  pub arguments : List Text
  pub least : ℕ

-- a command all of whose arguments have to be there
abbrev pub row : Command → Text → List Text → Row
row command name arguments = record { command = command; name = name; arguments = arguments; least = length arguments }

-- one whose arguments behind these may be left out
abbrev pub row_with : Command → Text → List Text → List Text → Row
row_with command name arguments others = record { command = command; name = name; arguments = arguments ++ others; least = length arguments }

-- the table of the commands
abbrev pub commands : List Row
commands =
    row Check (codes "check") (codes "P" ∷ []) ∷
    row Init (codes "init") (codes "P" ∷ codes "ROLE" ∷ codes "ARG" ∷ codes "FUEL" ∷ codes "OUT" ∷ []) ∷
    row Ideal (codes "ideal") (codes "P" ∷ codes "ROLE" ∷ codes "IMG" ∷ codes "ARG" ∷ codes "FUEL" ∷ []) ∷
    row Step (codes "step") (codes "P" ∷ codes "ROLE" ∷ codes "IMG" ∷ codes "ARG" ∷ codes "FUEL" ∷ codes "OUT" ∷ []) ∷
    row Shallow (codes "shallow") (codes "P" ∷ codes "IMG" ∷ codes "OUT" ∷ []) ∷
    row Migrate (codes "migrate") (codes "P" ∷ codes "IMG" ∷ codes "Q" ∷ codes "OUT" ∷ []) ∷
    row Prove (codes "prove") (codes "P" ∷ codes "ROLE" ∷ codes "IMG" ∷ codes "ARG" ∷ codes "FUEL" ∷ codes "N" ∷ codes "OUT" ∷ []) ∷
    row_with Verify (codes "verify") (codes "P" ∷ codes "ROLE" ∷ codes "STATE" ∷ codes "ARG" ∷ codes "FUEL" ∷ codes "PROOF" ∷ []) (codes "OUT" ∷ []) ∷
    row Audit (codes "audit") (codes "P" ∷ codes "ROLE" ∷ codes "IMG" ∷ codes "ARG" ∷ codes "FUEL" ∷ codes "PROOF" ∷ []) ∷
    row Library (codes "library") (codes "NAME" ∷ []) ∷
    row Gen (codes "gen") (codes "NAME" ∷ codes "SEED" ∷ codes "COUNT" ∷ codes "N" ∷ []) ∷
    row Serve (codes "serve") (codes "P" ∷ codes "IMG" ∷ codes "PORT" ∷ codes "CONNS" ∷ codes "SLICE" ∷ codes "OUT" ∷ []) ∷
    row Ask (codes "ask") (codes "P" ∷ codes "STATE" ∷ codes "PORT" ∷ codes "SCRIPT" ∷ codes "OUT" ∷ []) ∷
    row Pieces (codes "pieces") (codes "P" ∷ codes "IMG" ∷ codes "OUT" ∷ []) ∷
    row Fetch (codes "fetch") (codes "P" ∷ codes "ROLE" ∷ codes "STATE" ∷ codes "ARG" ∷ codes "FUEL" ∷ codes "MIRROR" ∷ []) ∷
    row Mirror (codes "mirror") (codes "MIRROR" ∷ codes "PORT" ∷ codes "CONNS" ∷ []) ∷
    row Draw (codes "draw") (codes "P" ∷ codes "ROLE" ∷ codes "STATE" ∷ codes "ARG" ∷ codes "FUEL" ∷ codes "PORT" ∷ []) ∷
    row Found (codes "found") (codes "P" ∷ codes "IMG" ∷ codes "JOURNAL" ∷ []) ∷
    row Host (codes "host") (codes "P" ∷ codes "JOURNAL" ∷ codes "PORT" ∷ codes "CONNS" ∷ codes "SLICE" ∷ []) ∷
    row Replay (codes "replay") (codes "P" ∷ codes "JOURNAL" ∷ codes "OUT" ∷ []) ∷
    row Emit (codes "emit") (codes "P" ∷ codes "OUT" ∷ []) ∷
    []

-- the row of this name
unfoldable pub row_named : Text → Option Row
row_named name = find (λ row. bytes_eq row.name name) commands

-- this is the row that the words name, the program's name first
abbrev pub IsNamedBy : Row → List Text → Type 0
IsNamedBy row (program ∷ name ∷ texts) = row_named name ≡ Some row
IsNamedBy row words = ⊥

-- the texts are as many as the command takes
abbrev pub AreCounted : Row → List Text → Type 0
AreCounted row texts = (row.least ≤ length texts) × (length texts ≤ length row.arguments)

abbrev pub IsOfOneOf : Command → List Text → List Row → Type 0
IsOfOneOf command texts [] = ⊥
IsOfOneOf command texts (row ∷ rows) = ((row.command ≡ command) × AreCounted row texts) ⊎ IsOfOneOf command texts rows

abbrev pub IsOfCommand : Command → List Text → Type 0
IsOfCommand command texts = IsOfOneOf command texts commands
