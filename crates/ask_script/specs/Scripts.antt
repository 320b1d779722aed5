-- The script of a user of a server: the steps that its lines ask for, or the first line that is at fault.
use Rattle.std.specs.Prelude.{◌≡◌, ℕ, suc, ◌≤◌, Bool, true, ◌||◌, List, [], ◌∷◌, Option, Some, None, option_map, nat_le, bytes_eq, codes, if◌then◌else◌}
use Rattle.std.specs.List.{list_all, position, slice_split, join_with_byte}
use Rattle.std.specs.Option.{option_and_then}
use Rattle.std.specs.Str.{is_utf8}
use lib.Dec.{eqb}
use Rattle.core_terms.specs.Terms.{Program}
use Rattle.core_terms.specs.Roles.{Role, program_roles}
use Rattle.core_terms.specs.Spelling.{AreBytes, spelling}
use Rattle.core_terms.specs.Limits.{most_fuel}
use Rattle.session_meaning.specs.Calls.{reads_state, role_in}
use Rattle.printed_syntax.specs.Literals.{ConstructorNames, Literal, IsValue, FirstFault, literal_in}
use Rattle.number_words.specs.Numbers.{number_within}

-- What a line asks for: to open a session with a ring of so many pieces; to call, in a session, the role with a number among the
-- roles of the program, with so much fuel and an argument that these bytes spell; to let the calls run; to close a session.
pub data UserStep : Type 0 where
  Opens : (session kept : ℕ) → UserStep
  Calls : (session role fuel : ℕ) (argument : List ℕ) → UserStep
  Goes : UserStep
  Closes : (session : ℕ) → UserStep

-- What a script asks for: its steps, in order; or, where a line is at fault, the number of the first such line. The lines are
-- numbered from 1, and those that are skipped count.
pub data Script : Type 0 where
  Steps : (steps : List UserStep) → Script
  FaultyLine : (number : ℕ) → Script

-- LINES AND WORDS
-- Each line ends at a line feed, the last one at the end of the text. Behind a line feed at the end there is an empty line, which
-- is skipped as every blank one.
abbrev pub lines_of : List ℕ → List (List ℕ)
lines_of text = slice_split (λ byte. eqb byte 10) text

-- a line is blank where nothing but blanks, tabs and carriage returns stands in it
abbrev pub is_blank : ℕ → Bool
is_blank byte = eqb byte 32 || (eqb byte 9 || eqb byte 13)

abbrev pub is_blank_line : List ℕ → Bool
is_blank_line line = list_all is_blank line

-- The words of a line are parted by one blank each: where two stand side by side there is an empty word between them.
abbrev pub words_of : List ℕ → List (List ℕ)
words_of line = slice_split (λ byte. eqb byte 32) line

-- words and the blanks that part them, as they stood in the line
abbrev pub text_of : List (List ℕ) → List ℕ
text_of words = join_with_byte 32 words

-- NUMBERS, ROLES, ARGUMENTS
-- the greatest number of a session
abbrev pub most_session : ℕ
most_session = 65535

-- the number of a session, from 1 on
abbrev pub session_in : List ℕ → Option ℕ
session_in word = option_and_then (λ number. if nat_le 1 number then Some number else None) (number_within most_session word)

-- the number of a role, where it is a query or an update
abbrev pub query_or_update : Program → ℕ → Option ℕ
query_or_update P number = if reads_state (role_in P number).kind then Some number else None

-- the number of the query or update of this name
abbrev pub role_called : Program → List ℕ → Option ℕ
role_called P name = option_and_then (query_or_update P) (position (λ (role : Role). bytes_eq role.name name) (program_roles P))

-- the spelling of a literal's value
abbrev pub spelled : Literal → Option (List ℕ)
spelled (IsValue v) = Some (spelling v)
spelled (FirstFault kind offset) = None

-- LINES AS STEPS
-- a step is asked for where each of its parts is told
abbrev pub opens : Option ℕ → Option ℕ → Option UserStep
opens (Some session) (Some kept) = Some (Opens session kept)
opens session kept = None

-- The program, and the names of its constructors.
module _ (P : Program) (names : ConstructorNames) where
  abbrev pub calls : (session role fuel : Option ℕ) (argument : List ℕ) → Option UserStep
  calls (Some session) (Some role) (Some fuel) argument =
      option_map (Calls session role fuel) (spelled (literal_in P names (role_in P role).argument argument))
  calls session role fuel argument = None

  -- What words ask for; none where they are of none of the four forms, or a number, the role or the literal is refused:
  --   go     close SESSION     open SESSION PIECES     call SESSION ROLE FUEL ARGUMENT
  -- The argument is all that stands behind the fuel's blank, so it may hold blanks.
  abbrev pub form_of : List (List ℕ) → Option UserStep
  form_of (word ∷ []) = if bytes_eq word (codes "go") then Some Goes else None
  form_of (word ∷ session ∷ []) = if bytes_eq word (codes "close") then option_map Closes (session_in session) else None
  form_of (word ∷ session ∷ kept ∷ []) =
      if bytes_eq word (codes "open") then opens (session_in session) (number_within P.format.most_kept kept) else None
  form_of (word ∷ session ∷ role ∷ fuel ∷ first ∷ others) = if bytes_eq word (codes "call")
      then calls (session_in session) (role_called P role) (number_within most_fuel fuel) (text_of (first ∷ others))
      else None
  form_of words = None

  -- a line is text: one that isn't UTF-8 is of no form
  abbrev pub step_in : List ℕ → Option UserStep
  step_in line = if is_utf8 line then form_of (words_of line) else None

  -- a step, or the fault of the line with this number, before what the lines behind it ask for
  abbrev pub then_script : ℕ → Option UserStep → Script → Script
  then_script number None script = FaultyLine number
  then_script number (Some step) (Steps steps) = Steps (step ∷ steps)
  then_script number (Some step) (FaultyLine later) = FaultyLine later

  -- what lines ask for, of which the first one has this number
  abbrev pub script_from : ℕ → List (List ℕ) → Script
  script_from number [] = Steps []
  script_from number (line ∷ lines) = if is_blank_line line
      then script_from (suc number) lines
      else then_script number (step_in line) (script_from (suc number) lines)

  -- what a text asks for
  abbrev pub script_of : List ℕ → Script
  script_of text = script_from 1 (lines_of text)

-- WHAT A CLIENT MAY BE ASKED
-- the numbers of a step are those that a client takes, and its role is a query or an update
abbrev pub Fits : Program → UserStep → Type 0
Fits P (Opens session kept) = (1 ≤ session) × (session ≤ most_session) × (kept ≤ P.format.most_kept)
Fits P (Calls session role fuel argument) = (1 ≤ session) × (session ≤ most_session) × (reads_state (role_in P role).kind ≡ true) × (fuel ≤ most_fuel)
Fits P Goes = Unit {0}
Fits P (Closes session) = (1 ≤ session) × (session ≤ most_session)

-- the argument of a step that calls is of bytes
abbrev pub HasByteArgument : UserStep → Type 0
HasByteArgument (Calls session role fuel argument) = AreBytes argument
HasByteArgument step = Unit {0}
