-- What a command goes on with, as words and files give it: programs, numbers, states, values and images, or what is refused.
use Rattle.std.specs.Prelude.{ℕ, List, length, nat_le, Option, Some, None, if◌then◌else◌}
use Rattle.sha2.specs.Sha256.{sha256}
use Rattle.core_terms.specs.Values.{Value}
use Rattle.core_terms.specs.Reading.{Read, Good, BadAt}
use Rattle.core_terms.specs.Terms.{Program}
use Rattle.core_terms.specs.Projection.{read_at}
use Rattle.core_terms.specs.Limits.{most_file_bytes, most_program_bytes}
use Rattle.printed_syntax.specs.Literals.{Literal, IsValue, FirstFault}
use Rattle.images.specs.Images as images
use Rattle.printed_lines.specs.declared.refusal.Argument.{Argument}
use Rattle.printed_lines.specs.declared.refusal.Argument.TheVariants as named
use Rattle.printed_lines.specs.declared.refusal.ImageKind.{ImageKind}
use Rattle.printed_lines.specs.declared.refusal.ImageKind.TheVariants as kind
use Rattle.printed_lines.specs.declared.refusal.InputFault.TheVariants.{TooLong, Number, State, Literal as BadLiteral, Image as BadImage}
use Rattle.command_parts.specs.Arguments.{fuel_of}
use Rattle.command_parts.specs.FilePrograms.{constructor_names_of_file, longest_program, program_of_file}
use Rattle.command_parts.specs.FueledRoles.{DeclaredProgram, DigestedProgram, NamedProgram}
use Rattle.command_parts.specs.TextPrograms.{FileProgram, IsProgram, IsRefused, constructor_names_of_text, program_of_text, types_text_of_text}
use Rattle.command_parts.specs.AnswerForms.{Answer}
use Rattle.command_parts.specs.RefusedAnswers.{input_refused, refused}

-- Goes on with the bytes of the file that an argument names. There is no answer where the file isn't there: that is a fault of
-- the outside.
abbrev pub with_file : ℕ → Argument → Option (List ℕ) → (List ℕ → Option Answer) → Option Answer
with_file most word None go = None
with_file most word (Some bytes) go = if nat_le (length bytes) most then go bytes else Some (input_refused (TooLong word))

-- the same of a file that may have any length
abbrev pub with_bytes : Option (List ℕ) → (List ℕ → Option Answer) → Option Answer
with_bytes None go = None
with_bytes (Some bytes) go = go bytes

-- goes on with the program that bytes with this digest are
abbrev pub with_program : List ℕ → FileProgram → (DigestedProgram → Option Answer) → Option Answer
with_program digest (IsProgram P) go = go (record { program = P; digest = digest })
with_program digest (IsRefused what) go = Some (refused what)

-- goes on with the program that a text is
abbrev pub with_text : List ℕ → (NamedProgram → Option Answer) → Option Answer
with_text text go =
    with_program (sha256 text) (program_of_text text) (λ p. go (record { digested = p; names = constructor_names_of_text text }))

-- goes on with the bytes of the file `P`, where it isn't too long for what it begins as, an object or a text
abbrev pub with_program_bytes : Option (List ℕ) → (List ℕ → Option Answer) → Option Answer
with_program_bytes None go = None
with_program_bytes (Some bytes) go = if nat_le (length bytes) (longest_program bytes) then go bytes else Some (input_refused (TooLong named.Program))

-- goes on with the program that bytes are, as an object or as a text, and with that in the file `P`
abbrev pub with_object_or_text : List ℕ → (NamedProgram → Option Answer) → Option Answer
with_object_or_text bytes go =
    with_program (sha256 bytes) (program_of_file bytes) (λ p. go (record { digested = p; names = constructor_names_of_file bytes }))

abbrev pub with_program_file : Option (List ℕ) → (NamedProgram → Option Answer) → Option Answer
with_program_file file go = with_program_bytes file (λ bytes. with_object_or_text bytes go)

-- the same with the type declarations of a text: a file is read as one, whatever it begins as
abbrev pub with_declared_file : Argument → Option (List ℕ) → (DeclaredProgram → Option Answer) → Option Answer
with_declared_file word file go =
    with_file most_program_bytes word file (λ text. with_text text (λ p. go (record { named = p; types_text = types_text_of_text text })))

-- goes on with the number that an argument tells
abbrev pub with_number : Argument → Option ℕ → (ℕ → Option Answer) → Option Answer
with_number word None go = Some (input_refused (Number word))
with_number word (Some n) go = go n

abbrev pub with_fuel : List ℕ → (ℕ → Option Answer) → Option Answer
with_fuel text go = with_number named.Fuel (fuel_of text) go

-- goes on with bytes that were read as a state
abbrev pub with_state_read : Read Value → List ℕ → (List ℕ → Option Answer) → Option Answer
with_state_read (Good v rest place) bytes go = go bytes
with_state_read (BadAt offset) bytes go = Some (input_refused (State offset))

-- bytes read at the type of the state
unfoldable pub state_read : Program → List ℕ → Read Value
state_read P bytes = read_at P P.state bytes

-- goes on with the spelling of a state, and with that in a file
abbrev pub with_state : Program → List ℕ → (List ℕ → Option Answer) → Option Answer
with_state P bytes go = with_state_read (state_read P bytes) bytes go

abbrev pub with_state_file : Program → Option (List ℕ) → (List ℕ → Option Answer) → Option Answer
with_state_file P file go = with_file most_file_bytes named.State file (λ bytes. with_state P bytes go)

-- goes on with the value of a literal
abbrev pub with_literal : Literal → (Value → Option Answer) → Option Answer
with_literal (IsValue v) go = go v
with_literal (FirstFault kind offset) go = Some (input_refused (BadLiteral kind offset))

-- why the bytes of an image are refused
abbrev pub image_kind : images.ImageFault → ImageKind
image_kind images.Magic = kind.Magic
image_kind images.OtherProgram = kind.OtherProgram
image_kind images.RootType = kind.RootType
image_kind (images.Cut bytes) = kind.Cut bytes
image_kind (images.Leftover bytes) = kind.Leftover bytes
image_kind (images.BadRecord number) = kind.BadRecord number
image_kind (images.TooBig number) = kind.TooBig number
image_kind (images.TooDeep number) = kind.TooDeep number

-- goes on with the ideal state that an image keeps
abbrev pub with_root : images.Image → (Value → Option Answer) → Option Answer
with_root (images.Root v) go = go v
with_root (images.Refused fault) go = Some (input_refused (BadImage (image_kind fault)))

-- bytes as an image of a program
unfoldable pub image_read : DigestedProgram → List ℕ → images.Image
image_read p bytes = images.image_of p.program p.digest bytes

-- goes on with the ideal state in an image, and with that in a file
abbrev pub with_image : DigestedProgram → List ℕ → (Value → Option Answer) → Option Answer
with_image p bytes go = with_root (image_read p bytes) go

abbrev pub with_image_file : DigestedProgram → Option (List ℕ) → (Value → Option Answer) → Option Answer
with_image_file p file go = with_file most_file_bytes named.Image file (λ bytes. with_image p bytes go)

-- goes on with the bytes of a file that is an image of the program
abbrev pub with_image_bytes : DigestedProgram → Option (List ℕ) → (List ℕ → Option Answer) → Option Answer
with_image_bytes p file go = with_file most_file_bytes named.Image file (λ bytes. with_image p bytes (λ v. go bytes))
