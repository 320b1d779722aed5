-- The texts of the lines that are printed. Numbers are decimal, digests 64 lower-case hexadecimal digits.
use Rattle.std.specs.Prelude.{ℕ, List, [], ◌∷◌, ◌++◌, Option, Some, None, codes, decimal}
use Rattle.hex.specs.Hex.{encode_lower}
use Rattle.core_terms.specs.Types.{Ty, Table}
use Rattle.core_terms.specs.Values.{Value}
use Rattle.ideal_meaning.specs.Checked.{Cause, Short, Cut, BadKind, PieceLong, BadUse, WrongPiece, BadPiece, Header, Leftover, Missing, Broken}
use Rattle.ideal_meaning.specs.Run.{TooBig, TooDeep}
use Rattle.ideal_meaning.specs.Told.{cause_told}
use Rattle.ideal_meaning.specs.Wire.{Wire}
use Rattle.ideal_meaning.specs.Wire as wire
use Rattle.printed_syntax.specs.Literals.{ConstructorNames}
use Rattle.lexemes.specs.declared.fault.LexicalFault.{LexicalFault}
use Rattle.lexemes.specs.declared.fault.LexicalFault.TheVariants as lexical
use Rattle.lexemes.specs.declared.fault.SyntaxKind.{SyntaxKind}
use Rattle.lexemes.specs.declared.fault.SyntaxKind.TheVariants as syntax
use Rattle.printed_syntax.specs.declared.fault.LiteralKind.{LiteralKind}
use Rattle.printed_syntax.specs.declared.fault.LiteralKind.TheVariants as literal
use Rattle.declared_types.specs.declared.fault.TypeKind.{TypeKind}
use Rattle.declared_types.specs.declared.fault.TypeKind.TheVariants as typing
use Rattle.declared_types.specs.declared.fault.Limited.{Limited}
use Rattle.declared_types.specs.declared.fault.Limited.TheVariants as limited
use Rattle.printed_lines.specs.declared.refusal.ProgramKind.{ProgramKind}
use Rattle.printed_lines.specs.declared.refusal.ProgramKind.TheVariants.{Syntax, Typing}
use Rattle.printed_lines.specs.declared.refusal.Argument.{Argument}
use Rattle.printed_lines.specs.declared.refusal.Argument.TheVariants as argument
use Rattle.printed_lines.specs.declared.refusal.ImageKind.{ImageKind}
use Rattle.printed_lines.specs.declared.refusal.ImageKind.TheVariants as image
use Rattle.printed_lines.specs.declared.refusal.InputFault.{InputFault}
use Rattle.printed_lines.specs.declared.refusal.InputFault.TheVariants.{TooLong, LibraryUnknown, Migration, ObjectFormat, RoleUnknown, RoleKind, Number, State, Literal, Image, Mirror, Journal, Script}
use Rattle.printed_lines.specs.declared.refusal.JournalKind.{JournalKind}
use Rattle.printed_lines.specs.declared.refusal.JournalKind.TheVariants as journal
use Rattle.printed_lines.specs.declared.refusal.MigrationKind.{MigrationKind}
use Rattle.printed_lines.specs.declared.refusal.MigrationKind.TheVariants as migration
use Rattle.printed_lines.specs.declared.refusal.MirrorKind.{MirrorKind}
use Rattle.printed_lines.specs.declared.refusal.MirrorKind.TheVariants as mirror
use Rattle.printed_lines.specs.declared.refusal.ObjectKind.{ObjectKind}
use Rattle.printed_lines.specs.declared.refusal.ObjectKind.TheVariants as object
use Rattle.printed_lines.specs.declared.refusal.Refusal.{Refusal}
use Rattle.printed_lines.specs.declared.refusal.Refusal.TheVariants as refusal
use Rattle.printed_lines.specs.declared.refusal.Rejection.{Rejection}
use Rattle.printed_lines.specs.declared.refusal.Rejection.TheVariants as rejection
use Rattle.wire_form.specs.Gots.{wire_meant}
use Rattle.printed_lines.specs.OutcomeLines.{line_of, value_line}

-- a text, and a number, behind a blank
abbrev pub word : List ℕ → List ℕ
word text = codes " " ++ text

abbrev pub also : ℕ → List ℕ
also n = word (decimal n)

-- the kinds of faults
abbrev pub lexical_name : LexicalFault → List ℕ
lexical_name lexical.Char = codes "Char"
lexical_name lexical.BadEscape = codes "BadEscape"
lexical_name lexical.Unclosed = codes "Unclosed"
lexical_name lexical.Utf8 = codes "Utf8"
lexical_name lexical.TextLong = codes "TextLong"
lexical_name lexical.NumberRange = codes "NumberRange"
lexical_name lexical.NameLong = codes "NameLong"

abbrev pub syntax_name : SyntaxKind → List ℕ
syntax_name (syntax.Lexical kind) = lexical_name kind
syntax_name syntax.Expected = codes "Expected"
syntax_name syntax.TooNested = codes "TooNested"

abbrev pub literal_name : LiteralKind → List ℕ
literal_name (literal.Lexical kind) = lexical_name kind
literal_name literal.Mismatch = codes "Mismatch"
literal_name literal.TooDeep = codes "TooDeep"
literal_name literal.TooBig = codes "TooBig"

abbrev pub limited_name : Limited → List ℕ
limited_name limited.Types = codes "types"
limited_name limited.Constructors = codes "constructors"
limited_name limited.Fields = codes "fields"
limited_name limited.Functions = codes "functions"
limited_name limited.Parameters = codes "parameters"
limited_name limited.Locals = codes "locals"

abbrev pub typing_name : TypeKind → List ℕ
typing_name typing.Twice = codes "Twice"
typing_name (typing.Limit thing) = codes "Limit-" ++ limited_name thing
typing_name typing.NoState = codes "NoState"
typing_name typing.UnknownName = codes "UnknownName"
typing_name typing.RoleShape = codes "RoleShape"
typing_name typing.AuthInArgument = codes "AuthInArgument"
typing_name typing.WrongType = codes "WrongType"
typing_name typing.NotPair = codes "NotPair"
typing_name typing.NotAuth = codes "NotAuth"
typing_name typing.NotVec = codes "NotVec"
typing_name typing.NotSum = codes "NotSum"
typing_name typing.ArmsWrong = codes "ArmsWrong"
typing_name typing.WrongCount = codes "WrongCount"

-- one more of a thing than there may be
abbrev pub limit_of : Limited → TypeKind
limit_of thing = typing.Limit thing

abbrev pub program_name : ProgramKind → List ℕ
program_name (Syntax kind) = syntax_name kind
program_name (Typing kind) = typing_name kind

-- why bytes are no object that is accepted
abbrev pub object_text : ObjectKind → List ℕ
object_text (object.Cut bytes) = codes "object cut" ++ also bytes
object_text (object.BadField offset) = codes "object field" ++ also offset
object_text (object.Leftover bytes) = codes "object leftover" ++ also bytes
object_text (object.Shape function) = codes "object shape" ++ also function
object_text (object.Kind function instruction) = codes "object kind" ++ (also function ++ also instruction)

-- the names of arguments
abbrev pub argument_name : Argument → List ℕ
argument_name argument.Program = codes "P"
argument_name argument.Other = codes "Q"
argument_name argument.State = codes "STATE"
argument_name argument.Fuel = codes "FUEL"
argument_name argument.Image = codes "IMG"
argument_name argument.Number = codes "N"
argument_name argument.Out = codes "OUT"
argument_name argument.Seed = codes "SEED"
argument_name argument.Count = codes "COUNT"
argument_name argument.Port = codes "PORT"
argument_name argument.Connections = codes "CONNS"
argument_name argument.Slice = codes "SLICE"
argument_name argument.Script = codes "SCRIPT"
argument_name argument.Mirror = codes "MIRROR"

-- why a state is not moved from one program to another
abbrev pub migration_text : MigrationKind → List ℕ
migration_text migration.Format = codes "migrate format"
migration_text migration.Types = codes "migrate types"

-- why bytes are no image
abbrev pub image_text : ImageKind → List ℕ
image_text image.Magic = codes "image magic"
image_text image.OtherProgram = codes "image program"
image_text (image.Cut bytes) = codes "image cut" ++ also bytes
image_text (image.BadRecord number) = codes "image record" ++ also number
image_text image.RootType = codes "image root"
image_text (image.TooBig number) = codes "image too big" ++ also number
image_text (image.TooDeep number) = codes "image too deep" ++ also number
image_text (image.Leftover bytes) = codes "image leftover" ++ also bytes

-- why bytes are no mirror
abbrev pub mirror_text : MirrorKind → List ℕ
mirror_text (mirror.Cut bytes) = codes "mirror cut" ++ also bytes
mirror_text (mirror.BadField offset) = codes "mirror field" ++ also offset
mirror_text (mirror.Leftover bytes) = codes "mirror leftover" ++ also bytes

-- why a journal is refused
abbrev pub journal_text : JournalKind → List ℕ
journal_text journal.NotEmpty = codes "journal not empty"
journal_text journal.Magic = codes "journal magic"
journal_text (journal.Cut bytes) = codes "journal cut" ++ also bytes
journal_text journal.OtherProgram = codes "journal program"
journal_text (journal.BadRecord number) = codes "journal record" ++ also number
journal_text (journal.Image kind) = codes "journal" ++ word (image_text kind)

-- why an input is refused
abbrev pub input_text : InputFault → List ℕ
input_text (TooLong argument) = codes "too long" ++ word (argument_name argument)
input_text LibraryUnknown = codes "library unknown"
input_text (Migration kind) = migration_text kind
input_text ObjectFormat = codes "object format"
input_text RoleUnknown = codes "role unknown"
input_text RoleKind = codes "role kind"
input_text (Number argument) = codes "number" ++ word (argument_name argument)
input_text (State offset) = codes "state" ++ also offset
input_text (Literal kind offset) = codes "argument" ++ (word (literal_name kind) ++ also offset)
input_text (Image kind) = image_text kind
input_text (Mirror kind) = mirror_text kind
input_text (Journal kind) = journal_text kind
input_text (Script line) = codes "script" ++ also line

-- that a frame names a kept piece which isn't there
abbrev pub bad_use_text : ℕ → ℕ → ℕ → List ℕ
bad_use_text place k held = codes "bad-use" ++ (also place ++ (also k ++ also held))

-- that a piece has another digest than the one held, both in hexadecimal digits
abbrev pub wrong_piece_text : ℕ → List ℕ → List ℕ → List ℕ
wrong_piece_text place want found = codes "wrong-piece" ++ (also place ++ (word want ++ word found))

-- that no piece has the digest held, in hexadecimal digits
abbrev pub missing_text : ℕ → List ℕ → List ℕ
missing_text place want = codes "missing" ++ (also place ++ word want)

-- why no message is read
abbrev pub bad_message_line : (kind offset : ℕ) → List ℕ
bad_message_line kind offset = line_of (codes "bad message") (also kind ++ also offset)

abbrev pub long_message_line : ℕ → List ℕ
long_message_line len = line_of (codes "message too long") (also len)

abbrev pub cut_line : List ℕ
cut_line = codes "reply cut\n"

abbrev pub no_reply_line : List ℕ
no_reply_line = codes "reply ended\n"

abbrev pub wire_line : Wire → List ℕ
wire_line wire.AtEnd = no_reply_line
wire_line wire.IsCut = cut_line
wire_line (wire.TooLong len) = long_message_line len
wire_line (wire.BadMessage kind offset) = bad_message_line kind offset

-- the line of a rejection for this reason
abbrev pub reason_line : List ℕ → List ℕ
reason_line reason = line_of (codes "rejected ") reason

-- The line of a rejection: the cause and its numbers, a piece's place first. Where no answer is read, that of why.
abbrev pub rejected_line : Cause → List ℕ
rejected_line Header = reason_line (codes "header")
rejected_line (Short place) = reason_line (codes "short" ++ also place)
rejected_line (BadKind place byte) = reason_line (codes "bad-kind" ++ also place ++ also byte)
rejected_line (Cut place) = reason_line (codes "cut" ++ also place)
rejected_line (PieceLong place len) = reason_line (codes "piece-long" ++ also place ++ also len)
rejected_line (BadUse place k held) = reason_line (bad_use_text place k held)
rejected_line (WrongPiece place want found) = reason_line (wrong_piece_text place (encode_lower want) (encode_lower found))
rejected_line (BadPiece place offset) = reason_line (codes "bad-piece" ++ also place ++ also offset)
rejected_line (Leftover bytes) = reason_line (codes "leftover" ++ also bytes)
rejected_line (Missing place want) = reason_line (missing_text place (encode_lower want))
rejected_line (Broken place want why) = wire_line why

-- the same of why the code rejects
abbrev pub rejection_line : Rejection → List ℕ
rejection_line (rejection.Cause cause) = rejected_line (cause_told cause)
rejection_line (rejection.Missing place want) = rejected_line (Missing place want.0)
rejection_line (rejection.Broken wire) = wire_line (wire_meant wire)

-- the line of a refusal
abbrev pub program_line : ProgramKind → ℕ → ℕ → List ℕ
program_line kind line column = line_of (codes "program refused: ") (program_name kind ++ also line ++ also column)

abbrev pub refusal_line : Refusal → List ℕ
refusal_line (refusal.Program kind line column) = program_line kind line column
refusal_line (refusal.Object kind) = line_of (codes "program refused: ") (object_text kind)
refusal_line (refusal.Input fault) = line_of (codes "input refused: ") (input_text fault)
refusal_line (refusal.Proof why) = rejection_line why

-- the line of `check`, with the digest of a program's text, or of its object
abbrev pub ok_line : List ℕ → List ℕ
ok_line digest = line_of (codes "ok ") (encode_lower digest)

abbrev pub state_line : Table → ConstructorNames → Ty → Value → List ℕ
state_line types names t v = value_line (codes "state ") types names t v

-- what proofs have: how many pieces of their own, how many they name again, and how many bytes
abbrev pub proofs_text : (fresh again bytes : ℕ) → List ℕ
proofs_text fresh again bytes = codes "new" ++ (also fresh ++ (codes " used" ++ (also again ++ (codes " bytes" ++ also bytes))))

-- the line of a proof
abbrev pub proof_line : (fresh again bytes : ℕ) → List ℕ
proof_line fresh again bytes = line_of (codes "proof ") (proofs_text fresh again bytes)

-- the line of a mirror: how many pieces it has
abbrev pub pieces_line : ℕ → List ℕ
pieces_line count = line_of (codes "pieces ") (decimal count)

-- the line of many calls: how many there were, how many of them ended with a value, and what their proofs have together
abbrev pub calls_text : (calls done : ℕ) → List ℕ
calls_text calls done = codes "calls" ++ (also calls ++ (codes " done" ++ (also done ++ codes " ")))

abbrev pub calls_line : (calls done fresh again bytes : ℕ) → List ℕ
calls_line calls done fresh again bytes = line_of (calls_text calls done) (proofs_text fresh again bytes)

-- the hexadecimal digits of a piece, or a dash where it has no bytes
abbrev pub piece_text : List ℕ → List ℕ
piece_text [] = codes "-"
piece_text (b ∷ bytes) = encode_lower (b ∷ bytes)

-- the fingerprint of a type, where digests tell it
abbrev pub print_text : Option (List ℕ) → List ℕ
print_text (Some print) = word (encode_lower print)
print_text None = []

-- The line of a collision: the number of the piece, what the proof offers and what an honest prover writes, and the fingerprint that
-- stands before both where they are digested
abbrev pub collision_line : (place : ℕ) (offered honest : List ℕ) (print : Option (List ℕ)) → List ℕ
collision_line place offered honest print = line_of (codes "collision") (also place ++ (word (piece_text offered) ++ (word (piece_text honest) ++ print_text print)))

-- the line of an audit that agrees on an outcome, behind which the outcome's line stands
abbrev pub agrees_line : List ℕ → List ℕ
agrees_line line = codes "agrees " ++ line

-- the lines of a server: that it listens to a port, how many versions and commits it has at the end, and that a link failed
abbrev pub listening_line : ℕ → List ℕ
listening_line port = line_of (codes "listening ") (decimal port)

abbrev pub versions_text : (versions commits : ℕ) → List ℕ
versions_text versions commits = decimal versions ++ (codes " commits" ++ also commits)

abbrev pub versions_line : (versions commits : ℕ) → List ℕ
versions_line versions commits = line_of (codes "versions ") (versions_text versions commits)

abbrev pub link_fault_line : List ℕ
link_fault_line = codes "link fault\n"
