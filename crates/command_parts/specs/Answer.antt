-- What each command answers, by its words and the files.
use Rattle.std.specs.Prelude.{ℕ, List, [], ◌∷◌, ◌++◌, length, map, ◌&&◌, not, bytes_eq, nat_le, Option, Some, None, if◌then◌else◌}
use Rattle.sha2.specs.Sha256.{sha256}
use Rattle.command_words.specs.Invocations.{Invocation, invocation_of}
use Rattle.command_words.specs.declared.command.Command.{Command}
use Rattle.command_words.specs.declared.command.Command.TheVariants.{Check, Init, Ideal, Step, Shallow, Migrate, Prove, Verify, Audit, Library, Gen, Serve, Ask, Pieces, Fetch, Mirror, Draw, Found, Host, Replay, Emit}
use Rattle.lam_outside.specs.Told.{Contents}
use Rattle.core_terms.specs.Types.{same_type}
use Rattle.core_terms.specs.Values.{Value}
use Rattle.core_terms.specs.Terms.{Update, Program}
use Rattle.core_terms.specs.Roles.{argument_type}
use Rattle.core_terms.specs.Limits.{most_file_bytes}
use Rattle.ideal_meaning.specs.Checked as checked
use Rattle.object_meaning.specs.WrittenObjects.{written}
use Rattle.piece_mirror.specs.Answers.{given_by}
use Rattle.piece_mirror.specs.Files.{FileFault, IsCut, IsBad, IsLeftover, Mirrored, Holds, Faulty, mirror_file, read_mirror}
use Rattle.piece_mirror.specs.Filled.{all_added, pieces_in}
use Rattle.session_meaning.specs.Server.{Shared, new_server}
use Rattle.printed_lines.specs.Lines.{agrees_line, collision_line, ok_line, pieces_line}
use Rattle.printed_lines.specs.declared.refusal.Argument.TheVariants as named
use Rattle.printed_lines.specs.declared.refusal.InputFault.TheVariants.{TooLong, Migration, ObjectFormat, Number, Mirror as BadMirror, Script as BadScript}
use Rattle.printed_lines.specs.declared.refusal.MigrationKind.{MigrationKind}
use Rattle.printed_lines.specs.declared.refusal.MigrationKind.TheVariants as migration
use Rattle.printed_lines.specs.declared.refusal.MirrorKind.{MirrorKind}
use Rattle.printed_lines.specs.declared.refusal.MirrorKind.TheVariants as mirror
use Rattle.ask_script.specs.Scripts.{Script, Steps, FaultyLine, UserStep, script_of}
use Rattle.collision_audit.specs.Audits.{Collides, Judges}
use Rattle.collision_audit.specs.Audits as audits
use Rattle.command_parts.specs.Arguments.{most_links, most_port, most_slice, positive_within}
use Rattle.number_words.specs.Numbers.{number_within}
use Rattle.fetched_verdicts.specs.Verdicts.{verdict_over}
use Rattle.command_parts.specs.FilePrograms.{begins_as_object}
use Rattle.command_parts.specs.FueledRoles.{DeclaredProgram, DigestedProgram, FueledRole, ListedProgram, NamedProgram}
use Rattle.command_parts.specs.IdealCalls.{IdealCall, call_audit, call_proof, call_proof_line, projected_outcome}
use Rattle.command_parts.specs.RoleCalls.{program_called}
use Rattle.command_parts.specs.TextPrograms.{constructors_of_text}
use Rattle.command_parts.specs.declared.roles.Callee.TheVariants as callee
use Rattle.command_parts.specs.declared.status.Status.TheVariants.{Done, Collision}
use Rattle.command_parts.specs.AnswerForms.{Answer, says}
use Rattle.command_parts.specs.RefusedAnswers.{input_refused, usage_answer, verdict_answer}
use Rattle.command_parts.specs.FileInputs.{with_bytes, with_declared_file, with_file, with_image_bytes, with_image_file, with_number, with_program_bytes, with_program_file, with_state_file, with_text}
use Rattle.command_parts.specs.RoleInputs.{RoleCall, role_verdict, with_ended_call, with_ended_init, with_fueled_role, with_ideal_call, with_role_call}
use Rattle.command_parts.specs.OutcomeAnswers.{projected_line, role_answer, state_answer, storing, storing_answer}
use Rattle.command_parts.specs.AcceptedAnswers.{shallow_told, accepted_answer, callee_of}
use Rattle.command_parts.specs.WorkloadAnswers.{generated_answer, library_answer}

-- `check P`: the digest of the program's bytes
abbrev pub checked_answer : List ℕ → Contents → Option Answer
checked_answer program files = with_program_file (files program) (λ p. Some (says Done (ok_line p.digested.digest)))

-- `shallow P IMG OUT`: the projection of the state that an image keeps
abbrev pub spelled_answer : (program image out : List ℕ) → Contents → Option Answer
spelled_answer program image out files =
    with_program_file (files program) (λ p. with_image_file p.digested (files image) (λ v. Some (state_answer p v out)))

-- the pieces of an ideal state, as they are put into a mirror: of each authenticated part one, and equal pieces once
unfoldable pub state_pieces : Program → Value → List (List ℕ)
state_pieces P v = all_added [] (pieces_in sha256 P v)

-- the file of a mirror with these pieces
unfoldable pub pieces_file : List (List ℕ) → List ℕ
pieces_file pieces = mirror_file pieces

-- what is answered for pieces of which a mirror's file is stored under a name, where it isn't too long to be stored: how many there are
abbrev pub pieces_answer : List (List ℕ) → List ℕ → Answer
pieces_answer pieces name =
    let file = pieces_file pieces in
    if nat_le (length file) most_file_bytes
    then record { status = Done; lines = pieces_line (length pieces) ∷ []; stored = (name, file) ∷ [] }
    else input_refused (TooLong named.Out)

-- `pieces P IMG OUT`: the pieces of the state that an image keeps
abbrev pub filed_answer : (program image out : List ℕ) → Contents → Option Answer
filed_answer program image out files =
    with_program_file (files program) (λ p. with_image_file p.digested (files image) (λ v. Some (pieces_answer (state_pieces p.digested.program v) out)))

-- goes on with a text's program, where the file `P` doesn't begin as an object
abbrev pub with_listed : List ℕ → (ListedProgram → Option Answer) → Option Answer
with_listed bytes go =
    if begins_as_object bytes
    then Some (input_refused ObjectFormat)
    else with_text bytes (λ p. go (record { program = p.digested.program; constructors = constructors_of_text bytes }))

abbrev pub with_listed_file : Option (List ℕ) → (ListedProgram → Option Answer) → Option Answer
with_listed_file file go = with_program_bytes file (λ bytes. with_listed bytes go)

-- the bytes of a program's object; none where it is too long
unfoldable pub object_written : ListedProgram → Option (List ℕ)
object_written p = written p.program p.constructors

-- what is answered for an object that is stored under a name, where it isn't too long: nothing is told
abbrev pub stored_object : Option (List ℕ) → List ℕ → Answer
stored_object None name = input_refused (TooLong named.Out)
stored_object (Some object) name = record { status = Done; lines = []; stored = (name, object) ∷ [] }

-- what is answered for a program whose object is stored: it is of the first format
abbrev pub object_answer : ListedProgram → List ℕ → Answer
object_answer p name = if p.program.format.arrays then input_refused ObjectFormat else stored_object (object_written p) name

-- `emit P OUT`: the object of a text's program
abbrev pub emitted_answer : (program out : List ℕ) → Contents → Option Answer
emitted_answer program out files = with_listed_file (files program) (λ p. Some (object_answer p out))

-- Why no state of a program is moved to another, where it isn't: the other's format has arrays and the one's has none; both declare the same
-- types, by the same names, and have the same type of state.
unfoldable pub migration_fault : DeclaredProgram → DeclaredProgram → Option MigrationKind
migration_fault p q =
    let P = p.named.digested.program in
    let Q = q.named.digested.program in
    if not P.format.arrays && Q.format.arrays
    then (if bytes_eq p.types_text q.types_text && same_type P.state Q.state then None else Some migration.Types)
    else Some migration.Format

-- goes on where the states of a program may be moved to another
abbrev pub with_no_fault : Option MigrationKind → Option Answer → Option Answer
with_no_fault None go = go
with_no_fault (Some kind) go = Some (input_refused (Migration kind))

abbrev pub with_migration : DeclaredProgram → DeclaredProgram → Option Answer → Option Answer
with_migration p q go = with_no_fault (migration_fault p q) go

-- what is answered for an ideal state that is kept as one of a program: its projection by that program, with its image stored
abbrev pub moved_answer : NamedProgram → Value → List ℕ → Answer
moved_answer q v name = storing q.digested v name (says Done (projected_line q v))

-- `migrate P IMG Q OUT`: the state that an image of P keeps, as one of Q. Both programs are judged, and then what they have in common, before
-- the image is read.
abbrev pub migrated_answer : (program image other out : List ℕ) → Contents → Option Answer
migrated_answer program image other out files =
    with_declared_file named.Program (files program) (λ p.
    with_declared_file named.Other (files other) (λ q.
    with_migration p q (with_image_file p.named.digested (files image) (λ v. Some (moved_answer q.named v out)))))

-- `init P ROLE ARG FUEL OUT`: the state that an init makes
abbrev pub initial_answer : (program role argument fuel out : List ℕ) → Contents → Option Answer
initial_answer program role argument fuel out files =
    with_program_file (files program) (λ p.
    with_ended_init p role argument fuel (λ ended. Some (storing_answer ended out)))

-- `ideal P ROLE IMG ARG FUEL`: how a query or an update ends on the state that an image keeps
abbrev pub ideal_answer : (program role image argument fuel : List ℕ) → Contents → Option Answer
ideal_answer program role image argument fuel files =
    with_program_file (files program) (λ p.
    with_ended_call callee.OfState p role image argument fuel files (λ ended. Some (role_answer ended)))

-- `step P ROLE IMG ARG FUEL OUT`: the same of an update, whose new state is stored
abbrev pub stepped_answer : (program role image argument fuel out : List ℕ) → Contents → Option Answer
stepped_answer program role image argument fuel out files =
    with_program_file (files program) (λ p.
    with_ended_call callee.Update p role image argument fuel files (λ ended. Some (storing_answer ended out)))

-- what is answered for a proof of a call
abbrev pub verified_answer : Option (List ℕ) → RoleCall → List ℕ → Answer
verified_answer out call proof = verdict_answer (accepted_answer call.role out) (role_verdict call proof)

-- `verify P ROLE STATE ARG FUEL PROOF [OUT]`: the verdict on a proof file, which is opened when all else is well-formed
abbrev pub judged_answer : (program role state argument fuel proof : List ℕ) → (out : Option (List ℕ)) → Contents → Option Answer
judged_answer program role state argument fuel proof out files =
    with_program_file (files program) (λ p.
    with_fueled_role (callee_of out) p role fuel (λ r.
    with_role_call r state argument files (λ call.
    with_bytes (files proof) (λ bytes. Some (verified_answer out call bytes)))))

-- why the bytes of a mirror are refused
abbrev pub mirror_kind : FileFault → MirrorKind
mirror_kind (IsCut bytes) = mirror.Cut bytes
mirror_kind (IsBad offset) = mirror.BadField offset
mirror_kind (IsLeftover bytes) = mirror.Leftover bytes

-- goes on with the pieces of a mirror
abbrev pub with_pieces : Mirrored → (List (List ℕ) → Option Answer) → Option Answer
with_pieces (Holds pieces) go = go pieces
with_pieces (Faulty fault) go = Some (input_refused (BadMirror (mirror_kind fault)))

-- bytes as the file of a mirror
unfoldable pub mirror_read : List ℕ → Mirrored
mirror_read bytes = read_mirror bytes

-- goes on with the pieces of the mirror that these bytes are, and with those of the one in a file
abbrev pub with_mirror : List ℕ → (List (List ℕ) → Option Answer) → Option Answer
with_mirror bytes go = with_pieces (mirror_read bytes) go

abbrev pub with_mirror_file : Option (List ℕ) → (List (List ℕ) → Option Answer) → Option Answer
with_mirror_file file go = with_file most_file_bytes named.Mirror file (λ bytes. with_mirror bytes go)

-- the verdict on a call, over a mirror with these pieces
unfoldable pub fetched_verdict : RoleCall → List (List ℕ) → checked.Verdict
fetched_verdict call pieces =
    let r = call.role in
    let P = program_called r in
    verdict_over sha256 P (given_by sha256 pieces) (argument_type P r.role) r.role call.state call.argument r.fuel

-- what is answered for a call over a mirror with these pieces
abbrev pub mirrored_answer : RoleCall → List (List ℕ) → Answer
mirrored_answer call pieces = verdict_answer (shallow_told call.role) (fetched_verdict call pieces)

-- `fetch P ROLE STATE ARG FUEL MIRROR`: the verdict over a mirror, which is read when all else is well-formed
abbrev pub fetched_answer : (program role state argument fuel mirror : List ℕ) → Contents → Option Answer
fetched_answer program role state argument fuel mirror files =
    with_program_file (files program) (λ p.
    with_fueled_role callee.OfState p role fuel (λ r.
    with_role_call r state argument files (λ call.
    with_mirror_file (files mirror) (λ pieces. Some (mirrored_answer call pieces)))))

-- goes on with the number of pieces that a proof asks to be kept
abbrev pub with_kept : Program → List ℕ → (ℕ → Option Answer) → Option Answer
with_kept P text go = with_number named.Number (number_within P.format.most_kept text) go

-- What is answered for a call and the number of pieces that are kept: the line of its outcome and that of its proof, with the proof
-- stored under a name, however the call ends.
abbrev pub proof_answer : IdealCall → ℕ → List ℕ → Answer
proof_answer call n name =
    let told = shallow_told call.role (projected_outcome call) in
    record { status = told.status; lines = told.lines ++ call_proof_line call n ∷ []; stored = (name, call_proof call n) ∷ [] }

-- `prove P ROLE IMG ARG FUEL N OUT`: the proof of a call. The numbers are judged before the image is read.
abbrev pub proved_answer : (program role image argument fuel kept out : List ℕ) → Contents → Option Answer
proved_answer program role image argument fuel kept out files =
    with_program_file (files program) (λ p.
    with_fueled_role callee.OfState p role fuel (λ r.
    with_kept (program_called r) kept (λ n.
    with_ideal_call r image argument files (λ call. Some (proof_answer call n out)))))

-- the same answer of an audit that agrees on it
abbrev pub agreeing : Answer → Answer
agreeing a = record a { lines = map agrees_line a.lines }

-- What is answered for what an audit of a call of a role comes to: a collision, or what is answered for its verdict, with agreement on
-- its outcome. The verdict is one on the proof, since the state and the argument are ideal values within the limits.
abbrev pub audit_told : FueledRole → audits.Audit → Answer
audit_told r (Collides split) = says Collision (collision_line split.place split.offered split.honest split.print)
audit_told r (Judges v) = verdict_answer (λ o. agreeing (shallow_told r o)) v

abbrev pub call_audit_answer : IdealCall → List ℕ → Answer
call_audit_answer call proof = audit_told call.role (call_audit call proof)

-- `audit P ROLE IMG ARG FUEL PROOF`: the audit of a proof file of any length, which is opened when all else is well-formed
abbrev pub audited_answer : (program role image argument fuel proof : List ℕ) → Contents → Option Answer
audited_answer program role image argument fuel proof files =
    with_program_file (files program) (λ p.
    with_fueled_role callee.OfState p role fuel (λ r.
    with_ideal_call r image argument files (λ call.
    with_bytes (files proof) (λ bytes. Some (call_audit_answer call bytes)))))

-- the numbers of a serving: the port that is listened to, the number of links that are served, and the greatest number of calls of functions in
-- a turn
pub record ServingNumbers : Type 0 where
  pub port : ℕ
  pub links : ℕ
  pub slice : ℕ

abbrev pub with_serving_numbers : (port links slice : List ℕ) → (ServingNumbers → Option Answer) → Option Answer
with_serving_numbers port links slice go =
    with_number named.Port (positive_within most_port port) (λ n.
    with_number named.Connections (positive_within most_links links) (λ m.
    with_number named.Slice (positive_within most_slice slice) (λ k.
    go (record { port = n; links = m; slice = k }))))

-- what is served: a program, from these versions and commits on, and by these numbers
pub record Serving : Type 0 where
  pub program : DigestedProgram
  pub begun : Shared
  pub port : ℕ
  pub links : ℕ
  pub slice : ℕ

abbrev pub serving_of : DigestedProgram → ServingNumbers → Shared → Serving
serving_of p numbers begun = record { program = p; begun = begun; port = numbers.port; links = numbers.links; slice = numbers.slice }

-- a first version, without commits
abbrev pub first_shared : Value → Shared
first_shared v = (new_server v).shared

-- Goes on with what the words and the files mean to serve: the program's file, the numbers from left to right, and then the image are judged.
abbrev pub with_serving : (program image port links slice : List ℕ) → Contents → (Serving → Option Answer) → Option Answer
with_serving program image port links slice files go =
    with_program_file (files program) (λ p.
    with_serving_numbers port links slice (λ numbers.
    with_image_file p.digested (files image) (λ v. go (serving_of p.digested numbers (first_shared v)))))

-- what a journal is made of: a program, and the bytes of an image of it
pub record Founding : Type 0 where
  pub program : DigestedProgram
  pub image : List ℕ

-- Goes on with the journal that the words and the files mean: the program's file, and then the image are judged.
abbrev pub with_founding : (program image : List ℕ) → Contents → (Founding → Option Answer) → Option Answer
with_founding program image files go =
    with_program_file (files program) (λ p.
    with_image_bytes p.digested (files image) (λ bytes. go (record { program = p.digested; image = bytes })))

-- bytes as a script for a program
unfoldable pub script_read : NamedProgram → List ℕ → Script
script_read p text = script_of p.digested.program p.names text

-- goes on with the steps of a script, and with those of the script in a file
abbrev pub with_steps : Script → (List UserStep → Option Answer) → Option Answer
with_steps (Steps steps) go = go steps
with_steps (FaultyLine number) go = Some (input_refused (BadScript number))

abbrev pub with_script : NamedProgram → List ℕ → (List UserStep → Option Answer) → Option Answer
with_script p text go = with_steps (script_read p text) go

abbrev pub with_script_file : NamedProgram → Option (List ℕ) → (List UserStep → Option Answer) → Option Answer
with_script_file p file go = with_file most_file_bytes named.Script file (λ text. with_script p text go)

-- what is asked of a server: a program, the spelling of the state at which sessions are opened, the port that is dialled, and the steps of the
-- script
pub record Asking : Type 0 where
  pub program : NamedProgram
  pub state : List ℕ
  pub port : ℕ
  pub steps : List UserStep

-- Goes on with what is asked about a program: the port, the state and the script are judged in this order.
abbrev pub with_asked : NamedProgram → (state port script : List ℕ) → Contents → (Asking → Option Answer) → Option Answer
with_asked p state port script files go =
    with_number named.Port (positive_within most_port port) (λ n.
    with_state_file p.digested.program (files state) (λ bytes.
    with_script_file p (files script) (λ steps.
    go (record { program = p; state = bytes; port = n; steps = steps }))))

-- the same, where the program's file is judged before
abbrev pub with_asking : (program state port script : List ℕ) → Contents → (Asking → Option Answer) → Option Answer
with_asking program state port script files go = with_program_file (files program) (λ p. with_asked p state port script files go)

-- what a mirror answers from on a net: its pieces, the port that is listened to, and the number of links that are answered
pub record Mirroring : Type 0 where
  pub pieces : List (List ℕ)
  pub port : ℕ
  pub links : ℕ

-- Goes on with the mirror that the words and the files mean: the numbers from left to right, and then the mirror are judged.
abbrev pub with_mirroring : (mirror port links : List ℕ) → Contents → (Mirroring → Option Answer) → Option Answer
with_mirroring mirror port links files go =
    with_number named.Port (positive_within most_port port) (λ n.
    with_number named.Connections (positive_within most_links links) (λ m.
    with_mirror_file (files mirror) (λ pieces. go (record { pieces = pieces; port = n; links = m }))))

-- a call whose pieces are asked for at a port
pub record Drawing : Type 0 where
  pub call : RoleCall
  pub port : ℕ

-- Goes on with the call that the words and the files mean: the program's file, the role, the fuel, the port, the state and the argument are
-- judged in this order.
abbrev pub with_drawn : NamedProgram → (role state argument fuel port : List ℕ) → Contents → (Drawing → Option Answer) → Option Answer
with_drawn p role state argument fuel port files go =
    with_fueled_role callee.OfState p role fuel (λ r.
    with_number named.Port (positive_within most_port port) (λ n.
    with_role_call r state argument files (λ call. go (record { call = call; port = n }))))

abbrev pub with_drawing : (program role state argument fuel port : List ℕ) → Contents → (Drawing → Option Answer) → Option Answer
with_drawing program role state argument fuel port files go =
    with_program_file (files program) (λ p. with_drawn p role state argument fuel port files go)

-- What is answered to a command with the texts of its arguments. There is no answer where `serve`, `mirror` and `host` come to listen, `ask` and `draw`
-- to dial, and `found`, `host` and `replay` to a journal: how they end from there on depends on links or on a disk, and stands in the files of these
-- commands. No command is called with more texts or fewer.
abbrev pub answer_with : Command → List (List ℕ) → Contents → Option Answer
answer_with Check (program ∷ []) = checked_answer program
answer_with Init (program ∷ role ∷ argument ∷ fuel ∷ out ∷ []) = initial_answer program role argument fuel out
answer_with Ideal (program ∷ role ∷ image ∷ argument ∷ fuel ∷ []) = ideal_answer program role image argument fuel
answer_with Step (program ∷ role ∷ image ∷ argument ∷ fuel ∷ out ∷ []) = stepped_answer program role image argument fuel out
answer_with Shallow (program ∷ image ∷ out ∷ []) = spelled_answer program image out
answer_with Migrate (program ∷ image ∷ other ∷ out ∷ []) = migrated_answer program image other out
answer_with Prove (program ∷ role ∷ image ∷ argument ∷ fuel ∷ kept ∷ out ∷ []) = proved_answer program role image argument fuel kept out
answer_with Verify (program ∷ role ∷ state ∷ argument ∷ fuel ∷ proof ∷ []) = judged_answer program role state argument fuel proof None
answer_with Verify (program ∷ role ∷ state ∷ argument ∷ fuel ∷ proof ∷ out ∷ []) = judged_answer program role state argument fuel proof (Some out)
answer_with Audit (program ∷ role ∷ image ∷ argument ∷ fuel ∷ proof ∷ []) = audited_answer program role image argument fuel proof
answer_with Library (name ∷ []) = library_answer name
answer_with Gen (name ∷ seed ∷ count ∷ kept ∷ []) = generated_answer name seed count kept
answer_with Serve (program ∷ image ∷ port ∷ links ∷ slice ∷ out ∷ []) = λ files. with_serving program image port links slice files (λ s. None)
answer_with Ask (program ∷ state ∷ port ∷ script ∷ out ∷ []) = λ files. with_asking program state port script files (λ a. None)
answer_with Pieces (program ∷ image ∷ out ∷ []) = filed_answer program image out
answer_with Fetch (program ∷ role ∷ state ∷ argument ∷ fuel ∷ mirror ∷ []) = fetched_answer program role state argument fuel mirror
answer_with Mirror (mirror ∷ port ∷ links ∷ []) = λ files. with_mirroring mirror port links files (λ m. None)
answer_with Draw (program ∷ role ∷ state ∷ argument ∷ fuel ∷ port ∷ []) = λ files. with_drawing program role state argument fuel port files (λ d. None)
answer_with Found (program ∷ image ∷ journal ∷ []) = λ files. with_founding program image files (λ f. None)
answer_with Host (program ∷ journal ∷ port ∷ links ∷ slice ∷ []) = λ files. with_program_file (files program) (λ p. with_serving_numbers port links slice (λ numbers. None))
answer_with Replay (program ∷ journal ∷ out ∷ []) = λ files. with_program_file (files program) (λ p. None)
answer_with Emit (program ∷ out ∷ []) = emitted_answer program out
answer_with command texts = λ files. None

abbrev pub command_answer : Invocation → Contents → Option Answer
command_answer invocation = answer_with invocation.command invocation.texts

-- what is answered to words that call it, or that call no command
abbrev pub called_answer : Option Invocation → Contents → Option Answer
called_answer None = λ files. Some usage_answer
called_answer (Some invocation) = command_answer invocation

-- by the words of the command line, the program's name first, and the contents of the files
unfoldable pub answer : List (List ℕ) → Contents → Option Answer
answer words = called_answer (invocation_of words)
