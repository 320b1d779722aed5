-- Rows for what a run answers, and for the calls, programs and states of which its code holds what stands for them. What each word takes, and
-- what it refuses.
use Rattle.std.specs.Prelude.{◌≡◌, ◌≤◌, ◌^◌, ℕ, true, false, List, [], ◌∷◌, map, codes, length, nat_le, if◌then◌else◌, Option, Some, None, Ok, Err, refl}
use Rattle.sha2.specs.Sha256.{sha256}
use Rattle.auth_syntax.specs.Parsing as parsing
use Rattle.auth_syntax.specs.Syntax.{Program as ProgramSyntax}
use Rattle.auth_types.specs.CheckedPrograms.{constructors_in, names_of, table_of_program}
use Rattle.command_words.specs.Invocations.{Invocation}
use Rattle.command_words.specs.declared.command.Command.TheVariants.{Check, Init, Ideal, Step, Shallow, Migrate, Prove, Verify, Audit, Library, Gen, Serve, Ask, Pieces, Fetch, Mirror, Draw, Found, Host, Replay, Emit}
use Rattle.core_terms.specs.Formats as formats
use Rattle.core_terms.specs.Formats.{first_format, second_format}
use Rattle.core_terms.specs.Limits.{most_file_bytes, most_program_bytes}
use Rattle.core_terms.specs.Programs.{meaning, types_of}
use Rattle.core_terms.specs.ProgramTypes.{text_of}
use Rattle.core_terms.specs.Projection.{digest_at}
use Rattle.core_terms.specs.Reading.{BadAt}
use Rattle.core_terms.specs.RoleViews.{role_kind_of}
use Rattle.core_terms.specs.RoleTypes.{IsRole, role_result}
use Rattle.core_terms.specs.Spelling.{spelling}
use Rattle.core_terms.specs.Terms as tree
use Rattle.core_terms.specs.Terms.{Query, Update, function_at}
use Rattle.core_terms.specs.TypeDeclarations.{types_text}
use Rattle.core_terms.specs.TypeTables.{type_at}
use Rattle.core_terms.specs.Types.{Ty, UnitTy, IntTy, PairTy}
use Rattle.core_terms.specs.Values.{Value}
use Rattle.core_terms.specs.declared.program.Program.{Program}
use Rattle.core_terms.specs.declared.roles.Role.{Role}
use Rattle.ideal_meaning.specs.Checked as checked
use Rattle.ideal_meaning.specs.Ideal as ideal
use Rattle.ideal_meaning.specs.Run.{Trap}
use Rattle.images.specs.declared.load.Loaded.{Loaded}
use Rattle.lam_outside.specs.Told.{Contents}
use Rattle.lexemes.specs.declared.fault.SyntaxKind.{SyntaxKind}
use Rattle.lexemes.specs.declared.place.Place.{Place}
use Rattle.mode_vm.specs.IdealRuns.{IsOutcome}
use Rattle.printed_lines.specs.declared.refusal.Argument.{Argument}
use Rattle.printed_lines.specs.declared.refusal.Argument.TheVariants as named
use Rattle.printed_lines.specs.declared.refusal.InputFault.{InputFault}
use Rattle.printed_lines.specs.declared.refusal.InputFault.TheVariants.{TooLong, LibraryUnknown, Migration, ObjectFormat, RoleUnknown, RoleKind, Number, State, Literal as BadLiteral}
use Rattle.printed_lines.specs.declared.refusal.MigrationKind.{MigrationKind}
use Rattle.printed_lines.specs.declared.refusal.MigrationKind.TheVariants.{Format, Types}
use Rattle.printed_lines.specs.declared.refusal.ObjectKind.{ObjectKind}
use Rattle.printed_lines.specs.declared.refusal.ProgramKind.{ProgramKind}
use Rattle.printed_lines.specs.declared.refusal.Refusal.TheVariants as refusal
use Rattle.printed_lines.specs.declared.refusal.Rejection.{Rejection}
use Rattle.printed_syntax.specs.declared.fault.LiteralKind.TheVariants.{Mismatch}
use Rattle.value_store.specs.Markings.{HasLimit}
use Rattle.value_store.specs.Nodes.{Node}
use Rattle.value_store.specs.Standing.{ProverNodes, StandsFor}
use Rattle.value_store.specs.Stores.{nodes_in, store_lent}
use Rattle.value_store.specs.declared.node.Ref.{Ref}
use Rattle.command_parts.specs.Answer.{Drawing, Founding, Mirroring, answer_with, audited_answer, called_answer, checked_answer, command_answer, fetched_answer, emitted_answer, filed_answer, first_shared, ideal_answer, initial_answer, judged_answer, migrated_answer, migration_fault, object_answer, object_written, proved_answer, spelled_answer, stepped_answer, stored_object, with_drawing, with_drawn, with_founding, with_listed, with_mirror_file, with_mirroring, with_no_fault}
use Rattle.command_parts.specs.UnansweredInCode.{unasked_answer, undrawn_answer, unfounded_answer, unhosted_answer, unmirrored_answer, unreplayed_answer, unserved_answer}
use Rattle.command_parts.specs.AcceptedAnswers.{callee_of, spelling_stored, shallow_told}
use Rattle.command_parts.specs.WorkloadAnswers.{first_argument, first_role, generated_answer, is_entry, is_get, is_key, is_put, keys_of, library_answer, with_first, with_source}
use Rattle.command_parts.specs.OutcomeAnswers.{state_image, storing}
use Rattle.command_parts.specs.RoleInputs.{with_ended_init, with_fueled_role, with_role_at, with_role_call}
use Rattle.command_parts.specs.FileInputs.{with_file, with_image, with_image_bytes, with_number, with_program_bytes, with_program_file, with_state_read, with_text}
use Rattle.command_parts.specs.AnswerForms.{Answer}
use Rattle.command_parts.specs.RefusedAnswers.{input_refused, refusal_status, usage_answer, verdict_answer}
use Rattle.command_parts.specs.CallsInStores.{HoldsCall, HoldsSome}
use Rattle.command_parts.specs.FilePrograms.{begins_as_object, longest_program}
use Rattle.command_parts.specs.FueledRoles.{DeclaredProgram, DigestedProgram, FueledRole, ListedProgram, NamedProgram}
use Rattle.command_parts.specs.IdealCalls.{IdealCall}
use Rattle.command_parts.specs.ReadPrograms.{ReadsProgram, declared_of}
use Rattle.command_parts.specs.RoleCalls.{EndedRole, is_called, kind_called, result_called, state_made}
use Rattle.command_parts.specs.RolesCalled.{CallsOnStates, EndsIn, HasEnded, IsCalled, IsEnded, IsRoleOf, IsStateMade, MakesStates, prover_nodes, role_of}
use Rattle.command_parts.specs.StoredStates.{IsStoredState}
use Rattle.command_parts.specs.TextPrograms.{FileProgram, IsProgram, IsRefused, constructors_of_parsed, constructors_of_text, types_text_of_parsed}
use Rattle.command_parts.specs.declared.ideal_calls.IdealCall.{IdealCall as HeldCall}
use Rattle.command_parts.specs.declared.machine_calls.Ended.{Ended}
use Rattle.command_parts.specs.declared.programs.ProgramFault.TheVariants as program_fault
use Rattle.command_parts.specs.declared.roles.CalledRole.{CalledRole}
use Rattle.command_parts.specs.declared.roles.Callee.{Callee}
use Rattle.command_parts.specs.declared.roles.Callee.TheVariants as callee
use Rattle.command_parts.specs.declared.status.Status.TheVariants as status

-- REFUSALS
pub refusals : (kind : ProgramKind) (line column : ℕ) (of_object : ObjectKind) (fault : InputFault) (cause : Rejection)
    → map refusal_status (refusal.Program kind line column ∷ refusal.Object of_object ∷ refusal.Input fault ∷ refusal.Proof cause ∷ [])
    ≡ status.ProgramRefused ∷ status.ProgramRefused ∷ status.InputRefused ∷ status.Rejected ∷ []
refusals kind line column of_object fault cause = refl

pub verdicts : (told : ideal.Outcome → Answer) (offset : ℕ) (o : ideal.Outcome) → (verdict_answer told (checked.BadState offset) ≡ input_refused (State offset))
    × (verdict_answer told (checked.BadArgument offset) ≡ input_refused (BadLiteral Mismatch offset)) × (verdict_answer told (checked.Accepted o) ≡ told o)
verdicts told offset o = (refl, refl, refl)

-- FILES AND NUMBERS
pub longest_files : most_program_bytes ∷ most_file_bytes ∷ [] ≡ 262144 ∷ 67108864 ∷ []
longest_files = refl

-- a file may be as long as the limit, and no longer
pub files_within : (word : Argument) (go : List ℕ → Option Answer) → (with_file 2 word (Some (1 ∷ 2 ∷ [])) go ≡ go (1 ∷ 2 ∷ []))
    × (with_file 2 word (Some (1 ∷ 2 ∷ 3 ∷ [])) go ≡ Some (input_refused (TooLong word))) × (with_file 2 word None go ≡ None)
files_within word go = (refl, refl, refl)

pub numbers : (word : Argument) (n : ℕ) (go : ℕ → Option Answer) → (with_number word (Some n) go ≡ go n) × (with_number word None go ≡ Some (input_refused (Number word)))
numbers word n go = (refl, refl)

pub bad_state : (offset : ℕ) (bytes : List ℕ) (go : List ℕ → Option Answer) → with_state_read (BadAt offset) bytes go ≡ Some (input_refused (State offset))
bad_state offset bytes go = refl

pub image_fits : (p : DigestedProgram) (v : Value) (name : List ℕ) (a : Answer) → storing p v name a
    ≡ (if nat_le (length (state_image p v)) 67108864 then record a { stored = (name, state_image p v) ∷ [] } else input_refused (TooLong named.Out))
image_fits p v name a = refl

-- ROLES
pub roles_called : (map (is_called callee.Init) (tree.Inner ∷ tree.Init ∷ Query ∷ Update ∷ []) ≡ false ∷ true ∷ false ∷ false ∷ [])
    × (map (is_called callee.OfState) (tree.Inner ∷ tree.Init ∷ Query ∷ Update ∷ []) ≡ false ∷ false ∷ true ∷ true ∷ [])
    × (map (is_called callee.Update) (tree.Inner ∷ tree.Init ∷ Query ∷ Update ∷ []) ≡ false ∷ false ∷ false ∷ true ∷ [])
roles_called = (refl, refl, refl)

pub role_at : (callee : Callee) (P : tree.Program) (f : ℕ) (go : ℕ → Option Answer) → (with_role_at callee P None go ≡ Some (input_refused RoleUnknown))
    × (with_role_at callee P (Some f) go ≡ (if is_called callee (function_at P f).kind then go f else Some (input_refused RoleKind)))
role_at callee P f go = (refl, refl)

pub callees : (name : List ℕ) → (callee_of None ≡ callee.OfState) × (callee_of (Some name) ≡ callee.Update)
callees name = (refl, refl)

-- whether a command's roles read a state, and whether each of them makes one
pub on_states : (CallsOnStates callee.Init → ⊥) × CallsOnStates callee.OfState × CallsOnStates callee.Update
on_states = ((λ c. c), tt, tt)

pub make_states : MakesStates callee.Init × (MakesStates callee.OfState → ⊥) × MakesStates callee.Update
make_states = (tt, (λ m. m), tt)

-- OUTCOMES
pub outcomes : (r : FueledRole) (v : Value) (trap : Trap) → map (λ o. (shallow_told r o).status) (ideal.Done v ∷ ideal.Trapped trap ∷ ideal.Out ∷ [])
    ≡ status.Done ∷ status.Trap ∷ status.OutOfFuel ∷ []
outcomes r v trap = refl

-- a state is stored of a value alone, and where there is a name for it
pub stored_spellings : (r : FueledRole) (name : List ℕ) (v : Value) → (spelling_stored r (Some name) (ideal.Done v) ≡ (name, spelling (state_made (kind_called r) v)) ∷ [])
    × (spelling_stored r None (ideal.Done v) ≡ []) × (spelling_stored r (Some name) ideal.Out ≡ [])
stored_spellings r name v = (refl, refl, refl)

-- WORKLOADS
pub keys : map is_key (IntTy ∷ UnitTy ∷ []) ≡ true ∷ false ∷ []
keys = refl

pub entries : map is_entry (PairTy IntTy IntTy ∷ PairTy UnitTy IntTy ∷ PairTy IntTy UnitTy ∷ IntTy ∷ []) ≡ true ∷ false ∷ false ∷ false ∷ []
entries = refl

pub puts : is_put Update (PairTy IntTy IntTy) ∷ is_put Update IntTy ∷ is_put Query (PairTy IntTy IntTy) ∷ [] ≡ true ∷ false ∷ false ∷ []
puts = refl

pub gets : is_get Query IntTy ∷ is_get Query UnitTy ∷ is_get Update IntTy ∷ [] ≡ true ∷ false ∷ false ∷ []
gets = refl

pub of_workloads : (keys_of (codes "merkle") ≡ 1024) × (keys_of (codes "bst") ≡ 1000000) × (first_argument (codes "merkle") ≡ codes "(10, 0)") × (first_argument (codes "bst") ≡ codes "()")
of_workloads = (refl, refl, refl, refl)

pub first_fuel : (p : NamedProgram) (name : List ℕ) (go : EndedRole → Option Answer)
    → with_first p name go ≡ with_ended_init p (first_role name) (first_argument name) (codes "1000000") go
first_fuel p name go = refl

pub sources : (text : List ℕ) (go : List ℕ → Option Answer) → (with_source None go ≡ Some (input_refused LibraryUnknown)) × (with_source (Some text) go ≡ go text)
sources text go = (refl, refl)

-- STATES THAT ARE MOVED
-- a program of this format, with this type of state and these type declarations
abbrev pub declaring : formats.Format → Ty → List ℕ → DeclaredProgram
declaring format state types_text = record {
  named = record { digested = record { program = record { format = format; types = []; state = state; functions = []; code = None }; digest = [] }; names = λ number. [] };
  types_text = types_text;
}

-- from the first format to the second alone, and where the types are the same
module _ (text : List ℕ) where
  abbrev pub two_units : List ℕ
  two_units = codes "type a = A;\n"

  pub moved : migration_fault (declaring (first_format 1024) IntTy two_units) (declaring (second_format text 1024) IntTy two_units) ≡ None
  unfolding migration_fault
  moved = refl

  pub other_format : map (λ other. migration_fault (declaring (first_format 1024) IntTy two_units) other)
      (declaring (first_format 1024) IntTy two_units ∷ declaring (second_format text 1024) IntTy (codes "type a = B;\n") ∷ declaring (second_format text 1024) UnitTy two_units ∷ [])
      ≡ Some Format ∷ Some Types ∷ Some Types ∷ []
  unfolding migration_fault
  other_format = refl

  pub from_second : map (λ other. migration_fault (declaring (second_format text 1024) IntTy two_units) other)
      (declaring (first_format 1024) IntTy two_units ∷ declaring (second_format text 1024) IntTy two_units ∷ []) ≡ Some Format ∷ Some Format ∷ []
  unfolding migration_fault
  from_second = refl

pub migrations : (kind : MigrationKind) (go : Option Answer) → (with_no_fault None go ≡ go) × (with_no_fault (Some kind) go ≡ Some (input_refused (Migration kind)))
migrations kind go = (refl, refl)

-- COMMANDS
module _ (p a b c d e f : List ℕ) (files : Contents) where
  pub commands : (answer_with Check (p ∷ []) files ≡ checked_answer p files) × (answer_with Init (p ∷ a ∷ b ∷ c ∷ d ∷ []) files ≡ initial_answer p a b c d files)
      × (answer_with Ideal (p ∷ a ∷ b ∷ c ∷ d ∷ []) files ≡ ideal_answer p a b c d files)
      × (answer_with Step (p ∷ a ∷ b ∷ c ∷ d ∷ e ∷ []) files ≡ stepped_answer p a b c d e files)
      × (answer_with Shallow (p ∷ a ∷ b ∷ []) files ≡ spelled_answer p a b files)
      × (answer_with Migrate (p ∷ a ∷ b ∷ c ∷ []) files ≡ migrated_answer p a b c files)
      × (answer_with Prove (p ∷ a ∷ b ∷ c ∷ d ∷ e ∷ f ∷ []) files ≡ proved_answer p a b c d e f files)
  commands = (refl, refl, refl, refl, refl, refl, refl)

  pub further_commands : (answer_with Verify (p ∷ a ∷ b ∷ c ∷ d ∷ e ∷ []) files ≡ judged_answer p a b c d e None files)
      × (answer_with Verify (p ∷ a ∷ b ∷ c ∷ d ∷ e ∷ f ∷ []) files ≡ judged_answer p a b c d e (Some f) files)
      × (answer_with Audit (p ∷ a ∷ b ∷ c ∷ d ∷ e ∷ []) files ≡ audited_answer p a b c d e files)
      × (answer_with Library (p ∷ []) files ≡ library_answer p files) × (answer_with Gen (p ∷ a ∷ b ∷ c ∷ []) files ≡ generated_answer p a b c files)
  further_commands = (refl, refl, refl, refl, refl)

  pub on_links : (answer_with Serve (p ∷ a ∷ b ∷ c ∷ d ∷ e ∷ []) files ≡ unserved_answer p a b c d files)
      × (answer_with Ask (p ∷ a ∷ b ∷ c ∷ d ∷ []) files ≡ unasked_answer p a b c files)
  on_links = (refl, refl)

  pub on_mirrors : (answer_with Pieces (p ∷ a ∷ b ∷ []) files ≡ filed_answer p a b files) × (answer_with Fetch (p ∷ a ∷ b ∷ c ∷ d ∷ e ∷ []) files ≡ fetched_answer p a b c d e files)
  on_mirrors = (refl, refl)

  pub on_mirror_links : (answer_with Mirror (p ∷ a ∷ b ∷ []) files ≡ unmirrored_answer p a b files) × (answer_with Draw (p ∷ a ∷ b ∷ c ∷ d ∷ e ∷ []) files ≡ undrawn_answer p a b c d e files)
  on_mirror_links = (refl, refl)

  pub on_journals : (answer_with Found (p ∷ a ∷ b ∷ []) files ≡ unfounded_answer p a files) × (answer_with Host (p ∷ a ∷ b ∷ c ∷ d ∷ []) files ≡ unhosted_answer p b c d files)
      × (answer_with Replay (p ∷ a ∷ b ∷ []) files ≡ unreplayed_answer p files)
  on_journals = (refl, refl, refl)

  pub on_objects : answer_with Emit (p ∷ a ∷ []) files ≡ emitted_answer p a files
  on_objects = refl

  -- no command is called with fewer texts, or with more
  pub no_command : (answer_with Check [] files ≡ None) × (answer_with Check (p ∷ a ∷ []) files ≡ None)
  no_command = (refl, refl)

  pub words : (invocation : Invocation) → (called_answer None files ≡ Some usage_answer) × (called_answer (Some invocation) files ≡ command_answer invocation files)
  words invocation = (refl, refl)

-- ON A NET
-- of a mirror the port is judged first, then the number of links, and then its file
module _ (mirror links : List ℕ) (files : Contents) (go : Mirroring → Option Answer) where
  pub mirroring : (with_mirroring mirror (codes "0") links files go ≡ Some (input_refused (Number named.Port)))
      × (with_mirroring mirror (codes "4711") (codes "0") files go ≡ Some (input_refused (Number named.Connections)))
      × (with_mirroring mirror (codes "4711") (codes "9") files go ≡ with_mirror_file (files mirror) (λ pieces. go (record { pieces = pieces; port = 4711; links = 9 })))
  mirroring = (refl, refl, refl)

  pub unmirrored : unmirrored_answer mirror (codes "4711") (codes "9") files ≡ with_mirror_file (files mirror) (λ pieces. None)
  unmirrored = refl

-- of a call the role and the fuel are judged first, then the port, and then the state and the argument
module _ (p : NamedProgram) (role state argument fuel : List ℕ) (files : Contents) (go : Drawing → Option Answer) where
  pub drawn : (with_drawn p role state argument fuel (codes "0") files go ≡ with_fueled_role callee.OfState p role fuel (λ r. Some (input_refused (Number named.Port))))
      × (with_drawn p role state argument fuel (codes "4711") files go
      ≡ with_fueled_role callee.OfState p role fuel (λ r. with_role_call r state argument files (λ call. go (record { call = call; port = 4711 }))))
  drawn = (refl, refl)

  -- there is no answer without the program's file
  pub drawing : (program port : List ℕ) → (with_drawing program role state argument fuel port (λ name. None) go ≡ None)
      × (undrawn_answer program role state argument fuel port files ≡ with_drawing program role state argument fuel port files (λ d. None))
  drawing program port = (refl, refl)

-- ON JOURNALS
-- the bytes of a file go on where they are an image of the program; there is no answer where the file isn't there
module _ (p : DigestedProgram) (bytes : List ℕ) (go : List ℕ → Option Answer) where
  pub image_bytes : (with_image_bytes p (Some bytes) go ≡ (if nat_le (length bytes) 67108864 then with_image p bytes (λ v. go bytes) else Some (input_refused (TooLong named.Image))))
      × (with_image_bytes p None go ≡ None)
  image_bytes = (refl, refl)

-- a journal is made of a program and an image, of which the program is judged first
module _ (program image : List ℕ) (files : Contents) (go : Founding → Option Answer) where
  pub founded : with_founding program image files go
      ≡ with_program_file (files program) (λ p. with_image_bytes p.digested (files image) (λ bytes. go (record { program = p.digested; image = bytes })))
  founded = refl

  pub unfounded : (with_founding program image (λ name. None) go ≡ None) × (unfounded_answer program image files ≡ with_founding program image files (λ f. None))
  unfounded = (refl, refl)

-- of a journal that is served the program is judged first, and then the numbers
module _ (program port links slice : List ℕ) (files : Contents) where
  pub hosted : (unhosted_answer program (codes "0") links slice files ≡ with_program_file (files program) (λ p. Some (input_refused (Number named.Port))))
      × (unhosted_answer program (codes "4711") (codes "0") slice files ≡ with_program_file (files program) (λ p. Some (input_refused (Number named.Connections))))
      × (unhosted_answer program (codes "4711") (codes "9") (codes "0") files ≡ with_program_file (files program) (λ p. Some (input_refused (Number named.Slice))))
      × (unhosted_answer program (codes "4711") (codes "9") (codes "7") files ≡ with_program_file (files program) (λ p. None))
  hosted = (refl, refl, refl, refl)

  pub replayed : unreplayed_answer program files ≡ with_program_file (files program) (λ p. None)
  replayed = refl

-- without a journal serving begins with the state of the image, and no commit
pub first_versions : (v : Value) → ((first_shared v).versions ≡ v ∷ []) × ((first_shared v).commits ≡ [])
first_versions v = (refl, refl)

-- PROGRAMS
-- a program's file has a limit by what it begins as; there is no answer where it isn't there
module _ (bytes : List ℕ) where
  pub program_bytes : (go : List ℕ → Option Answer) → (with_program_bytes (Some bytes) go ≡ (if nat_le (length bytes) (longest_program bytes) then go bytes else Some (input_refused (TooLong named.Program))))
      × (with_program_bytes None go ≡ None)
  program_bytes go = (refl, refl)

  pub listed : (go : ListedProgram → Option Answer) → with_listed bytes go
      ≡ (if begins_as_object bytes then Some (input_refused ObjectFormat) else with_text bytes (λ p. go (record { program = p.digested.program; constructors = constructors_of_text bytes })))
  listed go = refl

-- an object is stored without a line, where the program is of the first format and the object not too long
pub object : (p : ListedProgram) (name : List ℕ) → object_answer p name ≡ (if p.program.format.arrays then input_refused ObjectFormat else stored_object (object_written p) name)
object p name = refl

pub object_stored : (bytes name : List ℕ) → (stored_object (Some bytes) name ≡ record { status = status.Done; lines = []; stored = (name, bytes) ∷ [] })
    × (stored_object None name ≡ input_refused (TooLong named.Out))
object_stored bytes name = (refl, refl)

module _ {A : Type 0} (means : A → tree.Program) (found : FileProgram) (p : A) (kind : ProgramKind) (line column : ℕ) (of_object : ObjectKind) where
  pub reads_program : (ReadsProgram means found (Ok p) → found ≡ IsProgram (means p)) × (found ≡ IsProgram (means p) → ReadsProgram means found (Ok p))
  reads_program = ((λ r. r), (λ e. e))

  pub reads_fault : (ReadsProgram means found (Err (program_fault.At kind line column)) → found ≡ IsRefused (refusal.Program kind line column))
      × (found ≡ IsRefused (refusal.Program kind line column) → ReadsProgram means found (Err (program_fault.At kind line column)))
  reads_fault = ((λ r. r), (λ e. e))

  pub reads_object_fault : (ReadsProgram means found (Err (program_fault.Object of_object)) → found ≡ IsRefused (refusal.Object of_object))
      × (found ≡ IsRefused (refusal.Object of_object) → ReadsProgram means found (Err (program_fault.Object of_object)))
  reads_object_fault = ((λ r. r), (λ e. e))

  pub reads_nothing : ReadsProgram means found (Err program_fault.NoMemory)
  reads_nothing = tt

pub constructors : (program : ProgramSyntax) → constructors_of_parsed (parsing.Tree program) ≡ constructors_in program.declarations
constructors program = refl

-- a text without a tree declares nothing
pub declarations : (program : ProgramSyntax) (kind : SyntaxKind) (at : Place) → (types_text_of_parsed (parsing.Tree program) ≡ types_text (names_of program) (constructors_in program.declarations) (table_of_program program))
    × (types_text_of_parsed (parsing.FirstFault kind at) ≡ [])
declarations program kind at = (refl, refl)

-- WHAT THE CODE HOLDS
pub declared : (p : Program) → (declared_of p).types_text ≡ text_of p.types
declared p = refl

pub stored_state : (P : tree.Program) (loaded : Loaded) (v : Value) (s : IsStoredState P loaded v)
    → StandsFor (ProverNodes (digest_at sha256 P)) P.types (nodes_in loaded.store) loaded.root.0 P.state v × HasLimit P (store_lent loaded.store)
stored_state P loaded v s = (s.stands, s.limit)

module _ (callee : Callee) (p : Program) where
  pub role_is : (role : Role) (i : IsRoleOf callee p role) → IsRole (meaning p) role.function.0 (role_kind_of role.kind) (type_at (types_of p) role.argument) i.answer
      × (type_at (types_of p) role.result ≡ role_result (role_kind_of role.kind) (meaning p).state i.answer)
      × (is_called callee (role_kind_of role.kind) ≡ true)
  role_is role i = (i.shape, i.result, i.called)

  pub called_is : (role : CalledRole) (i : IsCalled callee p role) → IsRole (meaning p) role.function.0 (role_kind_of role.kind) (type_at (types_of p) role.argument) i.answer
      × (type_at (types_of p) role.result ≡ role_result (role_kind_of role.kind) (meaning p).state i.answer)
      × (is_called callee (role_kind_of role.kind) ≡ true) × (role.fuel ≤ 10 ^ 12)
  called_is role i = (i.shape, i.result, i.called, i.fuel_fits)

  module _ (held : HeldCall) (call : IdealCall) where
    pub holds_call : (h : HoldsCall callee p held call) → IsCalled callee p held.called × (role_of p held.called ≡ call.role)
        × StandsFor (prover_nodes p) (meaning p).types (nodes_in held.store) held.state.0 (meaning p).state call.state
        × StandsFor (prover_nodes p) (meaning p).types (nodes_in held.store) held.argument.0 (type_at (types_of p) held.called.argument) call.argument
        × HasLimit (meaning p) (store_lent held.store)
    holds_call h = (h.called, h.role, h.state, h.argument, h.limit)

    pub holds_some : (HoldsCall callee p held call → HoldsSome callee p held) × (HoldsSome callee p held → (call : IdealCall) × HoldsCall callee p held call)
    holds_some = ((λ h. (call, h)), (λ h. h))

  module _ (ended : Ended) (o : ideal.Outcome) where
    pub ends_in : (e : EndsIn callee p ended o) → IsCalled callee p ended.called
        × IsOutcome (prover_nodes p) (meaning p).types (nodes_in ended.store) (result_called (role_of p ended.called)) ended.outcome o × HasLimit (meaning p) (store_lent ended.store)
    ends_in e = (e.called, e.outcome, e.limit)

    pub has_ended : (EndsIn callee p ended o → HasEnded callee p ended) × (HasEnded callee p ended → (o : ideal.Outcome) × EndsIn callee p ended o)
    has_ended = ((λ e. (o, e)), (λ h. h))

    pub is_ended : (meant : EndedRole) → (IsEnded callee p ended meant → (meant.role ≡ role_of p ended.called) × EndsIn callee p ended meant.outcome)
        × (meant.role ≡ role_of p ended.called → EndsIn callee p ended meant.outcome → IsEnded callee p ended meant)
    is_ended meant = ((λ i. i), (λ e h. (e, h)))

pub state_is_made : (p : Program) (r : FueledRole) (nodes : List Node) (root : Ref) (o : ideal.Outcome)
    → (IsStateMade p r nodes (Some root) o → (v : Value) × (o ≡ ideal.Done v) × StandsFor (prover_nodes p) (meaning p).types nodes root.0 (meaning p).state (state_made (kind_called r) v))
    × ((v : Value) → o ≡ ideal.Done v → StandsFor (prover_nodes p) (meaning p).types nodes root.0 (meaning p).state (state_made (kind_called r) v) → IsStateMade p r nodes (Some root) o)
state_is_made p r nodes root o = ((λ i. i), (λ v e s. (v, e, s)))

pub no_state_is_made : (p : Program) (r : FueledRole) (nodes : List Node) (o : ideal.Outcome)
    → (IsStateMade p r nodes None o → (v : Value) → o ≡ ideal.Done v → ⊥) × (((v : Value) → o ≡ ideal.Done v → ⊥) → IsStateMade p r nodes None o)
no_state_is_made p r nodes o = ((λ i. i), (λ none. none))
