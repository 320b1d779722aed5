-- Where an answer has the status of an outcome, of a rejection or of a collision, each of its steps went on: the words and the files name
-- what it went on with.
use Rattle.std.proofs.Common.{◌≡◌, ℕ, ◌<◌, ◌≤◌, inl, inr, Bool, true, false, List, [], ◌∷◌, length, cond, Option, Some, None, refl, ap, sym, subst, arith, lit<}
use Rattle.std.specs.Prelude.{nat_le}
use Rattle.std.proofs.lemmas.Bool.{leb-true}
use Rattle.sha2.specs.Sha256.{sha256}
use Rattle.command_words.specs.Invocations.{Invocation, calls}
use Rattle.command_words.specs.declared.command.Command.{Command}
use Rattle.command_words.specs.declared.command.Command.TheVariants.{Audit, Prove}
use Rattle.lam_outside.specs.Told.{Contents}
use Rattle.core_terms.specs.Limits.{most_file_bytes}
use Rattle.core_terms.specs.Reading.{Read, Good, BadAt}
use Rattle.core_terms.specs.Roles.{role_named}
use Rattle.core_terms.specs.Spelling.{spelling}
use Rattle.core_terms.specs.Terms.{Program, function_at}
use Rattle.core_terms.specs.Values.{Value}
use Rattle.images.specs.Images.{Image, Root, Refused}
use Rattle.piece_mirror.specs.Files.{Mirrored, Holds, Faulty}
use Rattle.printed_syntax.specs.Literals.{Literal, IsValue, FirstFault}
use Rattle.printed_lines.specs.declared.refusal.Argument.{Argument}
use Rattle.printed_lines.specs.declared.refusal.Argument.TheVariants as named
use Rattle.printed_lines.specs.declared.refusal.InputFault.{InputFault}
use Rattle.printed_lines.specs.declared.refusal.InputFault.TheVariants.{RoleKind, TooLong}
use Rattle.auth_syntax.specs.Parsing.{Parsed, parsed}
use Rattle.auth_syntax.specs.Parsing as parsing
use Rattle.auth_types.specs.CheckedPrograms.{Checked, checked}
use Rattle.auth_types.specs.CheckedPrograms as checking
use Rattle.object_meaning.specs.Accepting.{Acceptance, accepting}
use Rattle.object_meaning.specs.Accepting as object
use Rattle.command_parts.specs.Answer.{answer_with, audited_answer, call_audit_answer, command_answer, fetched_answer, judged_answer, mirror_read, mirrored_answer, proof_answer, proved_answer, verified_answer}
use Rattle.command_parts.specs.AcceptedAnswers.{callee_of}
use Rattle.command_parts.specs.RoleInputs.{RoleCall, with_fueled_role, with_ideal_call, with_passed, with_role_at, with_role_call}
use Rattle.command_parts.specs.FileInputs.{image_read, state_read, with_bytes, with_file, with_fuel, with_image, with_program_bytes, with_program_file, with_object_or_text, with_literal, with_number, with_program, with_root, with_state, with_state_read}
use Rattle.command_parts.specs.AnswerForms.{Answer}
use Rattle.command_parts.specs.RefusedAnswers.{input_refused, refusal_status, refused}
use Rattle.command_parts.specs.Answer.{with_kept, with_mirror, with_mirror_file, with_pieces}
use Rattle.command_parts.specs.Arguments.{fuel_of}
use Rattle.number_words.specs.Numbers.{number_within}
use Rattle.call_commands.specs.AuditedCalls.{CallsAudit, TellsAnAudit}
use Rattle.command_parts.specs.Codes.{code}
use Rattle.command_parts.specs.FilePrograms.{begins_as_object, constructor_names_of_file, longest_program, of_acceptance, program_of_file, program_of_object}
use Rattle.command_parts.specs.FueledRoles.{DigestedProgram, FueledRole, NamedProgram}
use Rattle.command_parts.specs.IdealCalls.{IdealCall}
use Rattle.call_commands.specs.NamedCalls.{KeepsProgram, NamesInputs, NamesRole}
use Rattle.call_commands.specs.NamedPrograms.{named_program}
use Rattle.call_commands.specs.ProvedCalls.{CallsProve}
use Rattle.command_parts.specs.RoleCalls.{is_called, passed_literal, program_called}
use Rattle.command_parts.specs.TextPrograms.{FileProgram, IsProgram, IsRefused, of_checked, of_parsed, program_of_text}
use Rattle.call_commands.specs.TrueLines.{TellsOutcome}
use Rattle.command_parts.specs.declared.roles.Callee.{Callee}
use Rattle.command_parts.specs.declared.roles.Callee.TheVariants.{OfState}
use Rattle.command_parts.specs.declared.status.Status.TheVariants.{ProgramRefused}

-- the numbers of refusals and faults are none of an outcome, of a rejection or of a collision
pub no_outcome : (n : ℕ) → 4 < n → TellsOutcome n → ⊥
no_outcome n high (inl is) = omega (arith, high, is)
no_outcome n high (inr (inl is)) = omega (arith, high, is)
no_outcome n high (inr (inr is)) = omega (arith, high, is)

pub no_audit : (n : ℕ) → 5 < n → n < 11 → TellsAnAudit n → ⊥
no_audit n high low (inl tells) = no_outcome n (omega (arith, high)) tells
no_audit n high low (inr (inl is)) = omega (arith, high, is)
no_audit n high low (inr (inr is)) = omega (arith, low, is)

-- bytes that are no program are refused as none, and not for an input or a proof
abbrev RefusesProgram : FileProgram → Type 0
RefusesProgram (IsProgram P) = Unit {0}
RefusesProgram (IsRefused what) = refusal_status what ≡ ProgramRefused

object_refuses : (found : Acceptance) → RefusesProgram (of_acceptance found)
object_refuses (object.Accepts o) = tt
object_refuses (object.FirstFault fault) = refl

checked_refuses : (found : Checked) → RefusesProgram (of_checked found)
checked_refuses (checking.IsProgram P) = tt
checked_refuses (checking.FirstFault kind line column) = refl

parsed_refuses : (found : Parsed) → RefusesProgram (of_parsed found)
parsed_refuses (parsing.Tree program) = checked_refuses (checked program)
parsed_refuses (parsing.FirstFault kind at) = refl

file_refuses : (bytes : List ℕ) → RefusesProgram (program_of_file bytes)
unfolding program_of_file program_of_object program_of_text
file_refuses bytes = by (begins_as_object bytes)
  where
    by : (b : Bool) → RefusesProgram (cond b (of_acceptance (accepting bytes)) (of_parsed (parsed bytes)))
    by true = object_refuses (accepting bytes)
    by false = parsed_refuses (parsed bytes)

-- Each lemma says what a step went on with, where the whole comes to the answer a, which has such a number.
module _ (a : Answer) (tells : TellsAnAudit (code a.status)) where
  abbrev IsAnswer : Option Answer → Type 0
  IsAnswer found = found ≡ Some a

  -- no answer, and a refusal
  none_is : {A : Type 0} → IsAnswer None → A
  none_is is = absurd (cc)

  refusal_is : {A : Type 0} (b : Answer) → IsAnswer (Some b) → 5 < code b.status → code b.status < 11 → A
  refusal_is b is high low =
      let same : b ≡ a = cc in absurd (no_audit (code b.status) high low (subst (λ (a : Answer). TellsAnAudit (code a.status)) (sym same) tells))

  -- ---- each step

  test_passed : (test : Bool) (fault : InputFault) (behind : Option Answer) → IsAnswer (cond test behind (Some (input_refused fault)))
      → (test ≡ true) × IsAnswer behind
  test_passed true fault behind is = (refl, is)
  test_passed false fault behind is = refusal_is (input_refused fault) is (lit< tt) (lit< tt)

  file_read : (most : ℕ) (word : Argument) (file : Option (List ℕ)) (go : List ℕ → Option Answer) → IsAnswer (with_file most word file go)
      → (bytes : List ℕ) × (file ≡ Some bytes) × (length bytes ≤ most) × IsAnswer (go bytes)
  file_read most word None go is = none_is is
  file_read most word (Some bytes) go is =
      let fits = test_passed (nat_le (length bytes) most) (TooLong word) (go bytes) is in
      (bytes, refl, leb-true (length bytes) most fits.0, fits.1)

  bytes_read : (file : Option (List ℕ)) (go : List ℕ → Option Answer) → IsAnswer (with_bytes file go)
      → (bytes : List ℕ) × (file ≡ Some bytes) × IsAnswer (go bytes)
  bytes_read None go is = none_is is
  bytes_read (Some bytes) go is = (bytes, refl, is)

  program_read : (digest : List ℕ) (found : FileProgram) (go : DigestedProgram → Option Answer) → RefusesProgram found → IsAnswer (with_program digest found go)
      → (P : Program) × (found ≡ IsProgram P) × IsAnswer (go (record { program = P; digest = digest }))
  program_read digest (IsProgram P) go refuses is = (P, refl, is)
  program_read digest (IsRefused what) go refuses is =
      let six : 6 ≡ code (refusal_status what) = sym (ap code refuses) in
      refusal_is (refused what) is (subst (λ n. 5 < n) six (lit< tt)) (subst (λ n. n < 11) six (lit< tt))

  program_bytes_read : (file : Option (List ℕ)) (go : List ℕ → Option Answer) → IsAnswer (with_program_bytes file go)
      → (bytes : List ℕ) × (file ≡ Some bytes) × (length bytes ≤ longest_program bytes) × IsAnswer (go bytes)
  program_bytes_read None go is = none_is is
  program_bytes_read (Some bytes) go is =
      let fits = test_passed (nat_le (length bytes) (longest_program bytes)) (TooLong named.Program) (go bytes) is in
      (bytes, refl, leb-true (length bytes) (longest_program bytes) fits.0, fits.1)

  number_read : (word : Argument) (found : Option ℕ) (go : ℕ → Option Answer) → IsAnswer (with_number word found go)
      → (n : ℕ) × (found ≡ Some n) × IsAnswer (go n)
  number_read word None go is = refusal_is _ is (lit< tt) (lit< tt)
  number_read word (Some n) go is = (n, refl, is)

  state_is_read : (found : Read Value) (bytes : List ℕ) (go : List ℕ → Option Answer) → IsAnswer (with_state_read found bytes go) → IsAnswer (go bytes)
  state_is_read (Good v rest place) bytes go is = is
  state_is_read (BadAt offset) bytes go is = refusal_is _ is (lit< tt) (lit< tt)

  literal_read : (found : Literal) (go : Value → Option Answer) → IsAnswer (with_literal found go) → (v : Value) × (found ≡ IsValue v) × IsAnswer (go v)
  literal_read (IsValue v) go is = (v, refl, is)
  literal_read (FirstFault kind offset) go is = refusal_is _ is (lit< tt) (lit< tt)

  root_read : (found : Image) (go : Value → Option Answer) → IsAnswer (with_root found go) → (v : Value) × (found ≡ Root v) × IsAnswer (go v)
  root_read (Root v) go is = (v, refl, is)
  root_read (Refused fault) go is = refusal_is _ is (lit< tt) (lit< tt)

  pieces_read : (found : Mirrored) (go : List (List ℕ) → Option Answer) → IsAnswer (with_pieces found go) → (pieces : List (List ℕ)) × (found ≡ Holds pieces) × IsAnswer (go pieces)
  pieces_read (Holds pieces) go is = (pieces, refl, is)
  pieces_read (Faulty fault) go is = refusal_is _ is (lit< tt) (lit< tt)

  role_read : (callee : Callee) (P : Program) (found : Option ℕ) (go : ℕ → Option Answer) → IsAnswer (with_role_at callee P found go)
      → (f : ℕ) × (found ≡ Some f) × (is_called callee (function_at P f).kind ≡ true) × IsAnswer (go f)
  role_read callee P None go is = refusal_is _ is (lit< tt) (lit< tt)
  role_read callee P (Some f) go is = let called = test_passed (is_called callee (function_at P f).kind) RoleKind (go f) is in (f, refl, called.0, called.1)

  -- ---- what the words and the files name

  program_named : (file : Option (List ℕ)) (go : NamedProgram → Option Answer) → IsAnswer (with_program_file file go)
      → (p : NamedProgram) × KeepsProgram file p × IsAnswer (go p)
  program_named file go is =
      let read = program_bytes_read file (λ bytes. with_object_or_text bytes go) is in
      let bytes = read.0 in
      let program =
      program_read (sha256 bytes) (program_of_file bytes) (λ p. go (record { digested = p; names = constructor_names_of_file bytes })) (file_refuses bytes) read.3 in
      (named_program bytes program.0, record { bytes = bytes; there = read.1; fits = read.2; program = program.1; named = refl }, program.2)

  role_is_named : (callee : Callee) (program role fuel : List ℕ) (files : Contents) (go : FueledRole → Option Answer)
      → IsAnswer (with_program_file (files program) (λ p. with_fueled_role callee p role fuel go))
      → (r : FueledRole) × NamesRole callee program role fuel files r × IsAnswer (go r)
  role_is_named callee program role fuel files go is =
      let kept = program_named (files program) (λ p. with_fueled_role callee p role fuel go) is in
      let p = kept.0 in
      let P = p.digested.program in
      let fueled : ℕ → ℕ → Option Answer = λ f k. go (record { program = p; role = f; fuel = k }) in
      let found = role_read callee P (role_named P role) (λ f. with_fuel fuel (fueled f)) kept.2 in
      let told = number_read named.Fuel (fuel_of fuel) (fueled found.0) found.3 in
      (record { program = p; role = found.0; fuel = told.0 }, record { program_file = kept.1; role = found.1; called = found.2; fuel = told.1 }, told.2)

  inputs_are_named : (r : FueledRole) (image argument : List ℕ) (files : Contents) (go : IdealCall → Option Answer)
      → IsAnswer (with_ideal_call r image argument files go)
      → (s : Value) × (x : Value) × NamesInputs image argument files (record { role = r; state = s; argument = x })
      × IsAnswer (go (record { role = r; state = s; argument = x }))
  inputs_are_named r image argument files go is =
      let on_state : Value → Option Answer = λ s. with_passed r argument (λ x. go (record { role = r; state = s; argument = x })) in
      let read = file_read most_file_bytes named.Image (files image) (λ bytes. with_image r.program.digested bytes on_state) is in
      let root = root_read (image_read r.program.digested read.0) on_state read.3 in
      let passed = literal_read (passed_literal r argument) (λ x. go (record { role = r; state = root.0; argument = x })) root.2 in
      (root.0, passed.0, record { image_file = record { image = read.0; there = read.1; fits = read.2; root = root.1 }; argument = passed.1 }, passed.2)

  spelled_are_named : (r : FueledRole) (state argument : List ℕ) (files : Contents) (go : RoleCall → Option Answer)
      → IsAnswer (with_role_call r state argument files go)
      → (s : List ℕ) × (x : Value) × (files state ≡ Some s) × (passed_literal r argument ≡ IsValue x)
      × IsAnswer (go (record { role = r; state = s; argument = spelling x }))
  spelled_are_named r state argument files go is =
      let P = program_called r in
      let on_state : List ℕ → Option Answer = λ s. with_passed r argument (λ x. go (record { role = r; state = s; argument = spelling x })) in
      let read = file_read most_file_bytes named.State (files state) (λ bytes. with_state P bytes on_state) is in
      let behind = state_is_read (state_read P read.0) read.0 on_state read.3 in
      let passed = literal_read (passed_literal r argument) (λ x. go (record { role = r; state = read.0; argument = spelling x })) behind in
      (read.0, passed.0, read.1, passed.1, passed.2)

  -- ---- what a command means

  -- `prove`: the answer is the proof of a call
  abbrev MeansProof : Invocation → Contents → Type 0
  MeansProof called files = (call : IdealCall) × (n : ℕ) × (out : List ℕ) × CallsProve called files call n out × IsAnswer (Some (proof_answer call n out))

  prove_answered : (program role image argument fuel kept out : List ℕ) (files : Contents)
      → IsAnswer (proved_answer program role image argument fuel kept out files)
      → MeansProof (calls Prove (program ∷ role ∷ image ∷ argument ∷ fuel ∷ kept ∷ out ∷ [])) files
  prove_answered program role image argument fuel kept out files is =
      let told : ℕ → IdealCall → Option Answer = λ n call. Some (proof_answer call n out) in
      let on_kept : FueledRole → ℕ → Option Answer = λ r n. with_ideal_call r image argument files (told n) in
      let role_is = role_is_named OfState program role fuel files (λ r. with_kept (program_called r) kept (on_kept r)) is in
      let r = role_is.0 in
      let number = number_read named.Number (number_within (program_called r).format.most_kept kept) (on_kept r) role_is.2 in
      let inputs = inputs_are_named r image argument files (told number.0) number.2 in (
        record { role = r; state = inputs.0; argument = inputs.1 },
        number.0,
        out,
        record {
          program_name = program;
          role_name = role;
          image_name = image;
          argument_text = argument;
          fuel_text = fuel;
          kept_text = kept;
          words = refl;
          role = role_is.1;
          kept = number.1;
          inputs = inputs.2;
        },
        inputs.3,
      )

  prove_texts : (texts : List (List ℕ)) (files : Contents) → IsAnswer (answer_with Prove texts files) → MeansProof (calls Prove texts) files
  prove_texts (program ∷ role ∷ image ∷ argument ∷ fuel ∷ kept ∷ out ∷ []) files is = prove_answered program role image argument fuel kept out files is
  prove_texts texts files is = none_is is

  pub prove_means : (called : Invocation) (files : Contents) → called.command ≡ Prove → IsAnswer (command_answer called files) → MeansProof called files
  prove_means called files command is =
      subst (λ (c : Command). MeansProof (calls c called.texts) files) (sym command)
      (prove_texts called.texts files (subst (λ (c : Command). IsAnswer (answer_with c called.texts files)) command is))

  -- `audit`: it is the audit of a proof of a call
  abbrev MeansAudit : Invocation → Contents → Type 0
  MeansAudit called files = (call : IdealCall) × (proof : List ℕ) × CallsAudit called files call proof × IsAnswer (Some (call_audit_answer call proof))

  audit_answered : (program role image argument fuel proof : List ℕ) (files : Contents) → IsAnswer (audited_answer program role image argument fuel proof files)
      → MeansAudit (calls Audit (program ∷ role ∷ image ∷ argument ∷ fuel ∷ proof ∷ [])) files
  audit_answered program role image argument fuel proof files is =
      let on_call : IdealCall → Option Answer = λ call. with_bytes (files proof) (λ bytes. Some (call_audit_answer call bytes)) in
      let role_is = role_is_named OfState program role fuel files (λ r. with_ideal_call r image argument files on_call) is in
      let inputs = inputs_are_named role_is.0 image argument files on_call role_is.2 in
      let call : IdealCall = record { role = role_is.0; state = inputs.0; argument = inputs.1 } in
      let read = bytes_read (files proof) (λ bytes. Some (call_audit_answer call bytes)) inputs.3 in (
        call,
        read.0,
        record {
          program_name = program;
          role_name = role;
          image_name = image;
          argument_text = argument;
          fuel_text = fuel;
          proof_name = proof;
          words = refl;
          role = role_is.1;
          inputs = inputs.2;
          proof_file = read.1;
        },
        read.2,
      )

  audit_texts : (texts : List (List ℕ)) (files : Contents) → IsAnswer (answer_with Audit texts files) → MeansAudit (calls Audit texts) files
  audit_texts (program ∷ role ∷ image ∷ argument ∷ fuel ∷ proof ∷ []) files is = audit_answered program role image argument fuel proof files is
  audit_texts texts files is = none_is is

  pub audit_means : (called : Invocation) (files : Contents) → called.command ≡ Audit → IsAnswer (command_answer called files) → MeansAudit called files
  audit_means called files command is =
      subst (λ (c : Command). MeansAudit (calls c called.texts) files) (sym command)
      (audit_texts called.texts files (subst (λ (c : Command). IsAnswer (answer_with c called.texts files)) command is))

  -- `verify`: it is the verdict on a proof of a call
  pub verify_means : (program role state argument fuel proof : List ℕ) (out : Option (List ℕ)) (files : Contents)
      → IsAnswer (judged_answer program role state argument fuel proof out files)
      → (r : FueledRole) × (s : List ℕ) × (x : Value) × (bytes : List ℕ) × NamesRole (callee_of out) program role fuel files r × (files state ≡ Some s)
      × (passed_literal r argument ≡ IsValue x) × (files proof ≡ Some bytes)
      × IsAnswer (Some (verified_answer out (record { role = r; state = s; argument = spelling x }) bytes))
  verify_means program role state argument fuel proof out files is =
      let on_call : RoleCall → Option Answer = λ call. with_bytes (files proof) (λ bytes. Some (verified_answer out call bytes)) in
      let role_is = role_is_named (callee_of out) program role fuel files (λ r. with_role_call r state argument files on_call) is in
      let inputs = spelled_are_named role_is.0 state argument files on_call role_is.2 in
      let call : RoleCall = record { role = role_is.0; state = inputs.0; argument = spelling inputs.1 } in
      let read = bytes_read (files proof) (λ bytes. Some (verified_answer out call bytes)) inputs.4 in
      (role_is.0, inputs.0, inputs.1, read.0, role_is.1, inputs.2, inputs.3, read.1, read.2)

  -- `fetch`: it is the verdict on a call over the pieces of a mirror
  pub fetch_means : (program role state argument fuel mirror : List ℕ) (files : Contents) → IsAnswer (fetched_answer program role state argument fuel mirror files)
      → (r : FueledRole) × (s : List ℕ) × (x : Value) × (bytes : List ℕ) × (pieces : List (List ℕ)) × NamesRole OfState program role fuel files r × (files state ≡ Some s)
      × (passed_literal r argument ≡ IsValue x) × (files mirror ≡ Some bytes) × (mirror_read bytes ≡ Holds pieces)
      × IsAnswer (Some (mirrored_answer (record { role = r; state = s; argument = spelling x }) pieces))
  fetch_means program role state argument fuel mirror files is =
      let on_call : RoleCall → Option Answer = λ call. with_mirror_file (files mirror) (λ pieces. Some (mirrored_answer call pieces)) in
      let role_is = role_is_named OfState program role fuel files (λ r. with_role_call r state argument files on_call) is in
      let inputs = spelled_are_named role_is.0 state argument files on_call role_is.2 in
      let call : RoleCall = record { role = role_is.0; state = inputs.0; argument = spelling inputs.1 } in
      let told : List (List ℕ) → Option Answer = λ pieces. Some (mirrored_answer call pieces) in
      let read = file_read most_file_bytes named.Mirror (files mirror) (λ bytes. with_mirror bytes told) inputs.4 in
      let held = pieces_read (mirror_read read.0) told read.3 in
      (role_is.0, inputs.0, inputs.1, read.0, held.0, role_is.1, inputs.2, inputs.3, read.1, held.1, held.2)
