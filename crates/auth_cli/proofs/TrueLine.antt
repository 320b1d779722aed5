-- The headline of a run, from the one sentence of how it ended.
use Rattle.std.proofs.Common.{◌≡◌, ℕ, List, ◌∷◌, Option, Some, None, refl, ap, sym, ◌∙◌, subst, inl, lit<}
use Rattle.std.specs.List.{concat}
use Rattle.std.specs.Option.{ForSome}
use Rattle.std.specs.Io.KnownBytes.{append_known}
use Rattle.sha2.specs.Sha256.{sha256}
use Rattle.command_words.specs.declared.command.Command.TheVariants.{Verify}
use Rattle.lam_outside.specs.Told.{AddsStores, Contents}
use Rattle.core_terms.specs.Spelling.{spelling}
use Rattle.core_terms.specs.Projection.{projection}
use Rattle.core_terms.specs.Roles.{argument_type, role_named}
use Rattle.core_terms.specs.Terms.{Program}
use Rattle.core_terms.specs.Values.{Value}
use Rattle.ideal_meaning.specs.Ideal.{Outcome}
use Rattle.ideal_meaning.specs.Checked.{Verdict, BadState, BadArgument, Rejected, Accepted}
use Rattle.command_parts.specs.Answer.{answer, answer_with, called_answer, judged_answer, verified_answer}
use Rattle.command_parts.specs.AcceptedAnswers.{accepted_answer, callee_of}
use Rattle.command_parts.specs.RoleInputs.{RoleCall, role_verdict}
use Rattle.command_parts.specs.AnswerForms.{Answer}
use Rattle.command_parts.specs.RefusedAnswers.{verdict_answer}
use Rattle.command_parts.specs.Arguments.{fuel_of}
use Rattle.command_parts.specs.Codes.{code}
use Rattle.command_parts.specs.Ending.{EndsAs, IsToldAs}
use Rattle.command_parts.specs.Outsides.{Outside}
use Rattle.command_parts.specs.FilePrograms.{program_of_file}
use Rattle.command_parts.specs.FueledRoles.{FueledRole, NamedProgram}
use Rattle.call_commands.specs.NamedCalls.{NamesRole}
use Rattle.call_commands.specs.NamedPrograms.{named_program}
use Rattle.command_parts.specs.RoleCalls.{passed_literal, program_called}
use Rattle.command_parts.specs.TextPrograms.{IsProgram}
use Rattle.call_commands.specs.TrueLines.{CallsVerify, IsTrueLine, TellsOutcome, words_of}
use Rattle.command_parts.specs.declared.roles.Callee.{Callee}
use Rattle.command_parts.specs.declared.status.Status.{Status}
use Rattle.auth_cli.proofs.AnsweredCalls.{no_outcome, verify_means}
use Rattle.auth_cli.proofs.AnsweredRuns.{some_told, told}
use Rattle.call_commands.proofs.SoundRoles.{callee_reads, named_reader, reader_headline}

-- words and files name one role
module _ (callee : Callee) (program role fuel : List ℕ) (files : Contents) (named : FueledRole) (names : NamesRole callee program role fuel files named)
    (r : FueledRole) (bytes : List ℕ) (held : files program ≡ Some bytes) (is_program : program_of_file bytes ≡ IsProgram (program_called r))
    (is : r.program ≡ named_program bytes (program_called r))
    (is_role : role_named (program_called r) role ≡ Some r.role) (is_fuel : fuel_of fuel ≡ Some r.fuel) where
  same_bytes : names.program_file.bytes ≡ bytes
  same_bytes = let there = sym names.program_file.there ∙ held in cc

  same_tree : program_called named ≡ program_called r
  same_tree = let both = sym names.program_file.program ∙ ap program_of_file same_bytes ∙ is_program in cc

  same_program : named.program ≡ r.program
  same_program =
      names.program_file.named ∙ ap (λ bytes. named_program bytes (program_called named)) same_bytes ∙ ap (λ (P : Program). named_program bytes P) same_tree ∙ sym is

  same_number : named.role ≡ r.role
  same_number = let both = sym names.role ∙ ap (λ (P : Program). role_named P role) same_tree ∙ is_role in cc

  same_fuel : named.fuel ≡ r.fuel
  same_fuel = let both = sym names.fuel ∙ is_fuel in cc

  pub one_role : named ≡ r
  one_role =
      ap (λ (p : NamedProgram). record { program = p; role = named.role; fuel = named.fuel }) same_program
      ∙ ap (λ (f : ℕ). record { program = r.program; role = f; fuel = named.fuel }) same_number
      ∙ ap (λ (k : ℕ). record { program = r.program; role = r.role; fuel = k }) same_fuel

-- a verdict that is answered with an outcome's number is an accepted one
pub accepted : (tells : Outcome → Answer) (v : Verdict) → TellsOutcome (code (verdict_answer tells v).status) → (o : Outcome) × (v ≡ Accepted o)
accepted tells (BadState offset) number = absurd (no_outcome 7 (lit< tt) number)
accepted tells (BadArgument offset) number = absurd (no_outcome 7 (lit< tt) number)
accepted tells (Rejected cause) number = absurd (no_outcome 5 (lit< tt) number)
accepted tells (Accepted o) number = (o, refl)

called_as : (program role state argument fuel proof : List ℕ) (out : Option (List ℕ)) (files : Contents)
    → answer_with Verify (program ∷ role ∷ state ∷ argument ∷ fuel ∷ proof ∷ words_of out) files ≡ judged_answer program role state argument fuel proof out files
called_as program role state argument fuel proof None files = refl
called_as program role state argument fuel proof (Some name) files = refl

module _ (line : List (List ℕ)) (files : Contents) (r : FueledRole) (state argument : Value) (proof : List ℕ) (out : Option (List ℕ))
    (calls : CallsVerify line files r state argument proof out) where
  abbrev P : Program
  P = program_called r

  abbrev s : List ℕ
  s = spelling (projection sha256 P P.state state)

  abbrev x : Value
  x = projection sha256 P (argument_type P r.role) argument

  judged : answer line files ≡ judged_answer calls.program_name calls.role_name calls.state_name calls.argument_text calls.fuel_text calls.proof_name out files
  unfolding answer
  judged =
      ap (λ found. called_answer found files) calls.words
      ∙ called_as calls.program_name calls.role_name calls.state_name calls.argument_text calls.fuel_text calls.proof_name out files

  -- the answer is the verdict on the proof
  verified : (a : Answer) → TellsOutcome (code a.status) → answer line files ≡ Some a
      → NamesRole (callee_of out) calls.program_name calls.role_name calls.fuel_text files r
      × (answer line files ≡ Some (verified_answer out (record { role = r; state = s; argument = spelling x }) proof))
  verified a tells is =
      let means =
      verify_means a (inl tells) calls.program_name calls.role_name calls.state_name calls.argument_text calls.fuel_text calls.proof_name out files
      (sym judged ∙ is) in
      let same =
      one_role (callee_of out) calls.program_name calls.role_name calls.fuel_text files means.0 means.4 r calls.call.bytes calls.call.program_file calls.call.program
      calls.call.named calls.call.role calls.call.fuel in
      let state_is : means.1 ≡ s = let both = sym means.5 ∙ calls.call.state_file in cc in
      let literal = sym (ap (λ (r : FueledRole). passed_literal r calls.argument_text) same) ∙ means.6 in
      let argument_is : means.2 ≡ x = let both = sym literal ∙ calls.call.argument_is in cc in
      let proof_is : means.3 ≡ proof = let both = sym means.7 ∙ calls.proof_file in cc in (
        subst (λ (r : FueledRole). NamesRole (callee_of out) calls.program_name calls.role_name calls.fuel_text files r) same means.4,
        is ∙ sym means.8
            ∙ ap (λ (r : FueledRole). Some (verified_answer out (record { role = r; state = means.1; argument = spelling means.2 }) means.3)) same
            ∙ ap (λ (s : List ℕ). Some (verified_answer out (record { role = r; state = s; argument = spelling means.2 }) means.3)) state_is
            ∙ ap (λ (x : Value). Some (verified_answer out (record { role = r; state = s; argument = spelling x }) means.3)) argument_is
            ∙ ap (λ (bytes : List ℕ). Some (verified_answer out (record { role = r; state = s; argument = spelling x }) bytes)) proof_is,
      )

-- a run that ends in this status has the headline
pub true_line : (line : List (List ℕ)) (old new : Outside) (status : Status) → EndsAs (answer line) old new status
    → ForSome old.contents (λ files. IsTrueLine line files old new (code status))
true_line line old new status ends files known r state argument proof out calls tells =
    let heard = told (answer line) old new status ends files known (inl tells) in
    let some = some_told (answer line files) old new status heard in
    let is = verified line files r state argument proof out calls some.0 (subst TellsOutcome (sym some.2) tells) some.1 in
    let call : RoleCall =
    record { role = r; state = s line files r state argument proof out calls; argument = spelling (x line files r state argument proof out calls) } in
    let answered = subst (λ (o : Option Answer). IsToldAs o old new status) is.1 heard in
    let o = accepted (accepted_answer r out) (role_verdict call proof) (subst TellsOutcome (ap code (sym answered.0)) tells) in
    let reader = named_reader (callee_of out) (callee_reads out) calls.program_name calls.role_name calls.fuel_text files r is.0 in (
      o.0,
      answered.1 ∙ ap (λ (v : Verdict). append_known old.written (concat (verdict_answer (accepted_answer r out) v).lines)) o.1,
      subst (λ (v : Verdict). AddsStores old.stores new.stores (verdict_answer (accepted_answer r out) v).stored) o.1 answered.2,
      reader_headline r state argument proof o.0 reader calls.call.ideal_state calls.call.ideal_argument o.1,
    )
