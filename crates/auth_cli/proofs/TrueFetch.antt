-- What a run of `fetch` says, from the one sentence of how it ended.
use Rattle.std.proofs.Common.{◌≡◌, ℕ, List, [], Option, Some, ap, sym, ◌∙◌, subst, inl}
use Rattle.std.specs.List.{concat}
use Rattle.std.specs.Option.{ForSome}
use Rattle.std.specs.Io.KnownBytes.{append_known}
use Rattle.sha2.specs.Sha256.{sha256}
use Rattle.lam_outside.specs.Told.{AddsStores, Contents}
use Rattle.core_terms.specs.Spelling.{spelling}
use Rattle.core_terms.specs.Projection.{projection}
use Rattle.core_terms.specs.Roles.{argument_type}
use Rattle.core_terms.specs.Terms.{Program}
use Rattle.core_terms.specs.Values.{Value}
use Rattle.ideal_meaning.specs.Checked.{Verdict}
use Rattle.ideal_meaning.specs.Ideal.{Outcome, Done, Trapped, Out}
use Rattle.command_parts.specs.Answer.{answer, called_answer, fetched_answer, fetched_verdict, mirror_read, mirrored_answer}
use Rattle.command_parts.specs.AcceptedAnswers.{shallow_told}
use Rattle.command_parts.specs.RoleInputs.{RoleCall}
use Rattle.command_parts.specs.AnswerForms.{Answer}
use Rattle.command_parts.specs.RefusedAnswers.{verdict_answer}
use Rattle.command_parts.specs.Codes.{code}
use Rattle.command_parts.specs.Ending.{EndsAs, IsToldAs}
use Rattle.command_parts.specs.Outsides.{Outside}
use Rattle.command_parts.specs.FueledRoles.{FueledRole}
use Rattle.call_commands.specs.NamedCalls.{NamesRole}
use Rattle.command_parts.specs.RoleCalls.{passed_literal, program_called}
use Rattle.call_commands.specs.TrueFetches.{CallsFetch, IsTrueFetch}
use Rattle.call_commands.specs.TrueLines.{TellsOutcome}
use Rattle.command_parts.specs.declared.roles.Callee.TheVariants.{OfState}
use Rattle.command_parts.specs.declared.status.Status.{Status}
use Rattle.call_commands.proofs.SoundRoles.{named_reader, named_whole, reader_fetched}
use Rattle.auth_cli.proofs.AnsweredCalls.{fetch_means}
use Rattle.auth_cli.proofs.AnsweredRuns.{some_told, told}
use Rattle.auth_cli.proofs.TrueLine.{accepted, one_role}

module _ (line : List (List ℕ)) (files : Contents) (r : FueledRole) (state argument : Value) (pieces : List (List ℕ)) (calls : CallsFetch line files r state argument pieces) where
  abbrev P : Program
  P = program_called r

  abbrev s : List ℕ
  s = spelling (projection sha256 P P.state state)

  abbrev x : Value
  x = projection sha256 P (argument_type P r.role) argument

  fetched : answer line files ≡ fetched_answer calls.program_name calls.role_name calls.state_name calls.argument_text calls.fuel_text calls.mirror_name files
  unfolding answer
  fetched = ap (λ found. called_answer found files) calls.words

  -- the answer is the verdict over the mirror
  mirrored : (a : Answer) → TellsOutcome (code a.status) → answer line files ≡ Some a
      → NamesRole OfState calls.program_name calls.role_name calls.fuel_text files r
      × (answer line files ≡ Some (mirrored_answer (record { role = r; state = s; argument = spelling x }) pieces))
  mirrored a tells is =
      let means =
      fetch_means a (inl tells) calls.program_name calls.role_name calls.state_name calls.argument_text calls.fuel_text calls.mirror_name files (sym fetched ∙ is) in
      let same =
      one_role OfState calls.program_name calls.role_name calls.fuel_text files means.0 means.5 r calls.call.bytes calls.call.program_file calls.call.program
      calls.call.named calls.call.role calls.call.fuel in
      let state_is : means.1 ≡ s = let both = sym means.6 ∙ calls.call.state_file in cc in
      let literal = sym (ap (λ (r : FueledRole). passed_literal r calls.argument_text) same) ∙ means.7 in
      let argument_is : means.2 ≡ x = let both = sym literal ∙ calls.call.argument_is in cc in
      let mirror_is : means.3 ≡ calls.mirror = let both = sym means.8 ∙ calls.mirror_file in cc in
      let pieces_are : means.4 ≡ pieces = let both = sym means.9 ∙ (ap mirror_read mirror_is ∙ calls.held) in cc in (
        subst (λ (r : FueledRole). NamesRole OfState calls.program_name calls.role_name calls.fuel_text files r) same means.5,
        is ∙ sym means.10
            ∙ ap (λ (r : FueledRole). Some (mirrored_answer (record { role = r; state = means.1; argument = spelling means.2 }) means.4)) same
            ∙ ap (λ (s : List ℕ). Some (mirrored_answer (record { role = r; state = s; argument = spelling means.2 }) means.4)) state_is
            ∙ ap (λ (x : Value). Some (mirrored_answer (record { role = r; state = s; argument = spelling x }) means.4)) argument_is
            ∙ ap (λ (ps : List (List ℕ)). Some (mirrored_answer (record { role = r; state = s; argument = spelling x }) ps)) pieces_are,
      )

-- with an outcome nothing is stored
nothing_stored : (r : FueledRole) (o : Outcome) (old new : Outside) → AddsStores old.stores new.stores (shallow_told r o).stored → AddsStores old.stores new.stores []
nothing_stored r (Done v) old new adds = adds
nothing_stored r (Trapped trap) old new adds = adds
nothing_stored r Out old new adds = adds

-- what a run that ends in the status of an outcome tells is so
pub true_fetch : (line : List (List ℕ)) (old new : Outside) (status : Status) → EndsAs (answer line) old new status
    → ForSome old.contents (λ files. IsTrueFetch line files old new (code status))
true_fetch line old new status ends files known r state argument pieces calls tells =
    let heard = told (answer line) old new status ends files known (inl tells) in
    let some = some_told (answer line files) old new status heard in
    let is = mirrored line files r state argument pieces calls some.0 (subst TellsOutcome (sym some.2) tells) some.1 in
    let call : RoleCall =
    record { role = r; state = s line files r state argument pieces calls; argument = spelling (x line files r state argument pieces calls) } in
    let answered = subst (λ (o : Option Answer). IsToldAs o old new status) is.1 heard in
    let o = accepted (shallow_told r) (fetched_verdict call pieces) (subst TellsOutcome (ap code (sym answered.0)) tells) in
    let reader = named_reader OfState tt calls.program_name calls.role_name calls.fuel_text files r is.0 in
    let whole = named_whole OfState calls.program_name calls.role_name calls.fuel_text files r is.0 in (
      o.0,
      answered.1 ∙ ap (λ (v : Verdict). append_known old.written (concat (verdict_answer (shallow_told r) v).lines)) o.1,
      nothing_stored r o.0 old new (subst (λ (v : Verdict). AddsStores old.stores new.stores (verdict_answer (shallow_told r) v).stored) o.1 answered.2),
      reader_fetched r state argument pieces o.0 reader whole calls.call.ideal_state calls.call.ideal_argument o.1,
    )
