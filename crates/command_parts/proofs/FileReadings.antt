-- Bytes as a program, by what they begin as.
use Rattle.std.proofs.Common.{◌≡◌, ◌⊎◌, inl, inr, ◌<◌, ◌≤◌, ℕ, Bool, true, false, List, length, cond, Option, Some, None, Result, Ok, Err, IsErrAnd, nat_le, refl, sym, ap, ◌∙◌, subst, le-leb, arith}
use Rattle.std.proofs.lemmas.Grind.{common_steps}
use Rattle.std.proofs.Math.Path.{fun_ext}
use Rattle.core_terms.specs.Limits.{most_program_bytes}
use Rattle.core_terms.specs.Programs.{constructor_names, meaning}
use Rattle.core_terms.specs.Terms as tree
use Rattle.core_terms.specs.declared.program.Program.{Program}
use Rattle.object_meaning.specs.Accepting.{Acceptance, Accepts, FirstFault, accepting}
use Rattle.object_meaning.specs.ObjectBodies.{program_in}
use Rattle.object_meaning.specs.Objects.{Object, most_object_bytes}
use Rattle.code_check.specs.Acceptances.{AcceptsAs}
use Rattle.code_check.specs.declared.fault.ObjectFault.{ObjectFault}
use Rattle.code_check.specs.declared.fault.ObjectFault.TheVariants as object_fault
use Rattle.printed_lines.specs.declared.refusal.Argument.TheVariants as named
use Rattle.printed_lines.specs.declared.refusal.InputFault.TheVariants.{TooLong}
use Rattle.command_parts.specs.FileInputs.{with_file, with_program_bytes}
use Rattle.command_parts.specs.AnswerForms.{Answer}
use Rattle.command_parts.specs.RefusedAnswers.{input_refused}
use Rattle.command_parts.specs.FilePrograms.{begins_as_object, constructor_names_of_file, constructor_names_of_object, constructors_of_acceptance, longest_program, of_acceptance, program_of_file, program_of_object}
use Rattle.command_parts.specs.Halting.{HaltsAs}
use Rattle.command_parts.specs.ReadPrograms.{ReadsProgram, of_object_fault}
use Rattle.command_parts.specs.TextPrograms.{IsProgram, constructor_names_of_text, program_of_text}
use Rattle.command_parts.specs.declared.programs.ProgramFault.{ProgramFault}
use Rattle.command_parts.specs.declared.report.Halt.{Halt}
use Rattle.command_parts.specs.declared.report.Halt.TheVariants.{Usage, Refused, ReadFault, NoMemory}
use Rattle.command_parts.proofs.TextNames.{names_by_number}

-- LENGTHS
module _ (bytes : List ℕ) where
  pub object_limit : begins_as_object bytes ≡ true → longest_program bytes ≡ most_object_bytes
  unfolding longest_program
  object_limit is = ap (λ b. cond b most_object_bytes most_program_bytes) is

  pub text_limit : begins_as_object bytes ≡ false → longest_program bytes ≡ most_program_bytes
  unfolding longest_program
  text_limit is = ap (λ b. cond b most_object_bytes most_program_bytes) is

  -- no program is longer than an object may be
  pub longest : longest_program bytes ≤ most_object_bytes
  unfolding longest_program
  longest = by (begins_as_object bytes)
    where
      by : (b : Bool) → cond b most_object_bytes most_program_bytes ≤ most_object_bytes
      by true = omega arith
      by false = omega arith

  pub object_fits : length bytes ≤ longest_program bytes → length bytes ≤ most_object_bytes
  object_fits fits = let most = longest in omega (arith, fits, most)

  pub text_fits : begins_as_object bytes ≡ false → length bytes ≤ longest_program bytes → length bytes ≤ most_program_bytes
  text_fits is fits = subst (λ most. length bytes ≤ most) (text_limit is) fits

  too_long : nat_le (length bytes) most_object_bytes ≡ false → nat_le (length bytes) (longest_program bytes) ≡ false
  too_long long = let most = longest in grind (arith, common_steps)

  -- bytes that are no longer than they may be are gone on with, and others refused
  pub bytes_go : (file : Option (List ℕ)) → file ≡ Some bytes → length bytes ≤ longest_program bytes → (go : List ℕ → Option Answer) → with_program_bytes file go ≡ go bytes
  bytes_go file there fits go =
      ap (λ file. with_program_bytes file go) there
      ∙ ap (λ b. cond b (go bytes) (Some (input_refused (TooLong named.Program)))) (le-leb (length bytes) (longest_program bytes) fits)

  pub bytes_refused : (file : Option (List ℕ)) → file ≡ Some bytes → longest_program bytes < length bytes → (go : List ℕ → Option Answer)
      → with_program_bytes file go ≡ Some (input_refused (TooLong named.Program))
  bytes_refused file there long go =
      let test : nat_le (length bytes) (longest_program bytes) ≡ false = grind (arith, common_steps) in
      ap (λ file. with_program_bytes file go) there
      ∙ ap (λ b. cond b (go bytes) (Some (input_refused (TooLong named.Program)))) test

-- what halts without an answer halts with any
no_answer : (answer : Option Answer) (halt : Halt) → HaltsAs None halt → HaltsAs answer halt
no_answer answer Usage halts = absurd (cc)
no_answer answer (Refused what) halts = absurd (cc)
no_answer answer ReadFault halts = tt
no_answer answer NoMemory halts = tt

-- what halts the reading of a file of any program halts that of one that is no longer than it may be
pub halts_within : (file : Option (List ℕ)) (halt : Halt) → ((go : List ℕ → Option Answer) → HaltsAs (with_file most_object_bytes named.Program file go) halt)
    → (go : List ℕ → Option Answer) → HaltsAs (with_program_bytes file go) halt
halts_within None halt halts go = halts go
halts_within (Some bytes) halt halts go = by (nat_le (length bytes) most_object_bytes) refl (halts (λ bytes. None))
  where
    by : (b : Bool) → nat_le (length bytes) most_object_bytes ≡ b → HaltsAs (cond b None (Some (input_refused (TooLong named.Program)))) halt → HaltsAs (with_program_bytes (Some bytes) go) halt
    by true is halts = no_answer (with_program_bytes (Some bytes) go) halt halts
    by false is halts = subst (λ b. HaltsAs (cond b (go bytes) (Some (input_refused (TooLong named.Program)))) halt) (sym (too_long bytes is)) halts

-- PROGRAMS
module _ (bytes : List ℕ) where
  pub as_object : begins_as_object bytes ≡ true → program_of_file bytes ≡ of_acceptance (accepting bytes)
  unfolding program_of_file program_of_object
  as_object is = ap (λ b. cond b (of_acceptance (accepting bytes)) (program_of_text bytes)) is

  pub as_text : begins_as_object bytes ≡ false → program_of_file bytes ≡ program_of_text bytes
  unfolding program_of_file
  as_text is = ap (λ b. cond b (program_of_object bytes) (program_of_text bytes)) is

  pub names_as_text : begins_as_object bytes ≡ false → constructor_names_of_file bytes ≡ constructor_names_of_text bytes
  unfolding constructor_names_of_file
  names_as_text is = ap (λ b. cond b (constructor_names_of_object bytes) (constructor_names_of_text bytes)) is

  pub names_as_object : begins_as_object bytes ≡ true → constructor_names_of_file bytes ≡ constructor_names_of_object bytes
  unfolding constructor_names_of_file
  names_as_object is = ap (λ b. cond b (constructor_names_of_object bytes) (constructor_names_of_text bytes)) is

  -- the program of an accepted object, and the names of its constructors
  pub accepted_reads : begins_as_object bytes ≡ true → (program : Program) → AcceptsAs (accepting bytes) (Ok program) → program_of_file bytes ≡ IsProgram (meaning program)
  accepted_reads is program accepts = as_object is ∙ ap of_acceptance accepts.1 ∙ ap IsProgram (sym accepts.2.meaning)

  pub accepted_names : begins_as_object bytes ≡ true → (program : Program) → AcceptsAs (accepting bytes) (Ok program)
      → constructor_names program.types.named.items ≡ constructor_names_of_file bytes
  unfolding constructor_names_of_object
  accepted_names is program accepts =
      fun_ext (names_by_number program.types.named.items (constructors_of_acceptance (accepting bytes)) (accepts.2.names ∙ ap constructors_of_acceptance (sym accepts.1)))
      ∙ sym (names_as_object is)

  -- why bytes that begin as an object are no program
  pub refused_reads : begins_as_object bytes ≡ true → (fault : ObjectFault) → AcceptsAs (accepting bytes) (Err fault) → (result : Result Program ProgramFault)
      → IsErrAnd result (λ given. given ≡ of_object_fault fault) → ReadsProgram meaning (program_of_file bytes) result
  refused_reads is fault accepts (Ok program) err = absurd err
  refused_reads is fault accepts (Err given) err = subst (λ given. ReadsProgram meaning (program_of_file bytes) (Err given)) (sym err) (by fault accepts)
    where
      by : (fault : ObjectFault) → AcceptsAs (accepting bytes) (Err fault) → ReadsProgram meaning (program_of_file bytes) (Err (of_object_fault fault))
      by (object_fault.Cut size) told = as_object is ∙ ap of_acceptance told
      by (object_fault.BadField offset) told = as_object is ∙ ap of_acceptance told
      by (object_fault.Leftover size) told = as_object is ∙ ap of_acceptance told
      by (object_fault.Shape function) told = as_object is ∙ ap of_acceptance told
      by (object_fault.Kind function instruction) told = as_object is ∙ ap of_acceptance told
      by object_fault.NoMemory told = tt

  -- an object's program, or a text's
  pub record IsOfObject (P : tree.Program) : Type 0 where
    pub begins : begins_as_object bytes ≡ true
    pub object : Object
    pub accepted : accepting bytes ≡ Accepts object
    pub program : program_in object ≡ P

  pub record IsOfText (P : tree.Program) : Type 0 where
    pub begins : begins_as_object bytes ≡ false
    pub program : program_of_text bytes ≡ IsProgram P

  pub object_or_text : (P : tree.Program) → program_of_file bytes ≡ IsProgram P → IsOfObject P ⊎ IsOfText P
  object_or_text P is = by (begins_as_object bytes) refl
    where
      accepted : (found : Acceptance) → of_acceptance found ≡ IsProgram P → (o : Object) × (found ≡ Accepts o) × (program_in o ≡ P)
      accepted (Accepts o) e = (o, refl, (cc))
      accepted (FirstFault fault) e = absurd (cc)

      by : (b : Bool) → begins_as_object bytes ≡ b → IsOfObject P ⊎ IsOfText P
      by true begins =
          let found = accepted (accepting bytes) (sym (as_object begins) ∙ is) in
          inl (record { begins = begins; object = found.0; accepted = found.1; program = found.2 })
      by false begins = inr (record { begins = begins; program = sym (as_text begins) ∙ is })
