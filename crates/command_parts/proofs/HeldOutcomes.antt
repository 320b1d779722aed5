-- The line of an outcome that the code tells, at the type that it holds.
use Rattle.std.proofs.Common.{◌≡◌, ◌<◌, ◌^◌, ℕ, List, length, sym, ap, ◌∙◌, subst, arith}
use Rattle.core_terms.specs.Programs.{constructor_names, meaning, types_of}
use Rattle.core_terms.specs.Spelling.{Spells, spelling}
use Rattle.core_terms.specs.TypeTables.{type_at}
use Rattle.core_terms.specs.Types.{Ty}
use Rattle.core_terms.specs.Values.{IsShallow, Value}
use Rattle.core_terms.specs.declared.program.Program.{Program}
use Rattle.core_terms.specs.declared.outcome.Outcome.{Outcome}
use Rattle.core_terms.specs.declared.outcome.Outcome.TheVariants as told
use Rattle.core_terms.proofs.LawProofs.{size_is_length}
use Rattle.ideal_meaning.specs.Ideal as ideal
use Rattle.printed_lines.specs.OutcomeLines.{named_done_line}
use Rattle.verifier_mode.specs.Verdicts.{TellsSomeOutcome}
use Rattle.ideal_meaning.specs.SpelledOutcomes.{SpellsOutcome}
use Rattle.core_terms.proofs.CodePrograms.{is_format}
use Rattle.command_parts.specs.AcceptedAnswers.{shallow_told}
use Rattle.command_parts.specs.AnswerForms.{says}
use Rattle.command_parts.specs.FueledRoles.{FueledRole}
use Rattle.command_parts.specs.RoleCalls.{result_called}
use Rattle.command_parts.specs.RolesCalled.{IsCalled, role_of}
use Rattle.command_parts.specs.declared.roles.CalledRole.{CalledRole}
use Rattle.command_parts.specs.declared.roles.Callee.{Callee}
use Rattle.command_parts.specs.declared.status.Status.TheVariants.{Done as DoneStatus}
use Rattle.command_parts.proofs.RoleReports.{result_type_is}

module _ (callee : Callee) (p : Program) (called : CalledRole) (is : IsCalled callee p called) where
  abbrev r : FueledRole
  r = role_of p called

  abbrev held : Ty
  held = type_at (types_of p) called.result

  type_is : held ≡ result_called r
  type_is = result_type_is callee p called is

  -- the line of a value, by its bytes as they are lent
  pub shallow_done : (bytes lent line : List ℕ) → lent ≡ bytes
      → ((v : Value) → IsShallow (meaning p).types held v → length lent < 2 ^ 32 → lent ≡ spelling v → line ≡ named_done_line (meaning p).types (constructor_names p.types.named.items) held v)
      → (o : ideal.Outcome) → SpellsOutcome (meaning p) (result_called r) o (told.Done bytes) → shallow_told r o ≡ says DoneStatus line
  shallow_done bytes lent line same tells o (v, done, spelled) =
      let types = (meaning p).types in
      let spelled' : Spells (meaning p).format.limit types bytes held v = subst (λ t. Spells (meaning p).format.limit types bytes t v) (sym type_is) spelled in
      let is = same ∙ spelled'.is in
      let count : length lent ≡ length (spelling v) = ap length is in
      let fits = spelled'.within.size_fits in
      let short = (is_format p).limit_fits in
      let size = size_is_length types held v spelled'.shape in
      let line_is = tells v spelled'.shape (omega (arith, count, size, fits, short)) is in
      ap (shallow_told r) done ∙ ap (says DoneStatus) (sym (line_is ∙ ap (λ t. named_done_line types (constructor_names p.types.named.items) t v) type_is))

  -- the value is told at the type that the code holds
  pub spelled_as_held : (bytes : List ℕ) → TellsSomeOutcome (meaning p) (result_called r) (told.Done bytes) → (v : Value) × Spells (meaning p).format.limit (meaning p).types bytes held v
  spelled_as_held bytes (o, (v, done, spelled)) = (v, subst (λ t. Spells (meaning p).format.limit (meaning p).types bytes t v) (sym type_is) spelled)
