-- A state that is read from its spelling, and what is passed to a role.
use Rattle.std.proofs.Common.{◌≡◌, ℕ, List, Option, Some, Result, Ok, Err, IsErrAnd, sym, ap, ◌∙◌, subst}
use Rattle.core_terms.specs.Programs.{meaning, types_of}
use Rattle.core_terms.specs.ProgramTypes.{types_meaning}
use Rattle.core_terms.specs.Projection.{read_at}
use Rattle.core_terms.specs.Reading.{Read}
use Rattle.core_terms.specs.Spelling.{spelling}
use Rattle.core_terms.specs.TypeTables.{type_at}
use Rattle.core_terms.specs.Types.{Ty}
use Rattle.core_terms.specs.Values.{Value}
use Rattle.core_terms.specs.declared.fault.Fault.TheVariants as literal_fault
use Rattle.core_terms.specs.declared.program.Program.{Program}
use Rattle.core_terms.specs.declared.program_types.Types.{Types}
use Rattle.core_terms.specs.declared.types.TyId.{TyId}
use Rattle.printed_lines.specs.declared.refusal.InputFault.TheVariants.{State}
use Rattle.printed_syntax.specs.LiteralAnswers.{LiteralFault, ReadsLiteral, SpellsLiteral}
use Rattle.printed_syntax.specs.Literals.{literal_in}
use Rattle.shallow_codec.specs.ProgramTypes.{ty_of}
use Rattle.shallow_codec.specs.Unspelled.{IsRead}
use Rattle.shallow_codec.specs.declared.fault.UnspellFault.TheVariants.{Bad}
use Rattle.command_parts.specs.FileInputs.{state_read, with_literal, with_state, with_state_read}
use Rattle.command_parts.specs.AnswerForms.{Answer}
use Rattle.command_parts.specs.RefusedAnswers.{input_refused}
use Rattle.command_parts.specs.Halting.{StepGives, InHand, of_literal_fault}
use Rattle.command_parts.specs.ReadPrograms.{named_of}
use Rattle.command_parts.specs.RoleCalls.{named_literal}
use Rattle.command_parts.specs.RolesCalled.{IsCalled, role_of}
use Rattle.command_parts.specs.RolesJudged.{with_spelled}
use Rattle.command_parts.specs.declared.report.Halt.{Halt}
use Rattle.command_parts.specs.declared.roles.CalledRole.{CalledRole}
use Rattle.command_parts.specs.declared.roles.Callee.{Callee}
use Rattle.command_parts.proofs.RoleShapes.{passed_is}

-- bytes that are read at the type of the state, or refused there
module _ (p : Program) (types : Types) (same : types ≡ p.types) (id : TyId) (is_state : type_at (types_of p) id ≡ (meaning p).state) (bytes : List ℕ) where
  at_state : read_at (meaning p) (meaning p).state bytes ≡ read_at (types_meaning types) (ty_of types id) bytes
  at_state = ap (λ t. read_at (meaning p) t bytes) (sym is_state) ∙ ap (λ (types : Types). read_at (types_meaning types) (ty_of types id) bytes) (sym same)

  pub state_goes_on : IsRead {A = Unit {0}} (read_at (types_meaning types) (ty_of types id) bytes) (Ok tt)
      → (go : List ℕ → Option Answer) → with_state (meaning p) bytes go ≡ go bytes
  unfolding state_read
  state_goes_on (v, place, reads) go = ap (λ (found : Read Value). with_state_read found bytes go) (at_state ∙ reads)

  pub state_is_refused : (offset : ℕ) → IsRead {A = Unit {0}} (read_at (types_meaning types) (ty_of types id) bytes) (Err (Bad offset))
      → (go : List ℕ → Option Answer) → with_state (meaning p) bytes go ≡ Some (input_refused (State offset))
  unfolding state_read
  state_is_refused offset reads go = ap (λ (found : Read Value). with_state_read found bytes go) (at_state ∙ reads)

-- a text at the type of what is passed to a role
module _ (callee : Callee) (p : Program) (called : CalledRole) (is : IsCalled callee p called) (text : List ℕ) where
  abbrev t : Ty
  t = type_at (types_of p) called.argument

  abbrev spelled_at : Ty → (List ℕ → Option Answer) → Option Answer
  spelled_at t go = with_literal (named_literal (named_of p) t text) (λ a. go (spelling a))

  as_held : {A : Type 0} (value : A → List ℕ) (result : Result A Halt) → InHand (StepGives (spelled_at t) value) result → InHand (StepGives (with_spelled (role_of p called) text) value) result
  as_held value result goes = subst (λ t. InHand (StepGives (spelled_at t) value) result) (sym (passed_is callee p called is)) goes

  pub passed_refused : {A : Type 0} (value : A → List ℕ) (fault : LiteralFault) (result : Result A Halt) → IsErrAnd result (λ halt. halt ≡ of_literal_fault fault)
      → ReadsLiteral (literal_in (meaning p) (named_of p).names t text) (Err fault) → InHand (StepGives (with_spelled (role_of p called) text) value) result
  unfolding named_literal
  passed_refused {A = A} value fault result halt is_fault = as_held value result (by fault result halt is_fault)
    where
      by : (fault : LiteralFault) (result : Result A Halt) → IsErrAnd result (λ halt. halt ≡ of_literal_fault fault) → ReadsLiteral (literal_in (meaning p) (named_of p).names t text) (Err fault)
          → InHand (StepGives (spelled_at t) value) result
      by fault (Ok a) halt is = absurd halt
      by (literal_fault.At kind offset) (Err h) halt is = subst (λ h. InHand (StepGives (spelled_at t) value) (Err h)) (sym halt) (λ go. ap (λ found. with_literal found (λ a. go (spelling a))) is)
      by literal_fault.NoMemory (Err h) halt is = subst (λ h. InHand (StepGives (spelled_at t) value) (Err h)) (sym halt) (λ go. tt)

  pub passed_goes : (bytes : List ℕ) → SpellsLiteral (literal_in (meaning p) (named_of p).names t text) bytes
      → InHand (StepGives (with_spelled (role_of p called) text) (λ (bytes : List ℕ). bytes)) (Ok bytes)
  unfolding named_literal
  passed_goes bytes spelled = as_held (λ bytes. bytes) (Ok bytes) (by spelled)
    where
      by : SpellsLiteral (literal_in (meaning p) (named_of p).names t text) bytes → InHand (StepGives (spelled_at t) (λ (bytes : List ℕ). bytes)) (Ok bytes)
      by spelled = λ go. ap (λ found. with_literal found (λ a. go (spelling a))) spelled.1 ∙ ap go spelled.2
