-- What stands for the arguments of a role that is run, and what is gone on with.
use Rattle.std.proofs.Common.{◌≡◌, ℕ, List, [], ◌∷◌, Option, Result, Err, sym, ap, ◌∙◌, subst}
use Rattle.core_terms.specs.Programs.{meaning, types_of}
use Rattle.core_terms.specs.RoleViews.{role_kind_of}
use Rattle.core_terms.specs.Terms.{function_at}
use Rattle.core_terms.specs.TypeTables.{type_at}
use Rattle.core_terms.specs.Values.{AndV, NoV, Value}
use Rattle.core_terms.specs.declared.program.Program.{Program}
use Rattle.value_store.specs.Nodes.{Node}
use Rattle.value_store.specs.Standing.{AllStandFor, StandsFor}
use Rattle.value_store.specs.Stores.{nodes_in}
use Rattle.printed_lines.specs.declared.refusal.Refusal.TheVariants as refusal
use Rattle.command_parts.specs.RoleInputs.{with_passed}
use Rattle.command_parts.specs.FileInputs.{with_literal}
use Rattle.command_parts.specs.AnswerForms.{Answer}
use Rattle.command_parts.specs.CallsInStores.{HoldsCall}
use Rattle.command_parts.specs.Halting.{StepGivesFor, HaltsAs, InHand}
use Rattle.command_parts.specs.IdealCalls as meant
use Rattle.command_parts.specs.IdealCalls.{values_called}
use Rattle.command_parts.specs.ReadPrograms.{named_of}
use Rattle.command_parts.specs.RoleCalls.{EndedRole, ended_with, named_literal}
use Rattle.command_parts.specs.RolesCalled.{CallsOnStates, IsCalled, IsEnded, prover_nodes, role_of}
use Rattle.command_parts.specs.declared.ideal_calls.IdealCall.{IdealCall}
use Rattle.command_parts.specs.declared.machine_calls.Ended.{Ended}
use Rattle.command_parts.specs.declared.report.Halt.{Halt}
use Rattle.command_parts.specs.declared.report.Halt.TheVariants.{Usage, Refused, ReadFault, NoMemory}
use Rattle.command_parts.specs.declared.roles.CalledRole.{CalledRole}
use Rattle.command_parts.specs.declared.roles.Callee.{Callee}
use Rattle.command_parts.specs.declared.roles.Callee.TheVariants.{Init}
use Rattle.command_parts.proofs.RoleShapes.{calls_reads, init_alone, init_takes, passed_is, reader_takes}

-- the value of a literal was put as the argument, by this program
abbrev pub IsPut : CalledRole → (text : List ℕ) → List Node → ℕ → Program → Type 0
IsPut called text nodes r p =
    (v : Value) × ((go : Value → Option Answer) → with_literal (named_literal (named_of p) (type_at (types_of p) called.argument) text) go ≡ go v)
    × StandsFor (prover_nodes p) (meaning p).types nodes r (type_at (types_of p) called.argument) v

-- it is what is gone on with
pub passed_goes : (callee : Callee) (p : Program) (called : CalledRole) → IsCalled callee p called → (text : List ℕ) (nodes : List Node) (r : ℕ) (put : IsPut called text nodes r p)
    → (go : Value → Option Answer) → with_passed (role_of p called) text go ≡ go put.0
passed_goes callee p called is text nodes r put go = ap (λ t. with_literal (named_literal (named_of p) t text) go) (passed_is callee p called is) ∙ put.1 go

-- the state and the argument of a call that is held
pub call_stands : (callee : Callee) (p : Program) (held : IdealCall) (call : meant.IdealCall) → CallsOnStates callee → HoldsCall callee p held call
    → AllStandFor (prover_nodes p) (meaning p).types (nodes_in held.store) (held.state.0 ∷ held.argument.0 ∷ []) (function_at (meaning p) held.called.function.0).parameters (values_called call)
call_stands callee p held call calls h =
    let called = held.called in
    let is = h.called in
    let reads = calls_reads callee (role_kind_of called.kind) calls is.called in
    subst (λ ts. AllStandFor (prover_nodes p) (meaning p).types (nodes_in held.store) (held.state.0 ∷ held.argument.0 ∷ []) ts (values_called call))
    (sym (reader_takes (meaning p) called.function.0 (role_kind_of called.kind) (type_at (types_of p) called.argument) is.answer is.shape reads)) (h.state, (h.argument, tt))

pub init_stands : (p : Program) (called : CalledRole) (is : IsCalled Init p called) (text : List ℕ) (nodes : List Node) (r : ℕ) (put : IsPut called text nodes r p)
    → AllStandFor (prover_nodes p) (meaning p).types nodes (r ∷ []) (function_at (meaning p) called.function.0).parameters (AndV put.0 NoV)
init_stands p called is text nodes r put =
    let kind = role_kind_of called.kind in
    subst (λ ts. AllStandFor (prover_nodes p) (meaning p).types nodes (r ∷ []) ts (AndV put.0 NoV))
    (sym (init_takes (meaning p) called.function.0 kind (type_at (types_of p) called.argument) is.answer is.shape (init_alone kind is.called))) (put.2, tt)

-- what halts the reading of the argument halts an init
pub init_halts : (p : Program) (called : CalledRole) → IsCalled Init p called → (text : List ℕ) {T : Type 0} (Stands : T → Value → Type 0) (halt : Halt) (result : Result Ended Halt) → result ≡ Err halt
    → InHand (StepGivesFor (with_literal (named_literal (named_of p) (type_at (types_of p) called.argument) text)) Stands) (Err halt)
    → InHand (StepGivesFor (λ go. with_passed (role_of p called) text (λ a. go (ended_with (role_of p called) (AndV a NoV)))) (IsEnded Init p)) result
init_halts p called is text {T} Stands halt result same halts = subst (InHand (StepGivesFor step (IsEnded Init p))) (sym same) (by halt halts)
  where
    step : (EndedRole → Option Answer) → Option Answer
    step go = with_passed (role_of p called) text (λ a. go (ended_with (role_of p called) (AndV a NoV)))

    passes : (halt : Halt) → ((go : Value → Option Answer) → HaltsAs (with_literal (named_literal (named_of p) (type_at (types_of p) called.argument) text) go) halt) → (go : EndedRole → Option Answer)
        → HaltsAs (step go) halt
    passes halt halts go =
        subst (λ t. HaltsAs (with_literal (named_literal (named_of p) t text) (λ a. go (ended_with (role_of p called) (AndV a NoV)))) halt) (sym (passed_is Init p called is))
        (halts (λ a. go (ended_with (role_of p called) (AndV a NoV))))

    by : (halt : Halt) → InHand (StepGivesFor (with_literal (named_literal (named_of p) (type_at (types_of p) called.argument) text)) Stands) (Err halt) → InHand (StepGivesFor step (IsEnded Init p)) (Err halt)
    by Usage halts = absurd halts
    by (Refused (refusal.Program kind line column)) halts = passes (Refused (refusal.Program kind line column)) halts
    by (Refused (refusal.Object kind)) halts = passes (Refused (refusal.Object kind)) halts
    by (Refused (refusal.Input fault)) halts = passes (Refused (refusal.Input fault)) halts
    by (Refused (refusal.Proof cause)) halts = absurd halts
    by ReadFault halts = absurd halts
    by NoMemory halts = passes NoMemory halts
