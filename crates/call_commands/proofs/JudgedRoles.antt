-- What is found of the verdict on a call: its outcome's line, and the spelling of the new state.
use Rattle.std.proofs.Common.{◌≡◌, ℕ, true, List, [], ◌∷◌, Option, Some, None, Vec, Result, Ok, Err, IsErrAnd, refl, sym, ap, ◌∙◌, subst}
use Rattle.std.specs.List.{concat}
use Rattle.std.specs.declared.alloc.Global.{Global}
use Rattle.core_terms.specs.Programs.{meaning, types_of}
use Rattle.core_terms.specs.ProgramTypes.{types_meaning}
use Rattle.core_terms.specs.RoleViews.{role_kind_of}
use Rattle.core_terms.specs.Spelling.{Spells, spelling}
use Rattle.core_terms.specs.Terms as tree
use Rattle.core_terms.specs.TypeTables.{type_at}
use Rattle.core_terms.specs.Types.{PairTy, Ty}
use Rattle.core_terms.specs.Values.{IsShallow, PairV, Value}
use Rattle.core_terms.specs.declared.program.Program.{Program}
use Rattle.core_terms.specs.declared.program_types.Types.{Types}
use Rattle.core_terms.specs.declared.outcome.Outcome.{Outcome}
use Rattle.core_terms.specs.declared.outcome.Outcome.TheVariants as told
use Rattle.core_terms.specs.declared.byte_string.ByteString.{ByteString as Spelling}
use Rattle.ideal_meaning.specs.Checked as checked
use Rattle.ideal_meaning.specs.Ideal as ideal
use Rattle.verifier_mode.specs.Verdicts.{AnswersVerdict, TellsSomeOutcome, VerdictCause}
use Rattle.ideal_meaning.specs.SpelledOutcomes.{SpellsOutcome}
use Rattle.verifier_mode.specs.declared.verdict.Verdict.{Verdict}
use Rattle.verifier_mode.specs.declared.verdict.Verdict.TheVariants as verdict
use Rattle.shallow_codec.specs.ProgramTypes.{table, ty_of}
use Rattle.command_parts.specs.AcceptedAnswers.{accepted_answer, callee_of, spelling_stored, shallow_told}
use Rattle.command_parts.specs.AnswerForms.{Answer, says}
use Rattle.command_parts.specs.RefusedAnswers.{verdict_answer}
use Rattle.command_parts.specs.FueledRoles.{FueledRole}
use Rattle.command_parts.specs.Halting.{JudgementCause, ending_status}
use Rattle.command_parts.specs.VerdictHalts.{of_verdict}
use Rattle.command_parts.specs.RoleCalls.{is_called, result_called, state_made}
use Rattle.command_parts.specs.RolesCalled.{IsCalled, role_of}
use Rattle.call_commands.specs.AnswersBehind.{name_of}
use Rattle.command_parts.specs.Storing.{FindsOutput, IsOutput, stored_as}
use Rattle.command_parts.specs.declared.report.Halt.{Halt}
use Rattle.command_parts.specs.declared.report.Output.{Output}
use Rattle.command_parts.specs.declared.roles.CalledRole.{CalledRole}
use Rattle.command_parts.specs.declared.roles.Callee.{Callee}
use Rattle.command_parts.specs.declared.roles.Callee.TheVariants as callees
use Rattle.command_parts.proofs.Ends.{one_line}
use Rattle.command_parts.proofs.RoleReports.{kind_told, result_type_is, update_pair}
use Rattle.command_parts.proofs.HeldOutcomes.{spelled_as_held}

-- what is found of a verdict that is no outcome
pub verdict_found : (tells : ideal.Outcome → Answer) (P : tree.Program) (f : ℕ) (meant : checked.Verdict) (v : Verdict) (name : List ℕ) (result : Result Output Halt)
    → IsErrAnd result (λ halt. halt ≡ of_verdict v) → AnswersVerdict P f meant (Err v) → FindsOutput name (Some (verdict_answer tells meant)) result
verdict_found tells P f meant v name (Ok output) halt answers = absurd halt
verdict_found tells P f meant v name (Err h) halt answers = subst (λ h. FindsOutput name (Some (verdict_answer tells meant)) (Err h)) (sym halt) (by v answers)
  where
    by : (v : Verdict) → AnswersVerdict P f meant (Err v) → FindsOutput name (Some (verdict_answer tells meant)) (Err (of_verdict v))
    by (verdict.Rejected cause) answers = ap (λ v. Some (verdict_answer tells v)) answers
    by (verdict.BadState offset) answers = ap (λ v. Some (verdict_answer tells v)) answers
    by (verdict.BadArgument offset) answers = ap (λ v. Some (verdict_answer tells v)) answers
    by verdict.ReadFault answers = tt
    by verdict.NoMemory answers = tt

pub verdict_judges : {T : Type 0} (U : Type 0) (before now : ℕ) (v : Verdict) (result : Result T Halt) → IsErrAnd result (λ halt. halt ≡ of_verdict v) → VerdictCause {T = U} before now (Err v) → JudgementCause before now result
verdict_judges U before now v (Ok t) halt cause = absurd halt
verdict_judges {T = T} U before now v (Err h) halt cause = subst (λ h. JudgementCause {T = T} before now (Err h)) (sym halt) (by v cause)
  where
    by : (v : Verdict) → VerdictCause {T = U} before now (Err v) → JudgementCause {T = T} before now (Err (of_verdict v))
    by (verdict.Rejected cause) same = same
    by (verdict.BadState offset) same = same
    by (verdict.BadArgument offset) same = same
    by verdict.ReadFault rose = rose
    by verdict.NoMemory same = same

-- the output of an outcome that is accepted
pub accepted_found : (r : FueledRole) (out : Option (List ℕ)) (P : tree.Program) (f : ℕ) (meant : checked.Verdict) (outcome : Outcome Spelling) (output : Output) → AnswersVerdict P f meant (Ok outcome)
    → ((o : ideal.Outcome) → SpellsOutcome P (tree.function_at P f).result o outcome → IsOutput (accepted_answer r out o) (name_of out) output)
    → FindsOutput (name_of out) (Some (verdict_answer (accepted_answer r out) meant)) (Ok output)
accepted_found r out P f meant outcome output (o, accepted, spelled) is =
    (accepted_answer r out o, ap (λ v. Some (verdict_answer (accepted_answer r out) v)) accepted, is o spelled)

pub accepted_output : (r : FueledRole) (out : Option (List ℕ)) (o : ideal.Outcome) (output : Output) (name : List ℕ)
    → shallow_told r o ≡ says (ending_status output.report.ending) output.report.text.items → spelling_stored r out o ≡ stored_as name output.file → IsOutput (accepted_answer r out o) name output
accepted_output r out o output name tells stored = record {
  status = ap (λ (a : Answer). a.status) tells;
  lines = ap (λ (a : Answer). concat a.lines) tells ∙ one_line output.report.text.items;
  stored = stored;
}

-- the file of the new state, where updates alone are called, and no file where queries are too
pub named_alone : (r : FueledRole) (o : ideal.Outcome) (file : Option (Vec ℕ Global)) → ((name : List ℕ) → spelling_stored r (Some name) o ≡ stored_as name file)
    → (out : Option (List ℕ)) → callees.Update ≡ callee_of out → spelling_stored r out o ≡ stored_as (name_of out) file
named_alone r o file stored None is = absurd (cc)
named_alone r o file stored (Some name) is = stored name

pub none_named : (r : FueledRole) (o : ideal.Outcome) (callee : Callee) → (callee ≡ callees.Update → ⊥) → (out : Option (List ℕ)) → callee ≡ callee_of out → spelling_stored r out o ≡ []
none_named r o callee other None is = refl
none_named r o callee other (Some name) is = absurd (other is)

-- an update's result is the new state, with an answer
module _ (p : Program) (called : CalledRole) (is : IsCalled callees.Update p called) where
  update_kind : (kind : tree.Kind) → is_called callees.Update kind ≡ true → kind ≡ tree.Update
  update_kind tree.Update e = refl
  update_kind tree.Query e = absurd (cc)
  update_kind tree.Init e = absurd (cc)
  update_kind tree.Inner e = absurd (cc)

  is_update : role_kind_of called.kind ≡ tree.Update
  is_update = update_kind (role_kind_of called.kind) is.called

  pub pair_held : type_at (types_of p) called.result ≡ PairTy (meaning p).state is.answer
  pair_held = result_type_is callees.Update p called is ∙ update_pair callees.Update p called is is_update

  abbrev held_at : Ty
  held_at = type_at (types_of p) called.result

  -- the value and its spelling by the types of the program, and by the bytes as they are lent
  module _ (types : Types) (same : types ≡ p.types) (bytes lent : List ℕ) (lent_is : lent ≡ bytes) where
    abbrev SpellsLent : Value → Type 0
    SpellsLent v = Spells (types_meaning types).format.limit (table types) lent (ty_of types called.result) v

    to_lent : (v : Value) → Spells (meaning p).format.limit (meaning p).types bytes held_at v → SpellsLent v
    to_lent v spelled =
        subst (λ (types : Types). Spells (types_meaning types).format.limit (table types) lent (ty_of types called.result) v) (sym same)
        (subst (λ bytes. Spells (meaning p).format.limit (meaning p).types bytes held_at v) (sym lent_is) spelled)

    pub pair_lent : (answer : Ty) × (ty_of types called.result ≡ PairTy (types_meaning types).state answer)
    pair_lent = (is.answer, subst (λ (types : Types). ty_of types called.result ≡ PairTy (types_meaning types).state is.answer) (sym same) pair_held)

    pub value_lent : TellsSomeOutcome (meaning p) (result_called (role_of p called)) (told.Done bytes) → (v : Value) × SpellsLent v
    value_lent told = let held = spelled_as_held callees.Update p called is bytes told in (held.0, to_lent held.0 held.1)

    -- and the spelling of the new state is stored
    pub state_stored : (state : List ℕ) (file : Vec ℕ Global) → ((x y : Value) → SpellsLent (PairV x y) → state ≡ spelling x) → file.items ≡ state
        → (name : List ℕ) (o : ideal.Outcome) → SpellsOutcome (meaning p) (result_called (role_of p called)) o (told.Done bytes)
        → spelling_stored (role_of p called) (Some name) o ≡ stored_as name (Some file)
    state_stored state file spells file_is name o (v, done, spelled) =
        let types = (meaning p).types in
        let spelled' : Spells (meaning p).format.limit types bytes held_at v = subst (λ t. Spells (meaning p).format.limit types bytes t v) (sym (result_type_is callees.Update p called is)) spelled in
        let pair : IsShallow types (PairTy (meaning p).state is.answer) v = subst (λ t. IsShallow types t v) pair_held spelled'.shape in
        ap (spelling_stored (role_of p called) (Some name)) done ∙ by v pair spelled'
      where
        by : (v : Value) → IsShallow (meaning p).types (PairTy (meaning p).state is.answer) v → Spells (meaning p).format.limit (meaning p).types bytes held_at v
            → spelling_stored (role_of p called) (Some name) (ideal.Done v) ≡ stored_as name (Some file)
        by (PairV x y) shallow spelled =
            ap (λ kind. (name, spelling (state_made kind (PairV x y))) ∷ []) (kind_told callees.Update p called is ∙ is_update)
            ∙ ap (λ bytes. (name, bytes) ∷ []) (sym (file_is ∙ spells x y (to_lent (PairV x y) spelled)))
        by v shallow spelled = elim shallow [ ]
