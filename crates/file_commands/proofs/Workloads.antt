-- Workloads: the texts of the library, what is found of the first call, and what is told of the sums.
use Rattle.std.proofs.Common.{◌≡◌, ◌≤◌, ℕ, Bool, true, false, List, [], ◌∷◌, ◌++◌, length, Vec, cond, Option, Some, None, Ok}
use Rattle.std.proofs.Common.{codes, bytes_eq, refl, ap, ap₂, sym, ◌∙◌, subst}
use Rattle.std.specs.List.{concat}
use Rattle.std.specs.declared.alloc.Global.{Global}
use Rattle.std.specs.Prelude.{nat_le}
use Rattle.std.proofs.lemmas.Bool.{leb-true}
use Rattle.sha2.specs.Sha256.{sha256}
use Rattle.ads_library.specs.Texts.{library_text}
use Rattle.ads_library.specs.declared.texts.TheConstants.{BST, MERKLE, REDBLACK, SKIPLIST}
use Rattle.core_terms.specs.Limits.{most_program_bytes}
use Rattle.core_terms.specs.Programs.{meaning}
use Rattle.core_terms.specs.Values.{Value}
use Rattle.core_terms.specs.declared.program.Program.{Program}
use Rattle.ideal_meaning.specs.Ideal.{Outcome, Done, Trapped, Out}
use Rattle.images.specs.declared.load.Loaded.{Loaded}
use Rattle.printed_lines.specs.Lines.{calls_line}
use Rattle.value_store.specs.Markings.{HasLimit}
use Rattle.value_store.specs.Standing.{StandsFor}
use Rattle.value_store.specs.Stores.{nodes_in, store_lent}
use Rattle.workloads.specs.Workloads.{after_rounds, no_calls}
use Rattle.workloads.specs.declared.tally.Tally.{Tally}
use Rattle.workloads.specs.declared.workload.Workload.{Workload}
use Rattle.command_parts.specs.WorkloadAnswers.{WorkloadNumbers, first_argument, first_role, sums_answer, with_first, with_outcome, workload_answer}
use Rattle.command_parts.specs.OutcomeAnswers.{outcome_told, projected_line}
use Rattle.command_parts.specs.AnswerForms.{Answer, says}
use Rattle.command_parts.specs.RoleInputs.{with_ended_init}
use Rattle.command_parts.specs.FueledRoles.{FueledRole, NamedProgram}
use Rattle.command_parts.specs.Halting.{FindsLines, InHand, TellsLines, ending_status}
use Rattle.command_parts.specs.RoleCalls.{EndedRole, kind_called, state_made}
use Rattle.command_parts.specs.ReadPrograms.{named_of}
use Rattle.command_parts.specs.RolesCalled.{prover_nodes}
use Rattle.command_parts.specs.StoredStates.{IsStoredState}
use Rattle.command_parts.specs.declared.report.Ending.TheVariants as ending
use Rattle.command_parts.specs.declared.report.Report.{Report}
use Rattle.command_parts.specs.declared.status.Status.{Status}
use Rattle.command_parts.proofs.Ends.{one_line}
use Rattle.command_parts.proofs.LineSteps.{found_as}

-- each text of the library is within the limit of a program's text
pub short_text : (name text : List ℕ) → library_text name ≡ Some text → length text ≤ most_program_bytes
unfolding library_text
short_text name text is = by (bytes_eq name (codes "bst")) (bytes_eq name (codes "merkle")) (bytes_eq name (codes "redblack")) (bytes_eq name (codes "skiplist")) is
  where
    one : (known : List ℕ) → nat_le (length known) most_program_bytes ≡ true → known ≡ text → length text ≤ most_program_bytes
    one known short same = subst (λ text. length text ≤ most_program_bytes) same (leb-true (length known) most_program_bytes short)

    by : (a b c d : Bool) → cond a (Some BST.now) (cond b (Some MERKLE.now) (cond c (Some REDBLACK.now) (cond d (Some SKIPLIST.now) None))) ≡ Some text
        → length text ≤ most_program_bytes
    by true b c d is = one BST.now refl (cc)
    by false true c d is = one MERKLE.now refl (cc)
    by false false true d is = one REDBLACK.now refl (cc)
    by false false false true is = one SKIPLIST.now refl (cc)
    by false false false false is = absurd (cc)

-- the first call, by its words
pub first_is : (p : NamedProgram) (name role argument fuel : List ℕ) → role ≡ first_role name → argument ≡ first_argument name → fuel ≡ codes "1000000"
    → (go : EndedRole → Option Answer) → with_first p name go ≡ with_ended_init p role argument fuel go
first_is p name role argument fuel is_role is_argument is_fuel go =
    ap (λ role. with_ended_init p role (first_argument name) (codes "1000000") go) (sym is_role)
    ∙ ap (λ argument. with_ended_init p role argument (codes "1000000") go) (sym is_argument)
    ∙ ap (λ fuel. with_ended_init p role argument fuel go) (sym is_fuel)

-- what stands behind the first call, and behind the roles
abbrev pub behind_first : NamedProgram → WorkloadNumbers → Workload → EndedRole → Option Answer
behind_first p numbers w ended = with_outcome ended.role ended.outcome (λ s. Some (workload_answer p numbers w s))

abbrev pub behind_roles : NamedProgram → (name : List ℕ) → WorkloadNumbers → Workload → Option Answer
behind_roles p name numbers w = with_first p name (behind_first p numbers w)

-- the first call made a state
pub state_found : (p : NamedProgram) (numbers : WorkloadNumbers) (w : Workload) (meant : EndedRole) (r : FueledRole) (v : Value) (report : Report)
    → meant.role ≡ r → meant.outcome ≡ Done v → TellsLines (workload_answer p numbers w (state_made (kind_called r) v)) report
    → InHand (FindsLines (behind_first p numbers w meant)) (Ok report)
state_found p numbers w meant r v report is done tells =
    let told : Value → Option Answer = λ s. Some (workload_answer p numbers w s) in
    found_as (behind_first p numbers w meant) (told (state_made (kind_called r) v)) (Ok report)
    (ap (λ (o : Outcome). with_outcome meant.role o told) done ∙ ap (λ (r : FueledRole). told (state_made (kind_called r) v)) is)
    (workload_answer p numbers w (state_made (kind_called r) v), refl, tells)

-- or it made none
one_told : (a : Answer) (status : Status) (report : Report) → a ≡ says status report.text.items → status ≡ ending_status report.ending → TellsLines a report
one_told a status report is same = record {
  status = ap (λ (a : Answer). a.status) is ∙ same;
  lines = ap (λ (a : Answer). concat a.lines) is ∙ one_line report.text.items;
  stored = ap (λ (a : Answer). a.stored) is;
}

pub outcome_found : (meant : EndedRole) (r : FueledRole) (go : Value → Option Answer) (report : Report) → meant.role ≡ r
    → ((v : Value) → meant.outcome ≡ Done v → ⊥) → outcome_told r meant.outcome ≡ says (ending_status report.ending) report.text.items
    → InHand (FindsLines (with_outcome meant.role meant.outcome go)) (Ok report)
outcome_found meant r go report is none told = subst (λ r. InHand (FindsLines (with_outcome r meant.outcome go)) (Ok report)) (sym is) (by meant.outcome none told)
  where
    by : (o : Outcome) → ((v : Value) → o ≡ Done v → ⊥) → outcome_told r o ≡ says (ending_status report.ending) report.text.items
        → InHand (FindsLines (with_outcome r o go)) (Ok report)
    by (Done v) none told = absurd (none v refl)
    by (Trapped trap) none told = (_, refl, one_told _ _ report told refl)
    by Out none told = (_, refl, one_told _ _ report told refl)

-- ---- the sums

-- the line of numbers that are those of the sums
same_line : (calls done fresh again bytes : ℕ) (t : Tally) → calls ≡ t.calls → done ≡ t.done → fresh ≡ t.fresh → again ≡ t.again → bytes ≡ t.bytes
    → calls_line calls done fresh again bytes ≡ calls_line t.calls t.done t.fresh t.again t.bytes
same_line calls done fresh again bytes t is_calls is_done is_fresh is_again is_bytes =
    ap (λ n. calls_line n done fresh again bytes) is_calls
    ∙ (ap (λ n. calls_line t.calls n fresh again bytes) is_done
    ∙ (ap (λ n. calls_line t.calls t.done n again bytes) is_fresh
    ∙ (ap (λ n. calls_line t.calls t.done t.fresh n bytes) is_again ∙ ap (λ n. calls_line t.calls t.done t.fresh t.again n) is_bytes)))

-- the two lines
pub sums_told : (p : NamedProgram) (t : Tally) (s : Value) (calls done fresh again bytes : ℕ) → calls ≡ t.calls → done ≡ t.done → fresh ≡ t.fresh → again ≡ t.again → bytes ≡ t.bytes
    → (first : List ℕ) (shown : Report) (text : Vec ℕ Global)
    → first ≡ calls_line calls done fresh again bytes → concat (projected_line p s ∷ []) ≡ shown.text.items → text.items ≡ first ++ shown.text.items
    → TellsLines (sums_answer p t s) (record { ending = ending.Done; text = text })
sums_told p t s calls done fresh again bytes is_calls is_done is_fresh is_again is_bytes first shown text is_first is_shown is_text = record {
  status = refl;
  lines = ap₂ ◌++◌ (sym (is_first ∙ same_line calls done fresh again bytes t is_calls is_done is_fresh is_again is_bytes)) is_shown ∙ sym is_text;
  stored = refl;
}

-- the last state, by a program that is the same
pub same_stored : (p q : Program) → q ≡ p → (last : Loaded) (v : Value) → IsStoredState (meaning p) last v → IsStoredState (meaning q) last v
same_stored p q is last v h = subst (λ p. IsStoredState (meaning p) last v) (sym is) h

-- the state behind a workload, in the store that has grown
pub stored_behind : (p : Program) (first last : Loaded) (s v : Value) → store_lent last.store ≡ store_lent first.store → IsStoredState (meaning p) first s
    → StandsFor (prover_nodes p) (meaning p).types (nodes_in last.store) last.root.0 (meaning p).state v → IsStoredState (meaning p) last v
stored_behind p first last s v lent h stands = record { stands = stands; limit = subst (HasLimit (meaning p)) (sym lent) h.limit }

-- the sums and the last state of a workload, told
pub workload_told : (p q : Program) → q ≡ p → (numbers : WorkloadNumbers) (w : Workload) (s : Value) (t : Tally) (last : Loaded) (report : Report)
    → t ≡ (after_rounds sha256 (meaning p) w numbers.rounds numbers.seed s no_calls).0
    → IsStoredState (meaning p) last (after_rounds sha256 (meaning p) w numbers.rounds numbers.seed s no_calls).1
    → ((v : Value) → IsStoredState (meaning q) last v → TellsLines (sums_answer (named_of q) t v) report)
    → TellsLines (workload_answer (named_of p) numbers w s) report
workload_told p q is numbers w s t last report sums stored tells =
    let behind = after_rounds sha256 (meaning p) w numbers.rounds numbers.seed s no_calls in
    subst (λ (t : Tally). TellsLines (sums_answer (named_of p) t behind.1) report) sums
    (subst (λ q. TellsLines (sums_answer (named_of q) t behind.1) report) is (tells behind.1 (same_stored p q is last behind.1 stored)))
