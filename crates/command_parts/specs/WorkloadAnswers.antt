-- What is answered of the programs of the library, and of workloads on them.
use Rattle.std.specs.Prelude.{ℕ, List, [], ◌∷◌, Bool, true, false, bytes_eq, codes, Option, Some, None, if◌then◌else◌}
use Rattle.sha2.specs.Sha256.{sha256}
use Rattle.ads_library.specs.Texts.{library_text}
use Rattle.lam_outside.specs.Told.{Contents}
use Rattle.core_terms.specs.ProgramFormats.{most_kept_pieces}
use Rattle.core_terms.specs.Types.{Ty, IntTy, PairTy}
use Rattle.core_terms.specs.Values.{Value}
use Rattle.core_terms.specs.Terms.{Kind, Query, Update, Program, function_at}
use Rattle.core_terms.specs.Roles.{argument_type}
use Rattle.ideal_meaning.specs.Ideal as ideal
use Rattle.printed_lines.specs.Lines.{calls_line}
use Rattle.printed_lines.specs.declared.refusal.Argument.TheVariants as named
use Rattle.printed_lines.specs.declared.refusal.InputFault.TheVariants.{LibraryUnknown, RoleKind, Number}
use Rattle.workloads.specs.Workloads.{after_rounds, no_calls}
use Rattle.workloads.specs.declared.tally.Tally.{Tally}
use Rattle.workloads.specs.declared.workload.Workload.{Workload}
use Rattle.command_parts.specs.Arguments.{most_rounds, most_seed}
use Rattle.number_words.specs.Numbers.{number_within}
use Rattle.command_parts.specs.FueledRoles.{FueledRole, NamedProgram}
use Rattle.command_parts.specs.RoleCalls.{EndedRole, kind_called, state_made}
use Rattle.command_parts.specs.declared.roles.Callee.TheVariants as callee
use Rattle.command_parts.specs.declared.status.Status.TheVariants.{Done}
use Rattle.command_parts.specs.AnswerForms.{Answer, says}
use Rattle.command_parts.specs.RefusedAnswers.{input_refused}
use Rattle.command_parts.specs.FileInputs.{with_number, with_text}
use Rattle.command_parts.specs.RoleInputs.{with_ended_init, with_role}
use Rattle.command_parts.specs.OutcomeAnswers.{outcome_told, projected_line}

-- goes on with the text of a program of the library
abbrev pub with_source : Option (List ℕ) → (List ℕ → Option Answer) → Option Answer
with_source None go = Some (input_refused LibraryUnknown)
with_source (Some text) go = go text

-- `library NAME`: the text of this program of the library, unchanged
abbrev pub library_answer : (name : List ℕ) → Contents → Option Answer
library_answer name files = with_source (library_text name) (λ text. Some (says Done text))

-- the numbers of a workload: the seed, how many rounds it has, and how many pieces each proof asks to be kept
pub record WorkloadNumbers : Type 0 where
  pub seed : ℕ
  pub rounds : ℕ
  pub kept : ℕ

abbrev pub with_numbers : (seed count kept : List ℕ) → (WorkloadNumbers → Option Answer) → Option Answer
with_numbers seed count kept go =
    with_number named.Seed (number_within most_seed seed) (λ x.
    with_number named.Count (number_within most_rounds count) (λ rounds.
    with_number named.Number (number_within most_kept_pieces kept) (λ n.
    go (record { seed = x; rounds = rounds; kept = n }))))

-- what a workload gets by: an int; and what it puts: two of them, the key and the value
abbrev pub is_key : Ty → Bool
is_key IntTy = true
is_key t = false

abbrev pub is_entry : Ty → Bool
is_entry (PairTy a b) = if is_key a then is_key b else false
is_entry t = false

-- a workload puts by an update on an entry, and gets by a query on a key
abbrev pub is_put : Kind → Ty → Bool
is_put Update t = is_entry t
is_put kind t = false

abbrev pub is_get : Kind → Ty → Bool
is_get Query t = is_key t
is_get kind t = false

-- goes on with the query or the update of this name, where its kind and the type of its argument pass the test
abbrev pub with_shape : (Kind → Ty → Bool) → Program → ℕ → (ℕ → Option Answer) → Option Answer
with_shape test P f go = if test (function_at P f).kind (argument_type P f) then go f else Some (input_refused RoleKind)

abbrev pub with_shaped_role : (Kind → Ty → Bool) → Program → List ℕ → (ℕ → Option Answer) → Option Answer
with_shaped_role test P name go = with_role callee.OfState P name (λ f. with_shape test P f go)

-- how many keys a workload on a program of the library has, by its name
abbrev pub keys_of : List ℕ → ℕ
keys_of name = if bytes_eq name (codes "merkle") then 1024 else 1000000

-- goes on with what a workload calls: the update `put` and the query `get`
abbrev pub with_workload : Program → (name : List ℕ) → (kept : ℕ) → (Workload → Option Answer) → Option Answer
with_workload P name n go =
    with_shaped_role is_put P (codes "put") (λ put.
    with_shaped_role is_get P (codes "get") (λ get.
    go (record { put = record { 0 = put }; get = record { 0 = get }; keys = keys_of name; kept = n })))

-- the init that makes the first state of a workload, and what is passed to it: of `merkle` the depth of the tree and the value of each leaf
abbrev pub first_role : List ℕ → List ℕ
first_role name = if bytes_eq name (codes "merkle") then codes "make" else codes "empty"

abbrev pub first_argument : List ℕ → List ℕ
first_argument name = if bytes_eq name (codes "merkle") then codes "(10, 0)" else codes "()"

abbrev pub with_first : NamedProgram → (name : List ℕ) → (EndedRole → Option Answer) → Option Answer
with_first p name go = with_ended_init p (first_role name) (first_argument name) (codes "1000000") go

-- goes on with the state that was made, and tells an outcome without one
abbrev pub with_outcome : FueledRole → ideal.Outcome → (Value → Option Answer) → Option Answer
with_outcome r (ideal.Done v) go = go (state_made (kind_called r) v)
with_outcome r (ideal.Trapped trap) go = Some (outcome_told r (ideal.Trapped trap))
with_outcome r ideal.Out go = Some (outcome_told r ideal.Out)

-- what is answered for the sums over the calls of a workload, and for its last state
abbrev pub sums_answer : NamedProgram → Tally → Value → Answer
sums_answer p t s = record {
  status = Done;
  lines = calls_line t.calls t.done t.fresh t.again t.bytes ∷ projected_line p s ∷ [];
  stored = [];
}

-- the same for a workload from a state on
abbrev pub workload_answer : NamedProgram → WorkloadNumbers → Workload → Value → Answer
workload_answer p numbers w s =
    let last = after_rounds sha256 p.digested.program w numbers.rounds numbers.seed s no_calls in
    sums_answer p last.0 last.1

-- what is answered for a workload on a program of the library
abbrev pub generated_by : NamedProgram → (name : List ℕ) → WorkloadNumbers → Option Answer
generated_by p name numbers =
    with_workload p.digested.program name numbers.kept (λ w.
    with_first p name (λ ended.
    with_outcome ended.role ended.outcome (λ s. Some (workload_answer p numbers w s))))

-- `gen NAME SEED COUNT N`: a workload of COUNT rounds, each a put and a get, on the program of the library. The numbers are judged before
-- its text is read.
abbrev pub generated_answer : (name seed count kept : List ℕ) → Contents → Option Answer
generated_answer name seed count kept files =
    with_source (library_text name) (λ text.
    with_numbers seed count kept (λ numbers.
    with_text text (λ p. generated_by p name numbers)))
