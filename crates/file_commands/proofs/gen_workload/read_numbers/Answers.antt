use Rattle.std.proofs.Common.{ℕ, List, Option, ◌∙◌}
use Rattle.std.proofs.lemmas.Result.{err_from_is_err_and}
use Rattle.core_terms.specs.ProgramFormats.{most_kept_pieces}
use Rattle.printed_lines.specs.declared.refusal.Argument.TheVariants.{Seed, Count, Number}
use Rattle.command_parts.specs.WorkloadAnswers.{WorkloadNumbers, with_numbers}
use Rattle.command_parts.specs.FileInputs.{with_number}
use Rattle.command_parts.specs.AnswerForms.{Answer}
use Rattle.command_parts.specs.Arguments.{most_rounds, most_seed}
use Rattle.number_words.specs.Numbers.{number_within}
use Rattle.file_commands.specs.GeneratedCalls.{numbers_of}
use Rattle.command_parts.proofs.LineSteps.{first_halts, goes_as}
use Rattle.file_commands.proofs.gen_workload.read_numbers.Goals as goal

-- the steps
abbrev on_kept : (kept : List ℕ) → (x rounds : ℕ) → (WorkloadNumbers → Option Answer) → Option Answer
on_kept kept x rounds go = with_number Number (number_within most_kept_pieces kept) (λ n. go (record { seed = x; rounds = rounds; kept = n }))

abbrev on_count : (count kept : List ℕ) → (x : ℕ) → (WorkloadNumbers → Option Answer) → Option Answer
on_count count kept x go = with_number Count (number_within most_rounds count) (λ rounds. on_kept kept x rounds go)

pub returns-in_err-seed-clause-goes : goal.returns-in_err-seed-clause-goes
returns-in_err-seed-clause-goes c =
    let words = c.args.words.now in
    let err = err_from_is_err_and c.from_residual.result c.from_residual.ensures.1 in
    first_halts (with_number Seed (number_within most_seed words.seed.now)) (on_count words.count.now words.kept.now) (λ (n : ℕ). n) numbers_of c.from_residual.result _ (cc)
    c.in_err-seed.ensures.goes

pub returns-in_err-rounds-clause-goes : goal.returns-in_err-rounds-clause-goes
returns-in_err-rounds-clause-goes c =
    let words = c.args.words.now in
    let x = c.in_ok-seed.seed in
    let result = c.from_residual-in_err-rounds.result in
    let err = err_from_is_err_and c.from_residual-in_err-rounds.result c.from_residual-in_err-rounds.ensures.1 in
    goes_as (on_count words.count.now words.kept.now x) (with_numbers words.seed.now words.count.now words.kept.now) numbers_of
    (λ go. c.in_ok-seed.ensures.goes (λ x. on_count words.count.now words.kept.now x go)) result
    (first_halts (with_number Count (number_within most_rounds words.count.now)) (on_kept words.kept.now x) (λ (n : ℕ). n) numbers_of result _ (cc) c.in_err-rounds.ensures.goes)

pub returns-in_err-kept-clause-goes : goal.returns-in_err-kept-clause-goes
returns-in_err-kept-clause-goes c =
    let words = c.args.words.now in
    let x = c.in_ok-seed.seed in
    let rounds = c.in_ok-rounds.rounds in
    let result = c.from_residual-in_err-kept.result in
    let err = err_from_is_err_and c.from_residual-in_err-kept.result c.from_residual-in_err-kept.ensures.1 in
    goes_as (on_kept words.kept.now x rounds) (with_numbers words.seed.now words.count.now words.kept.now) numbers_of
    (λ go. c.in_ok-seed.ensures.goes (λ x. on_count words.count.now words.kept.now x go) ∙ c.in_ok-rounds.ensures.goes (λ rounds. on_kept words.kept.now x rounds go)) result
    (first_halts (with_number Number (number_within most_kept_pieces words.kept.now)) (λ n go. go (record { seed = x; rounds = rounds; kept = n })) (λ (n : ℕ). n) numbers_of
    result _ (cc) c.in_err-kept.ensures.goes)
