use Rattle.std.proofs.Common.{List, ℕ, Option, Bor, ◌∙◌}
use Rattle.std.proofs.lemmas.Result.{err_from_is_err_and}
use Rattle.ads_library.specs.Texts.{library_text}
use Rattle.code_gen.specs.Programs.{program_in}
use Rattle.code_gen.specs.declared.code.Code.{Code}
use Rattle.command_parts.specs.WorkloadAnswers.{WorkloadNumbers, generated_by, with_numbers, with_source}
use Rattle.command_parts.specs.FileInputs.{with_text}
use Rattle.command_parts.specs.AnswerForms.{Answer}
use Rattle.file_commands.specs.GeneratedCalls.{numbers_of}
use Rattle.command_parts.specs.ReadPrograms.{named_of}
use Rattle.command_parts.proofs.LineSteps.{found_as, unfound}
use Rattle.file_commands.proofs.Workloads.{short_text}
use Rattle.file_commands.proofs.gen_workload.find_sums.Goals as goal

-- what stands behind the numbers, and behind the text
abbrev behind_numbers : (name text : List ℕ) → WorkloadNumbers → Option Answer
behind_numbers name text numbers = with_text text (λ p. generated_by p name numbers)

abbrev behind_source : (name seed count kept text : List ℕ) → Option Answer
behind_source name seed count kept text = with_numbers seed count kept (behind_numbers name text)

pub returns-in_err-source-clause-finds : goal.returns-in_err-source-clause-finds
returns-in_err-source-clause-finds c =
    let words = c.args.words.now in
    let err = err_from_is_err_and c.from_residual.result c.from_residual.ensures.1 in
    unfound (with_source (library_text words.name.now)) (λ (text : Bor (List ℕ)). text.now) (behind_source words.name.now words.seed.now words.count.now words.kept.now)
    c.from_residual.result _ (cc) c.in_err-source.ensures.goes

pub returns-in_err-numbers-clause-finds : goal.returns-in_err-numbers-clause-finds
returns-in_err-numbers-clause-finds c =
    let words = c.args.words.now in
    let err = err_from_is_err_and c.from_residual-in_err-numbers.result c.from_residual-in_err-numbers.ensures.1 in
    found_as _ _ _ (c.in_ok-source.ensures.goes (behind_source words.name.now words.seed.now words.count.now words.kept.now))
    (unfound (with_numbers words.seed.now words.count.now words.kept.now) numbers_of (behind_numbers words.name.now c.in_ok-source.source.now)
    c.from_residual-in_err-numbers.result _ (cc) c.in_err-numbers.ensures.goes)

pub code_of_text-requires : goal.code_of_text-requires
code_of_text-requires c = short_text c.args.words.now.name.now _ c.in_ok-source.ensures.text

pub returns-in_err-code-clause-finds : goal.returns-in_err-code-clause-finds
returns-in_err-code-clause-finds c =
    let words = c.args.words.now in
    let text = c.in_ok-source.source.now in
    let numbers = numbers_of c.in_ok-numbers.numbers in
    let err = err_from_is_err_and c.from_residual-in_err-code.result c.from_residual-in_err-code.ensures.1 in
    found_as _ _ _ (c.in_ok-source.ensures.goes (behind_source words.name.now words.seed.now words.count.now words.kept.now)
    ∙ c.in_ok-numbers.ensures.goes (behind_numbers words.name.now text))
    (unfound (with_text text) (λ (code : Code). named_of (program_in code)) (λ p. generated_by p words.name.now numbers)
    c.from_residual-in_err-code.result _ (cc) c.in_err-code.ensures)

pub returns-clause-finds : goal.returns-clause-finds
returns-clause-finds c =
    let words = c.args.words.now in
    let text = c.in_ok-source.source.now in
    let numbers = numbers_of c.in_ok-numbers.numbers in
    found_as _ _ _ (c.in_ok-source.ensures.goes (behind_source words.name.now words.seed.now words.count.now words.kept.now)
    ∙ c.in_ok-numbers.ensures.goes (behind_numbers words.name.now text)
    ∙ c.in_ok-code.ensures (λ p. generated_by p words.name.now numbers))
    c.generate.ensures.finds
