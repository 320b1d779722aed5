use Rattle.ads_library.specs.Texts.{library_text}
use Rattle.command_words.specs.declared.command.Command.TheVariants.{Gen}
use Rattle.command_parts.specs.WorkloadAnswers.{generated_by, with_numbers, with_source}
use Rattle.command_parts.specs.FileInputs.{with_text}
use Rattle.command_parts.specs.Halting.{FindsLines}
use Rattle.command_parts.proofs.LineSteps.{hand_possible, lines_on_sink}
use Rattle.command_parts.proofs.Possible.{told_possible}
use Rattle.command_parts.proofs.Words.{sink_apart, text_at}
use Rattle.file_commands.proofs.gen_workload.gen_command.Goals as goal

pub returns-clause-ends : goal.returns-clause-ends
returns-clause-ends g c =
    let found = c.find_sums-found in
    let text = text_at c.args.words.now in
    sink_apart Gen c.args.words.now 4 _ _ _ _ c.tell.result c.requires
    (lines_on_sink (with_source (library_text (text 0)) (λ source. with_numbers (text 1) (text 2) (text 3) (λ numbers. with_text source (λ p. generated_by p (text 0) numbers))))
    found.result c.tell.result _ _ _ _ found.ensures.finds c.tell.ensures)

pub returns-clause-possible : goal.returns-clause-possible
returns-clause-possible g c =
    let found = c.find_sums-found in
    let text = text_at c.args.words.now in
    told_possible Gen found.result c.tell.result _ _ _ _ c.tell.ensures
    (hand_possible Gen
    (FindsLines (with_source (library_text (text 0)) (λ source. with_numbers (text 1) (text 2) (text 3) (λ numbers. with_text source (λ p. generated_by p (text 0) numbers)))))
    found.result tt tt found.ensures.finds found.ensures.ending)
