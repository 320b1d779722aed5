use Rattle.std.proofs.Common.{Some}
use Rattle.ads_library.specs.Texts.{library_text}
use Rattle.command_words.specs.declared.command.Command.TheVariants.{Library}
use Rattle.command_parts.specs.WorkloadAnswers.{with_source}
use Rattle.command_parts.specs.AnswerForms.{says}
use Rattle.command_parts.specs.declared.status.Status.TheVariants.{Done}
use Rattle.command_parts.proofs.Ends.{ends_on_sink}
use Rattle.command_parts.proofs.Possible.{told_possible}
use Rattle.command_parts.proofs.Words.{sink_apart, text_at}
use Rattle.file_commands.proofs.library_text.library_command.Goals as goal

pub returns-clause-ends : goal.returns-clause-ends
returns-clause-ends g c =
    let found = c.find_text-found in
    sink_apart Library c.args.words.now 1 _ _ _ _ c.tell.result c.requires
    (ends_on_sink (with_source (library_text (text_at c.args.words.now 0)) (λ text. Some (says Done text))) found.result c.tell.result _ _ _ _ found.ensures.finds c.tell.ensures)

pub returns-clause-possible : goal.returns-clause-possible
returns-clause-possible g c =
    let found = c.find_text-found in
    told_possible Library found.result c.tell.result _ _ _ _ c.tell.ensures found.ensures.possible
