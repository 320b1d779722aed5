use Rattle.command_words.specs.declared.command.Command.TheVariants.{Check}
use Rattle.command_parts.specs.Answer.{checked_answer}
use Rattle.command_parts.proofs.Ends.{ends_as, judging}
use Rattle.command_parts.proofs.Possible.{found_possible, told_possible}
use Rattle.command_parts.proofs.Words.{ends_apart, text_at}
use Rattle.std.proofs.Common.{refl}
use Rattle.command_parts.proofs.Reached.{told_reached}
use Rattle.command_parts.proofs.Words.{reached_apart}
use Rattle.file_commands.proofs.check_program.check_command.Goals as goal

pub returns-clause-ends : goal.returns-clause-ends
returns-clause-ends g c =
    let found = c.find_digest-found in
    ends_apart Check c.args.words.now 1 _ _ c.tell.result c.requires
    (ends_as (checked_answer (text_at c.args.words.now 0)) _ _ found.result c.tell.result found.ensures.finds (judging _ _ found.result found.ensures.cause) found.ensures.stores found.ensures.store_faults c.tell.ensures)

pub returns-clause-possible : goal.returns-clause-possible
returns-clause-possible g c =
    let found = c.find_digest-found in
    told_possible Check found.result c.tell.result _ _ _ _ c.tell.ensures (found_possible Check tt tt _ _ found.result found.ensures.cause found.ensures.ending)

pub returns-clause-reached : goal.returns-clause-reached
returns-clause-reached g c = λ is.
    let text = text_at c.args.words.now in
    let found = c.find_digest-found in
    reached_apart Check c.args.words.now 1 _ _ _ c.requires refl
    (told_reached (checked_answer (text 0)) _ _ found.result c.tell.result _ _ _ _ c.tell.ensures found.ensures.reached is)
