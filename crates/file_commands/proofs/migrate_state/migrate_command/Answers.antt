use Rattle.command_words.specs.declared.command.Command.TheVariants.{Migrate}
use Rattle.command_parts.specs.Answer.{migrated_answer}
use Rattle.command_parts.proofs.EndsStored.{ends_stored}
use Rattle.command_parts.proofs.Possible.{output_possible, stored_possible}
use Rattle.command_parts.proofs.Reached.{stored_reached}
use Rattle.command_parts.proofs.Words.{ends_apart, reached_apart, text_at}
use Rattle.file_commands.proofs.migrate_state.migrate_command.Goals as goal

pub returns-clause-ends : goal.returns-clause-ends
returns-clause-ends g c =
    let text = text_at c.args.words.now in
    let found = c.find_moved-found in
    ends_apart Migrate c.args.words.now 4 _ _ c.store_and_tell.result c.requires
    (ends_stored (migrated_answer (text 0) (text 1) (text 2) (text 3)) _ _ _ found.result c.store_and_tell.result _ _ _
    (found.ensures.finds (text 3)) found.ensures.cause found.ensures.stores found.ensures.store_faults c.store_and_tell.ensures.faults c.store_and_tell.ensures.ends)

pub returns-clause-possible : goal.returns-clause-possible
returns-clause-possible g c =
    let found = c.find_moved-found in
    stored_possible Migrate _ found.result c.store_and_tell.result _ _ _ _ _ _ _ _ c.store_and_tell.ensures.ends (output_possible Migrate tt tt _ _ found.result found.ensures.cause found.ensures.ending)

pub returns-clause-reached : goal.returns-clause-reached
returns-clause-reached g c = λ is.
    let text = text_at c.args.words.now in
    let found = c.find_moved-found in
    reached_apart Migrate c.args.words.now 4 _ _ _ c.requires c.store_and_tell.ensures.asked
    (stored_reached (migrated_answer (text 0) (text 1) (text 2) (text 3)) _ _ _ found.result c.store_and_tell.result _ _ _ _ _ _ _ _ c.store_and_tell.ensures.ends (found.ensures.reached (text 3)) is)
