use Rattle.command_words.specs.declared.command.Command.TheVariants.{Emit}
use Rattle.command_parts.specs.Answer.{emitted_answer}
use Rattle.command_parts.proofs.EndsStored.{ends_stored}
use Rattle.command_parts.proofs.Possible.{output_possible, stored_possible}
use Rattle.command_parts.proofs.Words.{ends_apart, text_at}
use Rattle.command_parts.proofs.Reached.{stored_reached}
use Rattle.command_parts.proofs.Words.{reached_apart}
use Rattle.file_commands.proofs.emit_object.emit_command.Goals as goal

pub returns-clause-ends : goal.returns-clause-ends
returns-clause-ends g c =
    let text = text_at c.args.words.now in
    let found = c.find_object-found in
    ends_apart Emit c.args.words.now 2 _ _ c.store_and_tell.result c.requires
    (ends_stored (emitted_answer (text 0) (text 1)) _ _ _ found.result c.store_and_tell.result _ _ _
    (found.ensures.finds (text 1)) found.ensures.cause found.ensures.stores found.ensures.store_faults c.store_and_tell.ensures.faults c.store_and_tell.ensures.ends)

pub returns-clause-possible : goal.returns-clause-possible
returns-clause-possible g c =
    let found = c.find_object-found in
    stored_possible Emit _ found.result c.store_and_tell.result _ _ _ _ _ _ _ _ c.store_and_tell.ensures.ends (output_possible Emit tt tt _ _ found.result found.ensures.cause found.ensures.ending)

pub returns-clause-reached : goal.returns-clause-reached
returns-clause-reached g c = λ is.
    let text = text_at c.args.words.now in
    let found = c.find_object-found in
    reached_apart Emit c.args.words.now 2 _ _ _ c.requires c.store_and_tell.ensures.asked
    (stored_reached (emitted_answer (text 0) (text 1)) _ _ _ found.result c.store_and_tell.result _ _ _ _ _ _ _ _ c.store_and_tell.ensures.ends (found.ensures.reached (text 1)) is)
