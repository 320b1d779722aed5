use Rattle.std.proofs.lemmas.Result.{IfOk-weaker}
use Rattle.command_words.specs.declared.command.Command.TheVariants.{Step}
use Rattle.command_parts.specs.Answer.{stepped_answer}
use Rattle.command_parts.proofs.EndsStored.{ends_stored}
use Rattle.command_parts.proofs.Possible.{outcome_possible, output_possible, stored_possible}
use Rattle.command_parts.proofs.Words.{ends_apart, text_at}
use Rattle.command_parts.proofs.Reached.{stored_reached}
use Rattle.command_parts.proofs.Words.{reached_apart}
use Rattle.call_commands.proofs.step_state.step_command.Goals as goal

pub returns-clause-ends : goal.returns-clause-ends
returns-clause-ends g c =
    let text = text_at c.args.words.now in
    let found = c.find_step-found in
    ends_apart Step c.args.words.now 6 _ _ c.store_and_tell.result c.requires
    (ends_stored (stepped_answer (text 0) (text 1) (text 2) (text 3) (text 4) (text 5)) _ _ _ found.result c.store_and_tell.result _ _ _
    (found.ensures.finds (text 5)) found.ensures.cause found.ensures.stores found.ensures.store_faults c.store_and_tell.ensures.faults c.store_and_tell.ensures.ends)

pub returns-clause-possible : goal.returns-clause-possible
returns-clause-possible g c =
    let found = c.find_step-found in
    stored_possible Step _ found.result c.store_and_tell.result _ _ _ _ _ _ _ _ c.store_and_tell.ensures.ends
    (output_possible Step tt tt _ _ found.result found.ensures.cause (IfOk-weaker found.result _ _ (λ output is. outcome_possible Step tt _ is) found.ensures.ending))

pub returns-clause-reached : goal.returns-clause-reached
returns-clause-reached g c = λ is.
    let text = text_at c.args.words.now in
    let found = c.find_step-found in
    reached_apart Step c.args.words.now 6 _ _ _ c.requires c.store_and_tell.ensures.asked
    (stored_reached (stepped_answer (text 0) (text 1) (text 2) (text 3) (text 4) (text 5)) _ _ _ found.result c.store_and_tell.result _ _ _ _ _ _ _ _ c.store_and_tell.ensures.ends (found.ensures.reached (text 5)) is)
