use Rattle.std.proofs.Common.{refl}
use Rattle.std.proofs.lemmas.Result.{IfOk-weaker}
use Rattle.command_words.specs.declared.command.Command.TheVariants.{Ideal}
use Rattle.command_parts.specs.Answer.{ideal_answer}
use Rattle.command_parts.proofs.Ends.{ends_as, judging}
use Rattle.command_parts.proofs.Possible.{found_possible, outcome_possible, told_possible}
use Rattle.command_parts.proofs.Reached.{told_reached}
use Rattle.command_parts.proofs.Words.{ends_apart, reached_apart, text_at}
use Rattle.call_commands.proofs.ideal_call.ideal_command.Goals as goal

pub returns-clause-ends : goal.returns-clause-ends
returns-clause-ends g c =
    let text = text_at c.args.words.now in
    let found = c.find_ideal-found in
    ends_apart Ideal c.args.words.now 5 _ _ c.tell.result c.requires
    (ends_as (ideal_answer (text 0) (text 1) (text 2) (text 3) (text 4)) _ _ found.result c.tell.result
    found.ensures.finds (judging _ _ found.result found.ensures.cause) found.ensures.stores found.ensures.store_faults c.tell.ensures)

pub returns-clause-possible : goal.returns-clause-possible
returns-clause-possible g c =
    let found = c.find_ideal-found in
    told_possible Ideal found.result c.tell.result _ _ _ _ c.tell.ensures
    (found_possible Ideal tt tt _ _ found.result found.ensures.cause (IfOk-weaker found.result _ _ (λ report is. outcome_possible Ideal tt _ is) found.ensures.ending))

pub returns-clause-reached : goal.returns-clause-reached
returns-clause-reached g c = λ is.
    let text = text_at c.args.words.now in
    let found = c.find_ideal-found in
    reached_apart Ideal c.args.words.now 5 _ _ _ c.requires refl
    (told_reached (ideal_answer (text 0) (text 1) (text 2) (text 3) (text 4)) _ _ found.result c.tell.result _ _ _ _ c.tell.ensures found.ensures.reached is)
