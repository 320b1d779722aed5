use Rattle.std.proofs.lemmas.Result.{IfOk-weaker}
use Rattle.command_words.specs.declared.command.Command.TheVariants.{Fetch}
use Rattle.command_parts.specs.Answer.{fetched_answer}
use Rattle.command_parts.proofs.Ends.{ends_as}
use Rattle.command_parts.proofs.Possible.{judged_possible, outcome_possible, told_possible}
use Rattle.command_parts.proofs.Words.{ends_apart, text_at}
use Rattle.std.proofs.Common.{refl}
use Rattle.command_parts.proofs.Reached.{told_reached}
use Rattle.command_parts.proofs.Words.{reached_apart}
use Rattle.call_commands.proofs.fetch_call.fetch_command.Goals as goal

pub returns-clause-ends : goal.returns-clause-ends
returns-clause-ends g c =
    let text = text_at c.args.words.now in
    let found = c.find_fetched-found in
    ends_apart Fetch c.args.words.now 6 _ _ c.tell.result c.requires
    (ends_as (fetched_answer (text 0) (text 1) (text 2) (text 3) (text 4) (text 5)) _ _ found.result c.tell.result
    found.ensures.finds found.ensures.cause found.ensures.stores found.ensures.store_faults c.tell.ensures)

pub returns-clause-possible : goal.returns-clause-possible
returns-clause-possible g c =
    let found = c.find_fetched-found in
    told_possible Fetch found.result c.tell.result _ _ _ _ c.tell.ensures (judged_possible Fetch tt tt tt _ _ found.result found.ensures.cause (IfOk-weaker found.result _ _ (λ report is. outcome_possible Fetch tt _ is) found.ensures.ending))

pub returns-clause-reached : goal.returns-clause-reached
returns-clause-reached g c = λ is.
    let text = text_at c.args.words.now in
    let found = c.find_fetched-found in
    reached_apart Fetch c.args.words.now 6 _ _ _ c.requires refl
    (told_reached (fetched_answer (text 0) (text 1) (text 2) (text 3) (text 4) (text 5)) _ _ found.result c.tell.result _ _ _ _ c.tell.ensures found.ensures.reached is)
