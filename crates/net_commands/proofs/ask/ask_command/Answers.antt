use Rattle.std.proofs.Common.{None, Err, inl, inr, refl, ◌∙◌}
use Rattle.command_words.specs.declared.command.Command.TheVariants.{Ask}
use Rattle.command_parts.specs.UnansweredInCode.{unasked_answer}
use Rattle.net_commands.specs.PreparedClients.{asked_by}
use Rattle.command_parts.specs.declared.report.Report.{Report}
use Rattle.net_commands.proofs.AskCounted.{asking_counted, asking_possible, asking_reads}
use Rattle.net_commands.proofs.AskRuns.{asked_from, asked_of_words, asking_apart, unasked_apart}
use Rattle.command_parts.proofs.Ends.{ends_as, judging}
use Rattle.command_parts.proofs.Possible.{found_possible, told_possible}
use Rattle.net_commands.proofs.OnlineRuns.{halted_at, same_seen, undialled_counted}
use Rattle.command_parts.proofs.Words.{ends_apart, text_at}
use Rattle.net_commands.proofs.ask.ask_command.Goals as goal

pub returns-in-Ok-clause-ends : goal.returns-in-Ok-clause-ends
returns-in-Ok-clause-ends g c =
    let words = c.args.words.now in
    let read = c.in-Ok.ensures in
    let asking = asked_by c.in-Ok.client in
    inr (record {
      asking = asking;
      name = text_at words 4;
      calls = record { means = λ files known. asking_apart words files asking c.requires (read.goes files known); of_sources = read.of_sources };
      of_words = asked_of_words words asking c.requires read.port;
      ends = asked_from asking (text_at words 4) _ _ _ _ _ c.ask.result (same_seen _ _ _ _ _ _ _ _ _ _ read.contents read.stores read.cause read.store_faults) c.ask.ensures.ends;
    })

pub returns-in-Ok-clause-counts : goal.returns-in-Ok-clause-counts
returns-in-Ok-clause-counts g c =
    let read = c.in-Ok.ensures in
    let asking = asked_by c.in-Ok.client in
    asking_counted asking (text_at c.args.words.now 4) _ _ _ _ c.ask.result
    (asked_from asking (text_at c.args.words.now 4) _ _ _ _ _ c.ask.result (same_seen _ _ _ _ _ _ _ _ _ _ read.contents read.stores read.cause read.store_faults) c.ask.ensures.ends)

pub returns-in-Ok-clause-reached : goal.returns-in-Ok-clause-reached
returns-in-Ok-clause-reached g c = inl (asking_reads _ _ _ _ _ _ c.ask.result c.ask.ensures.ends ∙ c.in-Ok.ensures.cause)

pub returns-in-Ok-clause-possible : goal.returns-in-Ok-clause-possible
returns-in-Ok-clause-possible g c = asking_possible _ _ _ _ _ _ c.ask.result c.ask.ensures.ends

pub returns-in-Err-clause-ends : goal.returns-in-Err-clause-ends
returns-in-Err-clause-ends g c =
    let words = c.args.words.now in
    let text = text_at words in
    let halted = c.in-Err.ensures in
    inl (
      ends_apart Ask words 5 _ _ c.tell.result c.requires
          (ends_as (unasked_answer (text 0) (text 1) (text 2) (text 3)) _ _ (Err c.in-Err.halt) c.tell.result (λ files known. halted.goes files known (λ a. None))
          (judging {T = Report} _ _ (Err c.in-Err.halt) halted.cause) halted.stores halted.store_faults c.tell.ensures),
      refl,
    )

pub returns-in-Err-clause-counts : goal.returns-in-Err-clause-counts
returns-in-Err-clause-counts g c =
    let text = text_at c.args.words.now in
    let halted = c.in-Err.ensures in
    undialled_counted (unasked_answer (text 0) (text 1) (text 2) (text 3)) _ _ _ c.tell.result
    (ends_as (unasked_answer (text 0) (text 1) (text 2) (text 3)) _ _ (Err c.in-Err.halt) c.tell.result (λ files known. halted.goes files known (λ a. None))
    (judging {T = Report} _ _ (Err c.in-Err.halt) halted.cause) halted.stores halted.store_faults c.tell.ensures)

pub returns-in-Err-clause-reached : goal.returns-in-Err-clause-reached
returns-in-Err-clause-reached g c =
    let words = c.args.words.now in
    let text = text_at words in
    let at = halted_at (unasked_answer (text 0) (text 1) (text 2) (text 3)) _ _ _ _ c.in-Err.halt c.in-Err.ensures.cause c.in-Err.ensures.reached in
    unasked_apart words _ _ _ _ c.requires at

pub returns-in-Err-clause-possible : goal.returns-in-Err-clause-possible
returns-in-Err-clause-possible g c = told_possible Ask (Err c.in-Err.halt) c.tell.result _ _ _ _ c.tell.ensures (found_possible Ask tt tt _ _ (Err c.in-Err.halt) c.in-Err.ensures.cause tt)
