use Rattle.std.proofs.Common.{Some, refl, subst}
use Rattle.command_words.specs.Commands.{texts}
use Rattle.command_words.specs.Invocations.{invoked}
use Rattle.command_parts.specs.Answer.{answer, command_answer}
use Rattle.command_parts.specs.RefusedAnswers.{usage_answer}
use Rattle.auth_cli.specs.NetRuns.{IfCalled, UsesNoDisk, UsesNoNet}
use Rattle.command_parts.specs.declared.report.Halt.TheVariants.{NoMemory, Usage}
use Rattle.auth_cli.proofs.Called.{memory_told, none_called, none_refused, possible_called, reached_called, usage_told}
use Rattle.command_parts.proofs.Ends.{usage_ends}
use Rattle.auth_cli.proofs.MemoryRuns.{run_memory}
use Rattle.auth_cli.proofs.NetRuns.{reached_by, reached_offline, run_called, run_refused}
use Rattle.command_parts.proofs.Possible.{memory_possible}
use Rattle.command_parts.proofs.Reached.{refused_reached}
use Rattle.auth_cli.proofs.carrying_out.ended.Goals as goal

pub returns-in-Ok-clause-ends : goal.returns-in-Ok-clause-ends
returns-in-Ok-clause-ends g c = run_called _ _ _ _ _ _ c.carry_out.result (texts c.args.words.now) (invoked c.in-Ok.called) c.in-Ok.ensures.reads c.carry_out.ensures.ends

pub returns-in-Ok-clause-unused : goal.returns-in-Ok-clause-unused
returns-in-Ok-clause-unused g c = λ none. c.carry_out.ensures.unused (subst (IfCalled UsesNoNet) c.in-Ok.ensures.reads none)

pub returns-in-Ok-clause-unused_disk : goal.returns-in-Ok-clause-unused_disk
returns-in-Ok-clause-unused_disk g c = λ none. c.carry_out.ensures.unused_disk (subst (IfCalled UsesNoDisk) c.in-Ok.ensures.reads none)

pub returns-in-Err-Refused-clause-ends : goal.returns-in-Err-Refused-clause-ends
returns-in-Err-Refused-clause-ends g c =
    run_refused _ _ _ _ _ _ c.tell.result (texts c.args.words.now) (rw c.in-Err-Refused.field-0-is at c.in-Err-Refused.ensures.reads)
    (usage_ends (λ files. Some usage_answer) _ _ c.tell.result (λ told known. refl) refl refl refl c.tell.ensures) refl refl

pub returns-in-Ok-clause-possible : goal.returns-in-Ok-clause-possible
returns-in-Ok-clause-possible g c = λ called is. possible_called (texts c.args.words.now) (invoked c.in-Ok.called) called c.in-Ok.ensures.reads is c.carry_out.result c.carry_out.ensures.possible

pub returns-in-Ok-clause-refused : goal.returns-in-Ok-clause-refused
returns-in-Ok-clause-refused g c = none_refused (texts c.args.words.now) _ c.carry_out.result c.in-Ok.ensures.reads

pub returns-in-Err-Refused-clause-possible : goal.returns-in-Err-Refused-clause-possible
returns-in-Err-Refused-clause-possible g c = λ called is. none_called (texts c.args.words.now) called (rw c.in-Err-Refused.field-0-is at c.in-Err-Refused.ensures.reads) is

pub returns-in-Err-Refused-clause-refused : goal.returns-in-Err-Refused-clause-refused
returns-in-Err-Refused-clause-refused g c = λ none. usage_told c.tell.result _ _ _ _ c.tell.ensures

pub returns-in-Err-NoMemory-clause-ends : goal.returns-in-Err-NoMemory-clause-ends
returns-in-Err-NoMemory-clause-ends g c =
    run_memory _ _ _ _ c.tell-in-Err-NoMemory.result (record { reads = refl; stored = refl; stores = refl; told = c.tell-in-Err-NoMemory.ensures }) (texts c.args.words.now)

pub returns-in-Err-NoMemory-clause-possible : goal.returns-in-Err-NoMemory-clause-possible
returns-in-Err-NoMemory-clause-possible g c = λ called is. memory_possible called.command c.tell-in-Err-NoMemory.result _ _ _ _ c.tell-in-Err-NoMemory.ensures

pub returns-in-Err-NoMemory-clause-refused : goal.returns-in-Err-NoMemory-clause-refused
returns-in-Err-NoMemory-clause-refused g c = λ none. memory_told c.tell-in-Err-NoMemory.result _ _ _ _ c.tell-in-Err-NoMemory.ensures

pub returns-in-Ok-clause-reached : goal.returns-in-Ok-clause-reached
returns-in-Ok-clause-reached g c =
    let line = texts c.args.words.now in
    reached_by (answer line) _ _ _ _ c.carry_out.result (command_answer (invoked c.in-Ok.called)) (reached_called line (invoked c.in-Ok.called) _ _ c.in-Ok.ensures.reads) c.carry_out.ensures.reached

pub returns-in-Err-Refused-clause-reached : goal.returns-in-Err-Refused-clause-reached
returns-in-Err-Refused-clause-reached g c =
    reached_offline (answer (texts c.args.words.now)) _ _ _ _ c.tell.result (λ is. refused_reached (answer (texts c.args.words.now)) _ _ Usage c.tell.result _ _ _ _ tt c.tell.ensures is)

pub returns-in-Err-NoMemory-clause-reached : goal.returns-in-Err-NoMemory-clause-reached
returns-in-Err-NoMemory-clause-reached g c =
    reached_offline (answer (texts c.args.words.now)) _ _ _ _ c.tell-in-Err-NoMemory.result
    (λ is. refused_reached (answer (texts c.args.words.now)) _ _ NoMemory c.tell-in-Err-NoMemory.result _ _ _ _ tt c.tell-in-Err-NoMemory.ensures is)
