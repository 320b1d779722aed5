use Rattle.mode_vm.specs.Meanings.{program_of}
use Rattle.wire_form.specs.MessageViews.{reply_meant}
use Rattle.ask_core.specs.Sessions.{StandsFor}
use Rattle.script_play.specs.PlayingInCode.{names_of, own_of}
use Rattle.script_play.proofs.Awaited.{waits_for_reply}
use Rattle.script_play.proofs.Halted.{none_taken, reply_taken}
use Rattle.script_play.proofs.HeardReplies.{next_reply, next_stop}
use Rattle.script_play.proofs.taking.next_telling.Goals as goal

pub returns-in_ok-hear-in-Ok-clause-next : goal.returns-in_ok-hear-in-Ok-clause-next
returns-in_ok-hear-in-Ok-clause-next g c m ms is comes =
    let code = c.args.core.now.code in
    let reads = c.in-Ok.ensures.reads comes.bytes comes.told in
    next_reply g.H.Hash32.hash (program_of code) (names_of code) (own_of code) (StandsFor c.hear.new.core) _ m ms comes.bytes comes.are
    (reply_meant c.in-Ok.reply) reads.0 c.in_ok-hear-in-Ok.field-0 reads.1 reads.2 (c.in_ok-hear-in-Ok.ensures.tells m is) (c.in_ok-hear-in-Ok.ensures.stands m is)

pub returns-in-Err-clause-next : goal.returns-in-Err-clause-next
returns-in-Err-clause-next g c m ms is comes =
    let code = c.args.core.now.code in
    next_stop g.H.Hash32.hash (program_of code) (names_of code) (own_of code) (StandsFor c.args.core.now) _ m ms comes.bytes comes.are
    c.in-Err.stop c.stopped.result c.stopped.ensures (c.in-Err.ensures.reads comes.bytes comes.told)

pub returns-in_ok-hear-in-Ok-clause-takes : goal.returns-in_ok-hear-in-Ok-clause-takes
returns-in_ok-hear-in-Ok-clause-takes g c m bytes is told =
    let code = c.args.core.now.code in
    let reads = c.in-Ok.ensures.reads bytes told in
    reply_taken g.H.Hash32.hash (program_of code) (names_of code) (own_of code) (StandsFor c.hear.new.core) bytes _ m
    (reply_meant c.in-Ok.reply) reads.0 c.in_ok-hear-in-Ok.field-0 reads.1 reads.2 (c.in_ok-hear-in-Ok.ensures.tells m is) (c.in_ok-hear-in-Ok.ensures.stands m is)

pub returns-in-Err-clause-takes : goal.returns-in-Err-clause-takes
returns-in-Err-clause-takes g c m bytes is told =
    let code = c.args.core.now.code in
    none_taken g.H.Hash32.hash (program_of code) (names_of code) (own_of code) (StandsFor c.args.core.now) bytes _ m
    c.in-Err.stop c.stopped.result c.stopped.ensures (c.in-Err.ensures.reads bytes told)

pub returns-in_ok-hear-in-Ok-clause-waits : goal.returns-in_ok-hear-in-Ok-clause-waits
returns-in_ok-hear-in-Ok-clause-waits g c = λ bytes told. waits_for_reply bytes _ _ _ (c.read_reply.ensures.waits bytes told)

pub returns-in_err-hear-in-Ok-clause-waits : goal.returns-in_err-hear-in-Ok-clause-waits
returns-in_err-hear-in-Ok-clause-waits g c = λ bytes told. waits_for_reply bytes _ _ _ (c.read_reply.ensures.waits bytes told)

pub returns-in-Err-clause-waits : goal.returns-in-Err-clause-waits
returns-in-Err-clause-waits g c = λ bytes told. waits_for_reply bytes _ _ _ (c.read_reply.ensures.waits bytes told)
