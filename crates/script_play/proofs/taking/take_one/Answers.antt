use Rattle.mode_vm.specs.Meanings.{program_of}
use Rattle.verifier_mode.proofs.Given.{gives_with}
use Rattle.ask_core.specs.Sessions.{StandsFor}
use Rattle.script_play.specs.PlayedInCode.{IsPlayed}
use Rattle.script_play.specs.Playing.{world}
use Rattle.script_play.specs.PlayingInCode.{PlayCause, names_of, own_of, take_one}
use Rattle.script_play.specs.declared.telling.Telling.{Telling}
use Rattle.script_play.proofs.Halted.{cut_played, reply_played}
use Rattle.script_play.proofs.Steps.{cause_after, cause_err, cut_so, next_plays}
use Rattle.script_play.proofs.taking.take_one.Goals as goal

pub returns-in_err-telling-clause-played : goal.returns-in_err-telling-clause-played
returns-in_err-telling-clause-played g c m is =
    let code = c.args.core.now.code in
    let P = program_of code in
    let names = names_of code in
    let hash = g.H.Hash32.hash in
    let own = own_of code in
    let halt = c.in_err-telling.field-0.0 in
    let Is = StandsFor c.next_telling.new.core in
    let left = g.L.Source.left c.next_telling.new.link in
    let sent = g.L.Source.sent c.args.link.now in
    let sent' = g.L.Source.sent c.next_telling.new.link in
    let written = g.O.Sink.written c.args.out.now in
    let last = c.args.last.now in
    gives_with (IsPlayed code Is (g.L.Source.left c.args.link.now) left (world sent written last) (world sent' written last) (take_one hash P own m)) halt _ c.from_residual.ensures.1
    (record {
      plays = λ ms comes. cut_so P names Is left sent sent' written last (take_one hash P own m ms) halt c.in_err-telling.ensures.sent c.in_err-telling.ensures.halts;
      halts = λ bytes told. cut_played hash P names own Is bytes left m sent sent' written written last last c.in_err-telling.ensures.sent halt
          (c.in_err-telling.ensures.takes m bytes is told);
    })

pub returns-clause-played : goal.returns-clause-played
returns-clause-played g c m is =
    let code = c.args.core.now.code in
    let P = program_of code in
    let names = names_of code in
    let Is = StandsFor c.next_telling.new.core in
    record {
      plays = λ ms comes. next_plays P names g.H.Hash32.hash (own_of code) Is _ m ms c.in_ok-telling.telling (c.in_ok-telling.ensures.next m ms is comes) _ _ _ _ _ _
          c.in_ok-telling.ensures.sent c.tell.result c.tell.ensures.told;
      halts = λ bytes told. reply_played g.H.Hash32.hash P names (own_of code) Is bytes _ m _ _ _ _ _ _ c.in_ok-telling.ensures.sent c.in_ok-telling.telling c.tell.result
          (c.in_ok-telling.ensures.takes m bytes is told) c.tell.ensures.told;
    }

pub returns-in_err-telling-clause-cause : goal.returns-in_err-telling-clause-cause
returns-in_err-telling-clause-cause g c =
    let halt = c.in_err-telling.field-0.0 in
    let sink = g.O.Sink.faults c.args.out.now in
    gives_with (PlayCause (g.L.Source.faults c.args.link.now) (g.L.Source.faults c.next_telling.new.link) sink sink) halt _ c.from_residual.ensures.1
    (cause_err Telling (Unit {0}) _ _ sink sink halt (c.in_err-telling.ensures.cause sink))

pub returns-clause-cause : goal.returns-clause-cause
returns-clause-cause g c = cause_after _ _ _ _ c.tell.result (c.in_ok-telling.ensures.cause 0).0 c.tell.ensures.cause
