use Rattle.std.proofs.Common.{None, refl}
use Rattle.session_meaning.specs.Client.{new_client}
use Rattle.session_meaning.specs.Messages.{messages, reply_of}
use Rattle.ask_core.specs.Sessions.{StandsFor}
use Rattle.script_play.specs.Playing.{world}
use Rattle.net_commands.specs.Asking.{asked_play}
use Rattle.net_commands.specs.PreparedClients.{asked_by}
use Rattle.net_commands.proofs.AskLinks.{any_client, on_fault, play_causes}
use Rattle.net_commands.proofs.ask.play_and_store.Goals as goal

pub returns-clause-plays : goal.returns-clause-plays
returns-clause-plays g c =
    let a = asked_by c.args.client.now in
    let end = c.play-end.result in
    let causes = play_causes end _ _ _ _ c.play-end.ensures.cause in
    let each = rw (c.deref.ensures.value, c.deref-2.ensures.value) at c.play-end.ensures.played in
    let played = each new_client c.requires.stands in
    record {
      end = end;
      last = c.play-end.new.last;
      written = g.O.Sink.written c.play-end.new.out;
      write_faults = g.O.Sink.faults c.play-end.new.out;
      told = c.tell_end-told.result;
      plays = λ bytes known. any_client a.program.digested.program a.program.names (g.N.Source.left c.play-end.new.link)
          (world (g.N.Source.sent c.args.net.now) (g.O.Sink.written c.args.out.now) None)
          (world (g.N.Source.sent c.play-end.new.link) (g.O.Sink.written c.play-end.new.out) c.play-end.new.last) (asked_play a (messages reply_of bytes)) (StandsFor c.play-end.new.core) end
          (played.plays (messages reply_of bytes) (record { bytes = bytes; told = known; are = refl }));
      halts = λ bytes known. on_fault a.program.digested.program a.program.names (StandsFor c.play-end.new.core) bytes (g.N.Source.left c.play-end.new.link)
          (world (g.N.Source.sent c.args.net.now) (g.O.Sink.written c.args.out.now) None)
          (world (g.N.Source.sent c.play-end.new.link) (g.O.Sink.written c.play-end.new.out) c.play-end.new.last) (asked_play a) end (played.halts bytes known);
      link_faults = causes.0;
      writes = causes.1;
      is_told = c.tell_end-told.ensures;
      stored = rw c.deref-3.ensures.value at c.store_state.ensures.stored;
      reads = c.store_state.ensures.faults;
    }

pub returns-clause-prompt : goal.returns-clause-prompt
returns-clause-prompt g c =
    let prompt = rw (c.deref.ensures.value, c.deref-2.ensures.value) at c.play-end.ensures.prompt in
    λ bytes known. prompt new_client bytes c.requires.stands known
