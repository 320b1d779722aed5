use Rattle.std.proofs.Common.{rules, ◌≡◌, inl, inr, refl, ◌∙◌}
use Rattle.lam_outside.specs.Links.{links_so_far}
use Rattle.net_commands.specs.PreparedClients.{asked_by}
use Rattle.net_commands.proofs.AskLinks.{line_told, net_counts, played_on}
use Rattle.net_commands.proofs.OnlineRuns.{same_links}
use Rattle.net_commands.proofs.ask.ask.Goals as goal

pub returns-in-Ok-clause-ends : goal.returns-in-Ok-clause-ends
returns-in-Ok-clause-ends g c =
    let before = c.args.net.now in
    let made = c.dial.new.self in
    let behind = c.play_and_store.new.net in
    let dialled = c.in-Ok.ensures in
    let done = c.play_and_store.ensures.plays in
    let ended : g.N.Net.ended behind ≡ g.N.Net.ended made = search rules in
    let linked : g.N.Net.linked behind ≡ g.N.Net.linked made = search rules in
    let listened : g.N.Net.listened behind ≡ g.N.Net.listened made = search rules in
    let listens : g.N.Net.listen_faults behind ≡ g.N.Net.listen_faults made = search rules in
    let accepts : g.N.Net.accept_faults behind ≡ g.N.Net.accept_faults made = search rules in
    let dials : g.N.Net.dial_faults behind ≡ g.N.Net.dial_faults made = search rules in
    inr (record {
      end = done.end;
      last = done.last;
      written = done.written;
      write_faults = done.write_faults;
      told = done.told;
      played = λ after is. played_on (asked_by c.args.client.now) done.end
          (links_so_far (g.N.Net.ended before) (g.N.Net.linked before) (g.N.Source.given before) (g.N.Source.left before) (g.N.Source.sent before) (g.N.Source.reads before))
          (g.N.Net.ended made) (g.N.Net.ended behind) (g.N.Net.linked made) (g.N.Net.linked behind) (g.N.Source.given before) (g.N.Source.sent before)
          (g.N.Source.given made) (g.N.Source.left made) (g.N.Source.sent made) (g.N.Source.given behind) (g.N.Source.left behind) (g.N.Source.sent behind)
          (g.N.Source.reads made) (g.N.Source.reads behind) (g.O.Sink.written c.args.out.now) done.written done.last after dialled.made ended linked
          c.play_and_store.ensures.moves done.plays done.halts c.play_and_store.ensures.prompt is;
      faults = net_counts done.end (g.N.Source.faults before) (g.N.Source.faults made) (g.N.Source.faults behind) (g.N.Net.listen_faults before) (g.N.Net.listen_faults behind)
          (g.N.Net.accept_faults before) (g.N.Net.accept_faults behind) (g.N.Net.dial_faults before) (g.N.Net.dial_faults behind) dialled.faults done.link_faults
          (listens ∙ dialled.listens) (accepts ∙ dialled.accepts) (dials ∙ dialled.cause.kept);
      writes = done.writes;
      is_told = done.is_told;
      stored = done.stored;
      listened = listened ∙ dialled.listened;
      reads = done.reads;
    })

pub returns-in-Err-clause-ends : goal.returns-in-Err-clause-ends
returns-in-Err-clause-ends g c =
    let fails = c.in-Err.ensures in
    inl (record {
      rose = fails.cause.failed;
      of_links = fails.faults;
      listens = fails.listens;
      accepts = fails.accepts;
      links = same_links _ _ _ _ _ _ _ _ _ _ _ _ fails.ended fails.linked fails.given fails.left fails.sent fails.reads;
      listened = fails.listened;
      told = line_told _ _ c.link_fault_line.ensures c.as_bytes.ensures.value c.tell_text.result _ _ _ _ c.tell_text.ensures;
      stores = refl;
      store_faults = refl;
      reads = refl;
    })
