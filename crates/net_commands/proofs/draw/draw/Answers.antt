use Rattle.std.proofs.Common.{inl, inr, refl, ◌∙◌}
use Rattle.lam_outside.specs.Links.{links_so_far}
use Rattle.net_commands.specs.PreparedDrawings.{drawing_of}
use Rattle.net_commands.proofs.AskLinks.{line_told}
use Rattle.net_commands.proofs.DrawLinks.{dialled_on, drawn_on, went_on}
use Rattle.net_commands.proofs.OnlineRuns.{same_links}
use Rattle.net_commands.proofs.draw.draw.Goals as goal

pub returns-in-Ok : goal.returns-in-Ok
returns-in-Ok g c = λ seen.
    let before = c.args.net.now in
    let made = c.dial.new.self in
    let behind = c.judge_and_tell.new.link in
    let held = c.args.held.now in
    let dialled = c.in-Ok.ensures in
    let kept = c.judge_and_tell.ensures.beyond in
    let ended = g.met.N.Net.beyond_has_ended made behind kept in
    let linked = g.met.N.Net.beyond_has_linked made behind kept in
    let listened = g.met.N.Net.beyond_has_listened made behind kept in
    let listens = g.met.N.Net.beyond_has_listen_faults made behind kept in
    let accepts = g.met.N.Net.beyond_has_accept_faults made behind kept in
    let dials = g.met.N.Net.beyond_has_dial_faults made behind kept in
    let links = links_so_far (g.N.Net.ended before) (g.N.Net.linked before) (g.N.Source.given before) (g.N.Source.left before) (g.N.Source.sent before) (g.N.Source.reads before) in
    inr (record {
      went = went_on (drawing_of held) _ _ _ _ c.judge_and_tell.result
          (g.N.Source.given made) (g.N.Source.left made) (g.N.Source.sent made) (g.N.Source.given behind) (g.N.Source.left behind) (g.N.Source.sent behind)
          (λ after is. dialled_on held.port links (g.N.Net.ended made) (g.N.Net.ended behind) (g.N.Net.linked made) (g.N.Net.linked behind) (g.N.Source.given before) (g.N.Source.sent before)
          (g.N.Source.given made) (g.N.Source.left made) (g.N.Source.sent made) (g.N.Source.given behind) (g.N.Source.left behind) (g.N.Source.sent behind)
          (g.N.Source.reads made) (g.N.Source.reads behind) dialled.made ended linked after is)
          (λ answers verdict moves given after is. drawn_on held.port links (g.N.Net.ended made) (g.N.Net.ended behind) (g.N.Net.linked made) (g.N.Net.linked behind) (g.N.Source.given before)
          (g.N.Source.sent before) (g.N.Source.given made) (g.N.Source.left made) (g.N.Source.sent made) (g.N.Source.given behind) (g.N.Source.left behind) (g.N.Source.sent behind)
          (g.N.Source.reads made) (g.N.Source.reads behind) dialled.made ended linked after is answers verdict moves given)
          (listens ∙ dialled.listens) (accepts ∙ dialled.accepts) (dials ∙ dialled.cause.kept) (rw dialled.faults at c.judge_and_tell.ensures.ends);
      listened = listened ∙ dialled.listened;
      stores = refl;
      store_faults = refl;
      reads = refl;
    })

pub returns-in-Err : goal.returns-in-Err
returns-in-Err g c = λ seen.
    let fails = c.in-Err.ensures in
    inl (record {
      rose = fails.cause.failed;
      of_links = fails.faults;
      listens = fails.listens;
      accepts = fails.accepts;
      links = same_links _ _ _ _ _ _ _ _ _ _ _ _ fails.ended fails.linked fails.given fails.left fails.sent fails.reads;
      listened = fails.listened;
      told = line_told _ _ c.link_fault_line.ensures c.as_bytes.ensures.value c.tell_text.result _ _ _ _ c.tell_text.ensures;
      stores = refl;
      store_faults = refl;
      reads = refl;
    })
