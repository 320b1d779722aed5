use Rattle.std.proofs.Common.{rules, ◌≡◌, refl}
use Rattle.lam_outside.specs.Links.{links_so_far}
use Rattle.link_ends.specs.declared.end.ConnectionEnd.TheVariants.{Over, LinkFault, Stopped}
use Rattle.session_turns.specs.Keepers.{KeepsBetween}
use Rattle.serve_links.proofs.Linking.{one_served}
use Rattle.serve_links.proofs.net.serve_next.Goals as goal

pub returns-in-Over-clause-served : goal.returns-in-Over-clause-served
returns-in-Over-clause-served g c = λ port listening server place serves keeps after is.
    let before = c.args.net.now in
    let made = c.accept.new.self in
    let behind = c.serve_link.new.link in
    let ended : g.N.Net.ended behind ≡ g.N.Net.ended made = search rules in
    let linked : g.N.Net.linked behind ≡ g.N.Net.linked made = search rules in
    let one = one_served g.H.Hash32.hash (KeepsBetween (g.K.Keeper.keeps c.serve_link.new.keeper place)) c.args.core.now c.serve_link.new.core server port
    (links_so_far (g.N.Net.ended before) (g.N.Net.linked before) (g.N.Source.given before) (g.N.Source.left before) (g.N.Source.sent before) (g.N.Source.reads before))
    (g.N.Net.ended made) (g.N.Net.ended behind) (g.N.Net.linked made) (g.N.Net.linked behind) (g.N.Source.given before) (g.N.Source.sent before)
    (g.N.Source.given made) (g.N.Source.left made) (g.N.Source.sent made) (g.N.Source.given behind) (g.N.Source.left behind) (g.N.Source.sent behind)
    (g.N.Source.reads made) (g.N.Source.reads behind)
    Over after (c.in_ok-accept.ensures.made port listening) ended linked c.serve_link.ensures.moves
    (λ bytes told. c.in-Over.ensures.served bytes told server place serves keeps) (λ bytes told. c.serve_link.ensures.prompt bytes told server serves) is in
    record { end = Over; one = one; unstopped = λ same. cc (same); fault = refl }

pub returns-in-LinkFault-clause-served : goal.returns-in-LinkFault-clause-served
returns-in-LinkFault-clause-served g c = λ port listening server place serves keeps after is.
    let before = c.args.net.now in
    let made = c.accept.new.self in
    let behind = c.serve_link.new.link in
    let ended : g.N.Net.ended behind ≡ g.N.Net.ended made = search rules in
    let linked : g.N.Net.linked behind ≡ g.N.Net.linked made = search rules in
    let one = one_served g.H.Hash32.hash (KeepsBetween (g.K.Keeper.keeps c.serve_link.new.keeper place)) c.args.core.now c.serve_link.new.core server port
    (links_so_far (g.N.Net.ended before) (g.N.Net.linked before) (g.N.Source.given before) (g.N.Source.left before) (g.N.Source.sent before) (g.N.Source.reads before))
    (g.N.Net.ended made) (g.N.Net.ended behind) (g.N.Net.linked made) (g.N.Net.linked behind) (g.N.Source.given before) (g.N.Source.sent before)
    (g.N.Source.given made) (g.N.Source.left made) (g.N.Source.sent made) (g.N.Source.given behind) (g.N.Source.left behind) (g.N.Source.sent behind)
    (g.N.Source.reads made) (g.N.Source.reads behind)
    LinkFault after (c.in_ok-accept.ensures.made port listening) ended linked c.serve_link.ensures.moves
    (λ bytes told. c.in-LinkFault.ensures.served bytes told server place serves keeps) (λ bytes told. c.serve_link.ensures.prompt bytes told server serves) is in
    record { end = LinkFault; one = one; unstopped = λ same. cc (same); fault = refl }

pub returns-in-Stopped-clause-served : goal.returns-in-Stopped-clause-served
returns-in-Stopped-clause-served g c = λ port listening server place serves keeps after is.
    let before = c.args.net.now in
    let made = c.accept.new.self in
    let behind = c.serve_link.new.link in
    let ended : g.N.Net.ended behind ≡ g.N.Net.ended made = search rules in
    let linked : g.N.Net.linked behind ≡ g.N.Net.linked made = search rules in
    let one = one_served g.H.Hash32.hash (KeepsBetween (g.K.Keeper.keeps c.serve_link.new.keeper place)) c.args.core.now c.serve_link.new.core server port
    (links_so_far (g.N.Net.ended before) (g.N.Net.linked before) (g.N.Source.given before) (g.N.Source.left before) (g.N.Source.sent before) (g.N.Source.reads before))
    (g.N.Net.ended made) (g.N.Net.ended behind) (g.N.Net.linked made) (g.N.Net.linked behind) (g.N.Source.given before) (g.N.Source.sent before)
    (g.N.Source.given made) (g.N.Source.left made) (g.N.Source.sent made) (g.N.Source.given behind) (g.N.Source.left behind) (g.N.Source.sent behind)
    (g.N.Source.reads made) (g.N.Source.reads behind)
    Stopped after (c.in_ok-accept.ensures.made port listening) ended linked c.serve_link.ensures.moves
    (λ bytes told. c.in-Stopped.ensures.served bytes told server place serves keeps) (λ bytes told. c.serve_link.ensures.prompt bytes told server serves) is in
    one
