use Rattle.std.proofs.Common.{refl}
use Rattle.lam_outside.specs.Links.{links_so_far}
use Rattle.link_ends.specs.declared.end.ConnectionEnd.TheVariants.{Over, LinkFault, Stopped}
use Rattle.piece_mirror.specs.Answers.{given_by}
use Rattle.piece_mirror.specs.Tables.{bytes_of}
use Rattle.mirror_links.proofs.Links.{one_answered}
use Rattle.mirror_links.proofs.net.answer_next.Goals as goal

pub returns-in-Over-clause-answered : goal.returns-in-Over-clause-answered
returns-in-Over-clause-answered g c = λ port listening after is.
    let before = c.args.net.now in
    let made = c.accept.new.self in
    let behind = c.answer_link.new.link in
    let ended = g.met.N.Net.beyond_has_ended made behind c.answer_link.ensures.beyond in
    let linked = g.met.N.Net.beyond_has_linked made behind c.answer_link.ensures.beyond in
    let one = one_answered (given_by g.H.Hash32.hash (bytes_of c.args.mirror.now.pieces)) port
    (links_so_far (g.N.Net.ended before) (g.N.Net.linked before) (g.N.Source.given before) (g.N.Source.left before) (g.N.Source.sent before) (g.N.Source.reads before))
    (g.N.Net.ended made) (g.N.Net.ended behind) (g.N.Net.linked made) (g.N.Net.linked behind) (g.N.Source.given before) (g.N.Source.sent before)
    (g.N.Source.given made) (g.N.Source.left made) (g.N.Source.sent made) (g.N.Source.given behind) (g.N.Source.left behind) (g.N.Source.sent behind)
    (g.N.Source.reads made) (g.N.Source.reads behind)
    Over after (c.in_ok-accept.ensures.made port listening) ended linked c.answer_link.ensures.moves
    (λ bytes told. c.in-Over.ensures.answered bytes told) (λ bytes told. c.answer_link.ensures.prompt bytes told) is in
    record { end = Over; one = one; unstopped = λ same. cc (same); fault = refl }

pub returns-in-LinkFault-clause-answered : goal.returns-in-LinkFault-clause-answered
returns-in-LinkFault-clause-answered g c = λ port listening after is.
    let before = c.args.net.now in
    let made = c.accept.new.self in
    let behind = c.answer_link.new.link in
    let ended = g.met.N.Net.beyond_has_ended made behind c.answer_link.ensures.beyond in
    let linked = g.met.N.Net.beyond_has_linked made behind c.answer_link.ensures.beyond in
    let one = one_answered (given_by g.H.Hash32.hash (bytes_of c.args.mirror.now.pieces)) port
    (links_so_far (g.N.Net.ended before) (g.N.Net.linked before) (g.N.Source.given before) (g.N.Source.left before) (g.N.Source.sent before) (g.N.Source.reads before))
    (g.N.Net.ended made) (g.N.Net.ended behind) (g.N.Net.linked made) (g.N.Net.linked behind) (g.N.Source.given before) (g.N.Source.sent before)
    (g.N.Source.given made) (g.N.Source.left made) (g.N.Source.sent made) (g.N.Source.given behind) (g.N.Source.left behind) (g.N.Source.sent behind)
    (g.N.Source.reads made) (g.N.Source.reads behind)
    LinkFault after (c.in_ok-accept.ensures.made port listening) ended linked c.answer_link.ensures.moves
    (λ bytes told. c.in-LinkFault.ensures.answered bytes told) (λ bytes told. c.answer_link.ensures.prompt bytes told) is in
    record { end = LinkFault; one = one; unstopped = λ same. cc (same); fault = refl }

pub returns-in-Stopped-clause-answered : goal.returns-in-Stopped-clause-answered
returns-in-Stopped-clause-answered g c = λ port listening after is.
    let before = c.args.net.now in
    let made = c.accept.new.self in
    let behind = c.answer_link.new.link in
    let ended = g.met.N.Net.beyond_has_ended made behind c.answer_link.ensures.beyond in
    let linked = g.met.N.Net.beyond_has_linked made behind c.answer_link.ensures.beyond in
    let one = one_answered (given_by g.H.Hash32.hash (bytes_of c.args.mirror.now.pieces)) port
    (links_so_far (g.N.Net.ended before) (g.N.Net.linked before) (g.N.Source.given before) (g.N.Source.left before) (g.N.Source.sent before) (g.N.Source.reads before))
    (g.N.Net.ended made) (g.N.Net.ended behind) (g.N.Net.linked made) (g.N.Net.linked behind) (g.N.Source.given before) (g.N.Source.sent before)
    (g.N.Source.given made) (g.N.Source.left made) (g.N.Source.sent made) (g.N.Source.given behind) (g.N.Source.left behind) (g.N.Source.sent behind)
    (g.N.Source.reads made) (g.N.Source.reads behind)
    Stopped after (c.in_ok-accept.ensures.made port listening) ended linked c.answer_link.ensures.moves
    (λ bytes told. c.in-Stopped.ensures.answered bytes told) (λ bytes told. c.answer_link.ensures.prompt bytes told) is in
    one
