use Rattle.std.proofs.Common.{◌≡◌, sym, ◌∙◌, subst}
use Rattle.code_gen.specs.Programs.{program_in}
use Rattle.core_terms.specs.Programs.{types_of}
use Rattle.mode_vm.specs.Meanings.{program_of}
use Rattle.session_meaning.specs.Messages.{session_of}
use Rattle.session_meaning.proofs.OtherSessions.{event_so}
use Rattle.session_meaning.specs.Client.{Client, Hears, state_of}
use Rattle.session_meaning.specs.Tables.{find}
use Rattle.wire_form.specs.MessageViews.{reply_meant}
use Rattle.ask_core.specs.Clients.{IsClient}
use Rattle.session_tables.specs.Tables.{rows_of}
use Rattle.ask_core.specs.Sessions.{IsCalledRole, StandsFor}
use Rattle.script_play.specs.Plays.{goes_behind, hears}
use Rattle.script_play.specs.DeedLines.{answer_line}
use Rattle.script_play.specs.Tellings.{OfAnswer, makes_state, state_if}
use Rattle.script_play.specs.PlayingInCode.{names_of, own_of}
use Rattle.script_play.proofs.Heard.{waited}
use Rattle.script_play.proofs.HeardReplies.{fewer_wait, heard_answer, heard_called, heard_known, heard_stands, heard_telling, session_fits}
use Rattle.script_play.proofs.Steps.{ok_map, ok_map2, ok_map4}
use Rattle.script_play.proofs.hearing.hear.Goals as goal

pub telling_of-requires-after_bounds : goal.telling_of-requires-after_bounds
telling_of-requires-after_bounds g c κs within outcome =
    let core = c.args.core.now in
    let P = program_of core.code in
    let own = own_of core.code in
    let hash = g.H.Hash32.hash in
    let r = reply_meant c.args.reply in
    let new = c.take_reply-told.new.self in
    let told = c.take_reply-told.result in
    let called = c.called-called.result in
    let same = c.take_reply-told.ensures.code in
    let m = c.requires.known.0 in
    let is = c.requires.known.1 in
    heard_called hash P own m r (IsClient P new.closed (rows_of new.sessions)) told (c.take_reply-told.ensures.answer m is) (types_of (program_in core.code)) called
    c.session_of-session.result c.session_of-session.ensures (c.called-called.ensures m is) outcome

pub returns-clause-tells : goal.returns-clause-tells
returns-clause-tells g c =
    let core = c.args.core.now in
    let P = program_of core.code in
    let own = own_of core.code in
    let hash = g.H.Hash32.hash in
    let r = reply_meant c.args.reply in
    let new = c.take_reply-told.new.self in
    let told = c.take_reply-told.result in
    let called = c.called-called.result in
    let same = c.take_reply-told.ensures.code in
    let to_new : (x : Client) → IsClient P new.closed (rows_of new.sessions) x → StandsFor new x =
    λ x h. subst (λ k. IsClient (program_of k) new.closed (rows_of new.sessions) x) (sym same) h in
    let n = c.session_of-session.result in
    ok_map4 c.telling_of.result c.telling_of.ensures.line c.telling_of.ensures.made c.telling_of.ensures.goes_on c.telling_of.ensures.memory
    (λ telling line made goes memory m is.
    let made' = subst (λ k. OfAnswer (types_of (program_in k)) (program_of k) called told (λ role answer. (x : Client) → StandsFor new x
    → telling.made ≡ state_if (makes_state role answer) (state_of x n))) same made in
    heard_telling hash P own m r (IsClient P new.closed (rows_of new.sessions)) told (c.take_reply-told.ensures.answer m is) memory (names_of core.code) (types_of (program_in core.code)) called telling
    n c.session_of-session.ensures (c.called-called.ensures m is)
    (subst (λ k. OfAnswer (types_of (program_in k)) (program_of k) called told (λ role answer. telling.line.items ≡ answer_line (program_of k) (names_of k) n role answer)) same line)
    (λ found answer of_role answers x stands. made' found answer of_role answers x (to_new x stands))
    (subst (λ k. OfAnswer (types_of (program_in k)) (program_of k) called told (λ role answer. telling.goes_on ≡ goes_behind answer)) same goes))

pub returns-clause-stands : goal.returns-clause-stands
returns-clause-stands g c =
    let core = c.args.core.now in
    let P = program_of core.code in
    let own = own_of core.code in
    let hash = g.H.Hash32.hash in
    let r = reply_meant c.args.reply in
    let new = c.take_reply-told.new.self in
    let told = c.take_reply-told.result in
    let called = c.called-called.result in
    let same = c.take_reply-told.ensures.code in
    let to_new : (x : Client) → IsClient P new.closed (rows_of new.sessions) x → StandsFor new x =
    λ x h. subst (λ k. IsClient (program_of k) new.closed (rows_of new.sessions) x) (sym same) h in
    ok_map c.telling_of.result c.telling_of.ensures.memory (λ telling memory m is.
    to_new (hears hash P own m r).client (heard_stands hash P own m r (IsClient P new.closed (rows_of new.sessions)) told (c.take_reply-told.ensures.answer m is) memory))

pub returns-clause-known : goal.returns-clause-known
returns-clause-known g c =
    let core = c.args.core.now in
    let P = program_of core.code in
    let own = own_of core.code in
    let hash = g.H.Hash32.hash in
    let r = reply_meant c.args.reply in
    let new = c.take_reply-told.new.self in
    let told = c.take_reply-told.result in
    let called = c.called-called.result in
    let same = c.take_reply-told.ensures.code in
    let to_new : (x : Client) → IsClient P new.closed (rows_of new.sessions) x → StandsFor new x =
    λ x h. subst (λ k. IsClient (program_of k) new.closed (rows_of new.sessions) x) (sym same) h in
    let m = c.requires.known.0 in
    let known = heard_known hash P own m r (IsClient P new.closed (rows_of new.sessions)) told (c.take_reply-told.ensures.answer m c.requires.known.1) in
    (known.0, to_new known.0 known.1)

pub returns-clause-fewer : goal.returns-clause-fewer
returns-clause-fewer g c =
    let core = c.args.core.now in
    let P = program_of core.code in
    let own = own_of core.code in
    let hash = g.H.Hash32.hash in
    let r = reply_meant c.args.reply in
    let new = c.take_reply-told.new.self in
    let told = c.take_reply-told.result in
    let called = c.called-called.result in
    let same = c.take_reply-told.ensures.code in
    let to_new : (x : Client) → IsClient P new.closed (rows_of new.sessions) x → StandsFor new x =
    λ x h. subst (λ k. IsClient (program_of k) new.closed (rows_of new.sessions) x) (sym same) h in
    let m = c.requires.known.0 in
    let is = c.requires.known.1 in
    let takes = c.take_reply-told.ensures.answer m is in
    ok_map2 c.telling_of.result c.telling_of.ensures.goes_on c.telling_of.ensures.memory (λ telling goes memory on.
    let goes' = subst (λ k. OfAnswer (types_of (program_in k)) (program_of k) called told (λ role answer. telling.goes_on ≡ goes_behind answer)) same goes in
    let said = goes' (find (session_of r) m.sessions) (hears hash P own m r).answer
    (subst (λ n. IsCalledRole (types_of (program_in core.code)) P (find n m.sessions) called) c.session_of-session.ensures (c.called-called.ensures m is))
    (heard_answer hash P own m r (IsClient P new.closed (rows_of new.sessions)) told takes memory) in
    let w = waited hash P own m r (sym said ∙ on) in
    fewer_wait core new m (hears hash P own m r).client is (to_new (hears hash P own m r).client (heard_stands hash P own m r (IsClient P new.closed (rows_of new.sessions)) told takes memory))
    (session_of r) (session_fits r c.requires.message.fields) w.0 w.1 (λ k d. event_so hash P own m (Hears r) k d))
