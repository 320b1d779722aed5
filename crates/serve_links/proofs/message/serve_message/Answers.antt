use Rattle.std.proofs.Common.{sym, ◌∙◌, true, false, not, refl}
use Rattle.serve_core.specs.Serving.{heard_meant}
use Rattle.session_turns.specs.Keepers.{KeepsBetween}
use Rattle.serve_links.proofs.KeptCommits.{all_kept}
use Rattle.serve_links.proofs.Answering.{broken_on, counts, served_on, stays_halted, stays_open, unread}
use Rattle.serve_links.proofs.message.serve_message.Goals as goal

pub returns-in_err-heard-clause-served : goal.returns-in_err-heard-clause-served
returns-in_err-heard-clause-served g c = λ bytes told server place serves keeps.
    unread g.H.Hash32.hash (KeepsBetween (g.K.Keeper.keeps c.args.keeper.now place)) c.args.core.now server (g.L.Source.sent c.args.link.now) (g.L.Source.sent c.next_heard.new.link) bytes
    (g.L.Source.left c.next_heard.new.link) c.in_err-heard.field-0.0 c.from_residual.result c.from_residual.ensures.1 c.next_heard.ensures.sent
    (c.in_err-heard.ensures.hears bytes told)
    (all_kept (g.K.Keeper.keeps c.args.keeper.now place) c.args.core.now.shared.commits.items server.shared.commits serves.shares.commits keeps) serves

pub returns-in_err-closing-clause-served : goal.returns-in_err-closing-clause-served
returns-in_err-closing-clause-served g c = λ bytes told server place serves keeps.
    broken_on g.H.Hash32.hash (KeepsBetween (g.K.Keeper.keeps c.answer.new.keeper place)) c.args.core.now c.answer.new.core server (g.L.Source.sent c.args.link.now) (g.L.Source.sent c.next_heard.new.link) (g.L.Source.sent c.answer.new.link) bytes
    (g.L.Source.left c.next_heard.new.link) (g.L.Source.left c.answer.new.link) (heard_meant c.in_ok-heard.heard) c.in_err-closing.field-0.0
    c.from_residual-in_err-closing.result c.from_residual-in_err-closing.ensures.1 c.next_heard.ensures.sent c.answer.ensures.left
    (c.in_ok-heard.ensures.hears bytes told) (c.in_err-closing.ensures.answers server place serves keeps)

pub returns-in_err-closing-clause-history : goal.returns-in_err-closing-clause-history
returns-in_err-closing-clause-history g c =
    stays_halted g.H.Hash32.hash (KeepsBetween (g.K.Keeper.keeps c.answer.new.keeper c.requires.kept.0)) c.args.core.now c.answer.new.core c.answer.ensures.code c.requires.history (g.L.Source.sent c.next_heard.new.link) (g.L.Source.sent c.answer.new.link)
    (heard_meant c.in_ok-heard.heard) c.in_ok-heard.ensures.message c.in_err-closing.field-0.0 c.from_residual-in_err-closing.result c.from_residual-in_err-closing.ensures.1
    (c.in_err-closing.ensures.answers c.requires.history.server c.requires.kept.0 c.requires.history.serves c.requires.kept.1)

pub returns-then-asks-clause-served : goal.returns-then-asks-clause-served
returns-then-asks-clause-served g c = λ bytes told server place serves keeps.
    served_on g.H.Hash32.hash (KeepsBetween (g.K.Keeper.keeps c.answer.new.keeper place)) c.args.core.now c.answer.new.core server (g.L.Source.sent c.args.link.now) (g.L.Source.sent c.next_heard.new.link) (g.L.Source.sent c.answer.new.link) bytes
    (g.L.Source.left c.next_heard.new.link) (g.L.Source.left c.answer.new.link) (heard_meant c.in_ok-heard.heard) c.in_ok-closing.closing true (not c.in_ok-closing.closing) refl
    c.next_heard.ensures.sent c.answer.ensures.left (c.in_ok-heard.ensures.hears bytes told) (sym c.is_request-asks.ensures ∙ c.if-asks.true)
    (c.in_ok-closing.ensures.answers server place serves keeps)

pub returns-then-asks-clause-history : goal.returns-then-asks-clause-history
returns-then-asks-clause-history g c =
    stays_open g.H.Hash32.hash (KeepsBetween (g.K.Keeper.keeps c.answer.new.keeper c.requires.kept.0)) c.args.core.now c.answer.new.core c.answer.ensures.code c.requires.history (g.L.Source.sent c.next_heard.new.link) (g.L.Source.sent c.answer.new.link)
    (heard_meant c.in_ok-heard.heard) c.in_ok-heard.ensures.message c.in_ok-closing.closing (c.in_ok-closing.ensures.answers c.requires.history.server c.requires.kept.0 c.requires.history.serves c.requires.kept.1)

pub returns-then-asks-clause-counts : goal.returns-then-asks-clause-counts
returns-then-asks-clause-counts g c =
    counts g.H.Hash32.hash (KeepsBetween (g.K.Keeper.keeps c.answer.new.keeper c.requires.kept.0)) c.args.core.now c.answer.new.core c.answer.ensures.code c.requires.history (g.L.Source.sent c.next_heard.new.link) (g.L.Source.sent c.answer.new.link)
    (heard_meant c.in_ok-heard.heard) c.in_ok-heard.ensures.message c.in_ok-closing.closing true (not c.in_ok-closing.closing) refl (sym c.is_request-asks.ensures ∙ c.if-asks.true)
    (c.in_ok-closing.ensures.answers c.requires.history.server c.requires.kept.0 c.requires.history.serves c.requires.kept.1)

pub returns-else-asks-clause-served : goal.returns-else-asks-clause-served
returns-else-asks-clause-served g c = λ bytes told server place serves keeps.
    served_on g.H.Hash32.hash (KeepsBetween (g.K.Keeper.keeps c.answer.new.keeper place)) c.args.core.now c.answer.new.core server (g.L.Source.sent c.args.link.now) (g.L.Source.sent c.next_heard.new.link) (g.L.Source.sent c.answer.new.link) bytes
    (g.L.Source.left c.next_heard.new.link) (g.L.Source.left c.answer.new.link) (heard_meant c.in_ok-heard.heard) c.in_ok-closing.closing false c.is_request-asks.result c.if-asks.false
    c.next_heard.ensures.sent c.answer.ensures.left (c.in_ok-heard.ensures.hears bytes told) (sym c.is_request-asks.ensures ∙ c.if-asks.false)
    (c.in_ok-closing.ensures.answers server place serves keeps)

pub returns-else-asks-clause-history : goal.returns-else-asks-clause-history
returns-else-asks-clause-history g c =
    stays_open g.H.Hash32.hash (KeepsBetween (g.K.Keeper.keeps c.answer.new.keeper c.requires.kept.0)) c.args.core.now c.answer.new.core c.answer.ensures.code c.requires.history (g.L.Source.sent c.next_heard.new.link) (g.L.Source.sent c.answer.new.link)
    (heard_meant c.in_ok-heard.heard) c.in_ok-heard.ensures.message c.in_ok-closing.closing (c.in_ok-closing.ensures.answers c.requires.history.server c.requires.kept.0 c.requires.history.serves c.requires.kept.1)

pub returns-else-asks-clause-counts : goal.returns-else-asks-clause-counts
returns-else-asks-clause-counts g c =
    counts g.H.Hash32.hash (KeepsBetween (g.K.Keeper.keeps c.answer.new.keeper c.requires.kept.0)) c.args.core.now c.answer.new.core c.answer.ensures.code c.requires.history (g.L.Source.sent c.next_heard.new.link) (g.L.Source.sent c.answer.new.link)
    (heard_meant c.in_ok-heard.heard) c.in_ok-heard.ensures.message c.in_ok-closing.closing false c.is_request-asks.result c.if-asks.false (sym c.is_request-asks.ensures ∙ c.if-asks.false)
    (c.in_ok-closing.ensures.answers c.requires.history.server c.requires.kept.0 c.requires.history.serves c.requires.kept.1)
