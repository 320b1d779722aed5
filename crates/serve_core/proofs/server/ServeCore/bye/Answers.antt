use Rattle.std.proofs.Common.{refl, sym, ◌∙◌}
use Rattle.std.proofs.lemmas.Result.{IfOk-weaker}
use Rattle.session_tables.specs.Tables.{rows_of}
use Rattle.session_turns.specs.Sessions.{IsSession}
use Rattle.value_store.specs.Stores.{nodes_in}
use Rattle.serve_core.proofs.Answering.{left, not_there}
use Rattle.serve_core.proofs.Steps.{if_oks, none_there, some_also}
use Rattle.serve_core.proofs.server.ServeCore.bye.Goals as goal

pub returns-in_default-clause-answered : goal.returns-in_default-clause-answered
returns-in_default-clause-answered g c =
    IfOk-weaker c.refused.result _ _ (λ replies told server h.
    not_there g.H.Hash32.hash c.args.self.now server h _ c.args.number replies (record { shared = refl; code = refl; slice = refl; heard = refl }) c.take.ensures.rows
    (sym c.take.ensures.found ∙ none_there c.take.result c.in_default.not-Some) told)
    c.refused.ensures

pub returns-clause-answered : goal.returns-clause-answered
returns-clause-answered g c =
    if_oks _ _ _ (λ replies told stays server h.
    let core = c.args.self.now in
    let hash = g.H.Hash32.hash in
    let found = sym c.take.ensures.found ∙ c.in-Some.is in
    let Is = IsSession hash core.code core.slice (nodes_in core.shared.store) server.shared.versions in
    let s = some_also Is c.args.number (rows_of core.sessions) server.sessions c.in-Some.field-0 h.sessions found in
    left hash core server h _ c.args.number s.0 replies (record { shared = refl; code = refl; slice = refl; heard = refl }) s.1 c.take.ensures.rows told stays)
    c.one.result c.one.ensures.list c.one.ensures.closing
