use Rattle.std.proofs.Common.{refl, ap, ◌∙◌}
use Rattle.session_tables.specs.Tables.{rows_of}
use Rattle.session_turns.proofs.RoundSoFar.{on_err}
use Rattle.serve_core.proofs.Answering.{all_sessions, gone_on, in_order, still_in_order}
use Rattle.serve_core.proofs.server.ServeCore.go.Goals as goal

pub rounds-requires-clause-shares : goal.rounds-requires-clause-shares
rounds-requires-clause-shares g c κs within =
    let server = c.requires.serves.0 in
    let h = c.requires.serves.1 in
    let same = c.into_entries-entries.ensures.rows ∙ ap rows_of c.replace.ensures.value in
    (server.shared, server.sessions, h.shares, all_sessions g.H.Hash32.hash c.args.self.now server h c.into_entries-entries.result.items same)

pub returns-in_err-left-clause-stopped : goal.returns-in_err-left-clause-stopped
returns-in_err-left-clause-stopped g c =
    on_err c.from_residual.result _ (λ server h.
    let same = c.into_entries-entries.ensures.rows ∙ ap rows_of c.replace.ensures.value in
    c.in_err-left.ensures.refused server.shared server.sessions h.shares (all_sessions g.H.Hash32.hash c.args.self.now server h c.into_entries-entries.result.items same))

pub from_entries-requires : goal.from_entries-requires
from_entries-requires g c =
    let core = c.args.self.now in
    let hash = g.H.Hash32.hash in
    let server = c.requires.serves.0 in
    let h = c.requires.serves.1 in
    let entries = c.into_entries-entries.result.items in
    let same = c.into_entries-entries.ensures.rows ∙ ap rows_of c.replace.ensures.value in
    let round = c.in_ok-left.ensures.turned server.shared server.sessions h.shares (all_sessions hash core server h entries same) in
    still_in_order hash core server h c.rounds.new.self c.args.rounds c.in_ok-left.left.items c.new-list.result.items c.rounds.new.replies.items round
    (in_order hash core server h entries same c.into_entries-entries.ensures.in_order)

pub returns-clause-answered : goal.returns-clause-answered
returns-clause-answered g c server h =
    let core = c.args.self.now in
    let hash = g.H.Hash32.hash in
    let entries = c.into_entries-entries.result.items in
    let same = c.into_entries-entries.ensures.rows ∙ ap rows_of c.replace.ensures.value in
    let round = c.in_ok-left.ensures.turned server.shared server.sessions h.shares (all_sessions hash core server h entries same) in
    gone_on hash core server h c.rounds.new.self c.args.rounds c.in_ok-left.left.items c.new-list.result.items c.rounds.new.replies.items round _ _
    refl refl refl refl c.from_entries.ensures c.new-list.ensures.items refl refl
