use Rattle.std.proofs.Common.{sym, subst}
use Rattle.std.proofs.lemmas.Result.{IfOk-weaker}
use Rattle.value_store.specs.Stores.{nodes_in}
use Rattle.session_turns.specs.Ahead.{AreAhead}
use Rattle.session_turns.specs.Turning.{AllGoOn, AllTurned, IsTurnOf}
use Rattle.session_turns.proofs.Rows.{alike_length, if_err}
use Rattle.session_turns.proofs.TurnedRows.{all_ahead, all_go_on, all_written}
use Rattle.session_turns.proofs.shared.Shared.round.Goals as goal

pub round-requires-clause-limit : goal.round-requires-clause-limit
round-requires-clause-limit g c κs within = c.requires.shares.2.limit

pub round-requires-clause-go_on : goal.round-requires-clause-go_on
round-requires-clause-go_on g c κs within =
    let hash = g.H.Hash32.hash in
    let code = c.args.code.now in
    let shared = c.args.self.now in
    subst (λ l. AllGoOn hash code (nodes_in shared.store) l) (sym c.as_mut_slice.ensures.value)
    (all_go_on hash code c.args.units shared c.requires.shares.0.versions c.args.entries.items c.requires.shares.1 c.requires.shares.3)

pub settle_turns-requires-after_bounds : goal.settle_turns-requires-after_bounds
settle_turns-requires-after_bounds g c κs within =
    let hash = g.H.Hash32.hash in
    let code = c.args.code.now in
    let units = c.args.units in
    let shared = c.args.self.now in
    let m = c.requires.shares.0 in
    let xs = c.requires.shares.1 in
    let old = c.args.entries.items in
    let new = c.round.new.entries in
    let turned = subst (λ l. AllTurned hash code (nodes_in shared.store) units l new) c.as_mut_slice.ensures.value c.round.ensures in
    let written = all_written c.args.entries.len old new c.args.entries.ok.0 (alike_length (IsTurnOf hash code (nodes_in shared.store) units) old new turned) in
    (units, m, xs, c.requires.shares.2, subst (λ l. AreAhead hash code units shared m.versions l xs) (sym written) (all_ahead hash code units shared m.versions c.requires.some old new xs c.requires.shares.3 turned))

pub returns-clause-turned : goal.returns-clause-turned
returns-clause-turned g c =
    IfOk-weaker c.settle_turns.result _ _ (λ left f m xs shares are.
    let hash = g.H.Hash32.hash in
    let code = c.args.code.now in
    let units = c.args.units in
    let shared = c.args.self.now in
    let old = c.args.entries.items in
    let new = c.round.new.entries in
    let turned = subst (λ l. AllTurned hash code (nodes_in shared.store) units l new) c.as_mut_slice.ensures.value c.round.ensures in
    let written = all_written c.args.entries.len old new c.args.entries.ok.0 (alike_length (IsTurnOf hash code (nodes_in shared.store) units) old new turned) in
    f units m xs shares (subst (λ l. AreAhead hash code units shared m.versions l xs) (sym written) (all_ahead hash code units shared m.versions c.requires.some old new xs are turned)))
    c.settle_turns.ensures.turned

pub returns-clause-refused : goal.returns-clause-refused
returns-clause-refused g c =
    if_err c.settle_turns.result _ _ (λ f m xs shares are.
    let hash = g.H.Hash32.hash in
    let code = c.args.code.now in
    let units = c.args.units in
    let shared = c.args.self.now in
    let old = c.args.entries.items in
    let new = c.round.new.entries in
    let turned = subst (λ l. AllTurned hash code (nodes_in shared.store) units l new) c.as_mut_slice.ensures.value c.round.ensures in
    let written = all_written c.args.entries.len old new c.args.entries.ok.0 (alike_length (IsTurnOf hash code (nodes_in shared.store) units) old new turned) in
    f units m xs shares (subst (λ l. AreAhead hash code units shared m.versions l xs) (sym written) (all_ahead hash code units shared m.versions c.requires.some old new xs are turned)))
    c.settle_turns.ensures.refused
