use Rattle.std.proofs.Common.{◌/◌, length, rules}
use Rattle.value_store.specs.Stores.{nodes_in}
use Rattle.session_turns.proofs.TurnedRows.{back_goes_on, front_goes_on, halves_turned}
use Rattle.session_turns.proofs.turning.+fn-take_turns-join_mut+arg2+fn-take_turns-join_mut+arg3+take_turns.Goals as goal

pub join_mut-requires-after_bounds : goal.join_mut-requires-after_bounds
join_mut-requires-after_bounds g t c κs within =
    let hash = g.H.Hash32.hash in
    let code = c.args.code.now in
    let base = nodes_in c.args.base.now in
    let parts = c.split_at_mut-front.result in
    let is = c.split_at_mut-front.ensures.value in
    let front = front_goes_on hash code base c.args.entries.now parts.0.now parts.1.now is c.requires.go_on in
    let back = back_goes_on hash code base c.args.entries.now parts.0.now parts.1.now is c.requires.go_on in
    search (rules, front, back)

pub returns-then-any_runs-2 : goal.returns-then-any_runs-2
returns-then-any_runs-2 g t c =
    let m = length c.args.entries.now / 2 in
    halves_turned g.H.Hash32.hash c.args.code.now (nodes_in c.args.base.now) c.args.units.now m c.args.entries.now c.front-1.given.0 c.back-1.given.0 (search rules) (search rules)

pub take_turns-requires-clause-go_on : goal.take_turns-requires-clause-go_on
take_turns-requires-clause-go_on g t c κs within =
    let parts = c.split_at_mut-front.result in
    front_goes_on g.H.Hash32.hash c.args.code.now (nodes_in c.args.base.now) c.args.entries.now parts.0.now parts.1.now c.split_at_mut-front.ensures.value c.requires.go_on

pub take_turns-requires-else-are_many-clause-go_on : goal.take_turns-requires-else-are_many-clause-go_on
take_turns-requires-else-are_many-clause-go_on g t c κs within =
    let parts = c.split_at_mut-front.result in
    back_goes_on g.H.Hash32.hash c.args.code.now (nodes_in c.args.base.now) c.args.entries.now parts.0.now parts.1.now c.split_at_mut-front.ensures.value c.requires.go_on

pub returns-else-are_many : goal.returns-else-are_many
returns-else-are_many g t c =
    let m = length c.args.entries.now / 2 in
    halves_turned g.H.Hash32.hash c.args.code.now (nodes_in c.args.base.now) c.args.units.now m c.args.entries.now c.take_turns.new.entries c.take_turns-else-are_many.new.entries (search rules) (search rules)
