use Rattle.std.proofs.Common.{sym, subst}
use Rattle.std.proofs.lemmas.Result.{IfOk-weaker}
use Rattle.core_terms.specs.ProgramTypes.{types_meaning}
use Rattle.shallow_codec.specs.ProgramTypes.{table}
use Rattle.value_store.specs.Standing.{StandsFor, VerifierNodes}
use Rattle.value_store.specs.Stores.{nodes_in}
use Rattle.shallow_codec.proofs.SpelledPairs.{first_shown, first_stands, not_refused, pair_shown}
use Rattle.shallow_codec.proofs.pairs.first_spelled.Goals as goal

pub unreachable-requires : goal.unreachable-requires
unreachable-requires c =
    absurd (not_refused c.args.types.now c.args.ty c.args.bytes.now c.requires.spelled.0 c.requires.spelled.1 (nodes_in c.unspell.new.store) _ _ c.in-Err-Bad.field-0-is c.in-Err-Bad.ensures.value)

pub first_component-state-requires : goal.first_component-state-requires
first_component-state-requires c =
    let types = c.args.types.now in
    let answer = c.requires.pair.0 in
    let pair = pair_shown types c.args.ty answer c.requires.pair.1 (nodes_in c.unspell.new.store) c.args.bytes.now c.in-Ok.pair c.in-Ok.ensures.spelled in
    (VerifierNodes, table types, (types_meaning types).state, answer, pair.0, pair.1)

pub spell-requires : goal.spell-requires
spell-requires c =
    let types = c.args.types.now in
    let shown = first_shown types c.args.ty c.requires.pair.0 c.requires.pair.1 (nodes_in c.unspell.new.store) c.args.bytes.now c.in-Ok.pair
    c.in-Ok.ensures.spelled c.first_component-state.result c.first_component-state.ensures in
    (shown.0, subst (λ t. StandsFor VerifierNodes (table types) (nodes_in c.unspell.new.store) c.first_component-state.result.0 t shown.0) (sym c.state_type.ensures.state) shown.1)

pub returns : goal.returns
returns c =
    let types = c.args.types.now in
    let nodes = nodes_in c.unspell.new.store in
    IfOk-weaker c.spell.result _ _ (λ state spells x y spelled.
    spells x (subst (λ t. StandsFor VerifierNodes (table types) nodes c.first_component-state.result.0 t x) (sym c.state_type.ensures.state)
    (first_stands types c.args.ty c.requires.pair.0 c.requires.pair.1 nodes c.args.bytes.now c.in-Ok.pair c.in-Ok.ensures.spelled
    c.first_component-state.result c.first_component-state.ensures x y spelled))) c.spell.ensures.spelling
