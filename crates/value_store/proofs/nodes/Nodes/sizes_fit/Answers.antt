use Rattle.value_store.proofs.CodeLists.{number_below}
use Rattle.value_store.proofs.nodes.Nodes.sizes_fit.Goals as goal

pub shallow_size-size-requires : goal.shallow_size-size-requires
shallow_size-size-requires g c = number_below c.args.refs.now _ c.loop-r.r-index _ c.requires.refs c.loop-r-test.true
