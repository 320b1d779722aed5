use Rattle.value_store.proofs.CodeLists.{number_below}
use Rattle.value_store.proofs.nodes.Nodes.depths_fit.Goals as goal

pub shallow_depth-requires : goal.shallow_depth-requires
shallow_depth-requires g c = number_below c.args.refs.now _ c.loop-r.r-index _ c.requires.refs c.loop-r-test.true
