use Rattle.ads_library.proofs.SearchTree.{bst_roles, bst_is_map, bst_keeps_map}
use Rattle.ads_library.proofs.laws.bst.Goals as goal

pub returns : goal.returns
returns c = record { roles = bst_roles; tree = bst_is_map; map = bst_keeps_map }
