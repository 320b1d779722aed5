use Rattle.ads_library.proofs.PlaceTree.{merkle_roles, merkle_is_list, merkle_keeps_list}
use Rattle.ads_library.proofs.laws.merkle.Goals as goal

pub returns : goal.returns
returns c = record { roles = merkle_roles; tree = merkle_is_list; list = merkle_keeps_list }
