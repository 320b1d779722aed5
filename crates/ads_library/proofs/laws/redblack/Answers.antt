use Rattle.ads_library.proofs.RedBlackTree.{red_black_is_map}
use Rattle.ads_library.proofs.RedBlackLaws.{red_black_roles, red_black_keeps_map}
use Rattle.ads_library.proofs.ThousandPuts.{finds_among_thousand}
use Rattle.ads_library.proofs.laws.redblack.Goals as goal

pub returns : goal.returns
returns c = record { roles = red_black_roles; tree = red_black_is_map; map = red_black_keeps_map; thousand = finds_among_thousand }
