-- Links that a net made, and one more behind them: for what serves links one after another.
use Rattle.std.proofs.Common.{◌≡◌, ℕ, List, [], ◌∷◌, ◌++◌, Option, ap, ◌∙◌, append_assoc}
use Rattle.std.specs.List.{AllByRecursion}
use Rattle.lam_outside.specs.Links.{Linked}
use Rattle.link_ends.specs.MoreLinks.{AreMore}

ports_more : (port : ℕ) (links : List Linked) (link : Linked) → AllByRecursion (λ (link : Linked). link.port ≡ port) links → link.port ≡ port
    → AllByRecursion (λ (link : Linked). link.port ≡ port) (links ++ link ∷ [])
ports_more port [] link all at = (at, tt)
ports_more port (first ∷ links) link all at = (all.0, ports_more port links link all.1 at)

pub are_more : (port : ℕ) (links : Option (List Linked)) (between after more : List Linked) (link : Linked) → AreMore port links between more
    → after ≡ between ++ link ∷ [] → link.port ≡ port → AreMore port links after (more ++ link ∷ [])
are_more port links between after more link are all at = record {
  before = are.before;
  told = are.told;
  all = all ∙ ap (λ l. l ++ link ∷ []) are.all ∙ append_assoc are.before more (link ∷ []);
  at_port = ports_more port more link are.at_port at;
}
