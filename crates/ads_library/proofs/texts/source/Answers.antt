use Rattle.std.proofs.Common.{rules, refl, codes}
use Rattle.ads_library.specs.Texts.{library_text}
use Rattle.ads_library.proofs.Named.{found_behind, found_under}
use Rattle.ads_library.proofs.texts.source.Goals as goal

pub returns-in-bst-clause-text : goal.returns-in-bst-clause-text
unfolding library_text
returns-in-bst-clause-text c = found_under _ (codes "bst") _ _ c.in-bst.is

pub returns-in-merkle-clause-known : goal.returns-in-merkle-clause-known
returns-in-merkle-clause-known c = ((λ _. (1, search rules, search rules)), λ _. search rules)

pub returns-in-merkle-clause-text : goal.returns-in-merkle-clause-text
unfolding library_text
returns-in-merkle-clause-text c = found_behind _ (codes "bst") _ _ _ c.in-merkle.not-bst (found_under _ (codes "merkle") _ _ c.in-merkle.is)

pub returns-in-redblack-clause-known : goal.returns-in-redblack-clause-known
returns-in-redblack-clause-known c = ((λ _. (2, search rules, search rules)), λ _. search rules)

pub returns-in-redblack-clause-text : goal.returns-in-redblack-clause-text
unfolding library_text
returns-in-redblack-clause-text c = found_behind _ (codes "bst") _ _ _ c.in-redblack.not-bst
    (found_behind _ (codes "merkle") _ _ _ c.in-redblack.not-merkle (found_under _ (codes "redblack") _ _ c.in-redblack.is))

pub returns-in-skiplist-clause-known : goal.returns-in-skiplist-clause-known
returns-in-skiplist-clause-known c = ((λ _. (3, search rules, search rules)), λ _. search rules)

pub returns-in-skiplist-clause-text : goal.returns-in-skiplist-clause-text
unfolding library_text
returns-in-skiplist-clause-text c = found_behind _ (codes "bst") _ _ _ c.in-skiplist.not-bst
    (found_behind _ (codes "merkle") _ _ _ c.in-skiplist.not-merkle
    (found_behind _ (codes "redblack") _ _ _ c.in-skiplist.not-redblack (found_under _ (codes "skiplist") _ _ c.in-skiplist.is)))

pub returns-in_default-clause-text : goal.returns-in_default-clause-text
unfolding library_text
returns-in_default-clause-text c = found_behind _ (codes "bst") _ _ _ c.in_default.not-bst
    (found_behind _ (codes "merkle") _ _ _ c.in_default.not-merkle
    (found_behind _ (codes "redblack") _ _ _ c.in_default.not-redblack (found_behind _ (codes "skiplist") _ _ _ c.in_default.not-skiplist (refl))))
