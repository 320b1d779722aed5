use Rattle.server_tests.proofs.soak.trees.Trees.+plain.Given as goal

abbrev pub decreases-plain : goal.decreases-plain
decreases-plain l = l.depth
