use Rattle.server_tests.proofs.soak.trees.Trees.+keep.Given as goal

abbrev pub decreases-keep : goal.decreases-keep
decreases-keep l = l.depth
