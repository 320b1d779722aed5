use Rattle.code_check.proofs.lists.+without_first.Given as goal

abbrev pub decreases-without_first : goal.decreases-without_first
decreases-without_first l = l.count
