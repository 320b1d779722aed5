use Rattle.code_check.proofs.lists.+taken_off.Given as goal

abbrev pub decreases-taken_off : goal.decreases-taken_off
decreases-taken_off l = l.takes.0
