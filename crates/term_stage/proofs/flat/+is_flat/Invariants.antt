use Rattle.term_stage.proofs.flat.+is_flat.Given as goal

abbrev pub decreases-is_flat : goal.decreases-is_flat
decreases-is_flat l = l.levels
