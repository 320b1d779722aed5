use Rattle.object_writer.proofs.numbering.Numbering.+list.Given as goal

abbrev pub decreases-list : goal.decreases-list
decreases-list l = l.ty.0
