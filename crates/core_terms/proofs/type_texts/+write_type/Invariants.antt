use Rattle.core_terms.proofs.type_texts.+write_type.Given as goal

abbrev pub decreases-write_type : goal.decreases-write_type
decreases-write_type l = l.ty.0
