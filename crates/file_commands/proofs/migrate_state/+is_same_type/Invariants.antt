use Rattle.file_commands.proofs.migrate_state.+is_same_type.Given as goal

-- the parts of a type have lower numbers
abbrev pub decreases-is_same_type : goal.decreases-is_same_type
decreases-is_same_type l = l.a.0
