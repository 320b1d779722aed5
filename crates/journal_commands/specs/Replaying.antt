-- How `replay` ends.
use Rattle.std.specs.Prelude.{ℕ, List, [], ◌∷◌}
use Rattle.command_parts.specs.Ending.{EndsAs}
use Rattle.command_parts.specs.Outsides.{Outside}
use Rattle.command_parts.specs.declared.status.Status.{Status}
use Rattle.journal_commands.specs.DisksSeen.{DiskSeen, WritesNothing, file_on, with_disk}
use Rattle.journal_commands.specs.JournalAnswers.{replayed_answer}

-- A run of `replay` with these texts behind the command: it ended as its answer says, by the bytes of the journal's file, and wrote nothing on the disk.
abbrev pub EndsReplaying : (texts : List (List ℕ)) → (old new : Outside) → (disk disk' : DiskSeen) → Status → Type 0
EndsReplaying (program ∷ journal ∷ out ∷ []) old new disk disk' status =
    EndsAs (replayed_answer program out (file_on disk journal)) (with_disk disk old) (with_disk disk' new) status × WritesNothing journal disk disk'
EndsReplaying texts old new disk disk' status = ⊥
