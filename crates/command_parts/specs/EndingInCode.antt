-- How a run may end, as the functions tell it that leave the files alone, or that are called with refused words.
use Rattle.std.specs.Prelude.{ℕ, List, Option}
use Rattle.lam_outside.specs.Told.{Contents}
use Rattle.command_parts.specs.AnswerForms.{Answer}
use Rattle.command_parts.specs.declared.status.Status.{Status}
use Rattle.command_parts.specs.declared.status.Status.TheVariants.{Usage, WriteFault, NoMemory}
use Rattle.command_parts.specs.Outsides.{Outside}
use Rattle.command_parts.specs.Ending.{EndsAs}

-- a status that refused words may have: their own, or that of the sink's failing or of the want of memory
abbrev pub IsOfRefused : Status → Type 0
IsOfRefused Usage = Unit {0}
IsOfRefused WriteFault = Unit {0}
IsOfRefused NoMemory = Unit {0}
IsOfRefused other = ⊥

-- the same files beside a sink that tells this and failed so often
abbrev pub with_sink : Outside → (written : Option (List ℕ)) → (faults : ℕ) → Outside
with_sink seen written faults = record seen { written = written; write_faults = faults }

-- The end of a run that leaves the files alone, whatever they tell.
abbrev pub EndsOnSink : (Contents → Option Answer) → (old new : Option (List ℕ)) → (before now : ℕ) → Status → Type 0
EndsOnSink answer old new before now status = (seen : Outside) → EndsAs answer (with_sink seen old before) (with_sink seen new now) status
