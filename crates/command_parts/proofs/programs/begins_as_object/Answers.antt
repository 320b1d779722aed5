use Rattle.command_parts.specs.FilePrograms.{begins_as_object}
use Rattle.command_parts.proofs.programs.begins_as_object.Goals as goal

pub returns : goal.returns
unfolding begins_as_object
returns c = c.starts_with.ensures.value
