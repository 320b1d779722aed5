use Rattle.file_commands.proofs.NamedConstructors.{constructors_named}
use Rattle.file_commands.proofs.laws.constructors_are_named.Goals as goal

pub returns : goal.returns
returns c = constructors_named
