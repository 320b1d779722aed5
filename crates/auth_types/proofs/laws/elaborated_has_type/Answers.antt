use Rattle.auth_types.proofs.SoundBodies.{elaborated_has_type}
use Rattle.auth_types.proofs.SoundPrograms.{scope_is_of_program}
use Rattle.auth_types.proofs.laws.elaborated_has_type.Goals as goal

pub returns : goal.returns
returns c = record { has_type = elaborated_has_type; scope = scope_is_of_program }
