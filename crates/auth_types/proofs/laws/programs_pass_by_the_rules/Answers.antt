use Rattle.auth_types.proofs.RuledPrograms.{denotes_what_passes, tells_the_first}
use Rattle.auth_types.proofs.RuledTypes.{written_types_stand}
use Rattle.auth_types.proofs.laws.programs_pass_by_the_rules.Goals as goal

pub returns : goal.returns
returns c = record { passes = denotes_what_passes; tells = tells_the_first; types = written_types_stand }
