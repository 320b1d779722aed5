use Rattle.auth_types.proofs.RulesOfBodies.{passes_by_the_rules, tells_what_breaks}
use Rattle.auth_types.proofs.laws.expressions_pass_by_the_rules.Goals as goal

pub returns : goal.returns
returns c = record { passes = passes_by_the_rules; tells = tells_what_breaks }
