use Rattle.std.proofs.Common.{ltb-true}
use Rattle.core_terms.proofs.SameTypes.{first_of}
use Rattle.core_terms.proofs.program_types.Types.state_type.Goals as goal

pub returns-clause-within : goal.returns-clause-within
returns-clause-within c = ltb-true _ _ (first_of _ _ c.args.self.now.within)
