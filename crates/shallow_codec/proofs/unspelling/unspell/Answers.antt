use Rattle.core_terms.specs.ProgramTypes.{types_meaning}
use Rattle.shallow_codec.specs.ProgramTypes.{table, ty_of}
use Rattle.shallow_codec.proofs.GrownNodes.{keeps}
use Rattle.shallow_codec.proofs.WholeReading.{spelled_ok}
use Rattle.shallow_codec.proofs.unspelling.unspell.Goals as goal

pub returns-else-is_err-clause-spelled : goal.returns-else-is_err-clause-spelled
returns-else-is_err-clause-spelled g c =
    spelled_ok (types_meaning c.args.types.now).format.limit (table c.args.types.now) (g.N.Nodes.nodes c.read_whole-result.new.store) (ty_of c.args.types.now c.args.ty) c.args.bytes.now
    c.read_whole-result.result (λ i. (c.type_inv.bytes i).fits) c.read_whole-result.ensures.value

pub returns-else-is_err-clause-keeps : goal.returns-else-is_err-clause-keeps
returns-else-is_err-clause-keeps g c = keeps (g.N.Nodes.nodes c.args.store.now) (g.N.Nodes.nodes c.read_whole-result.new.store) c.read_whole-result.ensures.grows
