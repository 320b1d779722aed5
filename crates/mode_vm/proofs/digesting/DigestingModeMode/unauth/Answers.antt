use Rattle.std.proofs.Common.{refl}
use Rattle.core_terms.specs.ProgramTypes.{types_by_number, types_meaning}
use Rattle.core_terms.specs.Projection.{digest_at}
use Rattle.core_terms.specs.TypeTables.{type_at}
use Rattle.mode_vm.proofs.digesting.DigestingModeMode.unauth.Goals as goal

pub returns-clause-opens : goal.returns-clause-opens
returns-clause-opens g c x w stands follows =
    let P = types_meaning c.args._types.now in
    (x, _, refl, c.inner_of.ensures (digest_at g.H.Hash32.hash P) P.types (type_at (types_by_number c.args._types.now) c.args._ty) x stands, tt)
