use Rattle.std.proofs.lemmas.Result.{IfOk-weaker}
use Rattle.core_terms.specs.ProgramTypes.{types_by_number, types_meaning}
use Rattle.core_terms.specs.TypeTables.{type_at}
use Rattle.value_store.specs.Standing.{IdealNodes}
use Rattle.value_store.specs.Stores.{nodes_in}
use Rattle.value_store.proofs.MarkedNodes.{refers_there}
use Rattle.store_tests.proofs.stage.IdealMarker.mark_auth.Goals as goal

pub put_auth-requires : goal.put_auth-requires
put_auth-requires c =
    record { inner = refers_there IdealNodes (types_meaning c.args._types.now).types (nodes_in c.args.store.now) c.args.inner.0 (type_at (types_by_number c.args._types.now) c.args._ty) c.requires.stands.0 c.requires.stands.1 }

pub returns-clause-stands : goal.returns-clause-stands
returns-clause-stands c =
    IfOk-weaker c.put_auth.result _ _ (λ r holds v stands. holds IdealNodes (types_meaning c.args._types.now).types (type_at (types_by_number c.args._types.now) c.args._ty) v stands)
    c.put_auth.ensures.stands
