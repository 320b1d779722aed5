use Rattle.std.proofs.Common.{subst}
use Rattle.core_terms.specs.Programs.{meaning}
use Rattle.core_terms.specs.Values.{Value}
use Rattle.session_turns.specs.Versions.{IsVersion}
use Rattle.sha2.specs.Sha256.{sha256}
use Rattle.value_store.specs.Markings.{HasLimit}
use Rattle.value_store.specs.Stores.{nodes_in, store_lent}
use Rattle.core_stage.proofs.stage.server_from.Goals as goal

pub server_at-requires-clause-version : goal.server_at-requires-clause-version
server_at-requires-clause-version g c = λ lifetimes outlives.
    let first = c.in_ok-first.first in
    subst (λ p. (v : Value) × IsVersion sha256 (meaning p) (nodes_in first.store) first.root v) c.program-2.ensures c.in_ok-first.ensures.version

pub server_at-requires-clause-limit : goal.server_at-requires-clause-limit
server_at-requires-clause-limit g c = λ lifetimes outlives.
    subst (λ p. HasLimit (meaning p) (store_lent c.in_ok-first.first.store)) c.program-2.ensures c.in_ok-first.ensures.limit
