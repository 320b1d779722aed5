use Rattle.std.proofs.Common.{sym, subst}
use Rattle.core_terms.specs.Values.{UnitV}
use Rattle.session_meaning.specs.Server.{version_at}
use Rattle.value_store.specs.Stores.{nodes_in}
use Rattle.value_store.specs.declared.node.Ref.{Ref}
use Rattle.session_turns.specs.Versions.{IsVersion}
use Rattle.session_turns.proofs.Rows.{alike_get}
use Rattle.session_turns.proofs.shared.Shared.version.Goals as goal

pub returns : goal.returns
returns c hash P shared shares =
    let nodes = nodes_in c.args.self.now.store in
    subst (λ (r : Ref). IsVersion hash P nodes r (version_at shared.versions c.args.number)) (sym c.index.ensures)
    (alike_get (IsVersion hash P nodes) c.args.number c.args.self.now.versions.items shared.versions c.index.result.now UnitV shares.versions c.requires)
