use Rattle.std.proofs.Common.{sym, subst}
use Rattle.sha2.specs.Sha256.{sha256}
use Rattle.session_meaning.specs.Server.{new_server}
use Rattle.serve_core.specs.Serving.{Serves}
use Rattle.core_stage.proofs.stage.server_at.Goals as goal

pub returns : goal.returns
returns g c =
    let v = c.requires.version in
    (new_server v.0, subst (λ core. Serves sha256 core (new_server v.0)) (sym c.in_ok-new.ensures.ok) (c.in_ok-core.ensures.serves v.0 c.requires.limit v.1))
