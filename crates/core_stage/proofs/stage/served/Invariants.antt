use Rattle.sha2.specs.Sha256.{sha256}
use Rattle.session_meaning.specs.Server as meant
use Rattle.serve_core.specs.Serving.{Serves}
use Rattle.core_stage.proofs.stage.served.Given as goal

abbrev pub invariant-loop : goal.invariant-loop
invariant-loop g l = (server : meant.Server) × Serves sha256 l.core server
