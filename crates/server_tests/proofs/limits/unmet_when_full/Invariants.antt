use Rattle.sha2.specs.Sha256.{sha256}
use Rattle.session_meaning.specs.Server as meant
use Rattle.serve_core.specs.Serving.{Serves}
use Rattle.server_tests.proofs.limits.unmet_when_full.Given as goal

abbrev pub invariant-loop-number : goal.invariant-loop-number
invariant-loop-number g l = (server : meant.Server) × Serves sha256 l.core.value server
