use Rattle.sha2.specs.Sha256.{sha256}
use Rattle.session_meaning.specs.Server as meant
use Rattle.serve_core.specs.Serving.{Serves}
use Rattle.client_tests.proofs.exchange.steps.Given as goal

abbrev pub invariant-loop-step_number : goal.invariant-loop-step_number
invariant-loop-step_number g l = (server : meant.Server) × Serves sha256 l.core server
