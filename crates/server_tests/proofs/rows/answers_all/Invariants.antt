use Rattle.sha2.specs.Sha256.{sha256}
use Rattle.session_meaning.specs.Server as meant
use Rattle.serve_core.specs.Serving.{Serves}
use Rattle.server_tests.proofs.rows.answers_all.Given as goal

abbrev pub invariant-loop-on_one : goal.invariant-loop-on_one
invariant-loop-on_one g l = (server : meant.Server) × Serves sha256 l.core server
