-- Calls of roles that run.
use Rattle.std.specs.Prelude.{ℕ, List}
use Rattle.core_terms.specs.Formats.{Hash}
use Rattle.core_terms.specs.Values.{Value}
use Rattle.code_gen.specs.declared.code.Code.{Code}
use Rattle.ideal_meaning.specs.Headline.{call_values}
use Rattle.mode_vm.specs.Meanings.{program_of}
use Rattle.session_meaning.specs.Calls.{RoleCall, role_in}
use Rattle.value_store.specs.Nodes.{Node}
use Rattle.session_turns.specs.Running.{IsRunning}
use Rattle.session_turns.specs.Sharing.{IsCommit}
use Rattle.session_turns.specs.declared.commit.Commit.{Commit}
use Rattle.session_turns.specs.declared.running.Running.{Running}

-- What runs is this call on this state, behind so many calls of functions; what would be committed is the call.
abbrev pub IsRunOf : Hash → Code → {A : Type 0} → List Node → Running A → Commit → (state : Value) → RoleCall → (made : ℕ) → Type 0
IsRunOf hash code base run commit state call made =
    IsRunning hash code base run (role_in (program_of code) call.role).function (call_values state call.argument) call.fuel made × IsCommit commit call
