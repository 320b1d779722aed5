-- Calls that run in turns, over a store that others put nodes behind.
use Rattle.std.specs.Prelude.{◌≡◌, ℕ, ◌≤◌, ◌+◌, List, ◌++◌, length, take, Option, Some, None, Result, Ok, Err, IfOk, is_some, nat_le, ⊤}
use Rattle.std.specs.declared.alloc.AllocError.{AllocError}
use Rattle.core_terms.specs.Formats.{Hash}
use Rattle.core_terms.specs.Values.{Values}
use Rattle.core_terms.specs.declared.outcome.Outcome.{Outcome}
use Rattle.code_gen.specs.declared.code.Code.{Code}
use Rattle.mode_vm.specs.Meanings.{program_of}
use Rattle.prover_mode.specs.Turns.{HasRun, IsIdealOutcome, IsProving, calls_made}
use Rattle.prover_mode.specs.declared.turns.Proving.{Proving}
use Rattle.value_store.specs.Nodes.{AreSound, Node}
use Rattle.value_store.specs.Overs.{own_nodes}
use Rattle.value_store.specs.declared.node.Ref.{Ref}
use Rattle.session_turns.specs.declared.running.Running.{Running}

-- the nodes of a call: the first ones of the store, with its own behind them
abbrev pub nodes_of_call : {A : Type 0} → List Node → Running A → List Node
nodes_of_call base run = take run.from base ++ own_nodes run.own

module _ (hash : Hash) (code : Code) where
  -- The call of function f on these values with fuel k stands behind so many calls of functions; or it has run, and the outcome is
  -- the ideal one. Where memory was wanting nothing is said.
  abbrev pub StandsAt : {A : Type 0} → List Node → Proving A → (f : ℕ) → Values → (k made : ℕ) → Result (Option (Outcome Ref)) AllocError → Type 0
  StandsAt nodes proving f vs k made (Ok None) = IsProving hash code nodes proving f vs k made
  StandsAt nodes proving f vs k made (Ok (Some outcome)) = HasRun hash code nodes proving f vs k × IsIdealOutcome hash code nodes f vs k outcome
  StandsAt nodes proving f vs k made (Err e) = ⊤

  -- So it is among its nodes.
  pub record IsRunning {A : Type 0} (base : List Node) (run : Running A) (f : ℕ) (vs : Values) (k made : ℕ) : Type 0 where
    pub within : run.from ≤ length base
    pub sound : AreSound (program_of code).format.limit (nodes_of_call base run)
    pub stands : StandsAt (nodes_of_call base run) run.proving f vs k made run.last

  -- A call is behind a turn what it is, so many calls of functions further; it has run exactly where it makes no more than those.
  abbrev pub RunsTo : {A : Type 0} → List Node → (units : ℕ) → Running A → Running A → Type 0
  RunsTo base units old new = (f : ℕ) (vs : Values) (k made : ℕ) → IsRunning base old f vs k made
      → IsRunning base new f vs k (made + units)
      × IfOk new.last (λ told. is_some told ≡ nat_le (calls_made (program_of code) f vs k) (made + units))
