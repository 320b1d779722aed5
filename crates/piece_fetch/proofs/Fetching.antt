-- What a run of a verifier over answers comes to.
use Rattle.std.proofs.Common.{ℕ, List, [], Result, Ok, Err, IfOk}
use Rattle.core_terms.specs.Formats.{Hash}
use Rattle.core_terms.specs.Types.{Ty}
use Rattle.core_terms.specs.Terms.{Program}
use Rattle.core_terms.specs.declared.outcome.Outcome.{Outcome}
use Rattle.core_terms.specs.declared.outcome.Outcome.TheVariants.{Done, Trapped, Out}
use Rattle.value_store.specs.Nodes.{Node}
use Rattle.value_store.specs.Markings.{FetcherMarking}
use Rattle.value_store.specs.declared.node.Ref.{Ref}
use Rattle.mode_vm.specs.Meanings.{RunOf}
use Rattle.mode_vm.specs.Runs.{RunIs, RunStands}
use Rattle.mode_vm.specs.declared.state.State.{State}
use Rattle.mode_vm.specs.declared.mode.Stop.{Stop}
use Rattle.mode_vm.specs.declared.mode.Stop.TheVariants as stop
use Rattle.piece_fetch.specs.declared.fetcher.FetcherFault.{FetcherFault}
use Rattle.piece_fetch.specs.Answerings.{IsTo}
use Rattle.piece_fetch.specs.FetchedRuns.{IsFetched}
use Rattle.piece_fetch.specs.Faults.{fault_cause}
use Rattle.verifier_mode.specs.Spelled.{OutcomeStands}

module _ (hash : Hash) (P : Program) (z : Ty) (nodes : List Node) (place : ℕ) (state : State) (run : RunOf (FetcherMarking hash)) where
  pub fetched_as : (result : Result (Outcome Ref) (Stop FetcherFault)) → RunIs (FetcherMarking hash) P z fault_cause (IsTo place []) nodes state result run → IsFetched P nodes z run result
  fetched_as (Ok (Done r)) h = (h.0, state.fuel, h.1, h.2.more, h.3, h.4)
  fetched_as (Ok (Trapped trap)) h = (state.fuel, h.0, h.1.more, h.2)
  fetched_as (Ok Out) h = (state.fuel, h.0, h.1.more, h.2)
  fetched_as (Err (stop.Mode f)) h = λ c e. (let a = h c e in (state.fuel, a.0, a.1))
  fetched_as (Err stop.NoMemory) h = tt

pub stands_on : (hash : Hash) (P : Program) (z : Ty) (nodes : List Node) (result : Result (Outcome Ref) (Stop FetcherFault)) → RunStands (FetcherMarking hash) P z nodes result
    → IfOk result (OutcomeStands P nodes z)
stands_on hash P z nodes (Ok (Done r)) h = h
stands_on hash P z nodes (Ok (Trapped trap)) h = tt
stands_on hash P z nodes (Ok Out) h = tt
stands_on hash P z nodes (Err e) h = tt
