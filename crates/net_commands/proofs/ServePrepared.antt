-- A server before its first connection has a history, and the last version of a server.
use Rattle.std.proofs.Common.{◌≡◌, ◌<◌, ◌≤◌, ◌-◌, ℕ, List, [], ◌∷◌, length, get_or, Result, Vec, refl, ap, sym, ◌∙◌, subst, arith, lit≤}
use Rattle.sha2.specs.Sha256.{sha256}
use Rattle.code_gen.specs.Programs.{program_in}
use Rattle.code_gen.specs.declared.code.Code.{Code}
use Rattle.core_terms.specs.Programs.{meaning}
use Rattle.core_terms.specs.Projection.{digest_at}
use Rattle.core_terms.specs.Terms.{Program}
use Rattle.core_terms.specs.Values.{Value, UnitV}
use Rattle.mode_vm.specs.Meanings.{program_of}
use Rattle.serve_core.specs.Serving.{Serves}
use Rattle.serve_core.specs.declared.server.ServeCore.{ServeCore}
use Rattle.serve_links.specs.HistoriesInCode.{HasServed, program_served}
use Rattle.session_meaning.specs.Begun.{IsBegun}
use Rattle.session_meaning.specs.Server.{Server, Shared, begun_server, new_server}
use Rattle.session_turns.specs.Versions.{IsVersion}
use Rattle.session_turns.proofs.Rows.{alike_get, alike_length}
use Rattle.value_store.specs.Nodes.{AreSound, Node}
use Rattle.value_store.specs.Standing.{Kind, ProverNodes}
use Rattle.value_store.specs.Markings.{HasLimit}
use Rattle.value_store.specs.Stores.{nodes_in, store_lent}
use Rattle.value_store.specs.declared.node.Ref.{Ref}
use Rattle.value_store.proofs.DeepNodes.{standing_is_deep}
use Rattle.value_store.proofs.StandingNodes.{within_stands}
use Rattle.value_store.proofs.TypedNodes.{ideal_stands, prover_refers}
use Rattle.core_terms.specs.ProgramTypes.{types_meaning}
use Rattle.core_terms.specs.declared.digest.Digest.{Digest}
use Rattle.core_terms.specs.declared.program.Program.{Program as Held}
use Rattle.core_terms.specs.declared.program_types.Types.{Types}
use Rattle.images.specs.LoadedRoots.{IsStateAt}
use Rattle.images.specs.SavedImages.{saved_image}
use Rattle.images.specs.Saves.{IsSaved}
use Rattle.images.specs.declared.fault.SaveFault.{SaveFault}
use Rattle.std.specs.declared.alloc.Global.{Global}
use Rattle.value_store.specs.declared.store.Store.{Store}
use Rattle.value_store.proofs.ProverNodes.{shown_ideal}
use Rattle.command_parts.specs.Answer.{Serving, first_shared}
use Rattle.command_parts.specs.OutcomeAnswers.{state_image}
use Rattle.command_parts.specs.FueledRoles.{DigestedProgram}
use Rattle.net_commands.specs.PreparedServers.{HoldsProgram}
use Rattle.net_commands.specs.ServeSteps.{IsServer}
use Rattle.net_commands.specs.Serving.{last_image, last_version}
use Rattle.command_parts.proofs.MarkedStates.{saved_by_types}

-- a server that begins as one may has a history, in which nothing was heard
pub begun_served : {A G : Type 0} (core : ServeCore A G) (begun : Shared) → IsBegun (program_served core) begun → Serves sha256 core (begun_server begun) → HasServed sha256 core
begun_served core begun begins serves = record {
  server = begun_server begun;
  history = record { begun = begun; before = []; begins = begins; messages = tt; is = refl };
  serves = serves;
}

-- so does the one that begins with a first version
module _ {A G : Type 0} (core : ServeCore A G) (code : Code) (same : core.code ≡ code) (nodes : List Node) (sound : AreSound (program_of code).format.limit nodes) (root : Ref) (v : Value)
    (stands : IsVersion sha256 (program_of code) nodes root v) where
  abbrev P : Program
  P = program_of code

  abbrev kind : Kind
  kind = ProverNodes (digest_at sha256 P)

  begins : IsBegun P (first_shared v)
  begins = record {
    within = (
      record {
        ideal = ideal_stands kind P.types (prover_refers (digest_at sha256 P) P.types) nodes P.state v root.0 stands;
        fits = within_stands kind P.types nodes P.state v root.0 sound stands;
        deep = standing_is_deep P.format.limit (digest_at sha256 P) P.types nodes root.0 P.state v sound stands;
      },
      tt,
    );
    few = lit≤ tt;
    made = tt;
    asked = tt;
  }

  pub first_served : Serves sha256 core (new_server v) → HasServed sha256 core
  first_served serves = begun_served core (first_shared v) (subst (λ (code : Code). IsBegun (program_of code) (first_shared v)) (sym same) begins) serves

-- the node of the last version stands for it
module _ {A G : Type 0} (core : ServeCore A G) (server : Server) (serves : Serves sha256 core server) (some : 0 < length core.shared.versions.items) where
  abbrev refs : List Ref
  refs = core.shared.versions.items

  abbrev Stands : Ref → Value → Type 0
  Stands = IsVersion sha256 (program_of core.code) (nodes_in core.shared.store)

  same_number : length refs ≡ length server.shared.versions
  same_number = alike_length Stands refs server.shared.versions serves.shares.versions

  pub last_stands : (none : Ref) → Stands (get_or refs (length refs - 1) none) (last_version server)
  last_stands none =
      subst (λ n. Stands (get_or refs (length refs - 1) none) (get_or server.shared.versions (n - 1) UnitV)) same_number
      (alike_get Stands (length refs - 1) refs server.shared.versions none UnitV serves.shares.versions (omega (arith, some)))

-- the first server has a version
pub first_version : {A G : Type 0} (core : ServeCore A G) (v : Value) → Serves sha256 core (new_server v) → 0 < length core.shared.versions.items
first_version core v serves =
    let one = alike_length (IsVersion sha256 (program_of core.code) (nodes_in core.shared.store)) core.shared.versions.items (v ∷ []) serves.shares.versions in omega (arith, one)

-- the node of the last version is that of a state, in a store with the limit of the program's format, and its image that of the last version
module _ {A G : Type 0} (s : Serving) (core : ServeCore A G) (server : Server) (holds : HoldsProgram s core) (is : IsServer core server) (types : Types) (same : types ≡ (program_in core.code).types) where
  abbrev p : Held
  p = program_in core.code

  abbrev node : Ref → Ref
  node none = get_or core.shared.versions.items (length core.shared.versions.items - 1) none

  ideal_last : (none : Ref) → IsStateAt (types_meaning (program_in core.code).types) core.shared.store (node none) (last_version server)
  ideal_last none =
      shown_ideal (digest_at sha256 (meaning p)) (meaning p).types (nodes_in core.shared.store) (meaning p).state (last_version server) (node none).0 (last_stands core server is.serves is.some none)

  pub last_is_state : (none root : Ref) (store : Store) → store ≡ core.shared.store → root ≡ node none → IsStateAt (types_meaning types) store root (last_version server)
  last_is_state none root store at found =
      subst (λ root. IsStateAt (types_meaning types) store root (last_version server)) (sym found)
      (subst (λ store. IsStateAt (types_meaning types) store (node none) (last_version server)) (sym at)
      (subst (λ (types : Types). IsStateAt (types_meaning types) core.shared.store (node none) (last_version server)) (sym same) (ideal_last none)))

  pub last_has_limit : (store : Store) → store ≡ core.shared.store → HasLimit (types_meaning types) (store_lent store)
  last_has_limit store at =
      subst (λ (types : Types). HasLimit (types_meaning types) (store_lent store)) (sym same)
      (subst (λ (store : Store). HasLimit (types_meaning (program_in core.code).types) (store_lent store)) (sym at) (record { is = is.serves.shares.limit.is }))

  pub last_is_saved : (digest : Digest) (result : Result (Vec ℕ Global) SaveFault) → digest ≡ (program_in core.code).text_digest
      → IsSaved (saved_image (types_meaning types) digest.0 (last_version server)) result → IsSaved (last_image s server) result
  unfolding state_image
  last_is_saved digest result own saved =
      subst (λ (q : DigestedProgram). IsSaved (saved_image q.program q.digest (last_version server)) result) holds.program (saved_by_types p types digest (last_version server) result same own saved)
