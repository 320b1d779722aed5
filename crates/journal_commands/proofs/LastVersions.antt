-- The last version that a journal keeps: its node is that of a state, and its image is stored.
use Rattle.std.proofs.Common.{◌≡◌, ◌<◌, ◌-◌, ℕ, List, length, get_or, Result, Vec, ap, ap₂, sym, ◌∙◌, subst, arith}
use Rattle.sha2.specs.Sha256.{sha256}
use Rattle.std.specs.declared.alloc.Global.{Global}
use Rattle.code_gen.specs.Programs.{program_in}
use Rattle.code_gen.specs.declared.code.Code.{Code}
use Rattle.core_terms.specs.Programs.{meaning}
use Rattle.core_terms.specs.ProgramTypes.{types_meaning}
use Rattle.core_terms.specs.Projection.{digest_at}
use Rattle.core_terms.specs.Values.{UnitV}
use Rattle.core_terms.specs.declared.digest.Digest.{Digest}
use Rattle.core_terms.specs.declared.program.Program.{Program as Held}
use Rattle.core_terms.specs.declared.program_types.Types.{Types}
use Rattle.images.specs.LoadedRoots.{IsStateAt}
use Rattle.images.specs.SavedImages.{saved_image}
use Rattle.images.specs.Saves.{IsSaved}
use Rattle.images.specs.declared.fault.SaveFault.{SaveFault}
use Rattle.mode_vm.specs.Meanings.{program_of}
use Rattle.printed_lines.specs.Lines.{versions_line}
use Rattle.session_meaning.specs.Server as meant
use Rattle.session_turns.specs.Sharing.{IsCommit, Shares}
use Rattle.session_turns.specs.Versions.{IsVersion}
use Rattle.session_turns.specs.declared.shared.Shared.{Shared}
use Rattle.session_turns.proofs.Rows.{alike_get, alike_length}
use Rattle.value_store.specs.Stores.{nodes_in}
use Rattle.value_store.specs.declared.node.Ref.{Ref}
use Rattle.value_store.specs.declared.store.Store.{Store}
use Rattle.value_store.proofs.ProverNodes.{shown_ideal}
use Rattle.command_parts.specs.AnswerForms.{says}
use Rattle.command_parts.specs.declared.status.Status.TheVariants.{Done}
use Rattle.command_parts.proofs.MarkedStates.{saved_by_types}
use Rattle.journal_commands.specs.JournalAnswers.{last_of}

module _ (code : Code) (shared : Shared) (same : meant.Shared) (shares : Shares sha256 (program_of code) shared same) where
  abbrev p : Held
  p = program_in code

  abbrev refs : List Ref
  refs = shared.versions.items

  pub same_number : length refs ≡ length same.versions
  same_number = alike_length (IsVersion sha256 (program_of code) (nodes_in shared.store)) refs same.versions shares.versions

  -- so many versions and commits are told
  pub last_line : (text : Vec ℕ Global) (versions commits : ℕ) → versions ≡ length refs → commits ≡ length shared.commits.items → text.items ≡ versions_line versions commits
      → says Done (versions_line (length same.versions) (length same.commits)) ≡ says Done text.items
  last_line text versions commits is_versions is_commits told =
      ap (says Done) (sym (told ∙ ap₂ versions_line (is_versions ∙ same_number) (is_commits ∙ alike_length IsCommit shared.commits.items same.commits shares.commits)))

  abbrev node : Ref → Ref
  node none = get_or refs (length refs - 1) none

  -- the node of the last version stands for it
  last_stands : 0 < length refs → (none : Ref) → IsVersion sha256 (program_of code) (nodes_in shared.store) (node none) (last_of same)
  last_stands some none =
      subst (λ n. IsVersion sha256 (program_of code) (nodes_in shared.store) (node none) (get_or same.versions (n - 1) UnitV)) same_number
      (alike_get (IsVersion sha256 (program_of code) (nodes_in shared.store)) (length refs - 1) refs same.versions none UnitV shares.versions (omega (arith, some)))

  module _ (types : Types) (is_types : types ≡ p.types) (store : Store) (at : store ≡ shared.store) where
    -- it is that of a state
    pub last_is_state : 0 < length refs → (none root : Ref) → root ≡ node none → IsStateAt (types_meaning types) store root (last_of same)
    last_is_state some none root found =
        subst (λ root. IsStateAt (types_meaning types) store root (last_of same)) (sym found)
        (subst (λ store. IsStateAt (types_meaning types) store (node none) (last_of same)) (sym at)
        (subst (λ (types : Types). IsStateAt (types_meaning types) shared.store (node none) (last_of same)) (sym is_types)
        (shown_ideal (digest_at sha256 (meaning p)) (meaning p).types (nodes_in shared.store) (meaning p).state (last_of same) (node none).0 (last_stands some none))))

    -- what is saved is the image of the program
    pub last_is_saved : (digest : Digest) (result : Result (Vec ℕ Global) SaveFault) → digest ≡ p.text_digest → IsSaved (saved_image (types_meaning types) digest.0 (last_of same)) result
        → IsSaved (saved_image (meaning p) p.text_digest.0 (last_of same)) result
    last_is_saved digest result own saved = saved_by_types p types digest (last_of same) result is_types own saved
