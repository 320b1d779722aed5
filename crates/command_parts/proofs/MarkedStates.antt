-- The prover's nodes of a state, and their projections; its images, by the types of its program.
use Rattle.std.proofs.Common.{◌≡◌, ℕ, List, Result, Vec, Global, sym, ap₂, subst, subst₂, ◌∙◌}
use Rattle.sha2.specs.Sha256.{sha256}
use Rattle.sha2.proofs.Facts256.{length-sha256}
use Rattle.core_terms.specs.Programs.{meaning}
use Rattle.core_terms.specs.ProgramTypes.{types_meaning}
use Rattle.core_terms.specs.Projection.{digest_at, projection}
use Rattle.core_terms.specs.Types.{Ty}
use Rattle.core_terms.specs.Values.{Value}
use Rattle.core_terms.specs.declared.digest.Digest.{Digest}
use Rattle.core_terms.specs.declared.program.Program.{Program}
use Rattle.core_terms.specs.declared.program_types.Types.{Types}
use Rattle.images.specs.Images.{image_of}
use Rattle.images.specs.SavedImages.{saved_image}
use Rattle.images.specs.Saves.{IsSaved}
use Rattle.images.specs.declared.fault.SaveFault.{SaveFault}
use Rattle.images.specs.declared.load.Loaded.{Loaded}
use Rattle.value_store.specs.Markings.{HasLimit}
use Rattle.value_store.specs.Nodes.{Node}
use Rattle.value_store.specs.Standing.{ProverNodes, StandsFor, VerifierNodes}
use Rattle.value_store.proofs.ProverNodes.{shown_shallow}
use Rattle.images.proofs.ImagesByTypes.{images_alike}
use Rattle.value_store.specs.Stores.{nodes_in, store_lent}
use Rattle.command_parts.specs.StoredStates.{IsStoredState}

-- what stands for a value over the prover's nodes stands for its projection over the verifier's
pub projected : (p : Program) (nodes : List Node) (t : Ty) (v : Value) (r : ℕ) → StandsFor (ProverNodes (digest_at sha256 (meaning p))) (meaning p).types nodes r t v
    → StandsFor VerifierNodes (meaning p).types nodes r t (projection sha256 (meaning p) t v)
projected p nodes t v r h = shown_shallow (digest_at sha256 (meaning p)) (meaning p).types (λ t bytes. length-sha256 _) nodes t v r h

-- an image of the program, by its types and the digest of its text
pub image_by_types : (p : Program) (types : Types) (digest : Digest) (bytes : List ℕ) → types ≡ p.types → digest ≡ p.text_digest
    → image_of (types_meaning types) digest.0 bytes ≡ image_of (meaning p) p.text_digest.0 bytes
image_by_types p types digest bytes is same =
    ap₂ (λ (t : Types) (d : Digest). image_of (types_meaning t) d.0 bytes) is same ∙ sym (images_alike p.types p.functions.items p.code p.text_digest.0 bytes)

-- and one that is written
pub saved_by_types : (p : Program) (types : Types) (digest : Digest) (v : Value) (result : Result (Vec ℕ Global) SaveFault) → types ≡ p.types → digest ≡ p.text_digest
    → IsSaved (saved_image (types_meaning types) digest.0 v) result → IsSaved (saved_image (meaning p) p.text_digest.0 v) result
saved_by_types p types digest v result is same h = subst₂ (λ (t : Types) (d : Digest). IsSaved (saved_image (types_meaning t) d.0 v) result) is same h

-- a state that was loaded by the types of the program
pub stored : (p : Program) (types : Types) → types ≡ p.types → (loaded : Loaded) (v : Value) → HasLimit (types_meaning types) (store_lent loaded.store)
    → StandsFor (ProverNodes (digest_at sha256 (types_meaning types))) (types_meaning types).types (nodes_in loaded.store) loaded.root.0 (types_meaning types).state v
    → IsStoredState (meaning p) loaded v
stored p types is loaded v limit stands = record {
  stands = subst (λ (t : Types). StandsFor (ProverNodes (digest_at sha256 (types_meaning t))) (types_meaning t).types (nodes_in loaded.store) loaded.root.0 (types_meaning t).state v) is stands;
  limit = record { is = subst (λ (t : Types). loaded.store.limit ≡ (types_meaning t).format.limit) is limit.is };
}
