-- What is read of a packed node.
use Rattle.std.proofs.Common.{◌≡◌, ℕ, ◌<◌, List, [], length, Some, slice_get, slice_index_or, sym, ap, ◌∙◌, subst}
use Rattle.std.specs.Option.{option_map, option_map_or}
use Rattle.std.proofs.lemmas.List.{length-map}
use Rattle.std.proofs.lemmas.Option.{slice_get-get_or}
use Rattle.core_terms.specs.declared.digest.Digest.{Digest}
use Rattle.value_store.specs.Nodes as meant
use Rattle.value_store.specs.Nodes.{form_at}
use Rattle.value_store.specs.CodeNodes.{digest_in, form_of, node_of, nodes_of}
use Rattle.value_store.specs.Placing.{ArePlaced, IsPlaced}
use Rattle.value_store.specs.declared.node.Ref.{Ref}
use Rattle.value_store.specs.declared.node.Form.{Form}
use Rattle.value_store.specs.declared.node.Node.{Node}
use Rattle.value_store.proofs.Pools.{node_read}

module _ (p : List Ref) (d : List Digest) (nodes : List Node) (i : ℕ) (node : Node) (there : i < length (nodes_of p d nodes)) (is : node ≡ slice_index_or nodes i node) where
  read : slice_get nodes i ≡ Some node
  read = slice_get-get_or nodes i node (subst (λ n. i < n) (length-map nodes (node_of p d)) there) ∙ ap Some (sym is)

  pub placed_at : ArePlaced p d nodes → IsPlaced p d node
  placed_at placed = placed i node read

  pub view_is : (form : Form) (shown : meant.Form) → node.form ≡ form → form_of p d node.ends.parts form ≡ shown → form_at (nodes_of p d nodes) i ≡ Some shown
  view_is form shown at same =
      ap (option_map (λ (n : meant.Node). n.form)) (node_read p d nodes i node there is) ∙ ap Some (ap (form_of p d node.ends.parts) at ∙ same)

pub digest_is : (digests : List Digest) (i : ℕ) (digest : Digest) → i < length digests → digest ≡ slice_index_or digests i digest → digest_in digests i ≡ digest.0
digest_is digests i digest below is = ap (λ o. option_map_or (λ (x : Digest). x.0) o []) (slice_get-get_or digests i digest below ∙ ap Some (sym is))
