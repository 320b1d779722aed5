-- A packed node that is added, as the node that its form shows.
use Rattle.std.proofs.Common.{◌≡◌, ℕ, List, Result, sym, ap, ap₂, ◌∙◌, subst}
use Rattle.core_terms.specs.declared.digest.Digest.{Digest}
use Rattle.value_store.specs.Nodes as meant
use Rattle.value_store.specs.Nodes.{form_depth, form_size}
use Rattle.value_store.specs.CodeNodes.{form_of, kept_depth, kept_size, node_with_end}
use Rattle.value_store.specs.Placing.{Adds, with_parts}
use Rattle.value_store.specs.declared.node.Ref.{Ref}
use Rattle.value_store.specs.declared.node.Form.{Form}

-- the size and the depth are those of the form
abbrev pub Told : (size depth : ℕ) → meant.Form → Type 0
Told size depth form = (nodes : List meant.Node) × (size ≡ form_size nodes form) × (depth ≡ form_depth nodes form)

pub told_as : (size depth : ℕ) (f g : meant.Form) → f ≡ g → Told size depth f → Told size depth g
told_as size depth f g e told = (told.0, told.1 ∙ ap (form_size told.0) e, told.2 ∙ ap (form_depth told.0) e)

module _ {X E : Type 0} (p : List Ref) (d : List Digest) (end size depth : ℕ) (old before new : List meant.Node) (result : Result X E) where
  pub put_as : (code : Form) (form shown : meant.Form) → before ≡ old → Adds before (node_with_end p d end code) result new → shown ≡ form
      → form_of p d end code ≡ form → kept_size code ≡ size → kept_depth code ≡ depth → Adds old (with_parts shown size depth) result new
  put_as code form shown same h is f s t =
      subst (λ xs. Adds xs (with_parts shown size depth) result new) same
      (subst (λ n. Adds before n result new)
      (ap (λ x. with_parts x (kept_size code) (kept_depth code)) (f ∙ sym is) ∙ ap₂ (with_parts shown) s t) h)
