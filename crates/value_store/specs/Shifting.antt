-- Packed nodes that are moved behind others, with the numbers in them.
use Rattle.std.specs.Prelude.{◌≡◌, ℕ, ◌+◌, ◌-◌, ◌%◌, ◌^◌, ◌<◌, List, ◌++◌, length, nat_lt, if◌then◌else◌}
use Rattle.core_terms.specs.declared.digest.Digest.{Digest}
use Rattle.value_store.specs.Nodes as meant
use Rattle.value_store.specs.Moving.{moved_ref}
use Rattle.value_store.specs.CodeNodes.{nodes_of}
use Rattle.value_store.specs.declared.node.Ref.{Ref}
use Rattle.value_store.specs.declared.node.Form.{Form}
use Rattle.value_store.specs.declared.node.Form.TheVariants.{PairNode, ConstructorNode, VecNode, InnerNode, BothNode, OnlyNode}
use Rattle.value_store.specs.declared.node.Node.{Node}
use Rattle.value_store.specs.declared.packed.Packed.{Packed}
use Rattle.value_store.specs.declared.absorbing.Shift.{Shift}

-- as a number is moved; one that can't be a node's may wrap
abbrev pub wrapped_ref : (from up : ℕ) → ℕ → ℕ
wrapped_ref from up r = if nat_lt r from then r else (r + up) % 2 ^ 64

module _ (shift : Shift) where
  abbrev pub shifted_ref : Ref → Ref
  shifted_ref r = record { 0 = moved_ref shift.from shift.up r.0 }

  abbrev pub shifted_form : Form → Form
  shifted_form (PairNode depth size first second) = PairNode depth size (moved_ref shift.from shift.up first) (moved_ref shift.from shift.up second)
  shifted_form (ConstructorNode tag depth size named start) = ConstructorNode tag depth size named (start + shift.parts)
  shifted_form (VecNode depth size start) = VecNode depth size (start + shift.parts)
  shifted_form (InnerNode inner) = InnerNode (shifted_ref inner)
  shifted_form (BothNode digest inner) = BothNode (digest + shift.digests) (shifted_ref inner)
  shifted_form (OnlyNode digest) = OnlyNode (digest + shift.digests)
  shifted_form form = form

  abbrev pub shifted_node : Node → Node
  shifted_node node = record { form = shifted_form node.form; ends = record { parts = node.ends.parts + shift.parts; digests = node.ends.digests + shift.digests } }

  -- what is moved fits
  abbrev pub FormShifts : Form → Type 0
  FormShifts (PairNode depth size first second) = (first + shift.up < 2 ^ 32) × (second + shift.up < 2 ^ 32)
  FormShifts (ConstructorNode tag depth size named start) = start + shift.parts < 2 ^ 32
  FormShifts (VecNode depth size start) = start + shift.parts < 2 ^ 32
  FormShifts (InnerNode inner) = inner.0 + shift.up < 2 ^ 64
  FormShifts (BothNode digest inner) = (digest + shift.digests < 2 ^ 32) × (inner.0 + shift.up < 2 ^ 64)
  FormShifts (OnlyNode digest) = digest + shift.digests < 2 ^ 32
  FormShifts form = Unit {0}

  pub record NodeShifts (node : Node) : Type 0 where
    pub form : FormShifts node.form
    pub parts : node.ends.parts + shift.parts < 2 ^ 32
    pub digests : node.ends.digests + shift.digests < 2 ^ 32

-- own nodes that are put behind others go so far, and all numbers fit
pub record IsRoomFor (packed own : Packed) (from : ℕ) (shift : Shift) : Type 0 where
  pub from_is : shift.from ≡ from
  pub up_is : shift.up ≡ length packed.nodes.items - from
  pub parts_is : shift.parts ≡ length packed.parts.items
  pub digests_is : shift.digests ≡ length packed.digests.items
  pub nodes_fit : length packed.nodes.items + length own.nodes.items < 2 ^ 32
  pub parts_fit : shift.parts + length own.parts.items < 2 ^ 32
  pub digests_fit : shift.digests + length own.digests.items < 2 ^ 32

-- the nodes where others stand behind, with what these have behind the pools
abbrev pub joined_nodes : Packed → List Node → List Ref → List Digest → List meant.Node
joined_nodes packed nodes parts digests = nodes_of (packed.parts.items ++ parts) (packed.digests.items ++ digests) (packed.nodes.items ++ nodes)
