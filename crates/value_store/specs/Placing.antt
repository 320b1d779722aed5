-- Where nodes have their parts and digests in the pools, and what is added behind nodes.
use Rattle.std.specs.Prelude.{◌≡◌, ℕ, ◌+◌, ◌<◌, ◌≤◌, List, [], ◌∷◌, ◌++◌, length, Result, Ok, Err, Some, slice_get}
use Rattle.core_terms.specs.declared.digest.Digest.{Digest}
use Rattle.value_store.specs.Nodes as meant
use Rattle.value_store.specs.declared.node.Ref.{Ref}
use Rattle.value_store.specs.declared.node.Form.{Form}
use Rattle.value_store.specs.declared.node.Form.TheVariants.{ConstructorNode, VecNode, BothNode, OnlyNode}
use Rattle.value_store.specs.declared.node.Ends.{Ends}
use Rattle.value_store.specs.declared.node.Node.{Node}

-- where the parts of a form begin in the pool, and where its digest ends; 0 where it has none
abbrev pub parts_from : Form → ℕ
parts_from (ConstructorNode tag depth size named start) = start
parts_from (VecNode depth size start) = start
parts_from form = 0

abbrev pub digests_to : Form → ℕ
digests_to (BothNode digest inner) = digest + 1
digests_to (OnlyNode digest) = digest + 1
digests_to form = 0

-- what a form names of the pools lies before these places
abbrev pub LiesBefore : (parts digests : ℕ) → Form → Type 0
LiesBefore parts digests form = (parts_from form ≤ parts) × (digests_to form ≤ digests)

-- ends come no later than others
abbrev pub EndsBy : (parts digests : ℕ) → Ends → Type 0
EndsBy parts digests ends = (ends.parts ≤ parts) × (ends.digests ≤ digests)

-- The node's parts and digest lie before its ends, and these within the pools.
pub record IsPlaced (parts : List Ref) (digests : List Digest) (node : Node) : Type 0 where
  pub lies : LiesBefore node.ends.parts node.ends.digests node.form
  pub within : EndsBy (length parts) (length digests) node.ends

abbrev pub ArePlaced : List Ref → List Digest → List Node → Type 0
ArePlaced parts digests nodes = (i : ℕ) (node : Node) → slice_get nodes i ≡ Some node → IsPlaced parts digests node

-- the first n nodes end by there
abbrev pub FirstEndBy : ℕ → List Node → (parts digests : ℕ) → Type 0
FirstEndBy n nodes parts digests = (i : ℕ) (node : Node) → i < n → slice_get nodes i ≡ Some node → EndsBy parts digests node.ends

-- the ends rise
abbrev pub Rise : List Node → Type 0
Rise nodes = (n : ℕ) (last : Node) → slice_get nodes n ≡ Some last → FirstEndBy n nodes last.ends.parts last.ends.digests

-- a node of these parts
abbrev pub with_parts : meant.Form → ℕ → ℕ → meant.Node
with_parts form size depth = record { form = form; size = size; depth = depth }

-- The node was put behind the others. Where memory was wanting, nothing is changed.
abbrev pub Adds : {X E : Type 0} → (old : List meant.Node) → meant.Node → Result X E → (new : List meant.Node) → Type 0
Adds old node (Ok _) new = new ≡ old ++ node ∷ []
Adds old node (Err _) new = new ≡ old
