-- The nodes of a packed list.
use Rattle.std.specs.Prelude.{List}
use Rattle.value_store.specs.Nodes as meant
use Rattle.value_store.specs.CodeNodes.{nodes_of}
use Rattle.value_store.specs.declared.packed.Packed.{Packed}

-- the nodes, by number
abbrev pub packed_nodes : Packed → List meant.Node
packed_nodes packed = nodes_of packed.parts.items packed.digests.items packed.nodes.items
