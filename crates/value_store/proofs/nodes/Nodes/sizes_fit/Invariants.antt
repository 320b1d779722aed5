use Rattle.std.proofs.Common.{◌≡◌, ◌+◌, drop}
use Rattle.value_store.specs.CodeNodes.{numbers_of}
use Rattle.value_store.specs.Nodes.{total_size}
use Rattle.value_store.proofs.nodes.Nodes.sizes_fit.Given as goal

-- what is left of the limit, and the sizes of the rest
abbrev pub invariant-loop-r : goal.invariant-loop-r
invariant-loop-r g l =
    l.left + total_size (g.Self.Nodes.nodes l.fn.self) (numbers_of l.fn.refs) ≡ l.fn.limit + total_size (g.Self.Nodes.nodes l.fn.self) (numbers_of (drop l.r-index l.fn.refs))
