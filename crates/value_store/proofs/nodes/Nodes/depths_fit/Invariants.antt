use Rattle.std.proofs.Common.{◌≤◌, max, drop}
use Rattle.value_store.specs.CodeNodes.{numbers_of}
use Rattle.value_store.specs.Nodes.{greatest_depth}
use Rattle.value_store.proofs.nodes.Nodes.depths_fit.Given as goal

-- the greatest depth is that of the rest, or at most the limit
abbrev pub invariant-loop-r : goal.invariant-loop-r
invariant-loop-r g l = record {
  at_most : greatest_depth (g.Self.Nodes.nodes l.fn.self) (numbers_of l.fn.refs) ≤ max l.fn.limit (greatest_depth (g.Self.Nodes.nodes l.fn.self) (numbers_of (drop l.r-index l.fn.refs)));
  at_least : greatest_depth (g.Self.Nodes.nodes l.fn.self) (numbers_of (drop l.r-index l.fn.refs)) ≤ greatest_depth (g.Self.Nodes.nodes l.fn.self) (numbers_of l.fn.refs);
}
