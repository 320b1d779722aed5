use Rattle.std.proofs.Common.{refl, sym, arith}
use Rattle.value_store.proofs.Viewed.{placed_at, view_is}
use Rattle.value_store.proofs.packed.Packed.view.Goals as goal

pub shown-requires-clause-parts : goal.shown-requires-clause-parts
shown-requires-clause-parts c =
    let s = c.args.self.now in
    (placed_at s.parts.items s.digests.items s.nodes.items c.args.number c.index-node.result.now c.requires c.index-node.ensures s.placed).lies.0

pub shown-requires-clause-end : goal.shown-requires-clause-end
shown-requires-clause-end c =
    let s = c.args.self.now in
    (placed_at s.parts.items s.digests.items s.nodes.items c.args.number c.index-node.result.now c.requires c.index-node.ensures s.placed).within.0

pub shown-requires-clause-digests : goal.shown-requires-clause-digests
shown-requires-clause-digests c =
    let s = c.args.self.now in
    let is = placed_at s.parts.items s.digests.items s.nodes.items c.args.number c.index-node.result.now c.requires c.index-node.ensures s.placed in
    let a = is.lies.1 in
    let b = is.within.1 in
    omega (arith, a, b)

pub returns : goal.returns
returns c =
    let s = c.args.self.now in
    view_is s.parts.items s.digests.items s.nodes.items c.args.number c.index-node.result.now c.requires c.index-node.ensures c.index-node.result.now.form _ refl (sym c.shown.ensures)
