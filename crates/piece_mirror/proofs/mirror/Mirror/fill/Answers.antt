use Rattle.std.proofs.Common.{◌+◌, ℕ, List, drop, sym, ap, ◌∙◌, subst, arith}
use Rattle.core_terms.specs.ProgramTypes.{types_meaning}
use Rattle.core_terms.specs.Projection.{digest_at}
use Rattle.core_terms.specs.declared.types.TyId.{TyId}
use Rattle.value_store.specs.Stores.{nodes_in}
use Rattle.value_store.specs.declared.node.Ref.{Ref}
use Rattle.value_store.proofs.ProverNodes.{shown_ideal}
use Rattle.images.specs.AuthOrders.{auth_entries}
use Rattle.piece_mirror.specs.Mirrors.{added}
use Rattle.piece_mirror.specs.Tables.{bytes_of}
use Rattle.piece_mirror.proofs.Filling.{Filling, begins, ends_at, next_at, on_err, part}
use Rattle.piece_mirror.proofs.mirror.Mirror.fill.Goals as goal

pub auth_order-requires : goal.auth_order-requires
auth_order-requires g c =
    let P = types_meaning c.args.types.now in
    (c.requires.0, shown_ideal (digest_at g.H.Hash32.hash P) P.types (nodes_in c.args.store.now) P.state c.requires.0 c.args.root.0 c.requires.1)

pub loop-ty-init : goal.loop-ty-init
loop-ty-init g c = λ v h.
    let hash = g.H.Hash32.hash in
    let p = c.args.types.now in
    let P = types_meaning p in
    let nodes = nodes_in c.args.store.now in
    let entries = auth_entries P.types P.state v in
    let ideal = shown_ideal (digest_at hash P) P.types nodes P.state v c.args.root.0 h in
    let F : List (TyId × Ref) → Type 0 =
    λ items. Filling hash p nodes c.args.root.0 v h (bytes_of c.args.self.now.pieces) entries (bytes_of c.args.self.now.pieces) (drop 0 items) in
    subst F (sym c.as_slice-ty-items.ensures.value)
    (begins hash p nodes c.args.root.0 v h (bytes_of c.args.self.now.pieces) entries c.in_ok-order.order.items (c.in_ok-order.ensures.order v ideal) c.in_ok-order.ensures.reached)

pub piece_at-requires-clause-stands : goal.piece_at-requires-clause-stands
piece_at-requires-clause-stands g c κs within =
    let hash = g.H.Hash32.hash in
    let p = c.args.types.now in
    let P = types_meaning p in
    let v = c.requires.0 in
    let h = c.requires.1 in
    let step = next_at hash p (nodes_in c.args.store.now) c.args.root.0 v h (bytes_of c.args.self.now.pieces) (auth_entries P.types P.state v) (bytes_of c.loop-ty.self.pieces)
    c.as_slice-ty-items.result.now c.loop-ty.ty-index _ c.loop-ty-test.true (c.loop-ty.invariant v h) in
    (step.value, step.stands)

pub returns-in_err-piece-clause-refused : goal.returns-in_err-piece-clause-refused
returns-in_err-piece-clause-refused g c = λ v h.
    let p = c.args.types.now in
    let P = types_meaning p in
    on_err c.from_residual-in_err-piece.result _
    (part g.H.Hash32.hash p (nodes_in c.args.store.now) c.args.root.0 v h (bytes_of c.args.self.now.pieces) (auth_entries P.types P.state v) (bytes_of c.loop-ty.self.pieces) _
    (c.loop-ty.invariant v h))

pub returns-in_err-put-clause-refused : goal.returns-in_err-put-clause-refused
returns-in_err-put-clause-refused g c = λ v h.
    let p = c.args.types.now in
    let P = types_meaning p in
    let before = part g.H.Hash32.hash p (nodes_in c.args.store.now) c.args.root.0 v h (bytes_of c.args.self.now.pieces) (auth_entries P.types P.state v) (bytes_of c.loop-ty.self.pieces) _
    (c.loop-ty.invariant v h) in
    on_err c.from_residual-in_err-put.result _ (before.0, c.in_err-put.ensures.refused ∙ before.1)

pub loop-ty-preserved : goal.loop-ty-preserved
loop-ty-preserved g c = λ v h.
    let hash = g.H.Hash32.hash in
    let p = c.args.types.now in
    let P = types_meaning p in
    let entries = auth_entries P.types P.state v in
    let step = next_at hash p (nodes_in c.args.store.now) c.args.root.0 v h (bytes_of c.args.self.now.pieces) entries (bytes_of c.loop-ty.self.pieces)
    c.as_slice-ty-items.result.now c.loop-ty.ty-index _ c.loop-ty-test.true (c.loop-ty.invariant v h) in
    let is = c.deref.ensures.value ∙ c.in_ok-piece.ensures.piece step.value step.stands in
    let now = c.in_ok-put.ensures.put ∙ ap (added (bytes_of c.loop-ty.self.pieces)) is in
    let F : List (List ℕ) → Type 0 =
    λ now. Filling hash p (nodes_in c.args.store.now) c.args.root.0 v h (bytes_of c.args.self.now.pieces) entries now (drop (c.loop-ty.ty-index + 1) c.as_slice-ty-items.result.now) in
    subst F (sym now) step.go

pub returns-clause-filled : goal.returns-clause-filled
returns-clause-filled g c = λ v h.
    let p = c.args.types.now in
    let P = types_meaning p in
    ends_at g.H.Hash32.hash p (nodes_in c.args.store.now) c.args.root.0 v h (bytes_of c.args.self.now.pieces) (auth_entries P.types P.state v) (bytes_of c.loop-ty.self.pieces)
    c.as_slice-ty-items.result.now c.loop-ty.ty-index (omega (arith, c.loop-ty-test.false)) (c.loop-ty.invariant v h)
