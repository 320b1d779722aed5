use Rattle.std.proofs.Common.{◌≡◌, ◌+◌, ◌++◌, true, List, [], length, drop, refl, sym, ap, ◌∙◌, subst, arith, true≢false}
use Rattle.std.proofs.lemmas.List.Elements.{All-nil}
use Rattle.core_terms.specs.ProgramTypes.{types_by_number, types_meaning}
use Rattle.core_terms.specs.TypeTables.{stands_behind, type_of_form}
use Rattle.core_terms.specs.declared.types.TyId.{TyId}
use Rattle.images.specs.FormTypes.{form_told, id_in, inner_told}
use Rattle.images.specs.Images.{Entry}
use Rattle.images.specs.Parts.{is_part}
use Rattle.images.specs.Reached.{AllReached, OrderReached}
use Rattle.value_store.specs.CodeNodes.{numbers_of}
use Rattle.images.proofs.ReachedNodes.{order_reached}
use Rattle.images.specs.SavedImages.{distinct, walk}
use Rattle.value_store.specs.Standing.{IdealNodes}
use Rattle.value_store.specs.Stores.{nodes_in}
use Rattle.value_store.specs.Views.{form_shown}
use Rattle.value_store.specs.declared.node.Ref.{Ref}
use Rattle.value_store.proofs.StandingNodes.{there_stands}
use Rattle.images.proofs.BehindParts.{behind_distinct, walk_behind}
use Rattle.images.proofs.DistinctEntries.{all_distinct}
use Rattle.images.proofs.FitEntries.{part_walk}
use Rattle.images.proofs.OrderedEntries.{Ordering, ordering_begins, ordering_ends, ordering_next, there}
use Rattle.images.proofs.PartLevels.{itself}
use Rattle.images.proofs.order.auth_order.Goals as goal

pub records_of-requires : goal.records_of-requires
records_of-requires c =
    let P = types_meaning c.args.types.now in
    there_stands IdealNodes P.types (nodes_in c.args.store.now) P.state c.requires.0 c.args.root.0 c.requires.1

pub loop-node-init : goal.loop-node-init
loop-node-init c = record {
  reached = subst (OrderReached (nodes_in c.args.store.now) c.args.root.0) (sym c.new-order.ensures.items) tt;
  ordering = λ v h.
      let p = c.args.types.now in
      let P = types_meaning p in
      let nodes = nodes_in c.args.store.now in
      let entries = distinct [] (walk P.types P.state v) in
      let IsPart : Entry → Type 0 = λ e. is_part P.types e.of_type P.state ≡ true in
      let are_parts = part_walk P nodes c.args.store.now.sound v c.args.root.0 h (itself P.types (length P.types) P.state) in
      ordering_begins p nodes c.in-Ok.found entries (c.in-Ok.ensures.kept refl P.types P.state v p.numbers h) c.new-known.result.items c.new-order.result.items c.nodes-node-items.result.now
      c.new-known.ensures.items c.new-order.ensures.items c.nodes-node-items.ensures
      (behind_distinct P.types [] (walk P.types P.state v) tt (walk_behind P.types P.state v []))
      (all_distinct IsPart [] (walk P.types P.state v) (All-nil IsPart) are_parts);
}

pub view-view-requires : goal.view-view-requires
view-view-requires c =
    let p = c.args.types.now in
    let P = types_meaning p in
    let v = c.requires.0 in
    let h = c.requires.1 in
    there p (nodes_in c.args.store.now) c.in-Ok.found (distinct [] (walk P.types P.state v)) (c.in-Ok.ensures.kept refl P.types P.state v p.numbers h)
    c.loop-node.known.items c.loop-node.order.items c.nodes-node-items.result.now c.loop-node.node-index _ c.loop-node-test.true (c.loop-node.invariant.ordering v h)

pub part-requires-clause-behind : goal.part-requires-clause-behind
part-requires-clause-behind c =
    let p = c.args.types.now in
    let P = types_meaning p in
    let v = c.requires.0 in
    let h = c.requires.1 in
    let found = c.in-Ok.found in
    let step = ordering_next p (nodes_in c.args.store.now) found (distinct [] (walk P.types P.state v)) (c.in-Ok.ensures.kept refl P.types P.state v p.numbers h)
    c.loop-node.known.items c.loop-node.order.items c.nodes-node-items.result.now c.loop-node.node-index _ (form_shown c.view-view.result) c.loop-node-test.true
    c.view-view.ensures.form (c.loop-node.invariant.ordering v h) in
    let same : c.form_of-form.result ≡ form_told (id_in c.loop-node.known.items found) (form_shown c.view-view.result) =
    c.form_of-form.ensures ∙ ap (λ ids. form_told (id_in ids found) (form_shown c.view-view.result)) c.deref.ensures.value in
    ap (stands_behind (length (types_by_number p))) same ∙ step.within

pub unreachable-requires : goal.unreachable-requires
unreachable-requires c =
    let p = c.args.types.now in
    let P = types_meaning p in
    let v = c.requires.0 in
    let h = c.requires.1 in
    let found = c.in-Ok.found in
    let step = ordering_next p (nodes_in c.args.store.now) found (distinct [] (walk P.types P.state v)) (c.in-Ok.ensures.kept refl P.types P.state v p.numbers h)
    c.loop-node.known.items c.loop-node.order.items c.nodes-node-items.result.now c.loop-node.node-index _ (form_shown c.view-view.result) c.loop-node-test.true
    c.view-view.ensures.form (c.loop-node.invariant.ordering v h) in
    let same : c.form_of-form.result ≡ form_told (id_in c.loop-node.known.items found) (form_shown c.view-view.result) =
    c.form_of-form.ensures ∙ ap (λ ids. form_told (id_in ids found) (form_shown c.view-view.result)) c.deref.ensures.value in
    let is = ap (type_of_form (types_by_number p)) same ∙ step.is in
    true≢false (sym step.part ∙ ap (λ t. is_part P.types t P.state) (sym is) ∙ c.in_default-part.ensures)

pub loop-node-preserved : goal.loop-node-preserved
loop-node-preserved c = record {
  reached =
      subst (OrderReached (nodes_in c.args.store.now) c.args.root.0) (sym c.in_ok-push_inner.ensures)
      (order_reached (nodes_in c.args.store.now) c.args.root.0 c.loop-node.order.items c.nodes-node-items.result.now c.loop-node.node-index _ c.form_of-form.result
      (form_shown c.view-view.result) c.loop-node-test.true
      (subst (λ items. AllReached (nodes_in c.args.store.now) c.args.root.0 (numbers_of items)) (sym c.nodes-node-items.ensures) (c.in-Ok.ensures.reached refl))
      c.view-view.ensures.form c.loop-node.invariant.reached);
  ordering = λ v h.
      let p = c.args.types.now in
      let P = types_meaning p in
      let found = c.in-Ok.found in
      let entries = distinct [] (walk P.types P.state v) in
      let items = c.nodes-node-items.result.now in
      let i = c.loop-node.node-index in
      let step = ordering_next p (nodes_in c.args.store.now) found entries (c.in-Ok.ensures.kept refl P.types P.state v p.numbers h)
      c.loop-node.known.items c.loop-node.order.items items i _ (form_shown c.view-view.result) c.loop-node-test.true
      c.view-view.ensures.form (c.loop-node.invariant.ordering v h) in
      let told = form_told (id_in c.loop-node.known.items found) (form_shown c.view-view.result) in
      let same : c.form_of-form.result ≡ told =
      c.form_of-form.ensures ∙ ap (λ ids. form_told (id_in ids found) (form_shown c.view-view.result)) c.deref.ensures.value in
      let is = ap (type_of_form (types_by_number p)) same ∙ step.is in
      let more = step.go c.in-Some.ty (c.in-Some.ensures.2, c.in-Some.ensures.1 ∙ is) in
      let Known : List TyId → Type 0 = λ ids. Ordering p (nodes_in c.args.store.now) found entries ids (c.loop-node.order.items ++ inner_told told (form_shown c.view-view.result)) (drop (i + 1) items) in
      let Order : List (TyId × Ref) → Type 0 = λ order. Ordering p (nodes_in c.args.store.now) found entries c.push_type.new.known.items order (drop (i + 1) items) in
      let pushed = c.in_ok-push_inner.ensures ∙ ap (λ f. c.loop-node.order.items ++ inner_told f (form_shown c.view-view.result)) same in
      subst Order (sym pushed) (subst Known (sym c.in_ok-push_type.ensures) more);
}

pub returns : goal.returns
returns c = record {
  reached = c.loop-node.invariant.reached;
  order = λ v h.
      let p = c.args.types.now in
      let P = types_meaning p in
      ordering_ends p (nodes_in c.args.store.now) c.in-Ok.found (distinct [] (walk P.types P.state v)) (c.in-Ok.ensures.kept refl P.types P.state v p.numbers h)
      c.loop-node.known.items c.loop-node.order.items c.nodes-node-items.result.now c.loop-node.node-index (omega (arith, c.loop-node-test.false)) (c.loop-node.invariant.ordering v h);
}
