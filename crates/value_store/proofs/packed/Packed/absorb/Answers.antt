use Rattle.std.proofs.Common.{◌≡◌, ◌≤◌, List, ◌++◌, length, take, drop, map, slice_get, ap, ap₂, sym, ◌∙◌, subst}
use Rattle.std.proofs.lemmas.List.{length-map}
use Rattle.value_store.specs.CodeNodes.{node_of, numbers_of}
use Rattle.value_store.specs.Shifting.{IsRoomFor, shifted_node, wrapped_ref}
use Rattle.value_store.specs.declared.node.Ref.{Ref}
use Rattle.value_store.specs.declared.node.Node.{Node}
use Rattle.value_store.proofs.AbsorbedPools.{all_shift, either_so, nodes_back, nodes_joined, ok_so, parts_back, placed_joined, rise_joined}
use Rattle.value_store.proofs.packed.Packed.absorb.Goals as goal

room-first : (c : goal.After-deref_mut-2) → IsRoomFor c.args.self.now c.args.own c.args.from c.in_ok-shift.shift
room-first c = c.in_ok-shift.ensures

within-first : (c : goal.After-deref_mut-2) → c.args.from ≤ length c.args.self.now.nodes.items
within-first c = subst (λ n. c.args.from ≤ n) (length-map c.args.self.now.nodes.items (node_of c.args.self.now.parts.items c.args.self.now.digests.items)) c.requires.within

pub move_nodes-requires : goal.move_nodes-requires
move_nodes-requires c i node e =
    let s = c.args.self.now in
    let o = c.args.own in
    all_shift s.parts.items o.parts.items s.digests.items o.digests.items s.nodes.items o.nodes.items c.args.from c.in_ok-shift.shift (within-first c) (room-first c).from_is (room-first c).up_is (room-first c).parts_is (room-first c).digests_is (room-first c).nodes_fit (room-first c).parts_fit (room-first c).digests_fit s.placed s.rise o.placed o.rise c.requires.refers i node
    (ap (λ (ns : List Node). slice_get ns i) (sym c.deref_mut-2.ensures.value) ∙ e)

room : (c : goal.After-join-arg-1) → IsRoomFor c.args.self.now c.args.own c.args.from c.in_ok-shift.shift
room c = c.in_ok-shift.ensures

within : (c : goal.After-join-arg-1) → c.args.from ≤ length c.args.self.now.nodes.items
within c = subst (λ n. c.args.from ≤ n) (length-map c.args.self.now.nodes.items (node_of c.args.self.now.parts.items c.args.self.now.digests.items)) c.requires.within

abbrev parts : (c : goal.After-join-arg-1) → List Ref
parts c = take c.args.own.parts.len (c.move_all.new.refs ++ drop (length c.move_all.new.refs) c.args.own.parts.items)

abbrev nodes : (c : goal.After-join-arg-1) → List Node
nodes c = take c.args.own.nodes.len (c.move_nodes.new.nodes ++ drop (length c.move_nodes.new.nodes) c.args.own.nodes.items)

moved : (c : goal.After-join-arg-1) → numbers_of (parts c) ≡ map (wrapped_ref c.in_ok-shift.shift.from c.in_ok-shift.shift.up) (numbers_of c.args.own.parts.items)
moved c = parts_back c.args.own.parts.len c.move_all.new.refs c.args.own.parts.items _ c.args.own.parts.ok.0
    (c.move_all.ensures ∙ ap₂ (λ n (rs : List Ref). map (wrapped_ref n c.in_ok-shift.shift.up) (numbers_of rs)) (sym (room c).from_is) c.deref_mut.ensures.value)
    (length-map (numbers_of c.args.own.parts.items) (wrapped_ref c.in_ok-shift.shift.from c.in_ok-shift.shift.up) ∙ length-map c.args.own.parts.items (λ (r : Ref). r.0))

are : (c : goal.After-join-arg-1) → nodes c ≡ map (shifted_node c.in_ok-shift.shift) c.args.own.nodes.items
are c = nodes_back c.args.own.nodes.len c.move_nodes.new.nodes c.args.own.nodes.items c.in_ok-shift.shift c.args.own.nodes.ok.0
    (c.move_nodes.ensures ∙ ap (λ (ns : List Node). map (shifted_node c.in_ok-shift.shift) ns) c.deref_mut-2.ensures.value)

pub join-requires-clause-placed : goal.join-requires-clause-placed
join-requires-clause-placed c =
    let s = c.args.self.now in
    let o = c.args.own in
    placed_joined s.parts.items o.parts.items s.digests.items o.digests.items s.nodes.items o.nodes.items c.args.from c.in_ok-shift.shift (within c) (room c).from_is (room c).up_is (room c).parts_is (room c).digests_is (room c).nodes_fit (room c).parts_fit (room c).digests_fit s.placed s.rise o.placed o.rise c.requires.refers (parts c) (moved c) (nodes c) (are c)

pub join-requires-clause-rise : goal.join-requires-clause-rise
join-requires-clause-rise c =
    let s = c.args.self.now in
    let o = c.args.own in
    rise_joined s.parts.items o.parts.items s.digests.items o.digests.items s.nodes.items o.nodes.items c.args.from c.in_ok-shift.shift (within c) (room c).from_is (room c).up_is (room c).parts_is (room c).digests_is (room c).nodes_fit (room c).parts_fit (room c).digests_fit s.placed s.rise o.placed o.rise c.requires.refers (parts c) (moved c) (nodes c) (are c)

room-end : (c : goal.After-join) → IsRoomFor c.args.self.now c.args.own c.args.from c.in_ok-shift.shift
room-end c = c.in_ok-shift.ensures

within-end : (c : goal.After-join) → c.args.from ≤ length c.args.self.now.nodes.items
within-end c = subst (λ n. c.args.from ≤ n) (length-map c.args.self.now.nodes.items (node_of c.args.self.now.parts.items c.args.self.now.digests.items)) c.requires.within

abbrev parts-end : (c : goal.After-join) → List Ref
parts-end c = take c.args.own.parts.len (c.move_all.new.refs ++ drop (length c.move_all.new.refs) c.args.own.parts.items)

abbrev nodes-end : (c : goal.After-join) → List Node
nodes-end c = take c.args.own.nodes.len (c.move_nodes.new.nodes ++ drop (length c.move_nodes.new.nodes) c.args.own.nodes.items)

moved-end : (c : goal.After-join) → numbers_of (parts-end c) ≡ map (wrapped_ref c.in_ok-shift.shift.from c.in_ok-shift.shift.up) (numbers_of c.args.own.parts.items)
moved-end c = parts_back c.args.own.parts.len c.move_all.new.refs c.args.own.parts.items _ c.args.own.parts.ok.0
    (c.move_all.ensures ∙ ap₂ (λ n (rs : List Ref). map (wrapped_ref n c.in_ok-shift.shift.up) (numbers_of rs)) (sym (room-end c).from_is) c.deref_mut.ensures.value)
    (length-map (numbers_of c.args.own.parts.items) (wrapped_ref c.in_ok-shift.shift.from c.in_ok-shift.shift.up) ∙ length-map c.args.own.parts.items (λ (r : Ref). r.0))

are-end : (c : goal.After-join) → nodes-end c ≡ map (shifted_node c.in_ok-shift.shift) c.args.own.nodes.items
are-end c = nodes_back c.args.own.nodes.len c.move_nodes.new.nodes c.args.own.nodes.items c.in_ok-shift.shift c.args.own.nodes.ok.0
    (c.move_nodes.ensures ∙ ap (λ (ns : List Node). map (shifted_node c.in_ok-shift.shift) ns) c.deref_mut-2.ensures.value)

pub returns-clause-nodes : goal.returns-clause-nodes
returns-clause-nodes c =
    let s = c.args.self.now in
    let o = c.args.own in
    ok_so _ _ _ c.join.result c.join.ensures.joined (nodes_joined s.parts.items o.parts.items s.digests.items o.digests.items s.nodes.items o.nodes.items c.args.from c.in_ok-shift.shift (within-end c) (room-end c).from_is (room-end c).up_is (room-end c).parts_is (room-end c).digests_is (room-end c).nodes_fit (room-end c).parts_fit (room-end c).digests_fit s.placed s.rise o.placed o.rise c.requires.refers (parts-end c) (moved-end c) (nodes-end c) (are-end c))

pub returns-clause-either : goal.returns-clause-either
returns-clause-either c =
    let s = c.args.self.now in
    let o = c.args.own in
    either_so _ _ _ _ c.join.result c.join.ensures.joined c.join.ensures.refused (nodes_joined s.parts.items o.parts.items s.digests.items o.digests.items s.nodes.items o.nodes.items c.args.from c.in_ok-shift.shift (within-end c) (room-end c).from_is (room-end c).up_is (room-end c).parts_is (room-end c).digests_is (room-end c).nodes_fit (room-end c).parts_fit (room-end c).digests_fit s.placed s.rise o.placed o.rise c.requires.refers (parts-end c) (moved-end c) (nodes-end c) (are-end c))
