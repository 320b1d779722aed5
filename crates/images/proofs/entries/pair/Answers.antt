use Rattle.std.proofs.Common.{◌<◌, ◌≤◌, ◌+◌, max, arith}
use Rattle.images.proofs.Checked.{limit_in}
use Rattle.core_terms.specs.ProgramTypes.{types_by_number, types_meaning}
use Rattle.core_terms.proofs.TypingComplete.{both}
use Rattle.value_store.specs.Markings.{kind_of}
use Rattle.value_store.specs.Nodes.{depth_at, size_at}
use Rattle.value_store.specs.Stores.{nodes_in}
use Rattle.images.proofs.Composites.{no_first, no_second, pair_big, pair_deep, pair_loaded, pair_none}
use Rattle.images.proofs.StoredNodes.{node_at, type_at_number}
use Rattle.core_terms.specs.declared.types.TyForm.TheVariants.{PairForm}
use Rattle.images.proofs.TypeNumbers.{numbered}
use Rattle.images.proofs.entries.pair.Goals as goal

pub returns-in_default-clause-loaded : goal.returns-in_default-clause-loaded
returns-in_default-clause-loaded c marking entries stored size =
    no_first marking c.args.parts.now.types.now (nodes_in c.args.store.now) c.args.loaded.now entries stored size c.args.number c.args.first c.args.second c.in_default.ensures

pub returns-in_default-get-clause-loaded : goal.returns-in_default-get-clause-loaded
returns-in_default-get-clause-loaded c marking entries stored size =
    no_second marking c.args.parts.now.types.now (nodes_in c.args.store.now) c.args.loaded.now entries stored size c.args.number c.args.first c.args.second
    c.in_default-get.ensures

pub part-requires-clause-behind : goal.part-requires-clause-behind
part-requires-clause-behind c =
    let p = c.args.parts.now.types.now in
    both _ _ (type_at_number c.requires.stored.0 (types_meaning p) (types_by_number p) (nodes_in c.args.store.now) c.args.loaded.now c.requires.stored.1 c.requires.stored.2 c.args.first c.in-Some.first c.in-Some.ensures)
    (type_at_number c.requires.stored.0 (types_meaning p) (types_by_number p) (nodes_in c.args.store.now) c.args.loaded.now c.requires.stored.1 c.requires.stored.2 c.args.second c.in-Some-get.second c.in-Some-get.ensures)

pub returns-in_default-part-clause-loaded : goal.returns-in_default-part-clause-loaded
returns-in_default-part-clause-loaded c marking entries stored size =
    pair_none marking c.args.parts.now.types.now (nodes_in c.args.store.now) c.args.loaded.now entries stored size c.args.number c.args.first c.args.second
    c.in-Some.first c.in-Some-get.second c.in-Some.ensures c.in-Some-get.ensures c.in_default-part.ensures

pub shallow_size-requires : goal.shallow_size-requires
shallow_size-requires c =
    let p = c.args.parts.now.types.now in
    node_at c.requires.stored.0 (types_meaning p) (types_by_number p) (nodes_in c.args.store.now) c.args.loaded.now c.requires.stored.1 c.requires.stored.2 c.args.first
    c.in-Some.first c.in-Some.ensures

pub shallow_size-requires-2 : goal.shallow_size-requires-2
shallow_size-requires-2 c =
    let p = c.args.parts.now.types.now in
    node_at c.requires.stored.0 (types_meaning p) (types_by_number p) (nodes_in c.args.store.now) c.args.loaded.now c.requires.stored.1 c.requires.stored.2 c.args.second
    c.in-Some-get.second c.in-Some-get.ensures

pub shallow_depth-requires : goal.shallow_depth-requires
shallow_depth-requires c =
    let p = c.args.parts.now.types.now in
    node_at c.requires.stored.0 (types_meaning p) (types_by_number p) (nodes_in c.args.store.now) c.args.loaded.now c.requires.stored.1 c.requires.stored.2 c.args.first
    c.in-Some.first c.in-Some.ensures

pub shallow_depth-requires-2 : goal.shallow_depth-requires-2
shallow_depth-requires-2 c =
    let p = c.args.parts.now.types.now in
    node_at c.requires.stored.0 (types_meaning p) (types_by_number p) (nodes_in c.args.store.now) c.args.loaded.now c.requires.stored.1 c.requires.stored.2 c.args.second
    c.in-Some-get.second c.in-Some-get.ensures

pub put_pair-requires-clause-first : goal.put_pair-requires-clause-first
put_pair-requires-clause-first c =
    let p = c.args.parts.now.types.now in
    node_at c.requires.stored.0 (types_meaning p) (types_by_number p) (nodes_in c.args.store.now) c.args.loaded.now c.requires.stored.1 c.requires.stored.2 c.args.first
    c.in-Some.first c.in-Some.ensures

pub put_pair-requires-clause-second : goal.put_pair-requires-clause-second
put_pair-requires-clause-second c =
    let p = c.args.parts.now.types.now in
    node_at c.requires.stored.0 (types_meaning p) (types_by_number p) (nodes_in c.args.store.now) c.args.loaded.now c.requires.stored.1 c.requires.stored.2 c.args.second
    c.in-Some-get.second c.in-Some-get.ensures

pub returns-then-shallow_size-limit-clause-loaded : goal.returns-then-shallow_size-limit-clause-loaded
returns-then-shallow_size-limit-clause-loaded c marking entries stored size =
    let p = c.args.parts.now.types.now in
    let big : (limit_in p) < size_at (nodes_in c.args.store.now) c.in-Some.first.value.0 + size_at (nodes_in c.args.store.now) c.in-Some-get.second.value.0 =
    omega (arith, c.limit.ensures, c.requires.limit.is, c.shallow_size.ensures.kept, c.shallow_size-2.ensures.kept) in
    pair_big marking p (nodes_in c.args.store.now) c.args.loaded.now entries stored size c.args.number c.args.first c.args.second c.in-Some.first
    c.in-Some-get.second c.in-Some.ensures c.in-Some-get.ensures c.in-Some-part.ensures.0 c.args.store.now.sound big

pub returns-then-max-ge-MOST_DEPTH-clause-loaded : goal.returns-then-max-ge-MOST_DEPTH-clause-loaded
returns-then-max-ge-MOST_DEPTH-clause-loaded c marking entries stored size =
    let p = c.args.parts.now.types.now in
    let small : size_at (nodes_in c.args.store.now) c.in-Some.first.value.0 + size_at (nodes_in c.args.store.now) c.in-Some-get.second.value.0 ≤ (limit_in p) =
    omega (arith, c.limit.ensures, c.requires.limit.is, c.shallow_size.ensures.kept, c.shallow_size-2.ensures.kept) in
    let deep : 512 < 1 + max (depth_at (nodes_in c.args.store.now) c.in-Some.first.value.0) (depth_at (nodes_in c.args.store.now) c.in-Some-get.second.value.0) =
    omega (arith, c.max.ensures, c.shallow_depth.ensures.kept, c.shallow_depth-2.ensures.kept) in
    pair_deep marking p (nodes_in c.args.store.now) c.args.loaded.now entries stored size c.args.number c.args.first c.args.second c.in-Some.first
    c.in-Some-get.second c.in-Some.ensures c.in-Some-get.ensures c.in-Some-part.ensures.0 c.args.store.now.sound small deep

pub returns-clause-loaded : goal.returns-clause-loaded
returns-clause-loaded c marking entries stored size =
    let p = c.args.parts.now.types.now in
    let small : size_at (nodes_in c.args.store.now) c.in-Some.first.value.0 + size_at (nodes_in c.args.store.now) c.in-Some-get.second.value.0 ≤ (limit_in p) =
    omega (arith, c.limit.ensures, c.requires.limit.is, c.shallow_size.ensures.kept, c.shallow_size-2.ensures.kept) in
    let shallow : 1 + max (depth_at (nodes_in c.args.store.now) c.in-Some.first.value.0) (depth_at (nodes_in c.args.store.now) c.in-Some-get.second.value.0) ≤ 512 =
    omega (arith, c.max.ensures, c.shallow_depth.ensures.kept, c.shallow_depth-2.ensures.kept) in
    pair_loaded marking p (nodes_in c.args.store.now) c.args.loaded.now entries stored size c.args.number c.args.first c.args.second c.in-Some.first
    c.in-Some-get.second c.in-Some.ensures c.in-Some-get.ensures c.in-Some-part.ensures.0 c.args.store.now.sound small shallow
    (nodes_in c.put_pair.new.self) (record { ty = c.in-Some-part.ty; value = c.in_ok-value.value })
    (numbered c.args.parts.now.types.now (PairForm c.in-Some.first.ty c.in-Some-get.second.ty) c.in-Some-part.ty c.in-Some-part.ensures)
    (c.in_ok-value.ensures.stands (kind_of marking (types_meaning p)) (types_meaning p).types _ _ _ _)
