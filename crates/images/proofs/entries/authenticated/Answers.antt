use Rattle.core_terms.specs.ProgramTypes.{types_by_number, types_meaning}
use Rattle.value_store.specs.Stores.{nodes_in}
use Rattle.images.proofs.Composites.{auth_loaded, auth_none, inner_stands, no_inner}
use Rattle.images.proofs.StoredNodes.{type_at_number}
use Rattle.core_terms.specs.declared.types.TyForm.TheVariants.{AuthForm}
use Rattle.images.proofs.TypeNumbers.{numbered}
use Rattle.images.proofs.entries.authenticated.Goals as goal

pub returns-in_default-clause-loaded : goal.returns-in_default-clause-loaded
returns-in_default-clause-loaded g c entries stored size =
    no_inner g.M.Marker.marking c.args.parts.now.types.now (nodes_in c.args.store.now) c.args.loaded.now entries stored size c.args.number c.args.inner c.in_default.ensures

pub part-requires-clause-behind : goal.part-requires-clause-behind
part-requires-clause-behind g c =
    let p = c.args.parts.now.types.now in
    type_at_number g.M.Marker.marking (types_meaning p) (types_by_number p) (nodes_in c.args.store.now) c.args.loaded.now c.requires.stored.0 c.requires.stored.1
    c.args.inner c.in-Some.inner c.in-Some.ensures

pub returns-in_default-part-clause-loaded : goal.returns-in_default-part-clause-loaded
returns-in_default-part-clause-loaded g c entries stored size =
    auth_none g.M.Marker.marking c.args.parts.now.types.now (nodes_in c.args.store.now) c.args.loaded.now entries stored size c.args.number c.args.inner
    c.in-Some.inner c.in-Some.ensures
    c.in_default-part.ensures

pub mark_auth-requires : goal.mark_auth-requires
mark_auth-requires g c = record {
  knows = c.requires.knows;
  stands =
      (_, inner_stands g.M.Marker.marking c.args.parts.now.types.now (nodes_in c.args.store.now) c.args.loaded.now c.requires.stored.0 c.requires.stored.1 0 c.args.number c.args.inner c.in-Some.inner c.in-Some.ensures);
}

pub returns-clause-loaded : goal.returns-clause-loaded
returns-clause-loaded g c entries stored size =
    let p = c.args.parts.now.types.now in
    let stands = inner_stands g.M.Marker.marking p (nodes_in c.args.store.now) c.args.loaded.now entries stored size c.args.number c.args.inner c.in-Some.inner c.in-Some.ensures in
    auth_loaded g.M.Marker.marking p (nodes_in c.args.store.now) c.args.loaded.now entries stored size c.args.number c.args.inner c.in-Some.inner c.in-Some.ensures
    c.in-Some-part.ensures.0 (nodes_in c.mark_auth.new.store) (record { ty = c.in-Some-part.ty; value = c.in_ok-value.value })
    (numbered c.args.parts.now.types.now (AuthForm c.in-Some.inner.ty) c.in-Some-part.ty c.in-Some-part.ensures)
    (c.in_ok-value.ensures.stands _ stands)
