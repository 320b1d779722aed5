use Rattle.std.proofs.Common.{◌≡◌, [], Err, refl, sym, subst}
use Rattle.std.proofs.lemmas.Result.{err_from_is_err_and}
use Rattle.core_terms.specs.ProgramTypes.{types_by_number, types_meaning}
use Rattle.images.specs.Images.{load_records}
use Rattle.value_store.specs.Markings.{HasLimit}
use Rattle.value_store.specs.Stores.{nodes_in}
use Rattle.images.specs.LoadedRecords.{AreLoaded}
use Rattle.images.proofs.LoadedLists.{loaded_fault, loaded_more, next_fault}
use Rattle.images.proofs.load.load_records.Goals as goal

pub returns-in_err-front-clause-loaded : goal.returns-in_err-front-clause-loaded
returns-in_err-front-clause-loaded g c =
    let p = c.args.parts.now.types.now in
    let err = err_from_is_err_and c.from_residual.result c.from_residual.ensures.1 in
    let same : c.from_residual.result ≡ Err c.in_err-front.field-0.0 = cc in
    subst (AreLoaded g.M.Marker.marking (types_meaning p) (types_by_number p) (load_records (types_meaning p) c.args.size c.args.header.count [] c.args.header.records.now)) (sym same)
    (next_fault g.M.Marker.marking c.args.parts.now.types.now c.args.size c.args.header.count c.args.header.records.now c.loop-number.number (nodes_in c.loop-number.store) c.loop-number.loaded c.loop-number.rest.now c.loop-number.invariant.0 c.loop-number-test.true
    c.in_err-front.field-0.0 c.in_err-front.ensures.front)

pub returns-in_err-stored-clause-loaded : goal.returns-in_err-stored-clause-loaded
returns-in_err-stored-clause-loaded g c =
    let p = c.args.parts.now.types.now in
    let err = err_from_is_err_and c.from_residual-in_err-stored.result c.from_residual-in_err-stored.ensures.1 in
    let same : c.from_residual-in_err-stored.result ≡ Err c.in_err-stored.field-0.0 = cc in
    subst (AreLoaded g.M.Marker.marking (types_meaning p) (types_by_number p) (load_records (types_meaning p) c.args.size c.args.header.count [] c.args.header.records.now)) (sym same)
    (loaded_fault g.M.Marker.marking c.args.parts.now.types.now c.args.size c.args.header.count c.args.header.records.now c.loop-number.number (nodes_in c.loop-number.store) c.loop-number.loaded c.loop-number.rest.now c.loop-number.invariant.0 c.loop-number-test.true
    c.in_ok-front.front c.in_ok-front.ensures.front c.loop-number.loaded refl (nodes_in c.stored.new.store) c.stored.result c.stored.ensures.loaded
    c.in_err-stored.field-0.0 c.in_err-stored.was)

pub loop-number-preserved : goal.loop-number-preserved
loop-number-preserved g c = (
  loaded_more g.M.Marker.marking c.args.parts.now.types.now c.args.size c.args.header.count c.args.header.records.now c.loop-number.number
      (nodes_in c.loop-number.store) c.loop-number.loaded c.loop-number.rest.now c.loop-number.invariant.0 c.loop-number-test.true
      c.in_ok-front.front c.in_ok-front.ensures.front c.loop-number.loaded refl (nodes_in c.stored.new.store) c.stored.result c.stored.ensures.loaded
      c.in_ok-stored.stored c.in_ok-stored.was c.stored.ensures.keeps c.push.new.self c.in_ok-push.ensures,
  subst (HasLimit (types_meaning c.args.parts.now.types.now)) (sym c.stored.ensures.lent) c.loop-number.invariant.1,
  c.stored.ensures.knows,
)
