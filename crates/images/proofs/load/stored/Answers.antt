use Rattle.std.proofs.Common.{◌≡◌, ◌<◌, ◌^◌, Some, subst, arith}
use Rattle.std.specs.Int.{w64, cast_signed, cast_unsigned}
use Rattle.std.proofs.lemmas.Int.{to_z-of_z}
use lib.Signed.{mag}
use Rattle.core_terms.specs.ProgramTypes.{types_by_number, types_meaning}
use Rattle.core_terms.specs.Types.{IntTy}
use Rattle.core_terms.specs.Values.{IntV}
use Rattle.images.specs.Images.{checked_entry, entry}
use Rattle.images.specs.StoredRecords.{IsLoaded}
use Rattle.value_store.specs.Stores.{nodes_in}
use Rattle.images.specs.declared.record.Record.TheVariants.{Unit as UnitFound, Bool as BoolFound, Int, Text, Pair, Constructor, Auth, Items}
use Rattle.images.proofs.AtRecords.{at_record}
use Rattle.images.proofs.load.stored.Goals as goal

pub returns-in-Unit-clause-loaded : goal.returns-in-Unit-clause-loaded
returns-in-Unit-clause-loaded g c entries stored size =
    at_record g.M.Marker.marking c.args.parts.now.types.now (nodes_in c.unit.new.store) entries size c.args.number c.args.found UnitFound c.unit.result c.in-Unit.is
    (c.unit.ensures.loaded g.M.Marker.marking size)

pub returns-in-Bool-clause-loaded : goal.returns-in-Bool-clause-loaded
returns-in-Bool-clause-loaded g c entries stored size =
    at_record g.M.Marker.marking c.args.parts.now.types.now (nodes_in c.bool.new.store) entries size c.args.number c.args.found (BoolFound c.in-Bool.value) c.bool.result c.in-Bool.is
    (c.bool.ensures.loaded g.M.Marker.marking size)

pub returns-in-Int-clause-loaded : goal.returns-in-Int-clause-loaded
returns-in-Int-clause-loaded g c entries stored size =
    let p = c.args.parts.now.types.now in
    let same : cast_signed w64 (cast_unsigned w64 c.in-Int.value) ≡ c.in-Int.value =
    (let small : mag c.in-Int.value < 2 ^ 63 = omega arith in to_z-of_z w64 c.in-Int.value (record { sfits = small })) in
    at_record g.M.Marker.marking p (nodes_in c.int.new.store) entries size c.args.number c.args.found (Int c.in-Int.value) c.int.result c.in-Int.is
    (subst (λ z. IsLoaded g.M.Marker.marking (types_meaning p) (types_by_number p) (nodes_in c.int.new.store) (λ go. checked_entry (types_meaning p) size c.args.number (Some (entry IntTy (IntV z))) go) c.int.result) same
    (c.int.ensures.loaded g.M.Marker.marking size))

pub returns-in-Text-clause-loaded : goal.returns-in-Text-clause-loaded
returns-in-Text-clause-loaded g c entries stored size =
    at_record g.M.Marker.marking c.args.parts.now.types.now (nodes_in c.text.new.store) entries size c.args.number c.args.found (Text c.in-Text.value) c.text.result c.in-Text.is
    (c.text.ensures.loaded g.M.Marker.marking size)

pub returns-in-Pair-clause-loaded : goal.returns-in-Pair-clause-loaded
returns-in-Pair-clause-loaded g c entries stored size =
    at_record g.M.Marker.marking c.args.parts.now.types.now (nodes_in c.pair.new.store) entries size c.args.number c.args.found
    (Pair c.in-Pair.first c.in-Pair.second) c.pair.result c.in-Pair.is
    (c.pair.ensures.loaded g.M.Marker.marking entries stored size)

pub returns-in-Constructor-clause-loaded : goal.returns-in-Constructor-clause-loaded
returns-in-Constructor-clause-loaded g c entries stored size =
    at_record g.M.Marker.marking c.args.parts.now.types.now (nodes_in c.constructor.new.store) entries size c.args.number c.args.found
    (Constructor c.in-Constructor.found) c.constructor.result c.in-Constructor.is
    (c.constructor.ensures.loaded g.M.Marker.marking entries stored size)

pub returns-in-Auth-clause-loaded : goal.returns-in-Auth-clause-loaded
returns-in-Auth-clause-loaded g c entries stored size =
    at_record g.M.Marker.marking c.args.parts.now.types.now (nodes_in c.authenticated.new.store) entries size c.args.number c.args.found
    (Auth c.in-Auth.inner) c.authenticated.result c.in-Auth.is
    (c.authenticated.ensures.loaded entries stored size)

pub returns-in-Items-clause-loaded : goal.returns-in-Items-clause-loaded
returns-in-Items-clause-loaded g c entries stored size =
    at_record g.M.Marker.marking c.args.parts.now.types.now (nodes_in c.array.new.store) entries size c.args.number c.args.found
    (Items c.in-Items.count c.in-Items.numbers) c.array.result c.in-Items.is
    (c.array.ensures.loaded g.M.Marker.marking entries stored size)
