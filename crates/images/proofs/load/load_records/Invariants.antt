use Rattle.core_terms.specs.ProgramTypes.{types_meaning}
use Rattle.value_store.specs.Markings.{HasLimit}
use Rattle.value_store.specs.Stores.{nodes_in, store_lent}
use Rattle.images.proofs.LoadedLists.{SoFar}
use Rattle.images.proofs.load.load_records.Given as goal

abbrev pub invariant-loop-number : goal.invariant-loop-number
invariant-loop-number g l =
    SoFar g.M.Marker.marking l.parts.types.now l.size l.header.count l.header.records.now l.number (nodes_in l.store) l.loaded l.rest
    × HasLimit (types_meaning l.parts.types.now) (store_lent l.store) × g.M.Marker.Knows l.parts.types.now l.marker
