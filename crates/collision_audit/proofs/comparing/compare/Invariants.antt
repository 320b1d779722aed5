use Rattle.std.proofs.Common.{◌≡◌, ℕ, List, drop, map}
use Rattle.core_terms.specs.ProgramTypes.{types_meaning}
use Rattle.ideal_meaning.specs.Frames.{Offer}
use Rattle.ideal_meaning.specs.Ideal.{honest_piece}
use Rattle.ideal_meaning.specs.Ideal as ideal
use Rattle.proof_stream.specs.Readers.{limit_of}
use Rattle.collision_audit.specs.Comparing.{IsAhead}
use Rattle.prover_mode.specs.Seen.{AreSeen}
use Rattle.collision_audit.proofs.Parting.{Stands}
use Rattle.collision_audit.proofs.comparing.compare.Given as goal

abbrev pub invariant-loop-one : goal.invariant-loop-one
invariant-loop-one g l =
    let hash = g.H.Hash32.hash in
    let P = types_meaning l.types in
    (l.place ≡ l.one-index)
    × (g.S.Source.faults l.proof ≡ g.S.Source.faults l.initial.proof)
    × (g.S.Source.rest l.proof ≡ g.S.Source.rest l.initial.proof)
    × ((seen : List ideal.Opened) (count : ℕ) (o : Offer) → AreSeen hash l.types (g.N.Nodes.nodes l.store) l.opened seen
    → IsAhead (limit_of l.initial.offers.reader) l.initial.offers.ring (g.S.Source.left l.initial.proof) count o
    → Stands hash P.format (map (honest_piece hash P) seen) count o l.one-index (map (honest_piece hash P) (drop l.one-index seen)) (limit_of l.offers.reader) l.offers.ring (g.S.Source.left l.proof))
