use Rattle.core_terms.specs.Fronts.{ArePrints}
use Rattle.core_terms.proofs.fronts.fingerprints.Given as goal

-- the types so far have their fingerprints
abbrev pub invariant-loop-number : goal.invariant-loop-number
invariant-loop-number g l = ArePrints g.H.Hash32.hash l.types l.number l.prints.items
