use Rattle.std.proofs.Common.{◌≡◌, ◌≤◌, List, drop, length}
use Rattle.core_terms.specs.CodeShapes.{Shape}
use Rattle.core_terms.specs.Kinds as kinds
use Rattle.core_terms.specs.Programs.{types_in}
use Rattle.code_check.specs.KnownTypes.{IsFrame, AreKnown}
use Rattle.code_check.specs.TypeLists.{Grows}
use Rattle.code_check.proofs.GoneWays.{arm_ways}
use Rattle.code_check.proofs.ways.arms.Given as goal

-- what is left to be gone, from what is known now, is what was to be gone at first
abbrev pub invariant-loop-tag : goal.invariant-loop-tag
invariant-loop-tag l = record {
  gone : (ks : List kinds.Known) (s : Shape) → AreKnown (types_in l.fn.lists.types) l.fn.behind ks → IsFrame (types_in l.fn.lists.types) l.fn.at s
      → (now : List kinds.Known) × AreKnown (types_in l.lists.types) l.behind now
      × (kinds.reach_all (arm_ways (types_in l.fn.lists.types) s.locals s.operands l.constructors l.places) ks
      ≡ kinds.reach_all (arm_ways (types_in l.fn.lists.types) s.locals s.operands (drop l.tag l.constructors) (drop l.tag l.places)) now);
  grows : Grows (types_in l.fn.lists.types) (types_in l.lists.types);
  longer : length (types_in l.fn.lists.types) ≤ length (types_in l.lists.types);
}
