use Rattle.std.proofs.Common.{◌≡◌, List, drop}
use Rattle.core_terms.specs.InstructionViews.{instructions_of}
use Rattle.core_terms.specs.Kinds as kinds
use Rattle.core_terms.specs.Programs.{types_in}
use Rattle.core_terms.specs.TypeTables.{type_at}
use Rattle.code_check.specs.KnownTypes.{AreKnown}
use Rattle.code_check.specs.ObjectParts.{body_of_parts}
use Rattle.code_check.specs.TypeLists.{Grows}
use Rattle.code_check.proofs.kinds.first_fault.Given as goal

-- the first fault from here on, by what is known now, is the first one at all
abbrev pub invariant-loop-place : goal.invariant-loop-place
invariant-loop-place l = record {
  fault : (ks : List kinds.Known) → AreKnown (types_in l.fn.lists.types) l.fn.known ks → (now : List kinds.Known) × AreKnown (types_in l.lists.types) (drop l.place l.known) now
      × (kinds.first_fault (body_of_parts l.parts) (type_at (types_in l.parts.types) l.result_type) (instructions_of (types_in l.parts.types) l.code) 0 ks
      ≡ kinds.first_fault (body_of_parts l.parts) (type_at (types_in l.parts.types) l.result_type) (instructions_of (types_in l.parts.types) (drop l.place l.code)) l.place now);
  grows : Grows (types_in l.fn.lists.types) (types_in l.lists.types);
}
