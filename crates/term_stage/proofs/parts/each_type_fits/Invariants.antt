use Rattle.std.specs.Prelude.{All, take}
use Rattle.core_terms.specs.Programs.{types_in}
use Rattle.term_stage.specs.Fitting.{TypeFits}
use Rattle.term_stage.proofs.parts.each_type_fits.Given as goal

-- those so far fit
abbrev pub invariant-loop-id : goal.invariant-loop-id
invariant-loop-id l = All (TypeFits (types_in l.types)) (take l.id-index l.ids)
