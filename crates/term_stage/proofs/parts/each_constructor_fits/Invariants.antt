use Rattle.std.specs.Prelude.{All, take}
use Rattle.core_terms.specs.Programs.{types_in}
use Rattle.term_stage.specs.Fitting.{ConstructorFits}
use Rattle.term_stage.proofs.parts.each_constructor_fits.Given as goal

-- those so far fit
abbrev pub invariant-loop-constructor : goal.invariant-loop-constructor
invariant-loop-constructor l = All (ConstructorFits (types_in l.types)) (take l.constructor-index l.constructors)
