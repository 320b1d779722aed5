use Rattle.std.specs.Prelude.{All, take}
use Rattle.core_terms.specs.Programs.{types_in}
use Rattle.term_stage.specs.Fitting.{NamedFits}
use Rattle.term_stage.proofs.parts.each_named_fits.Given as goal

-- those so far fit
abbrev pub invariant-loop-one : goal.invariant-loop-one
invariant-loop-one l = All (NamedFits (types_in l.types)) (take l.one-index l.named)
