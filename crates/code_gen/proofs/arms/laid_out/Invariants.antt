use Rattle.std.proofs.Common.{◌≡◌, map, take}
use Rattle.core_terms.specs.Programs.{types_of}
use Rattle.core_terms.specs.InstructionViews.{instructions_of}
use Rattle.core_terms.specs.GeneratedCode as meant
use Rattle.code_gen.proofs.Layouts.{end_of}
use Rattle.code_gen.proofs.arms.laid_out.Given as goal

-- the arms so far have their places, and the next one would stand at `end`
abbrev pub invariant-loop-arm : goal.invariant-loop-arm
invariant-loop-arm l =
    let codes = map (λ c. instructions_of (types_of l.program) c.items) (take l.arm-index l.arms) in
    (l.places.items ≡ meant.places 0 codes) × (l.end ≡ end_of codes)
