use Rattle.std.proofs.Common.{◌≡◌, ◌++◌, length, map}
use Rattle.std.specs.Vec.Iter.{into_iter_items, into_iter_len}
use Rattle.core_terms.specs.Programs.{types_of}
use Rattle.core_terms.specs.InstructionViews.{instructions_of}
use Rattle.core_terms.specs.GeneratedCode as meant
use Rattle.code_gen.proofs.arms.lay.Given as goal

-- with the arms that are left the code is that with all of them
abbrev pub invariant-loop-arm : goal.invariant-loop-arm
invariant-loop-arm l =
    let T = types_of l.program in
    let later = map (λ c. instructions_of T c.items) (into_iter_items l.arm-iterator) in
    (into_iter_len l.arm-iterator ≡ length (into_iter_items l.arm-iterator))
    × (l.left ≡ length (meant.laid later))
    × (instructions_of T l.code.items ++ meant.laid later ≡ instructions_of T l.initial.code.items ++ meant.laid (map (λ c. instructions_of T c.items) (into_iter_items l.initial.arm-iterator)))
