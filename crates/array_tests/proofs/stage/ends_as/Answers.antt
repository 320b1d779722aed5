use Rattle.std.proofs.Common.{◌≡◌, ◌∷◌, [], w64, to_z, of_z, subst, rules}
use Rattle.core_terms.specs.Programs.{meaning}
use Rattle.core_terms.specs.Terms.{function_at}
use Rattle.core_terms.specs.Types.{IntTy}
use Rattle.value_store.specs.Standing.{IdealNodes}
use Rattle.value_store.specs.Stores.{nodes_in}
use Rattle.mode_vm.specs.Meanings.{program_of}
use Rattle.array_tests.proofs.OneInt.{one_int, stands_alone}
use Rattle.array_tests.proofs.stage.ends_as.Goals as goal

pub ideal_run-requires-clause-stand : goal.ideal_run-requires-clause-stand
ideal_run-requires-clause-stand c =
    let P = program_of c.args.code.now in
    let int : (function_at P 0).parameters ≡ IntTy ∷ [] =
    subst (λ p. (function_at (meaning p) 0).parameters ≡ IntTy ∷ []) c.program.ensures (c.if-not-takes_int.ensures.int (search rules)) in
    let z = to_z w64 (of_z w64 c.args.argument) in (
      one_int z,
      stands_alone IdealNodes P.types (nodes_in c.put_int.new.self) c.in_ok-value.value.0 z _ int (c.in_ok-value.ensures.stands IdealNodes P.types),
    )
