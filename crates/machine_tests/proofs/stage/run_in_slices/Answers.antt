use Rattle.std.proofs.Common.{◌≡◌, ◌∷◌, [], w64, to_z, of_z, subst, sym, rules}
use Rattle.core_terms.specs.Programs.{meaning}
use Rattle.core_terms.specs.Terms.{function_at}
use Rattle.core_terms.specs.Types.{IntTy}
use Rattle.value_store.specs.Markings.{HasLimit, IdealMarking}
use Rattle.value_store.specs.Standing.{IdealNodes}
use Rattle.value_store.specs.Stores.{nodes_in}
use Rattle.mode_vm.specs.Meanings.{program_of}
use Rattle.mode_vm.proofs.Stepping.{goes_fewer, stands_goes}
use Rattle.machine_tests.proofs.OneInt.{one_int, stands_alone}
use Rattle.machine_tests.proofs.stage.run_in_slices.Goals as goal

pub loop-pauses-init : goal.loop-pauses-init
loop-pauses-init c =
    let P = program_of c.args.code.now in
    let int : (function_at P 0).parameters ≡ IntTy ∷ [] =
    subst (λ p. (function_at (meaning p) 0).parameters ≡ IntTy ∷ []) c.program.ensures (c.if-not-takes_int.ensures.int (search rules)) in
    let z = to_z w64 (of_z w64 c.args.argument) in
    let stand = stands_alone IdealNodes P.types (nodes_in c.put_int.new.self) c.in_ok-value.value.0 z _ int (c.in_ok-value.ensures.stands IdealNodes P.types) in
    record {
      ready = ((function_at P 0).result, c.in_ok-machine.ensures.ready (nodes_in c.put_int.new.self) (one_int z) stand);
      few = c.in_ok-machine.ensures.few;
      limit = search rules;
    }

pub loop-pauses-preserved : goal.loop-pauses-preserved
loop-pauses-preserved c =
    let P = program_of c.args.code.now in
    let ready = c.loop-pauses.invariant.ready in
    record {
      ready = (
        ready.0,
        stands_goes IdealMarking P ready.0 (nodes_in c.run_slice.new.store) c.run_slice.new.self.state c.in-Ok-Paused.field-0 (Unit {0}) c.in-Ok-Paused.field-0-is
            (c.in-Ok-Paused.ensures.stands ready.0 ready.1),
      );
      few = goes_fewer c.in-Ok-Paused.field-0 _ (Unit {0}) c.in-Ok-Paused.field-0-is c.in-Ok-Paused.ensures.few;
      limit = subst (HasLimit P) (sym c.run_slice.ensures.lent) c.loop-pauses.invariant.limit;
    }
