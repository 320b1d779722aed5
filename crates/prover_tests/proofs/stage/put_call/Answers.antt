use Rattle.std.proofs.Common.{◌≡◌, ◌∷◌, [], w64, to_z, of_z, subst, rules}
use Rattle.core_terms.specs.Programs.{meaning}
use Rattle.core_terms.specs.Projection.{digest_at}
use Rattle.core_terms.specs.Terms.{function_at}
use Rattle.core_terms.specs.Types.{IntTy}
use Rattle.core_terms.specs.Values.{IntV}
use Rattle.value_store.specs.Standing.{Kind, ProverNodes, StandsFor}
use Rattle.value_store.specs.Stores.{nodes_in}
use Rattle.mode_vm.specs.Meanings.{program_of}
use Rattle.prover_tests.proofs.IntCalls.{called}
use Rattle.prover_tests.proofs.stage.put_call.Goals as goal

pub returns-clause-called : goal.returns-clause-called
returns-clause-called c hash =
    let P = program_of c.args.code.now in
    let f = c.in-Some.role.0 in
    let nodes = nodes_in c.put_int-2.new.self in
    let z = to_z w64 (of_z w64 c.args.call.state) in
    let y = to_z w64 (of_z w64 c.args.call.argument) in
    let kind : Kind = ProverNodes (digest_at hash P) in
    let int : P.state ≡ IntTy = subst (λ p. (meaning p).state ≡ IntTy) c.program-2.ensures (c.if-not-takes_ints.ensures.state (search rules)) in
    let ints : (function_at P f).parameters ≡ IntTy ∷ IntTy ∷ [] =
    subst (λ p. (function_at (meaning p) f).parameters ≡ IntTy ∷ IntTy ∷ []) c.program-2.ensures (c.if-not-takes_ints.ensures.ints (search rules)) in
    let first : StandsFor kind P.types nodes c.in_ok-state.state.0 IntTy (IntV z) =
    c.in_ok-argument.ensures.keeps kind P.types c.in_ok-state.state.0 IntTy (IntV z) (c.in_ok-state.ensures.stands kind P.types) in
    (IntV z, IntV y, called hash P f nodes c.in_ok-state.state c.in_ok-argument.argument z y int ints first (c.in_ok-argument.ensures.stands kind P.types))
