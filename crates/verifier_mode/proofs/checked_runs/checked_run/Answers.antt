-- The run that was started is the one of the definitions, and the ring has come as far.
use Rattle.std.proofs.lemmas.Result.{err_from_is_err_and}
use Rattle.std.proofs.Common.{◌≡◌, length, ap, ◌∙◌}
use Rattle.core_terms.specs.ProgramTypes.{types_meaning}
use Rattle.core_terms.specs.Terms.{function_at}
use Rattle.code_gen.specs.Programs.{program_in}
use Rattle.ideal_meaning.specs.Checked.{before_all, checked}
use Rattle.ideal_meaning.specs.Following.{after_bytes}
use Rattle.ideal_meaning.specs.Frames.{offered}
use Rattle.mode_vm.specs.Meanings.{program_of}
use Rattle.proof_stream.specs.Readers.{limit_of}
use Rattle.verifier_mode.proofs.Checking.{came_to, ends, outcome_stands, starts, stopped_as}
use Rattle.verifier_mode.proofs.checked_runs.checked_run.Goals as goal

pub run-requires-clause-ready : goal.run-requires-clause-ready
run-requires-clause-ready g c = (
  (function_at (program_of c.args.code.now) c.args.function.0).result,
  c.in_ok-machine.ensures.ready (g.N.Nodes.nodes c.args.store.now) c.requires.stand.0 c.requires.stand.1,
)

pub returns-clause-is : goal.returns-clause-is
returns-clause-is g c vs bytes recent stand told holds =
    let hash = g.H.Hash32.hash in
    let P = program_of c.args.code.now in
    let Q = types_meaning (program_in c.args.code.now).types in
    let z = (function_at P c.args.function.0).result in
    let left = g.S.Source.left c.args.source.now in
    let left' = g.S.Source.left c.run.new.world in
    let w = before_all (length bytes) (offered P.format.limit bytes c.args.ring.size recent) in
    let run = checked hash P c.args.function.0 vs c.args.fuel w in
    let mode = c.in_ok-machine.machine.mode in
    let after = c.run.new.self.mode in
    let within : limit_of mode.reader ≡ P.format.limit = ap (λ m. limit_of m.reader) c.in_ok-machine.ensures.mode ∙ c.new-verifier.ensures.limit ∙ c.spelling_limit-limit.ensures.limit ∙ ap (λ t. (types_meaning t).format.limit) c.types.ensures in
    let same : mode.ring ≡ c.args.ring = ap (λ m. m.ring) c.in_ok-machine.ensures.mode ∙ c.new-verifier.ensures.ring in
    let first : mode.place ≡ 0 = ap (λ m. m.place) c.in_ok-machine.ensures.mode ∙ c.new-verifier.ensures.place in
    let out : c.into_ring.result ≡ after.ring = c.into_ring.ensures ∙ ap (λ m. m.ring) c.into_mode.ensures in
    let follows = starts Q c.args.ring left (limit_of mode.reader) mode.ring within same bytes recent told holds mode.place first in
    let e = ends P c.args.ring left (limit_of mode.reader) mode.ring within same bytes recent told holds (limit_of after.reader) after.ring c.into_ring.result left' c.in_ok-outcome.ensures.moves out in (
      came_to hash P Q z (g.N.Nodes.nodes c.run.new.store) (limit_of after.reader) after.ring after.place left' c.run.new.self.state.fuel run c.in_ok-outcome.outcome
          (c.in_ok-outcome.ensures.is z w run follows (c.in_ok-machine.ensures.will (g.N.Nodes.nodes c.args.store.now) vs w stand)),
      e.0,
      e.1,
    )

pub returns-in_err-outcome-clause-is : goal.returns-in_err-outcome-clause-is
returns-in_err-outcome-clause-is g c vs bytes recent stand told holds =
    let hash = g.H.Hash32.hash in
    let P = program_of c.args.code.now in
    let Q = types_meaning (program_in c.args.code.now).types in
    let z = (function_at P c.args.function.0).result in
    let left = g.S.Source.left c.args.source.now in
    let left' = g.S.Source.left c.run.new.world in
    let w = before_all (length bytes) (offered P.format.limit bytes c.args.ring.size recent) in
    let run = checked hash P c.args.function.0 vs c.args.fuel w in
    let mode = c.in_ok-machine.machine.mode in
    let after = c.run.new.self.mode in
    let within : limit_of mode.reader ≡ P.format.limit = ap (λ m. limit_of m.reader) c.in_ok-machine.ensures.mode ∙ c.new-verifier.ensures.limit ∙ c.spelling_limit-limit.ensures.limit ∙ ap (λ t. (types_meaning t).format.limit) c.types.ensures in
    let same : mode.ring ≡ c.args.ring = ap (λ m. m.ring) c.in_ok-machine.ensures.mode ∙ c.new-verifier.ensures.ring in
    let first : mode.place ≡ 0 = ap (λ m. m.place) c.in_ok-machine.ensures.mode ∙ c.new-verifier.ensures.place in
    let follows = starts Q c.args.ring left (limit_of mode.reader) mode.ring within same bytes recent told holds mode.place first in
    let err = err_from_is_err_and c.from_residual-in_err-outcome.result c.from_residual-in_err-outcome.ensures.1 in rw (err.1, err.2)
    (stopped_as hash P Q z (g.N.Nodes.nodes c.run.new.store) (limit_of after.reader) after.ring after.place left' c.run.new.self.state.fuel run c.args.ring.size
    (after_bytes P.format.limit bytes c.args.ring.size recent) _
    (c.in_err-outcome.ensures.is z w run follows (c.in_ok-machine.ensures.will (g.N.Nodes.nodes c.args.store.now) vs w stand)))

pub returns-clause-stands : goal.returns-clause-stands
returns-clause-stands g c =
    let P = program_of c.args.code.now in
    let z = (function_at P c.args.function.0).result in
    outcome_stands g.H.Hash32.hash P z (g.N.Nodes.nodes c.run.new.store) c.in_ok-outcome.outcome
    (c.in_ok-outcome.ensures.stands z (c.in_ok-machine.ensures.ready (g.N.Nodes.nodes c.args.store.now) c.requires.stand.0 c.requires.stand.1))
