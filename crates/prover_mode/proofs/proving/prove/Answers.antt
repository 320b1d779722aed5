use Rattle.std.proofs.Common.{◌≡◌, ◌∙◌, ap, sym, subst, arith}
use Rattle.core_terms.specs.Programs.{meaning, types_of}
use Rattle.core_terms.specs.ProgramTypes.{types_meaning}
use Rattle.core_terms.specs.ProgramTrees.{function_of}
use Rattle.core_terms.specs.Terms.{function_at}
use Rattle.core_terms.specs.Terms as tree
use Rattle.core_terms.specs.TypeTables.{type_at}
use Rattle.code_gen.specs.Programs.{program_in}
use Rattle.ideal_meaning.specs.Headline.{call_values}
use Rattle.ideal_meaning.specs.Ideal.{ideal, outcome}
use Rattle.mode_vm.specs.Meanings.{program_of}
use Rattle.prover_mode.proofs.CallParts.{outcome_by, spelled_by}
use Rattle.prover_mode.proofs.Pausing.{ended, is_told}
use Rattle.prover_mode.proofs.proving.prove.Goals as goal

pub turn-requires-clause-proving : goal.turn-requires-clause-proving
turn-requires-clause-proving g c κs within =
    let s = c.requires.called.0 in
    let a = c.requires.called.1 in
    (c.args.role.0, call_values s a, c.args.fuel, 0, c.in_ok-proving.ensures (g.N.Nodes.nodes c.args.store.now) s a c.requires.called.2)

pub unreachable-requires : goal.unreachable-requires
unreachable-requires g c =
    let s = c.requires.called.0 in
    let a = c.requires.called.1 in
    let starts = c.in_ok-proving.ensures (g.N.Nodes.nodes c.args.store.now) s a c.requires.called.2 in
    let fits = c.requires.fuel_fits in
    is_told g.H.Hash32.hash c.args.code.now c.turn.new.self (g.N.Nodes.nodes c.turn.new.store) c.args.role.0 (call_values s a) c.args.fuel _ c.in_ok-value.field-0
    (c.in_ok-value.ensures.ends c.args.role.0 (call_values s a) c.args.fuel 0 starts) (omega (arith, fits)) c.in_default.is

pub spelled_outcome-requires-clause-limit : goal.spelled_outcome-requires-clause-limit
spelled_outcome-requires-clause-limit g c κs within =
    record { is = ap (λ l. l.limit) c.in_ok-value.ensures.lent ∙ c.requires.limit.is ∙ ap (λ t. (types_meaning t).format.limit) (sym c.types.ensures) }

pub spelled_outcome-requires-clause-ends : goal.spelled_outcome-requires-clause-ends
spelled_outcome-requires-clause-ends g c κs within =
    let hash = g.H.Hash32.hash in
    let p = program_in c.args.code.now in
    let P = program_of c.args.code.now in
    let z = (function_at P c.args.role.0).result in
    let s = c.requires.called.0 in
    let a = c.requires.called.1 in
    let starts = c.in_ok-proving.ensures (g.N.Nodes.nodes c.args.store.now) s a c.requires.called.2 in
    let ends = ended hash c.args.code.now c.turn.new.self (g.N.Nodes.nodes c.turn.new.store) c.args.role.0 (call_values s a) c.args.fuel _ c.in_ok-value.field-0
    (c.in_ok-value.ensures.ends c.args.role.0 (call_values s a) c.args.fuel 0 starts) c.in-Some.value c.in-Some.is in
    let at : type_at (types_of p) c.function.result.now.result ≡ z =
    ap (λ (f : tree.Function). f.result) (subst (λ q. function_of (types_of q) c.function.result.now ≡ function_at (meaning q) c.args.role.0) c.program.ensures c.function.ensures.function) in (
      outcome (ideal P c.args.role.0 (call_values s a) c.args.fuel),
      outcome_by hash p c.types.result.now c.types.ensures c.function.result.now.result z at (g.N.Nodes.nodes c.turn.new.store) c.in-Some.value _ ends.2,
    )

pub finish-requires-clause-has_run : goal.finish-requires-clause-has_run
finish-requires-clause-has_run g c κs within =
    let s = c.requires.called.0 in
    let a = c.requires.called.1 in
    let starts = c.in_ok-proving.ensures (g.N.Nodes.nodes c.args.store.now) s a c.requires.called.2 in
    let ends = ended g.H.Hash32.hash c.args.code.now c.turn.new.self (g.N.Nodes.nodes c.turn.new.store) c.args.role.0 (call_values s a) c.args.fuel _ c.in_ok-value.field-0
    (c.in_ok-value.ensures.ends c.args.role.0 (call_values s a) c.args.fuel 0 starts) c.in-Some.value c.in-Some.is in
    (c.args.role.0, call_values s a, c.args.fuel, ends.0)

pub returns-clause-value : goal.returns-clause-value
returns-clause-value g c s a called =
    let starts = c.in_ok-proving.ensures (g.N.Nodes.nodes c.args.store.now) s a called in
    let ends = ended g.H.Hash32.hash c.args.code.now c.turn.new.self (g.N.Nodes.nodes c.turn.new.store) c.args.role.0 (call_values s a) c.args.fuel _ c.in_ok-value.field-0
    (c.in_ok-value.ensures.ends c.args.role.0 (call_values s a) c.args.fuel 0 starts) c.in-Some.value c.in-Some.is in
    ends.2

pub returns-clause-outcome : goal.returns-clause-outcome
returns-clause-outcome g c s a called =
    let hash = g.H.Hash32.hash in
    let p = program_in c.args.code.now in
    let P = program_of c.args.code.now in
    let z = (function_at P c.args.role.0).result in
    let o = outcome (ideal P c.args.role.0 (call_values s a) c.args.fuel) in
    let id = c.function.result.now.result in
    let starts = c.in_ok-proving.ensures (g.N.Nodes.nodes c.args.store.now) s a called in
    let ends = ended hash c.args.code.now c.turn.new.self (g.N.Nodes.nodes c.turn.new.store) c.args.role.0 (call_values s a) c.args.fuel _ c.in_ok-value.field-0
    (c.in_ok-value.ensures.ends c.args.role.0 (call_values s a) c.args.fuel 0 starts) c.in-Some.value c.in-Some.is in
    let at : type_at (types_of p) id ≡ z =
    ap (λ (f : tree.Function). f.result) (subst (λ q. function_of (types_of q) c.function.result.now ≡ function_at (meaning q) c.args.role.0) c.program.ensures c.function.ensures.function) in
    let is = outcome_by hash p c.types.result.now c.types.ensures id z at (g.N.Nodes.nodes c.turn.new.store) c.in-Some.value o ends.2 in
    spelled_by hash p c.types.result.now c.types.ensures id z at o c.in_ok-outcome.outcome (c.in_ok-outcome.ensures o is)

pub returns-clause-frames : goal.returns-clause-frames
returns-clause-frames g c s a recent called holds =
    let starts = c.in_ok-proving.ensures (g.N.Nodes.nodes c.args.store.now) s a called in
    let ends = ended g.H.Hash32.hash c.args.code.now c.turn.new.self (g.N.Nodes.nodes c.turn.new.store) c.args.role.0 (call_values s a) c.args.fuel _ c.in_ok-value.field-0
    (c.in_ok-value.ensures.ends c.args.role.0 (call_values s a) c.args.fuel 0 starts) c.in-Some.value c.in-Some.is in
    c.in_ok-frames.ensures c.args.role.0 (call_values s a) c.args.fuel recent ends.0 holds
