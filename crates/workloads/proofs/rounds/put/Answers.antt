use Rattle.std.proofs.Common.{◌∙◌, ◌<◌, ◌≤◌, [], length, sym, subst}
use Rattle.core_terms.specs.Projection.{digest_at}
use Rattle.core_terms.specs.Terms.{Update}
use Rattle.core_terms.specs.Types.{IntTy, PairTy}
use Rattle.core_terms.specs.Values.{IntV, PairV}
use Rattle.value_store.specs.Nodes.{Lent}
use Rattle.value_store.specs.Standing.{IdealNodes, ProverNodes}
use Rattle.value_store.proofs.StandingNodes.{there_stands}
use Rattle.mode_vm.specs.Meanings.{program_of}
use Rattle.workloads.specs.Workloads.{outcome_of}
use Rattle.workloads.proofs.CalledRoles.{called_on, int_stands, pair_stands}
use Rattle.workloads.proofs.CutNodes.{lent_first, mark_there}
use Rattle.workloads.proofs.PutStates.{update_ends}
use Rattle.workloads.proofs.rounds.put.Goals as goal

pub checked_call-requires-clause-called : goal.checked_call-requires-clause-called
checked_call-requires-clause-called g c κs within =
    let h = c.requires.state in
    let P = program_of c.args.code.now in
    let prover = ProverNodes (digest_at g.H.Hash32.hash P) in
    let nodes = g.N.Nodes.nodes in
    let argument = PairV (IntV c.args.key) (IntV c.args.value) in
    let before = c.put_pair.ensures.keeps prover P.types c.args.state.0 P.state h.0
    (c.put_int-2.ensures.keeps prover P.types c.args.state.0 P.state h.0 (c.put_int.ensures.keeps prover P.types c.args.state.0 P.state h.0 h.1)) in
    let pair = pair_stands prover P.types (nodes c.put_int.new.self) (nodes c.put_int-2.new.self) (nodes c.put_pair.new.self)
    c.in_ok-first.first.0 c.in_ok-second.second.0 c.in_ok-argument.argument.0 c.args.key c.args.value c.ranges.key c.ranges.value
    c.in_ok-first.ensures.stands c.put_int-2.ensures.keeps c.in_ok-second.ensures.stands c.in_ok-argument.ensures.stands in
    let called = called_on P c.args.workload.now.put.0 Update (PairTy IntTy IntTy) c.requires.put.0 c.requires.put.1 tt g.H.Hash32.hash
    (nodes c.put_pair.new.self) c.args.state c.in_ok-argument.argument h.0 argument before pair in
    (h.0, argument, called)

pub returns-clause-tally : goal.returns-clause-tally
returns-clause-tally g c s stands =
    let P = program_of c.args.code.now in
    let prover = ProverNodes (digest_at g.H.Hash32.hash P) in
    let nodes = g.N.Nodes.nodes in
    let argument = PairV (IntV c.args.key) (IntV c.args.value) in
    let before = c.put_pair.ensures.keeps prover P.types c.args.state.0 P.state s
    (c.put_int-2.ensures.keeps prover P.types c.args.state.0 P.state s (c.put_int.ensures.keeps prover P.types c.args.state.0 P.state s stands)) in
    let pair = pair_stands prover P.types (nodes c.put_int.new.self) (nodes c.put_int-2.new.self) (nodes c.put_pair.new.self)
    c.in_ok-first.first.0 c.in_ok-second.second.0 c.in_ok-argument.argument.0 c.args.key c.args.value c.ranges.key c.ranges.value
    c.in_ok-first.ensures.stands c.put_int-2.ensures.keeps c.in_ok-second.ensures.stands c.in_ok-argument.ensures.stands in
    let called = called_on P c.args.workload.now.put.0 Update (PairTy IntTy IntTy) c.requires.put.0 c.requires.put.1 tt g.H.Hash32.hash
    (nodes c.put_pair.new.self) c.args.state c.in_ok-argument.argument s argument before pair in
    c.add.ensures.sums ∙ c.in_ok-call.ensures.counted s argument called c.args.tally.now

pub new_state-requires-clause-there : goal.new_state-requires-clause-there
new_state-requires-clause-there g c =
    let key = IntV c.args.key in
    let first = c.in_ok-first.first.0 in
    let put = int_stands IdealNodes [] (g.N.Nodes.nodes c.put_int.new.self) first c.args.key c.ranges.key c.in_ok-first.ensures.stands in
    let now = c.checked_call.ensures.keeps IdealNodes [] first IntTy key
    (c.put_pair.ensures.keeps IdealNodes [] first IntTy key (c.put_int-2.ensures.keeps IdealNodes [] first IntTy key put)) in
    mark_there (g.N.Nodes.nodes c.args.store.now) (g.N.Nodes.nodes c.checked_call.new.store) c.mark-before.result.0 first
    c.mark-before.ensures c.in_ok-first.ensures.put.0 key now

pub new_state-requires-clause-lent : goal.new_state-requires-clause-lent
new_state-requires-clause-lent g c =
    let first = lent_first (g.N.Nodes.lent c.args.store.now).nodes (g.N.Nodes.nodes c.args.store.now) (g.met.N.Nodes.first c.args.store.now) in
    let same = c.checked_call.ensures.lent ∙ c.put_pair.ensures.lent ∙ c.put_int-2.ensures.lent ∙ c.put_int.ensures.lent in
    subst (λ n. length (g.N.Nodes.lent c.checked_call.new.store).nodes ≤ n) (sym c.mark-before.ensures)
    (subst (λ (lent : Lent). length lent.nodes ≤ length (g.N.Nodes.nodes c.args.store.now)) (sym same) first)

pub new_state-requires-clause-state : goal.new_state-requires-clause-state
new_state-requires-clause-state g c =
    let P = program_of c.args.code.now in
    let prover = ProverNodes (digest_at g.H.Hash32.hash P) in
    subst (λ n. c.args.state.0 < n) (sym c.mark-before.ensures)
    (there_stands prover P.types (g.N.Nodes.nodes c.args.store.now) P.state c.requires.state.0 c.args.state.0 c.requires.state.1)

pub new_state-requires-clause-pair : goal.new_state-requires-clause-pair
new_state-requires-clause-pair g c =
    let h = c.requires.state in
    let P = program_of c.args.code.now in
    let prover = ProverNodes (digest_at g.H.Hash32.hash P) in
    let nodes = g.N.Nodes.nodes in
    let argument = PairV (IntV c.args.key) (IntV c.args.value) in
    let before = c.put_pair.ensures.keeps prover P.types c.args.state.0 P.state h.0
    (c.put_int-2.ensures.keeps prover P.types c.args.state.0 P.state h.0 (c.put_int.ensures.keeps prover P.types c.args.state.0 P.state h.0 h.1)) in
    let pair = pair_stands prover P.types (nodes c.put_int.new.self) (nodes c.put_int-2.new.self) (nodes c.put_pair.new.self)
    c.in_ok-first.first.0 c.in_ok-second.second.0 c.in_ok-argument.argument.0 c.args.key c.args.value c.ranges.key c.ranges.value
    c.in_ok-first.ensures.stands c.put_int-2.ensures.keeps c.in_ok-second.ensures.stands c.in_ok-argument.ensures.stands in
    let called = called_on P c.args.workload.now.put.0 Update (PairTy IntTy IntTy) c.requires.put.0 c.requires.put.1 tt g.H.Hash32.hash
    (nodes c.put_pair.new.self) c.args.state c.in_ok-argument.argument h.0 argument before pair in
    let o = outcome_of P c.args.workload.now.put.0 h.0 argument in
    let ends = update_ends P c.args.workload.now.put.0 (PairTy IntTy IntTy) c.requires.put.0 c.requires.put.1 prover (nodes c.checked_call.new.store)
    c.in_ok-call.call.value o (c.in_ok-call.ensures.value h.0 argument called) in
    (prover, P.types, P.state, c.requires.put.0, o, ends)

pub returns-clause-keeps : goal.returns-clause-keeps
returns-clause-keeps g c = λ kind types r t v h.
    let below = subst (λ n. r < n) (sym c.mark-before.ensures) (there_stands kind types (g.N.Nodes.nodes c.args.store.now) t v r h) in
    let put = c.put_pair.ensures.keeps kind types r t v (c.put_int-2.ensures.keeps kind types r t v (c.put_int.ensures.keeps kind types r t v h)) in
    c.new_state.ensures.keeps kind types r t v below (c.checked_call.ensures.keeps kind types r t v put)

pub returns-clause-state : goal.returns-clause-state
returns-clause-state g c s stands =
    let P = program_of c.args.code.now in
    let prover = ProverNodes (digest_at g.H.Hash32.hash P) in
    let nodes = g.N.Nodes.nodes in
    let argument = PairV (IntV c.args.key) (IntV c.args.value) in
    let before = c.put_pair.ensures.keeps prover P.types c.args.state.0 P.state s
    (c.put_int-2.ensures.keeps prover P.types c.args.state.0 P.state s (c.put_int.ensures.keeps prover P.types c.args.state.0 P.state s stands)) in
    let pair = pair_stands prover P.types (nodes c.put_int.new.self) (nodes c.put_int-2.new.self) (nodes c.put_pair.new.self)
    c.in_ok-first.first.0 c.in_ok-second.second.0 c.in_ok-argument.argument.0 c.args.key c.args.value c.ranges.key c.ranges.value
    c.in_ok-first.ensures.stands c.put_int-2.ensures.keeps c.in_ok-second.ensures.stands c.in_ok-argument.ensures.stands in
    let called = called_on P c.args.workload.now.put.0 Update (PairTy IntTy IntTy) c.requires.put.0 c.requires.put.1 tt g.H.Hash32.hash
    (nodes c.put_pair.new.self) c.args.state c.in_ok-argument.argument s argument before pair in
    let o = outcome_of P c.args.workload.now.put.0 s argument in
    let ends = update_ends P c.args.workload.now.put.0 (PairTy IntTy IntTy) c.requires.put.0 c.requires.put.1 prover (nodes c.checked_call.new.store)
    c.in_ok-call.call.value o (c.in_ok-call.ensures.value s argument called) in
    c.new_state.ensures.state prover P.types P.state c.requires.put.0 o s ends (c.checked_call.ensures.keeps prover P.types c.args.state.0 P.state s before)
