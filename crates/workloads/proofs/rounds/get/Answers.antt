use Rattle.std.proofs.Common.{◌∙◌, ◌<◌, ◌≤◌, [], length, sym, ap, subst}
use Rattle.std.proofs.lemmas.List.{length-take-le}
use Rattle.core_terms.specs.Projection.{digest_at}
use Rattle.core_terms.specs.Terms.{Query}
use Rattle.core_terms.specs.Types.{IntTy}
use Rattle.core_terms.specs.Values.{IntV}
use Rattle.value_store.specs.Nodes.{Lent}
use Rattle.value_store.specs.Standing.{IdealNodes, ProverNodes}
use Rattle.value_store.proofs.StandingNodes.{there_stands}
use Rattle.mode_vm.specs.Meanings.{program_of}
use Rattle.workloads.proofs.CalledRoles.{called_on, int_stands, takes, there}
use Rattle.workloads.proofs.CutNodes.{lent_first, mark_there}
use Rattle.workloads.proofs.rounds.get.Goals as goal

pub checked_call-requires-clause-there : goal.checked_call-requires-clause-there
checked_call-requires-clause-there g c κs within = there (program_of c.args.code.now) c.args.workload.now.get.0 Query IntTy c.requires.get.0 c.requires.get.1 tt

pub checked_call-requires-clause-role : goal.checked_call-requires-clause-role
checked_call-requires-clause-role g c κs within = takes (program_of c.args.code.now) c.args.workload.now.get.0 Query IntTy c.requires.get.0 c.requires.get.1 tt

pub checked_call-requires-clause-called : goal.checked_call-requires-clause-called
checked_call-requires-clause-called g c κs within =
    let h = c.requires.state in
    let P = program_of c.args.code.now in
    let prover = ProverNodes (digest_at g.H.Hash32.hash P) in
    let behind = g.N.Nodes.nodes c.put_int.new.self in
    let key = int_stands prover P.types behind c.in_ok-argument.argument.0 c.args.key c.ranges.key c.in_ok-argument.ensures.stands in
    let called = called_on P c.args.workload.now.get.0 Query IntTy c.requires.get.0 c.requires.get.1 tt g.H.Hash32.hash behind c.args.state
    c.in_ok-argument.argument h.0 (IntV c.args.key) (c.put_int.ensures.keeps prover P.types c.args.state.0 P.state h.0 h.1) key in
    (h.0, IntV c.args.key, called)

pub cut_to-requires-clause-there : goal.cut_to-requires-clause-there
cut_to-requires-clause-there g c =
    let r = c.in_ok-argument.argument.0 in
    let key = IntV c.args.key in
    let put = int_stands IdealNodes [] (g.N.Nodes.nodes c.put_int.new.self) r c.args.key c.ranges.key c.in_ok-argument.ensures.stands in
    let there = mark_there (g.N.Nodes.nodes c.args.store.now) (g.N.Nodes.nodes c.checked_call.new.store) c.mark-before.result.0 r
    c.mark-before.ensures c.in_ok-argument.ensures.put.0 key (c.checked_call.ensures.keeps IdealNodes [] r IntTy key put) in
    there

pub cut_to-requires-clause-lent : goal.cut_to-requires-clause-lent
cut_to-requires-clause-lent g c =
    let first = lent_first (g.N.Nodes.lent c.args.store.now).nodes (g.N.Nodes.nodes c.args.store.now) (g.met.N.Nodes.first c.args.store.now) in
    let same = c.checked_call.ensures.lent ∙ c.put_int.ensures.lent in
    subst (λ n. length (g.N.Nodes.lent c.checked_call.new.store).nodes ≤ n) (sym c.mark-before.ensures)
    (subst (λ (lent : Lent). length lent.nodes ≤ length (g.N.Nodes.nodes c.args.store.now)) (sym same) first)

pub returns-clause-tally : goal.returns-clause-tally
returns-clause-tally g c s stands =
    let P = program_of c.args.code.now in
    let prover = ProverNodes (digest_at g.H.Hash32.hash P) in
    let behind = g.N.Nodes.nodes c.put_int.new.self in
    let key = int_stands prover P.types behind c.in_ok-argument.argument.0 c.args.key c.ranges.key c.in_ok-argument.ensures.stands in
    let called = called_on P c.args.workload.now.get.0 Query IntTy c.requires.get.0 c.requires.get.1 tt g.H.Hash32.hash behind c.args.state
    c.in_ok-argument.argument s (IntV c.args.key) (c.put_int.ensures.keeps prover P.types c.args.state.0 P.state s stands) key in
    c.add.ensures.sums ∙ c.in_ok-call.ensures.counted s (IntV c.args.key) called c.args.tally.now

pub returns-clause-dropped : goal.returns-clause-dropped
returns-clause-dropped g c =
    let r = c.in_ok-argument.argument.0 in
    let key = IntV c.args.key in
    let put = int_stands IdealNodes [] (g.N.Nodes.nodes c.put_int.new.self) r c.args.key c.ranges.key c.in_ok-argument.ensures.stands in
    let there = mark_there (g.N.Nodes.nodes c.args.store.now) (g.N.Nodes.nodes c.checked_call.new.store) c.mark-before.result.0 r
    c.mark-before.ensures c.in_ok-argument.ensures.put.0 key (c.checked_call.ensures.keeps IdealNodes [] r IntTy key put) in
    ap length c.cut_to.ensures.nodes ∙ length-take-le c.mark-before.result.0 (g.N.Nodes.nodes c.checked_call.new.store) there ∙ c.mark-before.ensures

pub returns-clause-keeps : goal.returns-clause-keeps
returns-clause-keeps g c = λ kind types r t v h.
    let below = subst (λ n. r < n) (sym c.mark-before.ensures) (there_stands kind types (g.N.Nodes.nodes c.args.store.now) t v r h) in
    c.cut_to.ensures.keeps kind types r t v below (c.checked_call.ensures.keeps kind types r t v (c.put_int.ensures.keeps kind types r t v h))
