-- Each honest piece against the next that is offered.
use Rattle.std.proofs.Common.{map, arith, ◌∙◌, subst}
use Rattle.core_terms.specs.ProgramTypes.{types_meaning}
use Rattle.ideal_meaning.specs.Ideal.{honest_piece}
use Rattle.proof_stream.specs.Readers.{limit_of}
use Rattle.collision_audit.proofs.Parting.{Stands, goes_on, has_none, parts, seen_at, seen_end, stands_last, stands_seen}
use Rattle.collision_audit.proofs.comparing.compare.Goals as goal

pub projected-requires-clause-stands : goal.projected-requires-clause-stands
projected-requires-clause-stands g c κs within =
    let hash = g.H.Hash32.hash in
    let nodes = g.N.Nodes.nodes c.args.store.now in
    let at = seen_at hash c.args.types.now nodes c.args.opened.now c.requires.seen.0 c.loop-one.one-index _ c.requires.seen.1 c.loop-one-test.true in
    stands_seen hash c.args.types.now nodes _ at.0 at.2

pub returns-in-Other-clause-compares : goal.returns-in-Other-clause-compares
returns-in-Other-clause-compares g c seen count o h ahead =
    let nodes = g.N.Nodes.nodes c.args.store.now in
    let i = c.loop-one.one-index in
    let reader = c.loop-one.offers.reader in
    let left = g.S.Source.left c.loop-one.proof in
    let left' = g.S.Source.left c.take.new.proof in
    parts g.H.Hash32.hash c.args.types.now nodes c.args.opened.now seen count o i (limit_of reader) c.loop-one.offers.ring left h c.loop-one-test.true _ (c.loop-one.invariant.3 seen count o h ahead)
    c.loop-one.place c.loop-one.invariant.0 c.in_ok-honest.honest c.as_bytes.result.now c.in_ok-honest.ensures c.as_bytes.ensures (limit_of c.take.new.self.reader) c.take.new.self.ring left'
    c.in_ok-take.field-0
    c.in_ok-take.ensures.takes c.in-Other.piece c.answer_to.result c.in-Other.is c.answer_to.ensures.tells c.answer_to.ensures.stops

pub returns-in-Ended-clause-compares : goal.returns-in-Ended-clause-compares
returns-in-Ended-clause-compares g c seen count o h ahead =
    let nodes = g.N.Nodes.nodes c.args.store.now in
    let i = c.loop-one.one-index in
    let reader = c.loop-one.offers.reader in
    let left = g.S.Source.left c.loop-one.proof in
    let left' = g.S.Source.left c.take.new.proof in
    has_none g.H.Hash32.hash c.args.types.now nodes c.args.opened.now seen count o i (limit_of reader) c.loop-one.offers.ring left h c.loop-one-test.true _
    (c.loop-one.invariant.3 seen count o h ahead)
    c.loop-one.place c.loop-one.invariant.0 c.in_ok-honest.honest c.as_bytes.result.now c.in_ok-honest.ensures c.as_bytes.ensures (limit_of c.take.new.self.reader) c.take.new.self.ring left'
    c.in_ok-take.field-0
    c.in_ok-take.ensures.takes c.in-Ended.cause c.in-Ended.is

pub loop-one-preserved : goal.loop-one-preserved
loop-one-preserved g c = (
  omega (arith, c.loop-one.invariant.0),
  c.in_ok-take.ensures.faults ∙ c.loop-one.invariant.1,
  c.in_ok-take.ensures.rest ∙ c.loop-one.invariant.2,
  λ seen count o h ahead.
      let nodes = g.N.Nodes.nodes c.args.store.now in
      let i = c.loop-one.one-index in
      let reader = c.loop-one.offers.reader in
      let left = g.S.Source.left c.loop-one.proof in
      let left' = g.S.Source.left c.take.new.proof in
      goes_on g.H.Hash32.hash c.args.types.now nodes c.args.opened.now seen count o i (limit_of reader) c.loop-one.offers.ring left h c.loop-one-test.true _
      (c.loop-one.invariant.3 seen count o h ahead)
      c.loop-one.place c.loop-one.invariant.0 c.in_ok-honest.honest c.as_bytes.result.now c.in_ok-honest.ensures c.as_bytes.ensures (limit_of c.take.new.self.reader) c.take.new.self.ring left'
      c.in_ok-take.field-0
      c.in_ok-take.ensures.takes c.in-Same.is,
)

pub returns-clause-compares : goal.returns-clause-compares
returns-clause-compares g c seen count o h ahead =
    let hash = g.H.Hash32.hash in
    let types = c.args.types.now in
    let P = types_meaning types in
    let i = c.loop-one.one-index in
    let all = map (honest_piece hash P) seen in
    let limit = limit_of c.loop-one.offers.reader in
    let left = g.S.Source.left c.loop-one.proof in
    let none = seen_end hash types (g.N.Nodes.nodes c.args.store.now) c.args.opened.now seen i h c.loop-one-test.false in
    stands_last hash P.format all count o i limit c.loop-one.offers.ring left
    (subst (λ l. Stands hash P.format all count o i (map (honest_piece hash P) l) limit c.loop-one.offers.ring left) none (c.loop-one.invariant.3 seen count o h ahead))
