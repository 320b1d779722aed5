use Rattle.std.proofs.Common.{Ok, map, subst}
use Rattle.core_terms.specs.ProgramTypes.{types_meaning}
use Rattle.ideal_meaning.specs.Ideal.{Outcome, honest_piece}
use Rattle.collision_audit.specs.Audits.{Audit}
use Rattle.collision_audit.specs.Splits.{left_behind}
use Rattle.collision_audit.specs.Comparing.{Compares}
use Rattle.collision_audit.specs.PieceAudits.{audit_from}
use Rattle.collision_audit.proofs.Parting.{counted}
use Rattle.collision_audit.proofs.comparing.compare_to_end.Goals as goal

pub returns-in-Some-clause-compares : goal.returns-in-Some-clause-compares
returns-in-Some-clause-compares g c seen count o h ahead =
    let hash = g.H.Hash32.hash in
    let P = types_meaning c.args.types.now in
    subst (λ r. Compares (λ outcome. audit_from hash P.format outcome 0 (map (honest_piece hash P) seen) count o) (left_behind o) (g.S.Source.left c.compare.new.proof) (Ok r)) c.in-Some.is
    (c.in_ok-answer.ensures.compares seen count o h ahead)

pub returns-in-None-clause-compares : goal.returns-in-None-clause-compares
returns-in-None-clause-compares g c seen count o h ahead =
    let hash = g.H.Hash32.hash in
    let P = types_meaning c.args.types.now in
    let audit : Outcome → Audit = λ outcome. audit_from hash P.format outcome 0 (map (honest_piece hash P) seen) count o in
    let same = subst (λ r. Compares audit (left_behind o) (g.S.Source.left c.compare.new.proof) (Ok r)) c.in-None.is (c.in_ok-answer.ensures.compares seen count o h ahead) in
    counted audit (left_behind o) (g.S.Source.left c.compare.new.proof) (g.S.Source.left c.count_rest.new.proof) c.count_rest.result same (c.count_rest.ensures.counts same.0 same.1)
