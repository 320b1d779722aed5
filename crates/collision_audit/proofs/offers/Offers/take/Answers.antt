use Rattle.std.proofs.Common.{Ok, sym, ◌∙◌, subst}
use Rattle.proof_stream.specs.Readers.{limit_of, piece_of}
use Rattle.proof_stream.specs.TakenFrames.{TakesFrame}
use Rattle.proof_stream.specs.declared.frame.Frame.{Frame}
use Rattle.collision_audit.specs.AuditsInCode.{AuditCause}
use Rattle.collision_audit.proofs.Taking.{takes_new, takes_kept, takes_none}
use Rattle.collision_audit.proofs.offers.Offers.take.Goals as goal

pub returns-in-Ok-New-clause-takes : goal.returns-in-Ok-New-clause-takes
returns-in-Ok-New-clause-takes g c count o ahead =
    let limit = limit_of c.args.self.now.reader in
    let left' = g.S.Source.left c.next.new.source in
    let piece = piece_of c.next.new.self in
    takes_new limit c.args.self.now.ring (g.S.Source.left c.args.proof.now) count o ahead c.args.place c.args.honest.now (limit_of c.compare_new.new.self.reader)
    (c.compare_new.ensures.limit ∙ c.in-Ok-New.ensures.limit) left' piece c.compare_new.new.self.ring c.compare_new.result
    (subst (λ (f : Frame). TakesFrame limit ahead.bytes piece left' (Ok f)) c.in-Ok-New.field-0-is (c.in-Ok-New.ensures.takes ahead.bytes ahead.told)) c.compare_new.ensures.compares

pub returns-in-Ok-Back-clause-takes : goal.returns-in-Ok-Back-clause-takes
returns-in-Ok-Back-clause-takes g c count o ahead =
    let limit = limit_of c.args.self.now.reader in
    let left' = g.S.Source.left c.next.new.source in
    let piece = piece_of c.next.new.self in
    takes_kept limit c.args.self.now.ring (g.S.Source.left c.args.proof.now) count o ahead c.args.place c.args.honest.now (limit_of c.next.new.self) c.in-Ok-Back.ensures.limit left'
    c.in-Ok-Back.k piece
    c.compare_kept.result (subst (λ (f : Frame). TakesFrame limit ahead.bytes piece left' (Ok f)) c.in-Ok-Back.field-0-is (c.in-Ok-Back.ensures.takes ahead.bytes ahead.told))
    c.compare_kept.ensures.compares

pub returns-in-Ok-Back-clause-faults : goal.returns-in-Ok-Back-clause-faults
returns-in-Ok-Back-clause-faults g c =
    subst (λ now. AuditCause (g.S.Source.faults c.args.proof.now) now c.compare_kept.result) (sym c.in-Ok-Back.ensures.cause) (c.compare_kept.ensures.faults (g.S.Source.faults c.args.proof.now))

pub returns-in-Err-clause-takes : goal.returns-in-Err-clause-takes
returns-in-Err-clause-takes g c count o ahead =
    takes_none (limit_of c.args.self.now.reader) c.args.self.now.ring (g.S.Source.left c.args.proof.now) count o ahead c.args.place c.args.honest.now (limit_of c.next.new.self) c.in-Err.ensures.limit
    (g.S.Source.left c.next.new.source) c.in-Err.end c.args.self.now.ring c.ended.result (c.in-Err.ensures.takes ahead.bytes ahead.told) c.ended.ensures.is

pub returns-in-Err-clause-faults : goal.returns-in-Err-clause-faults
returns-in-Err-clause-faults g c = c.ended.ensures.faults (g.S.Source.faults c.args.proof.now) (g.S.Source.faults c.next.new.source) c.in-Err.ensures.cause
