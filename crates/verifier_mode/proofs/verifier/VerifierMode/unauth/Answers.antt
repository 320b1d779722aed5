-- The piece that is taken is the one that the definitions take, a new one or a kept one; or there is none.
use Rattle.std.proofs.Common.{◌≡◌, ◌+◌, ◌∷◌, ◌++◌, suc, length, sym, ap, ap₂, ◌∙◌, subst, arith}
use Rattle.core_terms.proofs.Fingerprints.{front_is}
use Rattle.core_terms.specs.ProgramTypes.{types_by_number, types_meaning}
use Rattle.core_terms.specs.Projection.{digest_at}
use Rattle.core_terms.specs.TypeTables.{type_at}
use Rattle.ideal_meaning.specs.Frames.{Offers}
use Rattle.proof_stream.specs.Readers.{limit_of, piece_of}
use Rattle.reuse_buffer.specs.Kept.{Kept, kept}
use Rattle.verifier_mode.specs.LastReads.{IsRead, knows_last_on}
use Rattle.verifier_mode.specs.Takings.{FollowsFrames, behind_piece, taking}
use Rattle.verifier_mode.proofs.Pieces.{OpenedAs, back_more, back_offer, back_taken, bad_use, ended, ends_with, follows_back, follows_new, moves_back, moves_new, new_more, new_offer, new_taken, opens, stops}
use Rattle.verifier_mode.proofs.verifier.VerifierMode.unauth.Goals as goal

pub returns-in_err-fresh-in-Ok-New-clause-opens : goal.returns-in_err-fresh-in-Ok-New-clause-opens
returns-in_err-fresh-in-Ok-New-clause-opens g c x w stands follows =
    let P = types_meaning c.args.types.now in
    let t = type_at (types_by_number c.args.types.now) c.args.ty in
    let hash = g.H.Hash32.hash in
    let want = c.held_digest.result.0 in
    let place = c.args.self.now.place in
    let ring = c.args.self.now.ring in
    let limit = limit_of c.args.self.now.reader in
    let left = g.S.Source.left c.args.world.now in
    let left' = g.S.Source.left c.next.new.source in
    let held = c.held_digest.ensures P.types t x stands in
    let here = taking P ring.size follows.recent follows.bytes place in
    let piece = c.deref-in-Ok-New.result.now in
    let in_hand : piece_of c.next.new.self ≡ piece = sym (c.deref-in-Ok-New.ensures.value ∙ c.take_piece-piece.ensures.piece) in
    let r = new_taken limit follows.bytes left' _ (piece_of c.next.new.self) (c.in-Ok-New.ensures.takes follows.bytes follows.told) piece c.in-Ok-New.field-0-is in_hand in
    let more = new_more hash P t want place x w held limit ring left follows piece r.0 r.1 in
    let behind = behind_piece place (length r.0) more in
    let offer = new_offer hash P t want place x w held limit ring left follows piece r.0 r.1 in
    let found : c.of_pair-found.result.0 ≡ digest_at hash P t piece =
    c.of_pair-found.ensures ∙ ap₂ (λ f b. hash (f ++ b)) (c.front.ensures ∙ front_is hash c.args.types.now c.args.self.now.fronts c.requires.knows.1 c.args.ty) (c.deref.ensures.value ∙ sym c.deref-in-Ok-New.ensures.value) in
    let nodes = g.N.Nodes.nodes c.open_piece.new.store in
    ends_with (OpenedAs hash P t want place x w held limit ring left follows (FollowsFrames P (limit_of c.take_piece-piece.new.self) ring place left') nodes) _ _ c.from_residual.ensures.1
    (stops hash P t want place x w held limit ring left follows (FollowsFrames P (limit_of c.take_piece-piece.new.self) ring place left') nodes (Offers piece (length r.0) more) behind _ offer
    (c.in_err-fresh-in-Ok-New.ensures.opens hash (length r.0) more here found))

pub returns-in_default-clause-opens : goal.returns-in_default-clause-opens
returns-in_default-clause-opens g c x w stands follows cause e =
    let P = types_meaning c.args.types.now in
    let t = type_at (types_by_number c.args.types.now) c.args.ty in
    let hash = g.H.Hash32.hash in
    let want = c.held_digest.result.0 in
    let place = c.args.self.now.place in
    let ring = c.args.self.now.ring in
    let limit = limit_of c.args.self.now.reader in
    let left = g.S.Source.left c.args.world.now in
    let left' = g.S.Source.left c.next.new.source in
    let held = c.held_digest.ensures P.types t x stands in
    let here = taking P ring.size follows.recent follows.bytes place in
    let k = c.in-Ok-Back.k in
    let r = back_taken limit follows.bytes left' _ (piece_of c.next.new.self) (c.in-Ok-Back.ensures.takes follows.bytes follows.told) k c.in-Ok-Back.field-0-is in
    bad_use hash P t want place x w held limit ring left follows k r.0 r.1 c.held-held.result c.held-held.ensures.count c.in_default.ensures cause e

pub returns-in_err-used-in-Ok-Back-clause-opens : goal.returns-in_err-used-in-Ok-Back-clause-opens
returns-in_err-used-in-Ok-Back-clause-opens g c x w stands follows =
    let P = types_meaning c.args.types.now in
    let t = type_at (types_by_number c.args.types.now) c.args.ty in
    let hash = g.H.Hash32.hash in
    let want = c.held_digest.result.0 in
    let place = c.args.self.now.place in
    let ring = c.args.self.now.ring in
    let limit = limit_of c.args.self.now.reader in
    let left = g.S.Source.left c.args.world.now in
    let left' = g.S.Source.left c.next.new.source in
    let held = c.held_digest.ensures P.types t x stands in
    let here = taking P ring.size follows.recent follows.bytes place in
    let k = c.in-Ok-Back.k in
    let r = back_taken limit follows.bytes left' _ (piece_of c.next.new.self) (c.in-Ok-Back.ensures.takes follows.bytes follows.told) k c.in-Ok-Back.field-0-is in
    let piece = c.in-Some.piece.now in
    let more = back_more hash P t want place x w held limit ring left follows k r.0 r.1 in
    let behind = behind_piece place (length r.0) more in
    let offer = back_offer hash P t want place x w held limit ring left follows k r.0 r.1 piece c.in-Some.ensures in
    let nodes = g.N.Nodes.nodes c.open_piece-in-Ok-Back.new.store in
    ends_with (OpenedAs hash P t want place x w held limit ring left follows (FollowsFrames P (limit_of c.next.new.self) ring place left') nodes) _ _ c.from_residual-in_err-used-in-Ok-Back.ensures.1
    (stops hash P t want place x w held limit ring left follows (FollowsFrames P (limit_of c.next.new.self) ring place left') nodes (Offers piece (length r.0) more) behind _ offer
    (c.in_err-used-in-Ok-Back.ensures.opens hash (length r.0) more here (c.of_pair-kept.ensures ∙ ap (λ f. hash (f ++ piece)) (c.front-in-Ok-Back.ensures ∙ front_is hash c.args.types.now c.args.self.now.fronts c.requires.knows.1 c.args.ty))))

pub returns-in_ok-fresh-in-Ok-New-clause-some : goal.returns-in_ok-fresh-in-Ok-New-clause-some
returns-in_ok-fresh-in-Ok-New-clause-some g c =
    c.in_ok-fresh-in-Ok-New.ensures.some g.H.Hash32.hash

pub returns-in_ok-fresh-in-Ok-New-clause-opens : goal.returns-in_ok-fresh-in-Ok-New-clause-opens
returns-in_ok-fresh-in-Ok-New-clause-opens g c x w stands follows =
    let P = types_meaning c.args.types.now in
    let t = type_at (types_by_number c.args.types.now) c.args.ty in
    let hash = g.H.Hash32.hash in
    let want = c.held_digest.result.0 in
    let place = c.args.self.now.place in
    let ring = c.args.self.now.ring in
    let limit = limit_of c.args.self.now.reader in
    let left = g.S.Source.left c.args.world.now in
    let left' = g.S.Source.left c.next.new.source in
    let held = c.held_digest.ensures P.types t x stands in
    let here = taking P ring.size follows.recent follows.bytes place in
    let piece = c.deref-in-Ok-New.result.now in
    let in_hand : piece_of c.next.new.self ≡ piece = sym (c.deref-in-Ok-New.ensures.value ∙ c.take_piece-piece.ensures.piece) in
    let r = new_taken limit follows.bytes left' _ (piece_of c.next.new.self) (c.in-Ok-New.ensures.takes follows.bytes follows.told) piece c.in-Ok-New.field-0-is in_hand in
    let more = new_more hash P t want place x w held limit ring left follows piece r.0 r.1 in
    let behind = behind_piece place (length r.0) more in
    let offer = new_offer hash P t want place x w held limit ring left follows piece r.0 r.1 in
    let found : c.of_pair-found.result.0 ≡ digest_at hash P t piece =
    c.of_pair-found.ensures ∙ ap₂ (λ f b. hash (f ++ b)) (c.front.ensures ∙ front_is hash c.args.types.now c.args.self.now.fronts c.requires.knows.1 c.args.ty) (c.deref.ensures.value ∙ sym c.deref-in-Ok-New.ensures.value) in
    let one : place + 1 ≡ suc place = omega arith in
    let same : limit_of c.reuse.new.self ≡ limit = c.reuse.ensures.limit ∙ c.take_piece-piece.ensures.limit ∙ c.in-Ok-New.ensures.limit in
    let holds = c.push_unindexed-oldest.ensures.last follows.recent follows.holds ∙ ap (λ q. kept ring.size (q ∷ follows.recent)) (sym c.deref-in-Ok-New.ensures.value) in
    opens hash P t want place x w held limit ring left follows (FollowsFrames P (limit_of c.reuse.new.self) c.push_unindexed-oldest.new.self (place + 1) left') (g.N.Nodes.nodes c.open_piece.new.store)
    (Offers piece (length r.0) more) behind c.in_ok-fresh-in-Ok-New.fresh offer
    (follows_new hash P t want place x w held limit ring left follows piece r.0 r.1 (limit_of c.reuse.new.self) c.push_unindexed-oldest.new.self (place + 1) left' same holds one r.2)
    (c.in_ok-fresh-in-Ok-New.ensures.opens hash (length r.0) more here found)

pub returns-in_ok-fresh-in-Ok-New-clause-moves : goal.returns-in_ok-fresh-in-Ok-New-clause-moves
returns-in_ok-fresh-in-Ok-New-clause-moves g c =
    let ring = c.args.self.now.ring in
    let limit = limit_of c.args.self.now.reader in
    let left = g.S.Source.left c.args.world.now in
    let left' = g.S.Source.left c.next.new.source in
    let piece = c.deref-in-Ok-New.result.now in
    let in_hand : piece_of c.next.new.self ≡ piece = sym (c.deref-in-Ok-New.ensures.value ∙ c.take_piece-piece.ensures.piece) in
    let same : limit_of c.reuse.new.self ≡ limit = c.reuse.ensures.limit ∙ c.take_piece-piece.ensures.limit ∙ c.in-Ok-New.ensures.limit in
    moves_new limit (limit_of c.reuse.new.self) ring left left' same c.push_unindexed-oldest.new.self piece
    (λ bytes told. new_taken limit bytes left' _ (piece_of c.next.new.self) (c.in-Ok-New.ensures.takes bytes told) piece c.in-Ok-New.field-0-is in_hand)
    (λ recent holds. c.push_unindexed-oldest.ensures.last recent holds ∙ ap (λ q. kept ring.size (q ∷ recent)) (sym c.deref-in-Ok-New.ensures.value))
    (ap (λ (r : Kept). r.size) c.push_unindexed-oldest.ensures.pieces)

pub returns-in_ok-used-in-Ok-Back-clause-some : goal.returns-in_ok-used-in-Ok-Back-clause-some
returns-in_ok-used-in-Ok-Back-clause-some g c =
    c.in_ok-used-in-Ok-Back.ensures.some g.H.Hash32.hash

pub returns-in_ok-used-in-Ok-Back-clause-opens : goal.returns-in_ok-used-in-Ok-Back-clause-opens
returns-in_ok-used-in-Ok-Back-clause-opens g c x w stands follows =
    let P = types_meaning c.args.types.now in
    let t = type_at (types_by_number c.args.types.now) c.args.ty in
    let hash = g.H.Hash32.hash in
    let want = c.held_digest.result.0 in
    let place = c.args.self.now.place in
    let ring = c.args.self.now.ring in
    let limit = limit_of c.args.self.now.reader in
    let left = g.S.Source.left c.args.world.now in
    let left' = g.S.Source.left c.next.new.source in
    let held = c.held_digest.ensures P.types t x stands in
    let here = taking P ring.size follows.recent follows.bytes place in
    let k = c.in-Ok-Back.k in
    let r = back_taken limit follows.bytes left' _ (piece_of c.next.new.self) (c.in-Ok-Back.ensures.takes follows.bytes follows.told) k c.in-Ok-Back.field-0-is in
    let piece = c.in-Some.piece.now in
    let more = back_more hash P t want place x w held limit ring left follows k r.0 r.1 in
    let behind = behind_piece place (length r.0) more in
    let offer = back_offer hash P t want place x w held limit ring left follows k r.0 r.1 piece c.in-Some.ensures in
    let one : place + 1 ≡ suc place = omega arith in
    opens hash P t want place x w held limit ring left follows (FollowsFrames P (limit_of c.next.new.self) ring (place + 1) left') (g.N.Nodes.nodes c.open_piece-in-Ok-Back.new.store)
    (Offers piece (length r.0) more) behind c.in_ok-used-in-Ok-Back.used offer
    (follows_back hash P t want place x w held limit ring left follows k r.0 r.1 (limit_of c.next.new.self) (place + 1) left' c.in-Ok-Back.ensures.limit one r.2)
    (c.in_ok-used-in-Ok-Back.ensures.opens hash (length r.0) more here (c.of_pair-kept.ensures ∙ ap (λ f. hash (f ++ piece)) (c.front-in-Ok-Back.ensures ∙ front_is hash c.args.types.now c.args.self.now.fronts c.requires.knows.1 c.args.ty)))

pub returns-in_ok-used-in-Ok-Back-clause-moves : goal.returns-in_ok-used-in-Ok-Back-clause-moves
returns-in_ok-used-in-Ok-Back-clause-moves g c =
    let ring = c.args.self.now.ring in
    let limit = limit_of c.args.self.now.reader in
    let left = g.S.Source.left c.args.world.now in
    let left' = g.S.Source.left c.next.new.source in
    let k = c.in-Ok-Back.k in
    moves_back limit (limit_of c.next.new.self) ring left left' c.in-Ok-Back.ensures.limit k
    (λ bytes told. back_taken limit bytes left' _ (piece_of c.next.new.self) (c.in-Ok-Back.ensures.takes bytes told) k c.in-Ok-Back.field-0-is)
    c.in-Some.piece.now c.in-Some.ensures

pub returns-in-Err-clause-opens : goal.returns-in-Err-clause-opens
returns-in-Err-clause-opens g c x w stands follows =
    let P = types_meaning c.args.types.now in
    let t = type_at (types_by_number c.args.types.now) c.args.ty in
    let hash = g.H.Hash32.hash in
    let want = c.held_digest.result.0 in
    let place = c.args.self.now.place in
    let ring = c.args.self.now.ring in
    let limit = limit_of c.args.self.now.reader in
    let left = g.S.Source.left c.args.world.now in
    let left' = g.S.Source.left c.next.new.source in
    let held = c.held_digest.ensures P.types t x stands in
    ended hash P t want place x w held limit ring left follows (λ w. Unit {0}) (g.N.Nodes.nodes c.args.store.now) c.in-Err.end left' c.stop_of.result
    (c.in-Err.ensures.takes follows.bytes follows.told) (c.stop_of.ensures.cause want)

pub returns-in-Err-clause-faults : goal.returns-in-Err-clause-faults
returns-in-Err-clause-faults g c =
    c.stop_of.ensures.faults (g.S.Source.faults c.args.world.now) (g.S.Source.faults c.next.new.source) c.in-Err.ensures.cause

pub returns-in_ok-fresh-in-Ok-New-clause-knows : goal.returns-in_ok-fresh-in-Ok-New-clause-knows
returns-in_ok-fresh-in-Ok-New-clause-knows g c =
    let types = c.args.types.now in
    let new = g.N.Nodes.nodes c.open_piece.new.store in (
      c.note_read.ensures types new
          (knows_last_on types c.args.self.now.last (g.N.Nodes.nodes c.args.store.now) new c.in_ok-fresh-in-Ok-New.ensures.keeps c.requires.knows.0)
          (subst (λ p. IsRead types new c.args.ty p c.in_ok-fresh-in-Ok-New.fresh) (c.deref-in-Ok-New.ensures.value ∙ sym c.deref-in-Ok-New-2.ensures.value) c.in_ok-fresh-in-Ok-New.ensures.read),
      c.requires.knows.1,
    )

pub returns-in_ok-used-in-Ok-Back-clause-knows : goal.returns-in_ok-used-in-Ok-Back-clause-knows
returns-in_ok-used-in-Ok-Back-clause-knows g c = (
  knows_last_on c.args.types.now c.args.self.now.last (g.N.Nodes.nodes c.args.store.now) (g.N.Nodes.nodes c.open_piece-in-Ok-Back.new.store)
      c.in_ok-used-in-Ok-Back.ensures.keeps c.requires.knows.0,
  c.requires.knows.1,
)
