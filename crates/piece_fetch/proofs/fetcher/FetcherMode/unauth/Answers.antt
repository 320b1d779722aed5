-- The answer is the next one of the definitions: a piece that is opened or refused, that there is none, or that none is read.
use Rattle.std.proofs.lemmas.Result.{err_from_is_err_and}
use Rattle.std.proofs.Common.{◌≡◌, ◌≤◌, ◌+◌, suc, [], ◌∷◌, length, refl, sym, ap, ◌∙◌, subst, arith}
use Rattle.core_terms.proofs.Fingerprints.{front_is}
use Rattle.core_terms.specs.ProgramTypes.{text_of, types_by_number, types_meaning}
use Rattle.core_terms.specs.TypeTables.{type_at}
use Rattle.ideal_meaning.specs.Frames.{NoMore, Offers, Lacks, Breaks}
use Rattle.ideal_meaning.specs.Fetched.{IsPiece, IsLack, IsBroken, answered}
use Rattle.wire_form.specs.Gots.{got_meant, wire_meant}
use Rattle.ideal_meaning.specs.Checked as meant
use Rattle.piece_fetch.specs.declared.fetcher.FetcherFault.TheVariants.{Missing, Broken}
use Rattle.piece_fetch.specs.Answerings.{IsTo}
use Rattle.verifier_mode.specs.Takings.{behind_piece}
use Rattle.piece_fetch.proofs.Fronts.{short_front}
use Rattle.piece_fetch.proofs.Pieces.{opens, stops, ends, piece_stops}
use Rattle.piece_fetch.proofs.fetcher.FetcherMode.unauth.Goals as goal

pub open_piece-requires-clause-short : goal.open_piece-requires-clause-short
open_piece-requires-clause-short g c =
    let types = c.args.types.now in
    let hash = g.H.Hash32.hash in
    let t = type_at (types_by_number types) c.args.ty in
    let front = c.front-front.ensures ∙ front_is hash types c.args.self.now.fronts c.requires.knows c.args.ty in
    subst (λ f. length f ≤ 32) (sym front) (short_front hash g.met.H.Hash32.digest_length types.table.format (text_of types) t)

pub returns-in_ok-opened-in-Ok-Piece-clause-some : goal.returns-in_ok-opened-in-Ok-Piece-clause-some
returns-in_ok-opened-in-Ok-Piece-clause-some g c = c.in_ok-opened-in-Ok-Piece.ensures.some g.H.Hash32.hash

pub returns-in_ok-opened-in-Ok-Piece-clause-answers : goal.returns-in_ok-opened-in-Ok-Piece-clause-answers
returns-in_ok-opened-in-Ok-Piece-clause-answers g c asks =
    let P = types_meaning c.args.types.now in
    let t = type_at (types_by_number c.args.types.now) c.args.ty in
    let hash = g.H.Hash32.hash in
    let want = c.held_digest.result.0 in
    let place = c.args.self.now.place in
    let old = c.args.world.now in
    let new = c.fetch.new.self in
    let b = c.as_bytes-in-Ok-Piece.result.now in
    let front = c.front-front.ensures ∙ front_is hash c.args.types.now c.args.self.now.fronts c.requires.knows c.args.ty in
    let found : c.of-found.result.0 ≡ hash b = c.of-found.ensures ∙ ap hash (c.as_bytes.ensures ∙ sym c.as_bytes-in-Ok-Piece.ensures) in
    let given : g.F.Fetch.gives old want (IsPiece b) new = subst (λ p. g.F.Fetch.gives old want (IsPiece p) new) (sym c.as_bytes-in-Ok-Piece.ensures)
    (subst (λ a. g.F.Fetch.gives old want (got_meant a) new) c.in-Ok-Piece.field-0-is c.in-Ok-Piece.ensures.gives) in
    let own : g.F.Fetch.gives old (hash b) (IsPiece b) new = subst (λ d. g.F.Fetch.gives old d (IsPiece b) new) (sym c.in_ok-opened-in-Ok-Piece.ensures.refuses ∙ found) given in
    let next : suc place ≡ place + 1 = omega arith in (
      IsPiece b ∷ [],
      (new, own, refl),
      λ x w more stands to.
          opens hash P t want place x w (c.held_digest.ensures P.types t x stands) (IsPiece b ∷ more) to (IsTo (place + 1) more) (g.N.Nodes.nodes c.open_piece.new.store)
          (Offers b 0 (answered more)) (behind_piece place 0 (answered more)) c.in_ok-opened-in-Ok-Piece.opened refl (record { at = next; more = refl })
          (c.in_ok-opened-in-Ok-Piece.ensures.opens hash (answered more) w found front),
    )

pub returns-in_err-opened-in-Ok-Piece-clause-answers : goal.returns-in_err-opened-in-Ok-Piece-clause-answers
returns-in_err-opened-in-Ok-Piece-clause-answers g c asks =
    let P = types_meaning c.args.types.now in
    let t = type_at (types_by_number c.args.types.now) c.args.ty in
    let hash = g.H.Hash32.hash in
    let want = c.held_digest.result.0 in
    let place = c.args.self.now.place in
    let old = c.args.world.now in
    let new = c.fetch.new.self in
    let b = c.as_bytes-in-Ok-Piece.result.now in
    let nodes = g.N.Nodes.nodes c.open_piece.new.store in
    let front = c.front-front.ensures ∙ front_is hash c.args.types.now c.args.self.now.fronts c.requires.knows c.args.ty in
    let found : c.of-found.result.0 ≡ hash b = c.of-found.ensures ∙ ap hash (c.as_bytes.ensures ∙ sym c.as_bytes-in-Ok-Piece.ensures) in
    let given : g.F.Fetch.gives old want (IsPiece b) new = subst (λ p. g.F.Fetch.gives old want (IsPiece p) new) (sym c.as_bytes-in-Ok-Piece.ensures)
    (subst (λ a. g.F.Fetch.gives old want (got_meant a) new) c.in-Ok-Piece.field-0-is c.in-Ok-Piece.ensures.gives) in
    let err = err_from_is_err_and c.from_residual.result c.from_residual.ensures.1 in rw (err.1, err.2)
    (piece_stops hash g.F.Fetch.gives old new want c.of-found.result.0 b found given _ _ c.in_err-opened-in-Ok-Piece.ensures.refuses
    (λ x w more stands to.
    stops hash P t want place x w (c.held_digest.ensures P.types t x stands) (IsPiece b ∷ more) to (λ after. IsTo place more after) nodes
    (Offers b 0 (answered more)) (behind_piece place 0 (answered more)) _ refl (c.in_err-opened-in-Ok-Piece.ensures.opens hash (answered more) w found front)))

pub returns-in-Ok-Lack-clause-answers : goal.returns-in-Ok-Lack-clause-answers
returns-in-Ok-Lack-clause-answers g c asks cause e =
    let P = types_meaning c.args.types.now in
    let t = type_at (types_by_number c.args.types.now) c.args.ty in
    let hash = g.H.Hash32.hash in
    let want = c.held_digest.result.0 in
    let place = c.args.self.now.place in
    let old = c.args.world.now in
    let new = c.fetch.new.self in
    let given : g.F.Fetch.gives old want IsLack new = subst (λ a. g.F.Fetch.gives old want (got_meant a) new) c.in-Ok-Lack.field-0-is c.in-Ok-Lack.ensures.gives in (
      [],
      IsLack,
      old,
      refl,
      given,
      λ x w more stands to. ends hash P t want place x w (c.held_digest.ensures P.types t x stands) (IsLack ∷ more) to (λ after. IsTo place more after) (g.N.Nodes.nodes c.args.store.now)
          (NoMore Lacks) (Missing place c.held_digest.result) (meant.Missing place want) refl refl refl,
    )

pub returns-in-Ok-Broken-clause-answers : goal.returns-in-Ok-Broken-clause-answers
returns-in-Ok-Broken-clause-answers g c asks cause e =
    let P = types_meaning c.args.types.now in
    let t = type_at (types_by_number c.args.types.now) c.args.ty in
    let hash = g.H.Hash32.hash in
    let want = c.held_digest.result.0 in
    let place = c.args.self.now.place in
    let old = c.args.world.now in
    let new = c.fetch.new.self in
    let wire = wire_meant c.in-Ok-Broken.wire in
    let given : g.F.Fetch.gives old want (IsBroken wire) new = subst (λ a. g.F.Fetch.gives old want (got_meant a) new) c.in-Ok-Broken.field-0-is c.in-Ok-Broken.ensures.gives in (
      [],
      IsBroken wire,
      old,
      refl,
      (refl, given),
      λ x w more stands to. ends hash P t want place x w (c.held_digest.ensures P.types t x stands) (IsBroken wire ∷ more) to (λ after. IsTo place more after) (g.N.Nodes.nodes c.args.store.now)
          (NoMore (Breaks wire)) (Broken place c.held_digest.result c.in-Ok-Broken.wire) (meant.Broken place want wire) refl refl refl,
    )
