-- A piece with another digest, one that spells nothing, and one that is opened.
use Rattle.std.proofs.Common.{sym, ap, ◌∙◌, ◌≡◌, true, false, bytes_eq, subst, Err}
use Rattle.std.proofs.lemmas.Slice.Eq.{bytes_eq-Decides}
use Rattle.core_terms.specs.ProgramTypes.{types_by_number, types_meaning}
use Rattle.core_terms.specs.TypeTables.{type_at}
use Rattle.core_terms.specs.Projection.{read_at}
use Rattle.ideal_meaning.specs.Run.{Refuses}
use Rattle.ideal_meaning.specs.Checked.{WrongPiece}
use Rattle.ideal_meaning.specs.PieceForms.{read_behind}
use Rattle.shallow_codec.specs.Unspelled.{IsUnspelled}
use Rattle.verifier_mode.specs.Takings.{behind_piece}
use Rattle.verifier_mode.proofs.Pieces.{some_same}
use Rattle.piece_fetch.proofs.Pieces.{is_wrong, is_bad, is_good}
use Rattle.piece_fetch.proofs.opening.open_piece.Goals as goal

pub returns-then-not-are_same-clause-opens : goal.returns-then-not-are_same-clause-opens
returns-then-not-are_same-clause-opens g c hash more w is front cause e =
    let P = types_meaning c.args.types.now in
    let t = type_at (types_by_number c.args.types.now) c.args.ty in
    let want = c.args.asked.want.0 in
    let place = c.args.asked.place in
    let apart : bytes_eq (hash c.args.piece.now) want ≡ false = ap (λ d. bytes_eq d want) (sym is) ∙ sym c.are_same.ensures ∙ c.if-not-are_same.true in
    (w, is_wrong hash P t want place c.args.piece.now more w apart ∙ ap (λ c. Refuses c w) (ap (λ f. WrongPiece place want f) (sym is) ∙ some_same _ cause e))

pub returns-in-Err-Bad-clause-opens : goal.returns-in-Err-Bad-clause-opens
returns-in-Err-Bad-clause-opens g c hash more w is front cause e =
    let P = types_meaning c.args.types.now in
    let t = type_at (types_by_number c.args.types.now) c.args.ty in
    let want = c.args.asked.want.0 in
    let place = c.args.asked.place in
    let piece = c.args.piece.now in
    let same : bytes_eq (hash piece) want ≡ true = ap (λ d. bytes_eq d want) (sym is) ∙ sym c.are_same.ensures ∙ c.if-not-are_same.false in
    let read = subst (λ f. IsUnspelled P.types (g.N.Nodes.nodes c.unspell_behind.new.store) t (read_behind c.args.front.now (read_at P t) piece) (Err f)) c.in-Err-Bad.field-0-is c.in-Err-Bad.ensures.value in
    let behind = behind_piece place 0 more in
    (behind, is_bad hash P t want place piece more w same c.in-Err-Bad.offset (ap (λ f. read_behind f (read_at P t) piece) (sym front) ∙ read) ∙ ap (λ k. Refuses k behind) (some_same _ cause e))

pub returns-in-Ok-clause-opens : goal.returns-in-Ok-clause-opens
returns-in-Ok-clause-opens g c hash more w is front =
    let P = types_meaning c.args.types.now in
    let t = type_at (types_by_number c.args.types.now) c.args.ty in
    let want = c.args.asked.want.0 in
    let piece = c.args.piece.now in
    let same : bytes_eq (hash piece) want ≡ true = ap (λ d. bytes_eq d want) (sym is) ∙ sym c.are_same.ensures ∙ c.if-not-are_same.false in
    let v = c.in-Ok.ensures.value in
    (v.0, is_good hash P t want c.args.asked.place piece more w same v.0 v.1 (ap (λ f. read_behind f (read_at P t) piece) (sym front) ∙ v.2), v.3)

pub returns-in-Ok-clause-refuses : goal.returns-in-Ok-clause-refuses
returns-in-Ok-clause-refuses g c = (bytes_eq-Decides c.args.found.0 c.args.asked.want.0).0 (sym c.are_same.ensures ∙ c.if-not-are_same.false)

pub returns-in-Err-Bad-clause-refuses : goal.returns-in-Err-Bad-clause-refuses
returns-in-Err-Bad-clause-refuses g c = (bytes_eq-Decides c.args.found.0 c.args.asked.want.0).0 (sym c.are_same.ensures ∙ c.if-not-are_same.false)
