-- A piece with another digest, one that spells nothing, one that is opened, and one that was read last.
use Rattle.std.proofs.Common.{refl, sym, ap, ◌∙◌, ◌≡◌, true, false, bytes_eq, subst, Err}
use Rattle.core_terms.specs.ProgramTypes.{types_by_number, types_meaning}
use Rattle.core_terms.specs.TypeTables.{type_at}
use Rattle.core_terms.specs.Projection.{digest_at, read_at}
use Rattle.ideal_meaning.specs.Run.{Refuses}
use Rattle.ideal_meaning.specs.Checked.{WrongPiece}
use Rattle.shallow_codec.specs.Unspelled.{IsUnspelled}
use Rattle.verifier_mode.specs.Takings.{behind_piece}
use Rattle.verifier_mode.proofs.Pieces.{is_wrong, is_bad, is_good, some_same}
use Rattle.verifier_mode.proofs.opening.open_piece.Goals as goal

pub returns-then-not-are_same-clause-opens : goal.returns-then-not-are_same-clause-opens
returns-then-not-are_same-clause-opens g c hash left more w is cause e =
    let P = types_meaning c.args.types.now in
    let t = type_at (types_by_number c.args.types.now) c.args.ty in
    let want = c.args.asked.want.0 in
    let apart : bytes_eq (digest_at hash P t c.args.piece.now) want ≡ false = ap (λ d. bytes_eq d want) (sym is) ∙ sym c.are_same.ensures ∙ c.if-not-are_same.true in (
      w,
      is_wrong hash P t want c.args.asked.place c.args.piece.now left more w apart
          ∙ ap (λ c. Refuses c w) (ap (λ f. WrongPiece c.args.asked.place want f) (sym is) ∙ some_same _ cause e),
    )

pub returns-then-not-are_same-clause-told : goal.returns-then-not-are_same-clause-told
returns-then-not-are_same-clause-told g c = (_, refl)

pub returns-in-Err-Bad-clause-opens : goal.returns-in-Err-Bad-clause-opens
returns-in-Err-Bad-clause-opens g c hash left more w is cause e =
    let P = types_meaning c.args.types.now in
    let t = type_at (types_by_number c.args.types.now) c.args.ty in
    let want = c.args.asked.want.0 in
    let same : bytes_eq (digest_at hash P t c.args.piece.now) want ≡ true = ap (λ d. bytes_eq d want) (sym is) ∙ sym c.are_same.ensures ∙ c.if-not-are_same.false in
    let read = subst (λ f. IsUnspelled P.types (g.N.Nodes.nodes c.unspell.new.store) t (read_at P t c.args.piece.now) (Err f)) c.in-Err-Bad.field-0-is c.in-Err-Bad.ensures.value in
    let behind = behind_piece c.args.asked.place left more in
    (behind, is_bad hash P t want c.args.asked.place c.args.piece.now left more w same c.in-Err-Bad.offset read ∙ ap (λ k. Refuses k behind) (some_same _ cause e))

pub returns-in-Err-Bad-clause-told : goal.returns-in-Err-Bad-clause-told
returns-in-Err-Bad-clause-told g c = (_, refl)

pub returns-in-Ok-clause-opens : goal.returns-in-Ok-clause-opens
returns-in-Ok-clause-opens g c hash left more w is =
    let P = types_meaning c.args.types.now in
    let t = type_at (types_by_number c.args.types.now) c.args.ty in
    let want = c.args.asked.want.0 in
    let same : bytes_eq (digest_at hash P t c.args.piece.now) want ≡ true = ap (λ d. bytes_eq d want) (sym is) ∙ sym c.are_same.ensures ∙ c.if-not-are_same.false in
    let v = c.in-Ok.ensures.value in
    (v.0, is_good hash P t want c.args.asked.place c.args.piece.now left more w same v.0 v.1 v.2, v.3)

pub returns-in-Ok-clause-read : goal.returns-in-Ok-clause-read
returns-in-Ok-clause-read g c = let v = c.in-Ok.ensures.value in record { value = v.0; end = v.1; reads = v.2; stands = v.3 }

pub returns-in-Some-clause-some : goal.returns-in-Some-clause-some
returns-in-Some-clause-some g c hash = let r = c.in-Some.ensures c.args.types.now (g.N.Nodes.nodes c.args.store.now) c.requires.knows in (r.value, r.stands)

pub returns-in-Some-clause-opens : goal.returns-in-Some-clause-opens
returns-in-Some-clause-opens g c hash left more w is =
    let P = types_meaning c.args.types.now in
    let t = type_at (types_by_number c.args.types.now) c.args.ty in
    let want = c.args.asked.want.0 in
    let same : bytes_eq (digest_at hash P t c.args.piece.now) want ≡ true = ap (λ d. bytes_eq d want) (sym is) ∙ sym c.are_same.ensures ∙ c.if-not-are_same.false in
    let r = c.in-Some.ensures c.args.types.now (g.N.Nodes.nodes c.args.store.now) c.requires.knows in
    (r.value, is_good hash P t want c.args.asked.place c.args.piece.now left more w same r.value r.end r.reads, r.stands)

pub returns-in-Some-clause-read : goal.returns-in-Some-clause-read
returns-in-Some-clause-read g c = c.in-Some.ensures c.args.types.now (g.N.Nodes.nodes c.args.store.now) c.requires.knows
