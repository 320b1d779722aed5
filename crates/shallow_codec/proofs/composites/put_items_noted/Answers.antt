use Rattle.std.proofs.Common.{◌∙◌, Err, Result, ap, length, subst, sym}
use Rattle.std.proofs.lemmas.Result.{err_from_is_err_and}
use Rattle.shallow_codec.specs.PutValues.{VecIsRead}
use Rattle.shallow_codec.specs.declared.fault.UnspellFault.{UnspellFault}
use Rattle.shallow_codec.specs.declared.reader.Front.{Front}
use Rattle.shallow_codec.proofs.ReadNodes.{known_later}
use Rattle.shallow_codec.proofs.composites.put_items_noted.Goals as goal

pub note-requires : goal.note-requires
note-requires g c = c.in_ok-array.ensures.inside

pub returns-in_err-array-clause-read : goal.returns-in_err-array-clause-read
returns-in_err-array-clause-read g c =
    let q = err_from_is_err_and c.from_residual.result c.from_residual.ensures.1 in
    subst (λ (result : Result Front UnspellFault). VecIsRead (g.N.Nodes.nodes c.args.store.now) (g.N.Nodes.nodes c.put_items.new.store) (length c.args.items.values.items) c.args.items result)
    (sym (q.1 ∙ ap Err q.2)) c.in_err-array.ensures.read

pub returns-clause-read : goal.returns-clause-read
returns-clause-read g c = c.in_ok-array.ensures.read

pub returns-clause-known : goal.returns-clause-known
returns-clause-known g c = λ types tys v known there.
    c.in_ok-note.ensures.known types tys v
    (known_later types tys (g.N.Nodes.nodes c.args.store.now) (g.N.Nodes.nodes c.put_items.new.store) c.args.nothings.now c.in_ok-array.ensures.grows known) there
