use Rattle.std.proofs.Common.{sym, subst}
use Rattle.object_meaning.specs.ObjectBytes.{type_bytes}
use Rattle.object_writer.specs.Adding.{Adds, written_so_far}
use Rattle.object_writer.specs.Numberings.{listed}
use Rattle.object_writer.proofs.NamedBytes.{few_found, named_found, named_missing}
use Rattle.object_writer.proofs.types.put_named_at.Goals as goal

pub put_named-requires-clause-few : goal.put_named-requires-clause-few
put_named-requires-clause-few c = few_found c.args.types.now c.args.named.0 c.in-Some.declared.now (sym c.in-Some.ensures) c.requires.few

pub returns-in-Some : goal.returns-in-Some
returns-in-Some c =
    let listing = listed c.args.types.now c.args.numbering.now in
    subst (λ t. Adds (written_so_far c.args.object.now) (type_bytes t) (written_so_far c.put_named.new.object) c.put_named.result)
    (sym (named_found c.args.types.now listing c.args.named.0 c.in-Some.declared.now (sym c.in-Some.ensures))) c.put_named.ensures

pub returns-in-None : goal.returns-in-None
returns-in-None c =
    let listing = listed c.args.types.now c.args.numbering.now in
    subst (λ t. Adds (written_so_far c.args.object.now) (type_bytes t) (written_so_far c.put.new.self) c.put.result)
    (sym (named_missing c.args.types.now listing c.args.named.0 (sym c.in-None.ensures))) c.put.ensures
