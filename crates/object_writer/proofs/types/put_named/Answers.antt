use Rattle.std.proofs.Common.{◌≡◌, ◌∷◌, ◌++◌, [], ◌∙◌, length, ap, sym, subst}
use Rattle.core_terms.specs.ProgramTypes.{types_by_number}
use Rattle.object_meaning.specs.ObjectBytes.{bytes_of_all, constructor_bytes}
use Rattle.object_writer.specs.Adding.{Adds, written_so_far}
use Rattle.object_writer.specs.Numberings.{listed}
use Rattle.object_writer.specs.WrittenTypes.{constructor_list}
use Rattle.object_writer.proofs.Loops.{adds_then}
use Rattle.object_writer.proofs.NamedBytes.{as_many}
use Rattle.object_writer.proofs.types.put_named.Goals as goal

pub returns : goal.returns
returns c =
    let listing = listed c.args.types.now c.args.numbering.now in
    let types = types_by_number c.args.types.now in
    let cs = c.args.declared.now.constructors in
    let old = written_so_far c.args.object.now in
    let count : c.len.result ≡ length (constructor_list listing types cs.items) = c.len.ensures ∙ cs.ok.0 ∙ sym (as_many listing types cs.items) in
    adds_then old (5 ∷ (length (constructor_list listing types cs.items) ∷ [])) (bytes_of_all constructor_bytes (constructor_list listing types cs.items)) (written_so_far c.put.new.self) _ c.put_constructors.result
    (c.in_ok-put.ensures ∙ ap (λ k. old ++ 5 ∷ (k ∷ [])) count)
    (subst (λ l. Adds (written_so_far c.put.new.self) (bytes_of_all constructor_bytes (constructor_list listing types l)) (written_so_far c.put_constructors.new.object) c.put_constructors.result) c.deref.ensures.value c.put_constructors.ensures)
