use Rattle.std.proofs.Common.{◌++◌, ◌∙◌, ap, length, sym, subst, map}
use Rattle.std.proofs.lemmas.List.{map-append}
use Rattle.std.proofs.lemmas.Result.{err_from_is_err_and}
use Rattle.core_terms.specs.ProgramTrees.{types_at}
use Rattle.core_terms.specs.ProgramTypes.{named_table, types_by_number}
use Rattle.core_terms.specs.TypeNames.{all_constructor_names}
use Rattle.object_meaning.specs.ObjectBytes.{bytes_of_all, object_magic, type_bytes, word}
use Rattle.object_meaning.specs.WrittenObjects.{named_from, type_written}
use Rattle.object_writer.specs.Adding.{Adds, Hinders, written_so_far}
use Rattle.object_writer.specs.Numberings.{listed}
use Rattle.object_writer.proofs.Loops.{adds_then, hinders_first, hinders_then}
use Rattle.object_writer.proofs.WholeObjects.{bytes_append}
use Rattle.object_writer.proofs.writing.put_types.Goals as goal

pub returns-in_err-put_named_types : goal.returns-in_err-put_named_types
returns-in_err-put_named_types c =
    let p = err_from_is_err_and c.from_residual-in_err-put_named_types.result c.from_residual-in_err-put_named_types.ensures.1 in
    let fault = c.in_err-put_named_types.field-0.0 in
    let types = c.args.types.now in
    let n = c.args.numbering.now in
    let L = listed types n in
    let tw = type_written L (named_table types) (all_constructor_names types.named.items) in
    let named = named_from 0 (named_table types) in
    let others = types_at (types_by_number types) n.order.items in
    let split = ap (bytes_of_all type_bytes) (map-append tw named others) ∙ bytes_append type_bytes (map tw named) (map tw others) in
    let old = written_so_far c.args.object.now in
    let magic = written_so_far c.put.new.self in
    let count = written_so_far c.put_word.new.self in
    let counted = c.in_ok-put_word.ensures ∙ ap (λ k. magic ++ word k) c.len.ensures in
    rw (p.1, p.2) (hinders_then old object_magic (word (length L) ++ bytes_of_all type_bytes (map tw L)) magic fault c.in_ok-put.ensures
    (hinders_then magic (word (length L)) (bytes_of_all type_bytes (map tw L)) count fault counted
    (subst (λ added. Hinders count added fault) (sym split) (hinders_first count (bytes_of_all type_bytes (map tw named)) (bytes_of_all type_bytes (map tw others)) fault c.in_err-put_named_types.ensures))))

pub returns : goal.returns
returns c =
    let types = c.args.types.now in
    let n = c.args.numbering.now in
    let L = listed types n in
    let tw = type_written L (named_table types) (all_constructor_names types.named.items) in
    let named = named_from 0 (named_table types) in
    let others = types_at (types_by_number types) n.order.items in
    let split = ap (bytes_of_all type_bytes) (map-append tw named others) ∙ bytes_append type_bytes (map tw named) (map tw others) in
    let old = written_so_far c.args.object.now in
    let magic = written_so_far c.put.new.self in
    let count = written_so_far c.put_word.new.self in
    let counted = c.in_ok-put_word.ensures ∙ ap (λ k. magic ++ word k) c.len.ensures in
    let new = written_so_far c.put_other_types.new.object in
    adds_then old object_magic (word (length L) ++ bytes_of_all type_bytes (map tw L)) magic new c.put_other_types.result c.in_ok-put.ensures
    (adds_then magic (word (length L)) (bytes_of_all type_bytes (map tw L)) count new c.put_other_types.result counted
    (subst (λ added. Adds count added new c.put_other_types.result) (sym split)
    (adds_then count (bytes_of_all type_bytes (map tw named)) (bytes_of_all type_bytes (map tw others)) (written_so_far c.put_named_types.new.object) new c.put_other_types.result c.in_ok-put_named_types.ensures c.put_other_types.ensures)))
