use Rattle.std.proofs.Common.{◌≤◌, ◌++◌, ◌∙◌, List, ap, length, subst}
use Rattle.std.proofs.lemmas.Result.{err_from_is_err_and}
use Rattle.core_terms.specs.Programs.{meaning}
use Rattle.core_terms.specs.TypeNames.{all_constructor_names}
use Rattle.core_terms.specs.Types.{Ty}
use Rattle.code_gen.specs.Programs.{program_in}
use Rattle.object_meaning.specs.ObjectBytes.{object_bytes}
use Rattle.object_meaning.specs.Objects.{most_listed_types, most_object_bytes}
use Rattle.object_meaning.specs.WrittenObjects.{object_of}
use Rattle.object_writer.specs.Adding.{Hinders}
use Rattle.object_writer.proofs.WholeObjects.{has_many_bytes, has_many_types, is_written}
use Rattle.object_writer.proofs.writing.write_object.Goals as goal

pub returns-in_err-numbering : goal.returns-in_err-numbering
returns-in_err-numbering c =
    let p = err_from_is_err_and c.from_residual.result c.from_residual.ensures.1 in
    let program = program_in c.args.code.now in
    rw (p.1, p.2) (has_many_types (meaning program) (all_constructor_names program.types.named.items) c.in_err-numbering.field-0.0 c.in_err-numbering.ensures)

pub returns-in_err-put_object : goal.returns-in_err-put_object
returns-in_err-put_object c =
    let p = err_from_is_err_and c.from_residual-in_err-put_object.result c.from_residual-in_err-put_object.ensures.1 in
    let program = program_in c.args.code.now in
    let names = all_constructor_names program.types.named.items in
    let bytes = object_bytes (object_of (meaning program) names) in
    rw (p.1, p.2) (has_many_bytes (meaning program) names c.in_err-put_object.field-0.0 (subst (λ old. Hinders old bytes c.in_err-put_object.field-0.0) c.new-object.ensures c.in_err-put_object.ensures))

pub returns : goal.returns
returns c =
    let program = program_in c.args.code.now in
    let names = all_constructor_names program.types.named.items in
    let bytes = object_bytes (object_of (meaning program) names) in
    let e = c.into_vec.ensures.bytes ∙ c.in_ok-put_object.ensures ∙ ap (λ l. l ++ bytes) c.new-object.ensures in
    is_written (meaning program) names c.into_vec.result e (subst (λ l. length l ≤ most_object_bytes) e c.into_vec.ensures.fits)
    (subst (λ (l : List Ty). length l ≤ most_listed_types) c.in_ok-numbering.ensures.all c.in_ok-numbering.ensures.right.few)
