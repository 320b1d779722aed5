use Rattle.std.proofs.Common.{◌≤◌, ◌<◌, List, length, map, refl, sym, ap, ◌∙◌, subst, arith}
use Rattle.std.proofs.lemmas.Result.{err_from_is_err_and}
use Rattle.std.proofs.lemmas.List.{get_or-map, length-map}
use Rattle.std.proofs.lemmas.List.Elements.{All-get_or}
use Rattle.core_terms.specs.ProgramLimits.{most_fields}
use Rattle.core_terms.specs.ProgramTrees.{types_at}
use Rattle.core_terms.specs.ProgramTypes.{types_by_number}
use Rattle.core_terms.specs.Types.{Ty}
use Rattle.core_terms.specs.declared.term.Constructor.{Constructor}
use Rattle.object_meaning.specs.ObjectBytes.{constructor_bytes}
use Rattle.object_writer.specs.Adding.{written_so_far}
use Rattle.object_writer.specs.Numberings.{listed}
use Rattle.object_writer.specs.WrittenTypes.{constructor_written}
use Rattle.object_writer.proofs.LoopForms.{constructor_parts}
use Rattle.object_writer.proofs.Loops.{goes_on, stops, is_done}
use Rattle.object_writer.proofs.types.put_constructors.Goals as goal

pub put_constructor-requires-clause-few : goal.put_constructor-requires-clause-few
put_constructor-requires-clause-few c =
    let types = types_by_number c.args.types.now in
    let fields = λ (d : Constructor). types_at types d.fields.items in
    let all = c.args.constructors.now in
    let i = c.loop-constructor.constructor-index in
    let d = c.constructor-item.result in
    let inside : i < length all = omega arith in
    let long : i < length (map fields all) = subst (λ n. i < n) (sym (length-map all fields)) inside in
    subst (λ (ts : List Ty). length ts ≤ most_fields) (get_or-map fields all i d (fields d) inside ∙ ap fields (sym c.constructor-item.is))
    (All-get_or (λ (ts : List Ty). length ts ≤ most_fields) (map fields all) i (fields d) long c.requires.few)

pub returns-in_err-put_constructor : goal.returns-in_err-put_constructor
returns-in_err-put_constructor c =
    let p = err_from_is_err_and c.from_residual.result c.from_residual.ensures.1 in
    let listing = listed c.args.types.now c.args.numbering.now in
    let types = types_by_number c.args.types.now in
    let l = c.loop-constructor in
    let d = c.constructor-item.result in
    rw (p.1, p.2) (stops (λ i cs. constructor_parts listing types cs) (λ i d. constructor_bytes (constructor_written listing types d)) (λ i x xs. refl) (λ i. refl)
    c.args.constructors.now (written_so_far c.args.object.now) (written_so_far l.object) l.constructor-index l.invariant d d _ (omega arith) c.constructor-item.is c.in_err-put_constructor.ensures)

pub loop-constructor-preserved : goal.loop-constructor-preserved
loop-constructor-preserved c =
    let listing = listed c.args.types.now c.args.numbering.now in
    let types = types_by_number c.args.types.now in
    let l = c.loop-constructor in
    let d = c.constructor-item.result in
    goes_on (λ i cs. constructor_parts listing types cs) (λ i d. constructor_bytes (constructor_written listing types d)) (λ i x xs. refl) (λ i. refl)
    c.args.constructors.now (written_so_far c.args.object.now) (written_so_far l.object) l.constructor-index l.invariant d d _ (omega arith) c.constructor-item.is c.in_ok-put_constructor.ensures

pub returns : goal.returns
returns c =
    let listing = listed c.args.types.now c.args.numbering.now in
    let types = types_by_number c.args.types.now in
    let l = c.loop-constructor in
    is_done (λ i cs. constructor_parts listing types cs) (λ i d. constructor_bytes (constructor_written listing types d)) (λ i x xs. refl) (λ i. refl)
    c.args.constructors.now (written_so_far c.args.object.now) (written_so_far l.object) l.constructor-index l.invariant (omega arith)
