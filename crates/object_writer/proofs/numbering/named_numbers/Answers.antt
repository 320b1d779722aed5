use Rattle.std.proofs.Common.{◌≡◌, ◌<◌, ◌++◌, ◌∷◌, [], ◌∙◌, length, map, slice_index_or, take, ap, sym, arith}
use Rattle.std.proofs.lemmas.List.{length-map, map-append, take_more, take_all}
use Rattle.core_terms.specs.ProgramTypes.{named_table, types_by_number}
use Rattle.core_terms.specs.Types.{UnitTy}
use Rattle.object_meaning.specs.WrittenObjects.{named_from, place_of}
use Rattle.object_writer.specs.NamedNumbers.{named_place}
use Rattle.object_writer.proofs.NumberedTypes.{place_named}
use Rattle.object_writer.proofs.numbering.named_numbers.Goals as goal

pub loop-number-preserved : goal.loop-number-preserved
loop-number-preserved c =
    let types = types_by_number c.args.types.now in
    let table = named_table c.args.types.now in
    let place = place_of (named_from 0 table) in
    let i = c.loop-number.number in
    let inside : i < length types = omega (arith, c.type_count-number-end.ensures, c.loop-number-test.true) in
    let count : length c.named_types-count.result.now ≡ length table = ap length c.named_types-count.ensures.named ∙ sym (length-map c.args.types.now.named.items _) in
    c.in_ok-push.ensures.items
    ∙ ap (λ p. c.loop-number.numbers.items ++ p ∷ []) (c.named_number-place.ensures ∙ ap (λ k. named_place k c.form.result) count ∙ sym (place_named types table c.form.result) ∙ ap place c.form.ensures.form)
    ∙ ap (λ l. l ++ place (slice_index_or types i UnitTy) ∷ []) c.loop-number.invariant
    ∙ sym (map-append place (take i types) (slice_index_or types i UnitTy ∷ []))
    ∙ ap (map place) (sym (take_more types i UnitTy inside))

pub returns : goal.returns
returns c =
    let types = types_by_number c.args.types.now in
    c.loop-number.invariant ∙ ap (map (place_of (named_from 0 (named_table c.args.types.now)))) (take_all c.loop-number.number types (omega (arith, c.type_count-number-end.ensures, c.loop-number-test.false)))
