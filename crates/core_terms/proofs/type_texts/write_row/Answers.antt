use Rattle.std.proofs.Common.{◌∙◌, ◌++◌, List, refl, sym, ap, arith, append_assoc, slice_index_or}
use Rattle.std.specs.Prelude.{codes}
use Rattle.core_terms.specs.ProgramTrees.{types_at}
use Rattle.core_terms.specs.Programs.{types_in}
use Rattle.core_terms.specs.TypeDeclarations.{row_text, type_text}
use Rattle.core_terms.specs.TypeNames.{type_names}
use Rattle.core_terms.specs.TypeTables.{type_at}
use Rattle.core_terms.specs.declared.types.TyId.{TyId}
use Rattle.core_terms.proofs.TypeTexts.{all_written, one_more}
use Rattle.core_terms.proofs.type_texts.write_row.Goals as goal

pub loop-ty-preserved : goal.loop-ty-preserved
loop-ty-preserved c =
    let names = type_names c.args.named.now in
    let types = types_in c.args.types.now in
    let mark = c.loop-ty.mark.now in
    let ty : TyId = slice_index_or c.args.row.now c.loop-ty.ty-index (record { 0 = 0 }) in
    let one = type_text names (type_at types ty) in
    one_more (λ (ids : List TyId). row_text names mark (types_at types ids)) (λ (ids : List TyId). row_text names (codes ", ") (types_at types ids)) (mark ++ one)
    c.loop-ty.text.items c.write_type.new.text.items _ c.args.row.now c.loop-ty.ty-index (record { 0 = 0 }) (omega arith) (sym (append_assoc mark one _)) c.loop-ty.invariant
    (c.in_ok-write_type.ensures ∙ ap (λ t. t ++ one) c.in_ok-extend_from_slice.ensures.items ∙ append_assoc c.loop-ty.text.items mark one)

pub returns : goal.returns
returns c =
    all_written (λ (ids : List TyId). row_text (type_names c.args.named.now) c.loop-ty.mark.now (types_at (types_in c.args.types.now) ids)) c.loop-ty.text.items _ c.args.row.now
    c.loop-ty.ty-index (omega arith) refl c.loop-ty.invariant
