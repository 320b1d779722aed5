use Rattle.std.proofs.Common.{◌∙◌, ◌++◌, refl, ap, arith, append_assoc}
use Rattle.std.specs.Prelude.{codes}
use Rattle.core_terms.specs.ProgramTrees.{types_at}
use Rattle.core_terms.specs.Programs.{types_in}
use Rattle.core_terms.specs.TypeDeclarations.{fields_text}
use Rattle.core_terms.specs.TypeNames.{type_names}
use Rattle.core_terms.specs.TypeTexts.{of_constructors}
use Rattle.core_terms.proofs.TypeTexts.{all_written, item_more, of_three}
use Rattle.core_terms.proofs.type_texts.write_constructors.Goals as goal

pub loop-constructor-preserved : goal.loop-constructor-preserved
loop-constructor-preserved c =
    let names = type_names c.args.named.now in
    let types = types_in c.args.types.now in
    let mark = c.loop-constructor.mark.now in
    let item = c.constructor-item.result in
    let text = c.loop-constructor.text.items in
    let fields = fields_text names (types_at types item.fields.items) in
    item_more (of_constructors names types mark) (of_constructors names types (codes " | ")) (mark ++ (item.name ++ fields)) text c.write_fields.new.text.items _
    c.args.constructors.now c.loop-constructor.constructor-index item (omega arith) c.constructor-item.is (of_three mark item.name fields _) c.loop-constructor.invariant
    (c.in_ok-write_fields.ensures
    ∙ ap (λ ids. c.extend_from_slice-in-loop-constructor.new.self.items ++ fields_text names (types_at types ids)) c.deref.ensures.value
    ∙ ap (λ t. t ++ fields) (c.in_ok-extend_from_slice-2.ensures.items
    ∙ ap (λ t. t ++ c.as_bytes.result.now) c.in_ok-extend_from_slice.ensures.items ∙ ap (λ n. (text ++ mark) ++ n) c.as_bytes.ensures.bytes)
    ∙ (append_assoc (text ++ mark) item.name fields ∙ append_assoc text mark (item.name ++ fields)))

pub returns : goal.returns
returns c =
    all_written (of_constructors (type_names c.args.named.now) (types_in c.args.types.now) c.loop-constructor.mark.now) c.loop-constructor.text.items _ c.args.constructors.now
    c.loop-constructor.constructor-index (omega arith) refl c.loop-constructor.invariant
