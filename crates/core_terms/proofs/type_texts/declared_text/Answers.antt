use Rattle.std.proofs.Common.{◌∙◌, sym, refl, arith}
use Rattle.core_terms.specs.Programs.{types_in}
use Rattle.core_terms.specs.TypeNames.{type_names}
use Rattle.core_terms.specs.TypeTexts.{named_texts}
use Rattle.core_terms.proofs.TypeTexts.{all_written, declared_same}
use Rattle.core_terms.proofs.type_texts.declared_text.Goals as goal

pub returns : goal.returns
returns c =
    all_written (named_texts (type_names c.args.named.now) (types_in c.args.types.now)) c.loop-declared.text.items _ c.args.named.now c.loop-declared.declared-index (omega arith) refl
    c.loop-declared.invariant ∙ sym (declared_same (types_in c.args.types.now) c.args.named.now)
