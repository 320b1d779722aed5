use Rattle.std.proofs.Common.{◌≡◌, ◌++◌, drop}
use Rattle.core_terms.specs.Programs.{types_in}
use Rattle.core_terms.specs.TypeNames.{type_names}
use Rattle.core_terms.specs.TypeTexts.{named_texts}
use Rattle.core_terms.proofs.type_texts.declared_text.Given as goal

-- what was written, with the rest, is the whole
abbrev pub invariant-loop-declared : goal.invariant-loop-declared
invariant-loop-declared l =
    l.text.items ++ named_texts (type_names l.named) (types_in l.types) (drop l.declared-index l.named) ≡ named_texts (type_names l.named) (types_in l.types) l.named
