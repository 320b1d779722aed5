use Rattle.std.proofs.Common.{◌≡◌, ◌++◌, drop}
use Rattle.std.specs.Prelude.{codes}
use Rattle.core_terms.specs.ProgramTrees.{types_at}
use Rattle.core_terms.specs.Programs.{types_in}
use Rattle.core_terms.specs.TypeDeclarations.{row_text}
use Rattle.core_terms.specs.TypeNames.{type_names}
use Rattle.core_terms.proofs.type_texts.write_row.Given as goal

-- what was written, with the rest, is the whole
abbrev pub invariant-loop-ty : goal.invariant-loop-ty
invariant-loop-ty l =
    l.text.items ++ row_text (type_names l.named) l.mark (types_at (types_in l.types) (drop l.ty-index l.row))
    ≡ l.initial.text.items ++ row_text (type_names l.named) (codes "(") (types_at (types_in l.types) l.row)
