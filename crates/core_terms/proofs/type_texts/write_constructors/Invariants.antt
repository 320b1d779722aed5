use Rattle.std.proofs.Common.{◌≡◌, ◌++◌, drop}
use Rattle.std.specs.Prelude.{codes}
use Rattle.core_terms.specs.Programs.{types_in}
use Rattle.core_terms.specs.TypeNames.{type_names}
use Rattle.core_terms.specs.TypeTexts.{of_constructors}
use Rattle.core_terms.proofs.type_texts.write_constructors.Given as goal

-- what was written, with the rest, is the whole
abbrev pub invariant-loop-constructor : goal.invariant-loop-constructor
invariant-loop-constructor l =
    l.text.items ++ of_constructors (type_names l.named) (types_in l.types) l.mark (drop l.constructor-index l.constructors)
    ≡ l.initial.text.items ++ of_constructors (type_names l.named) (types_in l.types) (codes " = ") l.constructors
