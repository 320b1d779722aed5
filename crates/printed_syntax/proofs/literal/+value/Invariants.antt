use Rattle.std.proofs.Common.{◌+◌, ◌-◌, ◌*◌, ◌≡◌, drop}
use Rattle.core_terms.specs.Programs.{types_of}
use Rattle.core_terms.specs.ProgramTrees.{types_at}
use Rattle.core_terms.specs.Spelling.{spelling, spellings}
use Rattle.core_terms.specs.TypeTables.{type_at}
use Rattle.core_terms.specs.Types.{item_types}
use Rattle.lexemes.specs.declared.token.Mark.TheVariants.{RightParenthesis, RightBracket}
use Rattle.printed_syntax.specs.Literals.{array_literal, more_values}
use Rattle.printed_syntax.specs.LiteralSteps.{literal_on, spelled, values_from}
use Rattle.lexemes.specs.Remaining.{remaining}
use Rattle.printed_syntax.proofs.literal.+value.Given as goal

abbrev pub decreases-value : goal.decreases-value
decreases-value l = 4 * l.levels

abbrev pub decreases-pair : goal.decreases-pair
decreases-pair l = 4 * l.levels + 1

abbrev pub decreases-constructor : goal.decreases-constructor
decreases-constructor l = 4 * l.levels + 3

abbrev pub decreases-fields : goal.decreases-fields
decreases-fields l = 4 * l.levels + 2

abbrev pub decreases-other_fields : goal.decreases-other_fields
decreases-other_fields l = 4 * l.levels + 1

abbrev pub decreases-array : goal.decreases-array
decreases-array l = 4 * l.levels + 1

-- with what is left of the fields the whole is read as from the beginning
abbrev pub invariant-other_fields-loop-ty : goal.invariant-other_fields-loop-ty
invariant-other_fields-loop-ty l =
    spelled spellings l.fn.bytes.items (more_values RightParenthesis (literal_on l.program l.levels) (types_at (types_of l.program) l.types) (remaining l.fn.parser))
    ≡ spelled spellings l.bytes.items (more_values RightParenthesis (literal_on l.program l.levels) (types_at (types_of l.program) (drop l.ty-index l.types)) (remaining l.parser))

-- so it is with what is left of the elements
abbrev pub invariant-array-loop-index : goal.invariant-array-loop-index
invariant-array-loop-index l =
    spelled spelling l.fn.bytes.items (array_literal (literal_on l.program l.levels) l.count (type_at (types_of l.program) l.item) (remaining l.fn.parser))
    ≡ spelled spellings l.bytes.items
    (values_from l.index RightBracket (literal_on l.program l.levels) (item_types (l.count - l.index) (type_at (types_of l.program) l.item)) (remaining l.parser))
