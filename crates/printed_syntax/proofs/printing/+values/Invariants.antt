use Rattle.std.proofs.Common.{◌+◌, ◌*◌, ◌≤◌, ◌++◌, codes, length, take}
use Rattle.core_terms.specs.Programs.{types_of}
use Rattle.core_terms.specs.ProgramTrees.{types_at}
use Rattle.core_terms.specs.TypeTables.{type_at}
use Rattle.core_terms.specs.Types.{item_types}
use Rattle.printed_syntax.specs.PrintedParts.{ArePrinted}
use Rattle.printed_syntax.proofs.Composites.{composites, all_composites, rate}
use Rattle.printed_syntax.proofs.printing.+values.Given as goal

-- A constructor takes a byte, and a pair or an array is opened.
abbrev pub decreases-push_value : goal.decreases-push_value
decreases-push_value l = length l.bytes.now * rate l.program.now + 2 * composites (type_at (types_of l.program.now) l.ty) + 1

abbrev pub decreases-push_pair : goal.decreases-push_pair
decreases-push_pair l = length l.bytes.now * rate l.program.now + 2 * (composites (type_at (types_of l.program.now) l.first) + composites (type_at (types_of l.program.now) l.second)) + 2

abbrev pub decreases-push_named : goal.decreases-push_named
decreases-push_named l = length l.bytes.now * rate l.program.now

abbrev pub decreases-push_fields : goal.decreases-push_fields
decreases-push_fields l = length l.bytes.now * rate l.program.now + 2 * all_composites (types_of l.program.now) + 2

abbrev pub decreases-push_items : goal.decreases-push_items
decreases-push_items l = length l.bytes.now * rate l.program.now + 2 * composites (type_at (types_of l.program.now) l.item) + 2

-- the fields so far
abbrev pub invariant-push_fields-loop-index : goal.invariant-push_fields-loop-index
invariant-push_fields-loop-index l = record {
  printed : ArePrinted l.program (types_at (types_of l.program) (take l.index l.fields)) l.fn.bytes l.fn.text.items l.text.items l.left;
  shorter : length l.left ≤ length l.fn.bytes;
}

-- the elements so far, in their bracket
abbrev pub invariant-push_items-loop-index : goal.invariant-push_items-loop-index
invariant-push_items-loop-index l = record {
  printed : ArePrinted l.program (item_types l.index (type_at (types_of l.program) l.item)) l.fn.bytes (l.fn.text.items ++ codes "[") l.text.items l.left;
  shorter : length l.left ≤ length l.fn.bytes;
}
