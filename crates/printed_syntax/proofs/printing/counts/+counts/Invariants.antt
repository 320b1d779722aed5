use Rattle.std.proofs.Common.{◌+◌, ◌*◌, ◌≤◌, length, take}
use Rattle.core_terms.specs.Programs.{types_of}
use Rattle.core_terms.specs.ProgramTrees.{types_at}
use Rattle.core_terms.specs.TypeTables.{type_at}
use Rattle.core_terms.specs.Types.{item_types}
use Rattle.printed_syntax.specs.PrintedLengths.{AreCounted}
use Rattle.printed_syntax.proofs.Composites.{composites, all_composites, rate}
use Rattle.printed_syntax.proofs.printing.counts.+counts.Given as goal

-- A constructor takes a byte, and a pair or an array is opened.
abbrev pub decreases-count_value : goal.decreases-count_value
decreases-count_value l = length l.bytes.now * rate l.program.now + 2 * composites (type_at (types_of l.program.now) l.ty) + 1

abbrev pub decreases-count_pair : goal.decreases-count_pair
decreases-count_pair l = length l.bytes.now * rate l.program.now + 2 * (composites (type_at (types_of l.program.now) l.first) + composites (type_at (types_of l.program.now) l.second)) + 2

abbrev pub decreases-count_named : goal.decreases-count_named
decreases-count_named l = length l.bytes.now * rate l.program.now

abbrev pub decreases-count_fields : goal.decreases-count_fields
decreases-count_fields l = length l.bytes.now * rate l.program.now + 2 * all_composites (types_of l.program.now) + 2

abbrev pub decreases-count_items : goal.decreases-count_items
decreases-count_items l = length l.bytes.now * rate l.program.now + 2 * composites (type_at (types_of l.program.now) l.item) + 2

-- the fields so far
abbrev pub invariant-count_fields-loop-index : goal.invariant-count_fields-loop-index
invariant-count_fields-loop-index l = record {
  counted : AreCounted l.program (types_at (types_of l.program) (take l.index l.fields)) l.fn.bytes l.length l.left;
  shorter : length l.left ≤ length l.fn.bytes;
}

-- the elements so far
abbrev pub invariant-count_items-loop-index : goal.invariant-count_items-loop-index
invariant-count_items-loop-index l = record {
  counted : AreCounted l.program (item_types l.index (type_at (types_of l.program) l.item)) l.fn.bytes l.length l.left;
  shorter : length l.left ≤ length l.fn.bytes;
}
