use Rattle.std.proofs.Common.{take}
use Rattle.core_terms.specs.Programs.{meaning, types_of}
use Rattle.core_terms.specs.ProgramTrees.{types_at}
use Rattle.core_terms.specs.TypeTables.{type_at}
use Rattle.core_terms.specs.Types.{item_types}
use Rattle.core_terms.specs.Values.{depths, sizes}
use Rattle.reference_run.specs.Measured.{IsMeasured}
use Rattle.reference_run.specs.PlainValues.{plains_of}
use Rattle.reference_run.proofs.measures.+measures.Given as goal

-- the measures are those of the values so far
abbrev pub invariant-row_measures-loop-place : goal.invariant-row_measures-loop-place
invariant-row_measures-loop-place l =
    let table = (meaning l.program).types in
    let ts = types_at (types_of l.program) l.types in
    IsMeasured l.row (sizes table ts (plains_of (take l.place l.values))) (depths table ts (plains_of (take l.place l.values)))

abbrev pub invariant-item_measures-loop-place : goal.invariant-item_measures-loop-place
invariant-item_measures-loop-place l =
    let table = (meaning l.program).types in
    let ts = item_types l.count (type_at (types_of l.program) l.item) in
    IsMeasured l.row (sizes table ts (plains_of (take l.place l.items))) (depths table ts (plains_of (take l.place l.items)))
