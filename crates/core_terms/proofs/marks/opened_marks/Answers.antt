use Rattle.std.proofs.Common.{length, subst, sym}
use Rattle.core_terms.specs.AuthMarks.{AreOpenedMarks}
use Rattle.core_terms.specs.Programs.{types_in}
use Rattle.core_terms.specs.ProgramTrees.{table_of}
use Rattle.core_terms.proofs.AuthLevels.{first_marks, next_opened, last_level, same_marks}
use Rattle.core_terms.proofs.marks.opened_marks.Goals as goal

pub loop-level-init : goal.loop-level-init
loop-level-init c =
    subst (AreOpenedMarks (table_of (types_in c.args.types.now) c.args.named.now) 0) (sym (c.in_ok-opened.ensures.items_if_clones_equal (λ y e. e)))
    (first_marks (table_of (types_in c.args.types.now) c.args.named.now) (length c.args.named.now))

pub loop-level-preserved : goal.loop-level-preserved
loop-level-preserved c =
    next_opened (types_in c.args.types.now) c.args.named.now c.loop-level._level c.loop-level.opened.items c.in_ok-marks.marks.items c.in_ok-next.next.items c.loop-level.invariant
    c.in_ok-marks.ensures.length (rw c.deref.ensures.value at c.in_ok-marks.ensures.marks) (rw c.deref-in-loop-level.ensures.value at c.in_ok-next.ensures)

pub returns-then-eq : goal.returns-then-eq
returns-then-eq c =
    let next = next_opened (types_in c.args.types.now) c.args.named.now c.loop-level._level c.loop-level.opened.items c.in_ok-marks.marks.items c.in_ok-next.next.items c.loop-level.invariant
    c.in_ok-marks.ensures.length (rw c.deref.ensures.value at c.in_ok-marks.ensures.marks) (rw c.deref-in-loop-level.ensures.value at c.in_ok-next.ensures) in
    last_level (table_of (types_in c.args.types.now) c.args.named.now) c.loop-level._level (length c.args.named.now) c.loop-level.opened.items
    c.in_ok-next.next.items c.loop-level.invariant
    next (same_marks _ _ (rw (c.as_slice.ensures.value, c.as_slice-in-loop-level.ensures.value) at c.if-eq.ensures)) c.loop-level-test.true
