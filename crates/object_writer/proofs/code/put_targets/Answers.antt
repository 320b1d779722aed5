use Rattle.std.proofs.Common.{ℕ, ◌≤◌, refl, slice_index, arith}
use Rattle.std.proofs.lemmas.Result.{err_from_is_err_and}
use Rattle.std.proofs.lemmas.List.Elements.{All-get_or}
use Rattle.core_terms.specs.ProgramLimits.{most_instructions}
use Rattle.object_meaning.specs.ObjectBytes.{word}
use Rattle.object_meaning.specs.WrittenObjects.{target_of}
use Rattle.object_writer.specs.Adding.{written_so_far}
use Rattle.object_writer.proofs.LoopForms.{target_words}
use Rattle.object_writer.proofs.Loops.{goes_on, stops, is_done}
use Rattle.object_writer.proofs.code.put_targets.Goals as goal

pub target_bytes-requires-clause-passed : goal.target_bytes-requires-clause-passed
target_bytes-requires-clause-passed c = All-get_or (λ (n : ℕ). n ≤ most_instructions) c.args.places.now c.loop-passed.passed-index 0 (omega arith) c.requires.small

pub returns-in_err-put : goal.returns-in_err-put
returns-in_err-put c =
    let p = err_from_is_err_and c.from_residual.result c.from_residual.ensures.1 in
    let place = c.args.place in
    let l = c.loop-passed in
    rw (p.1, p.2) (stops (λ i xs. target_words place xs) (λ i passed. word (target_of place passed)) (λ i x xs. refl) (λ i. refl)
    c.args.places.now (written_so_far c.args.object.now) (written_so_far l.object) l.passed-index l.invariant (slice_index c.args.places.now l.passed-index) 0 _ (omega arith) refl
    (rw c.target_bytes.ensures at c.in_err-put.ensures))

pub loop-passed-preserved : goal.loop-passed-preserved
loop-passed-preserved c =
    let place = c.args.place in
    let l = c.loop-passed in
    goes_on (λ i xs. target_words place xs) (λ i passed. word (target_of place passed)) (λ i x xs. refl) (λ i. refl)
    c.args.places.now (written_so_far c.args.object.now) (written_so_far l.object) l.passed-index l.invariant (slice_index c.args.places.now l.passed-index) 0 _ (omega arith) refl
    (rw c.target_bytes.ensures at c.in_ok-put.ensures)

pub returns : goal.returns
returns c =
    let place = c.args.place in
    let l = c.loop-passed in
    is_done (λ i xs. target_words place xs) (λ i passed. word (target_of place passed)) (λ i x xs. refl) (λ i. refl)
    c.args.places.now (written_so_far c.args.object.now) (written_so_far l.object) l.passed-index l.invariant (omega arith)
