use Rattle.std.specs.Prelude.{false, true}
use Rattle.std.proofs.Common.{◌≡◌, ◌++◌, ◌∙◌, ap, arith, get_or, length, take}
use Rattle.core_terms.specs.Values.{UnitV}
use Rattle.session_meaning.specs.Server.{version_at}
use Rattle.session_turns.specs.Sharing.{IsCommit}
use Rattle.version_journal.proofs.Kept.{alike_length, all_kept, at_all, at_more, call_at, ends_err, err_of, more_so_far, no_call, stepped, stops_so}
use Rattle.version_journal.proofs.Stepping.{all_appended, appended_more, appended_until, as_many, next, stepped as stepped_on}
use Rattle.version_journal.specs.declared.journal.Journal.{Journal}
use Rattle.version_journal.proofs.keeping.append_all.Goals as goal

pub returns-in_err-append-clause-appends : goal.returns-in_err-append-clause-appends
returns-in_err-append-clause-appends g c own image calls news at alike kept =
    let i = c.loop-commit.commit-index in
    let loop = c.loop-commit.invariant in
    let here = call_at c.args.commits.now news i c.commit-item.result alike (omega (arith, c.loop-commit-test.true)) c.commit-item.is in
    ends_err own image calls news i (get_or news i no_call) here.1 here.2 c.append.result _ _ c.from_residual.result (g.D.Disk.moments c.args.disk.now) (g.D.Disk.moments c.append.new.disk)
    c.from_residual.ensures.0
    (stepped own image calls news i (get_or news i no_call) here.1 here.2 c.append.result (g.D.Disk.moments c.args.disk.now) (g.D.Disk.moments c.loop-commit.disk) (g.D.Disk.moments c.append.new.disk)
    (loop.so_far own image calls news at alike kept)
    (c.append.ensures.appends own image (calls ++ take i news) (get_or news i no_call) (loop.at own image calls news at alike) here.0))

pub returns-in_err-append-clause-stops : goal.returns-in_err-append-clause-stops
returns-in_err-append-clause-stops g c own image calls news at alike kept =
    let i = c.loop-commit.commit-index in
    let loop = c.loop-commit.invariant in
    let here = call_at c.args.commits.now news i c.commit-item.result alike (omega (arith, c.loop-commit-test.true)) c.commit-item.is in
    err_of c.from_residual.result _ c.from_residual.ensures.0
    (stops_so own image calls news i (get_or news i no_call) here.1 here.2 c.append.result c.append.new.self.records (omega (arith, c.in_err-append.ensures.stays, loop.count, at.records))
    (g.D.Disk.moments c.args.disk.now) (g.D.Disk.moments c.append.new.disk)
    (stepped own image calls news i (get_or news i no_call) here.1 here.2 c.append.result (g.D.Disk.moments c.args.disk.now) (g.D.Disk.moments c.loop-commit.disk) (g.D.Disk.moments c.append.new.disk)
    (loop.so_far own image calls news at alike kept)
    (c.append.ensures.appends own image (calls ++ take i news) (get_or news i no_call) (loop.at own image calls news at alike) here.0)))

pub returns-in_err-append-clause-steps : goal.returns-in_err-append-clause-steps
returns-in_err-append-clause-steps g c P own image calls news versions made at alike size are kept =
    let i = c.loop-commit.commit-index in
    let loop = c.loop-commit.invariant in
    let call = get_or news i no_call in
    let w = get_or made i UnitV in
    let moments = g.D.Disk.moments in
    let here = call_at c.args.commits.now news i c.commit-item.result alike (omega (arith, c.loop-commit-test.true)) c.commit-item.is in
    let then = next P own image calls versions news made i no_call size are here.1 (omega (arith, c.requires.room, at.records, alike_length IsCommit c.args.commits.now news alike)) in
    appended_until P own image calls versions news made i call w then.few then.is here.2 then.made_more _ _ c.append.result c.from_residual.result (moments c.args.disk.now) (moments c.append.new.disk)
    c.from_residual.ensures.0
    (stepped_on P own image calls versions news made i call w then.few then.is here.2 then.made_more c.append.result (moments c.args.disk.now) (moments c.loop-commit.disk) (moments c.append.new.disk)
    (loop.steps P own image calls news versions made at alike size are kept)
    (c.append.ensures.appends own image (calls ++ take i news) call (loop.at own image calls news at alike) here.0))

pub loop-commit-preserved : goal.loop-commit-preserved
loop-commit-preserved g c =
    let i = c.loop-commit.commit-index in
    let loop = c.loop-commit.invariant in
    let commits = c.args.commits.now in
    let moments = g.D.Disk.moments in
    record {
      count = omega (arith, loop.count, c.in_ok-append.ensures.count);
      at = λ own image calls news at alike.
          let here = call_at commits news i c.commit-item.result alike (omega (arith, c.loop-commit-test.true)) c.commit-item.is in
          at_more own image calls news i (get_or news i no_call) c.append.new.self here.2
          (c.in_ok-append.ensures.at own image (calls ++ take i news) (get_or news i no_call) (loop.at own image calls news at alike) here.0);
      so_far = λ own image calls news at alike kept.
          let here = call_at commits news i c.commit-item.result alike (omega (arith, c.loop-commit-test.true)) c.commit-item.is in
          more_so_far own image calls news i (get_or news i no_call) here.1 here.2 c.append.result _ (moments c.args.disk.now) (moments c.append.new.disk) c.in_ok-append.was
          (stepped own image calls news i (get_or news i no_call) here.1 here.2 c.append.result (moments c.args.disk.now) (moments c.loop-commit.disk) (moments c.append.new.disk)
          (loop.so_far own image calls news at alike kept)
          (c.append.ensures.appends own image (calls ++ take i news) (get_or news i no_call) (loop.at own image calls news at alike) here.0));
      steps = λ P own image calls news versions made at alike size are kept.
          let call = get_or news i no_call in
          let w = get_or made i UnitV in
          let here = call_at commits news i c.commit-item.result alike (omega (arith, c.loop-commit-test.true)) c.commit-item.is in
          let then = next P own image calls versions news made i no_call size are here.1 (omega (arith, c.requires.room, at.records, alike_length IsCommit commits news alike)) in
          appended_more P own image calls versions news made i call w then.few then.is here.2 then.made_more c.append.result _ (moments c.args.disk.now) (moments c.append.new.disk) c.in_ok-append.was
          (stepped_on P own image calls versions news made i call w then.few then.is here.2 then.made_more c.append.result (moments c.args.disk.now) (moments c.loop-commit.disk) (moments c.append.new.disk)
          (loop.steps P own image calls news versions made at alike size are kept)
          (c.append.ensures.appends own image (calls ++ take i news) call (loop.at own image calls news at alike) here.0));
      whole = λ broken.
          let stands : c.loop-commit.journal.failed ≡ false = c.in_ok-append.ensures.breaks.0 in
          let same = ap (λ (j : Journal). j.failed) (loop.whole broken).1 in
          absurd (let clash : true ≡ false = cc in cc);
      reads = c.in_ok-append.ensures.cause.0 ∙ loop.reads;
      writes = c.in_ok-append.ensures.cause.1 ∙ loop.writes;
    }

pub returns-clause-appends : goal.returns-clause-appends
returns-clause-appends g c own image calls news at alike kept =
    all_kept own image calls news _ _ c.loop-commit.commit-index (tt {0}) (g.D.Disk.moments c.args.disk.now) (g.D.Disk.moments c.loop-commit.disk)
    (omega (arith, alike_length IsCommit c.args.commits.now news alike, c.loop-commit-test.false)) (c.loop-commit.invariant.so_far own image calls news at alike kept)

pub returns-clause-at : goal.returns-clause-at
returns-clause-at g c own image calls news at alike =
    at_all own image calls news c.loop-commit.commit-index c.loop-commit.journal (omega (arith, alike_length IsCommit c.args.commits.now news alike, c.loop-commit-test.false))
    (c.loop-commit.invariant.at own image calls news at alike)

pub returns-clause-steps : goal.returns-clause-steps
returns-clause-steps g c P own image calls news versions made at alike size are kept =
    let i = c.loop-commit.commit-index in
    let all = alike_length IsCommit c.args.commits.now news alike in
    all_appended P own image calls versions news made _ _ i (tt {0}) (g.D.Disk.moments c.args.disk.now) (g.D.Disk.moments c.loop-commit.disk) (omega (arith, all, c.loop-commit-test.false))
    (omega (arith, as_many P (version_at versions (length calls)) news made are, all, c.loop-commit-test.false))
    (c.loop-commit.invariant.steps P own image calls news versions made at alike size are kept)
