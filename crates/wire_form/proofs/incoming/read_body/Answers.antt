use Rattle.std.proofs.Common.{rules, ◌≡◌, ◌++◌, ◌∙◌, ap, sym, take, arith}
use Rattle.std.specs.Io.KnownBytes.{append_known, prepend_known}
use Rattle.std.proofs.lemmas.Grind.{common_steps}
use Rattle.wire_form.proofs.Coming.{failing_link, lacking_memory, took_one, took_two}
use Rattle.lam_outside.proofs.Moved.{append_twice, prepend_twice}
use Rattle.lam_outside.proofs.Waiting.{waits_more}
use Rattle.wire_form.proofs.Moving.{moves_on}
use Rattle.wire_form.proofs.incoming.read_body.Goals as goal

pub returns-in_err-extend_from_slice-clause-came : goal.returns-in_err-extend_from_slice-clause-came
returns-in_err-extend_from_slice-clause-came g c = λ bytes told.
    lacking_memory _ bytes _ _ c.from_residual-in_err-extend_from_slice.ensures.1
    (took_two c.args.len bytes c.loop-chunk.body.items (take c.in_ok-count.count c.read_some.new.into) _ _ _ told
    c.loop-chunk.invariant.came c.in_ok-count.ensures.bytes.fewer_left (grind (arith, common_steps)))

pub returns-in_err-extend_from_slice-clause-moves : goal.returns-in_err-extend_from_slice-clause-moves
returns-in_err-extend_from_slice-clause-moves g c =
    moves_on _ _ _ _ _ _ (c.loop-chunk.body.items, c.loop-chunk.invariant.came, c.loop-chunk.invariant.given)
    (take c.in_ok-count.count c.read_some.new.into, c.in_ok-count.ensures.bytes.fewer_left, c.in_ok-count.ensures.bytes.more_given)

pub returns-in_err-count-clause-came : goal.returns-in_err-count-clause-came
returns-in_err-count-clause-came g c = λ bytes told.
    failing_link _ bytes _ _ c.from_residual.ensures.1
    (took_one c.args.len bytes c.loop-chunk.body.items _ _ told
    (c.loop-chunk.invariant.came ∙ ap (prepend_known c.loop-chunk.body.items) (sym c.in_err-count.ensures.bytes.fewer_left)) (grind (arith, common_steps)))

pub returns-then-count-eq0-clause-waits : goal.returns-then-count-eq0-clause-waits
returns-then-count-eq0-clause-waits g c = λ bytes told.
    waits_more bytes c.loop-chunk.body.items _ _ _ _ _ _ _ _ told c.loop-chunk.invariant.came (search rules) c.loop-chunk.invariant.sent
    (c.loop-chunk.invariant.waits bytes told) c.in_ok-count.ensures.noted

pub returns-in_err-extend_from_slice-clause-waits : goal.returns-in_err-extend_from_slice-clause-waits
returns-in_err-extend_from_slice-clause-waits g c = λ bytes told.
    waits_more bytes c.loop-chunk.body.items _ _ _ _ _ _ _ _ told c.loop-chunk.invariant.came (search rules) c.loop-chunk.invariant.sent
    (c.loop-chunk.invariant.waits bytes told) c.in_ok-count.ensures.noted

pub loop-chunk-preserved : goal.loop-chunk-preserved
loop-chunk-preserved g c =
    let count = c.in_ok-count.count in
    let into = c.read_some.new.into in
    let items : c.extend_from_slice.new.self.items ≡ c.loop-chunk.body.items ++ take count into = grind (arith, common_steps) in
    let came : g.L.Source.left c.args.link.now ≡ prepend_known c.extend_from_slice.new.self.items (g.L.Source.left c.read_some.new.link) =
    c.loop-chunk.invariant.came ∙ ap (prepend_known c.loop-chunk.body.items) c.in_ok-count.ensures.bytes.fewer_left
    ∙ prepend_twice (g.L.Source.left c.read_some.new.link) c.loop-chunk.body.items (take count into)
    ∙ ap (λ body. prepend_known body (g.L.Source.left c.read_some.new.link)) (sym items) in
    record {
      within = search rules;
      came = came;
      given = c.in_ok-count.ensures.bytes.more_given ∙ ap (λ w. append_known w (take count into)) c.loop-chunk.invariant.given
          ∙ append_twice (g.L.Source.given c.args.link.now) c.loop-chunk.body.items (take count into) ∙ ap (append_known (g.L.Source.given c.args.link.now)) (sym items);
      waits = λ bytes told.
          waits_more bytes c.loop-chunk.body.items _ _ _ _ _ _ _ _ told c.loop-chunk.invariant.came (search rules) c.loop-chunk.invariant.sent
          (c.loop-chunk.invariant.waits bytes told) c.in_ok-count.ensures.noted;
      sent = search rules;
      beyond = search rules;
      faults = search rules;
    }
