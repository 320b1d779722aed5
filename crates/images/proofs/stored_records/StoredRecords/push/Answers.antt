use Rattle.std.proofs.Common.{◌≡◌, ◌==◌, ◌+◌, ◌++◌, ◌∷◌, [], ap, ◌∙◌, length, arith, length-append}
use Rattle.images.specs.KeptRecords.{records_kept}
use Rattle.images.proofs.KeptRecords.{one_other, one_same}
use Rattle.images.proofs.Roots.{is_none}
use Rattle.images.proofs.stored_records.StoredRecords.push.Goals as goal

pub returns-then-found-self : goal.returns-then-found-self
returns-then-found-self c =
    let kept = c.self.inside in
    let none = is_none kept.others.items c.is_empty.result (c.is_empty.ensures ∙ ap (λ n. n == 0) kept.others.ok.0) c.if-is_empty.true in
    let added : records_kept (kept.same + 1) kept.others.items c.push.new.self ≡ c.args.self.now ++ c.args.found ∷ [] =
    ap (records_kept (kept.same + 1) kept.others.items) c.in_ok-push.ensures.added
    ∙ one_same kept.same kept.others.items kept.types c.args.found none c.self.invariant c.if-found-self.true
    ∙ ap (λ records. records ++ c.args.found ∷ []) c.self.view_is in
    added

pub returns-in-Ok : goal.returns-in-Ok
returns-in-Ok c =
    let kept = c.self.inside in
    let added : records_kept kept.same c.push-2.new.self.items c.push-3.new.self ≡ c.args.self.now ++ c.args.found ∷ [] =
    ap (records_kept kept.same c.push-2.new.self.items) c.in-Ok.ensures.added
    ∙ ap (λ others. records_kept kept.same others (kept.types ++ c.args.found.ty.0 ∷ [])) c.in_ok-push-2.ensures.items
    ∙ one_other kept.same kept.others.items kept.types c.args.found c.self.invariant
    ∙ ap (λ records. records ++ c.args.found ∷ []) c.self.view_is in
    added

pub overflow_add-self : goal.overflow_add-self
overflow_add-self c =
    let kept = c.self.inside in
    omega (arith, c.in_ok-push.ensures.fits, ap (λ types. length types) c.in_ok-push.ensures.added, length-append kept.types (c.args.found.ty.0 ∷ []), c.self.invariant)
