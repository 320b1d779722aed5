use Rattle.std.proofs.Common.{◌≡◌, ◌-◌, length, slice_get, sym, ap, ◌∙◌, arith}
use Rattle.images.proofs.KeptRecords.{kept_length}
use Rattle.images.proofs.stored_records.StoredRecords.last.Goals as goal

pub returns : goal.returns
returns c =
    let kept = c.self.inside in
    let long : length c.args.self.now ≡ length kept.types =
    ap (λ records. length records) (sym c.self.view_is) ∙ kept_length kept.same kept.others.items kept.types in
    let at : c.saturating_sub.result ≡ length c.args.self.now - 1 = omega (arith, c.saturating_sub.ensures, c.len.ensures, long) in
    c.get.ensures ∙ ap (slice_get c.args.self.now) at
