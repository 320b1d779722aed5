use Rattle.std.proofs.Common.{◌≡◌, ◌<◌, ◌+◌, ◌++◌, length, Some, None, unwrap_or, refl, sym, ap, ◌∙◌, arith, true≢false}
use Rattle.value_store.specs.Nodes.{refs_in}
use Rattle.value_store.specs.Views.{form_shown}
use Rattle.images.specs.FormRecords.{head_of, numbered}
use Rattle.images.specs.SavedRecords.{number_at, number_or_first}
use Rattle.images.proofs.NumberedParts.{have_at, none_at, numbered_next, shown_at, take_all, within_at}
use Rattle.images.proofs.save.records.Records.record_of.Goals as goal

pub unreachable-requires : goal.unreachable-requires
unreachable-requires c =
    let rs = refs_in (form_shown c.args.view) in
    let at = shown_at rs c.loop-part.index c.part.result c.in-Some.part c.part.ensures.part c.in-Some.is in
    let has = have_at c.args.self.now rs c.loop-part.index c.in-Some.part.0 c.requires.parts at in
    let none : number_at c.args.self.now c.in-Some.part.0 ≡ None = sym c.number_of.ensures ∙ c.in_default-number_of.is in
    let had = rw none at has in
    absurd (true≢false (sym had))

pub loop-part-smaller : goal.loop-part-smaller
loop-part-smaller c =
    let rs = refs_in (form_shown c.args.view) in
    let at = shown_at rs c.loop-part.index c.part.result c.in-Some.part c.part.ensures.part c.in-Some.is in
    let inside : c.loop-part.index < length rs = within_at rs c.loop-part.index c.in-Some.part.0 at in
    omega (arith, inside)

pub loop-part-preserved : goal.loop-part-preserved
loop-part-preserved c =
    let rs = refs_in (form_shown c.args.view) in
    let at = shown_at rs c.loop-part.index c.part.result c.in-Some.part c.part.ensures.part c.in-Some.is in
    let inside : c.loop-part.index < length rs = within_at rs c.loop-part.index c.in-Some.part.0 at in
    let number : number_at c.args.self.now c.in-Some.part.0 ≡ Some c.in-Some-number_of.number = sym c.number_of.ensures ∙ c.in-Some-number_of.is in
    let next =
    numbered_next (number_or_first c.args.self.now) (head_of (form_shown c.args.view)) rs c.loop-part.bytes.items c.loop-part.index (c.loop-part.index + 1)
    c.in-Some.part.0 c.in-Some-number_of.number refl at (ap (λ o. unwrap_or o 0) number) c.loop-part.invariant.bytes in
    record { index = omega (arith, inside); bytes = c.in_ok-extend_from_slice.ensures.items ∙ ap (λ bs. c.loop-part.bytes.items ++ bs) c.to_be_bytes.ensures ∙ next }

pub returns : goal.returns
returns c =
    let rs = refs_in (form_shown c.args.view) in
    let all = take_all rs c.loop-part.index (none_at rs c.loop-part.index c.part.result c.part.ensures.part c.in_default.is) in
    c.loop-part.invariant.bytes ∙ ap (λ rs. head_of (form_shown c.args.view) ++ numbered (number_or_first c.args.self.now) rs) all
