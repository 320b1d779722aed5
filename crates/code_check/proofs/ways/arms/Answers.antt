use Rattle.std.proofs.Common.{◌≡◌, ◌∙◌, ◌+◌, length, drop, get_or, Some, slice_get, sym, ap, ap₂, subst, arith, true, false}
use Rattle.std.specs.Option.{option_and_then}
use Rattle.std.proofs.lemmas.List.{drop_all}
use Rattle.std.proofs.lemmas.Option.{slice_get-get_or}
use Rattle.core_terms.specs.Kinds.{reach_all}
use Rattle.core_terms.specs.ProgramTrees.{are_below}
use Rattle.core_terms.specs.Programs.{types_in}
use Rattle.core_terms.specs.declared.term.Constructor.{Constructor}
use Rattle.code_check.specs.KnownTypes.{IsReached}
use Rattle.code_check.proofs.FirstFaults.{all_at, from_place}
use Rattle.code_check.proofs.GoneWays.{all_arms, other_arms, arm_ways, arm_gone, arm_not, IsWent}
use Rattle.code_check.proofs.ListsOfTypes.{below_more, grows_on}
use Rattle.code_check.proofs.SteppedFrames.{frame}
use Rattle.code_check.proofs.ways.arms.Goals as goal

pub returns-then-constructors-places-clause-behind : goal.returns-then-constructors-places-clause-behind
returns-then-constructors-places-clause-behind c = λ ks s k h.
    subst (λ o. IsReached (types_in c.args.lists.now.types) (option_and_then (λ ws. reach_all ws ks) o) c.args.behind.now false)
    (sym (other_arms (types_in c.args.lists.now.types) s.locals s.operands c.args.constructors.now c.args.places.now c.if-constructors-places.true)) tt

pub stacked-requires-clause-types : goal.stacked-requires-clause-types
stacked-requires-clause-types c =
    let there : slice_get c.args.constructors.now c.loop-tag.tag ≡ Some c.index-constructors-tag.result =
    slice_get-get_or c.args.constructors.now c.loop-tag.tag c.index-constructors-tag.result c.loop-tag-test.true ∙ ap Some (sym c.index-constructors-tag.is) in
    rw c.deref.ensures.value
    (below_more (length (types_in c.args.lists.now.types)) (length (types_in c.loop-tag.lists.types)) c.index-constructors-tag.result.fields.items c.loop-tag.invariant.longer
    (all_at (λ (x : Constructor). are_below (length (types_in c.args.lists.now.types)) x.fields.items) c.args.constructors.now c.loop-tag.tag c.index-constructors-tag.result c.requires.fields there))

pub returns-then-not-reach-clause-behind : goal.returns-then-not-reach-clause-behind
returns-then-not-reach-clause-behind c = λ ks s k h.
    let types = types_in c.args.lists.now.types in
    let cs = c.args.constructors.now in
    let places = c.args.places.now in
    let tag = c.loop-tag.tag in
    let item = c.index-constructors-tag.result in
    let n = get_or c.args.places.now c.loop-tag.tag 0 in
    let there : slice_get cs tag ≡ Some item = slice_get-get_or cs tag item c.loop-tag-test.true ∙ ap Some (sym c.index-constructors-tag.is) in
    let place : slice_get places tag ≡ Some n = slice_get-get_or places tag 0 (omega (arith, c.loop-tag-test.true, c.if-constructors-places.false)) in
    let below = all_at (λ (x : Constructor). are_below (length (types_in c.args.lists.now.types)) x.fields.items) cs tag item c.requires.fields there in
    let now = c.loop-tag.invariant.gone ks s k h in
    let left = now.2 ∙ ap₂ (λ xs ns. reach_all (arm_ways types s.locals s.operands xs ns) now.0) (from_place cs tag item there) (from_place places tag n place) in
    subst (λ o. IsReached (types_in c.stacked.new.lists.types) (option_and_then (λ ws. reach_all ws ks) o) c.reach.new.behind false)
    (sym (all_arms types s.locals s.operands cs places c.if-constructors-places.false))
    (subst (λ o. IsReached (types_in c.stacked.new.lists.types) o c.reach.new.behind false) (sym left)
    (arm_not types (types_in c.loop-tag.lists.types) (types_in c.stacked.new.lists.types) c.args.at c.in_ok-locals.locals item (drop (tag + 1) cs) n (drop (tag + 1) places) c.loop-tag.behind
    c.reach.new.behind now.0 s c.loop-tag.invariant.grows c.in_ok-locals.ensures.grows h below (rw c.deref.ensures.value at c.in_ok-locals.ensures.list) now.1
    (subst (IsWent (types_in c.stacked.new.lists.types) c.loop-tag.behind n (frame c.in_ok-locals.locals c.args.at.operands) c.reach.new.behind) c.if-not-reach.true c.reach.ensures)))

pub loop-tag-preserved : goal.loop-tag-preserved
loop-tag-preserved c = record {
  gone = λ ks s k h.
      let types = types_in c.args.lists.now.types in
      let cs = c.args.constructors.now in
      let places = c.args.places.now in
      let tag = c.loop-tag.tag in
      let item = c.index-constructors-tag.result in
      let n = get_or c.args.places.now c.loop-tag.tag 0 in
      let there : slice_get cs tag ≡ Some item = slice_get-get_or cs tag item c.loop-tag-test.true ∙ ap Some (sym c.index-constructors-tag.is) in
      let place : slice_get places tag ≡ Some n = slice_get-get_or places tag 0 (omega (arith, c.loop-tag-test.true, c.if-constructors-places.false)) in
      let below = all_at (λ (x : Constructor). are_below (length (types_in c.args.lists.now.types)) x.fields.items) cs tag item c.requires.fields there in
      let now = c.loop-tag.invariant.gone ks s k h in
      let left = now.2 ∙ ap₂ (λ xs ns. reach_all (arm_ways types s.locals s.operands xs ns) now.0) (from_place cs tag item there) (from_place places tag n place) in
      let later =
      arm_gone types (types_in c.loop-tag.lists.types) (types_in c.stacked.new.lists.types) c.args.at c.in_ok-locals.locals item (drop (tag + 1) cs) n (drop (tag + 1) places) c.loop-tag.behind
      c.reach.new.behind now.0 s c.loop-tag.invariant.grows c.in_ok-locals.ensures.grows h below (rw c.deref.ensures.value at c.in_ok-locals.ensures.list) now.1
      (subst (IsWent (types_in c.stacked.new.lists.types) c.loop-tag.behind n (frame c.in_ok-locals.locals c.args.at.operands) c.reach.new.behind) c.if-not-reach.false c.reach.ensures) in
      (later.0, later.1, left ∙ later.2);
  grows = grows_on (types_in c.args.lists.now.types) (types_in c.loop-tag.lists.types) (types_in c.stacked.new.lists.types) c.loop-tag.invariant.grows c.in_ok-locals.ensures.grows;
  longer = omega (arith, c.loop-tag.invariant.longer, c.in_ok-locals.ensures.longer);
}

pub returns-clause-behind : goal.returns-clause-behind
returns-clause-behind c = λ ks s k h.
    let types = types_in c.args.lists.now.types in
    let now = c.loop-tag.invariant.gone ks s k h in
    let ended = now.2 ∙ ap (λ xs. reach_all (arm_ways types s.locals s.operands xs (drop c.loop-tag.tag c.args.places.now)) now.0) (drop_all c.loop-tag.tag c.args.constructors.now c.loop-tag-test.false) in
    subst (λ o. IsReached (types_in c.loop-tag.lists.types) (option_and_then (λ ws. reach_all ws ks) o) c.loop-tag.behind true)
    (sym (all_arms types s.locals s.operands c.args.constructors.now c.args.places.now c.if-constructors-places.false))
    (subst (λ o. IsReached (types_in c.loop-tag.lists.types) o c.loop-tag.behind true) (sym ended) now.1)
