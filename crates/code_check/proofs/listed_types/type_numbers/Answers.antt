use Rattle.std.proofs.Common.{◌≡◌, ◌+◌, ◌∙◌, ap, arith, drop, map, subst}
use Rattle.std.proofs.lemmas.List.{length_push}
use Rattle.core_terms.specs.ProgramTrees.{types_at}
use Rattle.core_terms.specs.Programs.{types_in}
use Rattle.core_terms.specs.TypeTables.{type_of_form}
use Rattle.object_meaning.specs.ObjectBodies.{tree_of, trees_behind, trees_of}
use Rattle.object_reader.specs.ObjectViews.{type_of}
use Rattle.code_check.specs.ListedParts.{HavePartsBefore}
use Rattle.code_check.proofs.TypeNumbers.{one_numbered, parts_next, within_more}
use Rattle.code_check.proofs.Zips.{rest_opened}
use Rattle.code_check.proofs.listed_types.type_numbers.Goals as goal

pub loop-ty-preserved : goal.loop-ty-preserved
loop-ty-preserved c =
    let l = c.loop-ty in
    let old = types_in l.types in
    let new = types_in c.intern.new.self in
    let ids = l.numbers.items in
    let id = c.in_ok-id.id in
    let form = c.form_of-form.result in
    let t = type_of c.ty-item.result in
    let ts = map type_of (drop (l.ty-index + 1) c.args.listed.now) in
    let all = trees_of (map type_of c.args.listed.now) in
    let opened = rest_opened type_of c.args.listed.now l.ty-index c.ty-item.result c.loop-ty-test.true c.ty-item.is in
    let tree = subst (λ xs. type_of_form old form ≡ tree_of (types_at old xs) l.named t) c.deref.ensures.value (c.form_of-form.ensures.tree old) in
    let so_far = subst (λ r. trees_behind (types_at old ids) l.named r ≡ all) opened l.invariant.trees in
    record {
      trees = rw (c.in_ok-push.ensures.items, c.named_count-named.ensures.count)
          (one_numbered old new ids id form l.named t ts all c.intern.ensures.types l.invariant.within c.in_ok-id.ensures.number tree so_far);
      within = rw c.in_ok-push.ensures.items (within_more old new ids id c.intern.ensures.grows l.invariant.within c.in_ok-id.ensures.within);
      each = rw c.in_ok-push.ensures.items (length_push ids id ∙ ap (λ n. n + 1) l.invariant.each);
      parts = (parts_next l.ty-index t ts (subst (HavePartsBefore l.ty-index) opened l.invariant.parts)).1;
      counted = omega (arith, l.invariant.counted, c.named_count-named.ensures.one);
      format = c.intern.ensures.format ∙ l.invariant.format;
    }
