use Rattle.std.proofs.Common.{◌≡◌, ◌≤◌, ◌<◌, ◌+◌, ◌-◌, ◌∙◌, Some, sym, ap, arith, leb-true, leb-false, le-ltb, lt-ltb, unwrap_or, []}
use Rattle.core_terms.specs.Formats.{depth_limit}
use Rattle.core_terms.specs.Types.{NamedTy}
use Rattle.core_terms.specs.Values.{ConV, depth, depths, size, sizes}
use Rattle.value_store.specs.CodeNodes.{numbers_of}
use Rattle.value_store.specs.Nodes.{greatest_depth, total_size}
use Rattle.value_store.proofs.KeptSizes.{depths_stand, sizes_stand}
use Rattle.mode_vm.proofs.Operands.{limited_big, limited_deep, limited_gives}
use Rattle.mode_vm.proofs.composites.new_constructor.Goals as goal

pub returns-then-not-sizes_fit-clause-makes : goal.returns-then-not-sizes_fit-clause-makes
returns-then-not-sizes_fit-clause-makes g c limit is m kind types ts vs at stand =
    let nodes = g.N.Nodes.nodes c.args.store.now in
    let rs = numbers_of c.args.fields.now in
    let number = c.args.named.0 in
    let tag = c.args.tag.0 in
    let sound = g.met.N.Nodes.sound c.args.store.now in
    let size_is : size types (NamedTy number) (ConV tag vs) ≡ 1 + total_size nodes rs =
    ap (λ o. 1 + sizes types (unwrap_or o []) vs) at ∙ ap (λ n. 1 + n) (sym (sizes_stand nodes sound kind types (Some ts) rs vs stand)) in
    let more = leb-false (total_size nodes rs) (c.limit.result - 1) (sym c.sizes_fit.ensures ∙ c.if-not-sizes_fit.true) in
    let big : limit < size types (NamedTy number) (ConV tag vs) = omega (arith, size_is, is, c.limit.ensures, g.met.N.Nodes.least c.args.store.now, more) in
    λ k w. limited_big limit types (NamedTy number) (ConV tag vs) k w (lt-ltb _ _ big)

pub returns-then-not-depths_fit-clause-makes : goal.returns-then-not-depths_fit-clause-makes
returns-then-not-depths_fit-clause-makes g c limit is m kind types ts vs at stand =
    let nodes = g.N.Nodes.nodes c.args.store.now in
    let rs = numbers_of c.args.fields.now in
    let number = c.args.named.0 in
    let tag = c.args.tag.0 in
    let sound = g.met.N.Nodes.sound c.args.store.now in
    let size_is : size types (NamedTy number) (ConV tag vs) ≡ 1 + total_size nodes rs =
    ap (λ o. 1 + sizes types (unwrap_or o []) vs) at ∙ ap (λ n. 1 + n) (sym (sizes_stand nodes sound kind types (Some ts) rs vs stand)) in
    let depth_is : depth types (NamedTy number) (ConV tag vs) ≡ 1 + greatest_depth nodes rs =
    ap (λ o. 1 + depths types (unwrap_or o []) vs) at ∙ ap (λ n. 1 + n) (sym (depths_stand nodes sound kind types (Some ts) rs vs stand)) in
    let fits = leb-true (total_size nodes rs) (c.limit.result - 1) (sym c.sizes_fit.ensures ∙ c.if-not-sizes_fit.false) in
    let more = leb-false (greatest_depth nodes rs) 511 (sym c.depths_fit.ensures ∙ c.if-not-depths_fit.true) in
    let small : size types (NamedTy number) (ConV tag vs) ≤ limit = omega (arith, size_is, is, c.limit.ensures, g.met.N.Nodes.least c.args.store.now, fits) in
    let deep : depth_limit < depth types (NamedTy number) (ConV tag vs) = omega (arith, depth_is, more) in
    λ k w. limited_deep limit types (NamedTy number) (ConV tag vs) k w (le-ltb _ _ small) (lt-ltb _ _ deep)

pub returns-clause-makes : goal.returns-clause-makes
returns-clause-makes g c limit is m kind types ts vs at stand =
    let nodes = g.N.Nodes.nodes c.args.store.now in
    let rs = numbers_of c.args.fields.now in
    let number = c.args.named.0 in
    let tag = c.args.tag.0 in
    let sound = g.met.N.Nodes.sound c.args.store.now in
    let size_is : size types (NamedTy number) (ConV tag vs) ≡ 1 + total_size nodes rs =
    ap (λ o. 1 + sizes types (unwrap_or o []) vs) at ∙ ap (λ n. 1 + n) (sym (sizes_stand nodes sound kind types (Some ts) rs vs stand)) in
    let depth_is : depth types (NamedTy number) (ConV tag vs) ≡ 1 + greatest_depth nodes rs =
    ap (λ o. 1 + depths types (unwrap_or o []) vs) at ∙ ap (λ n. 1 + n) (sym (depths_stand nodes sound kind types (Some ts) rs vs stand)) in
    let fits = leb-true (total_size nodes rs) (c.limit.result - 1) (sym c.sizes_fit.ensures ∙ c.if-not-sizes_fit.false) in
    let within = leb-true (greatest_depth nodes rs) 511 (sym c.depths_fit.ensures ∙ c.if-not-depths_fit.false) in
    let small : size types (NamedTy number) (ConV tag vs) ≤ limit = omega (arith, size_is, is, c.limit.ensures, g.met.N.Nodes.least c.args.store.now, fits) in
    let shallow : depth types (NamedTy number) (ConV tag vs) ≤ depth_limit = omega (arith, depth_is, within) in (
      ConV tag vs,
      c.in_ok-r.ensures.stands kind types ts vs at stand,
      λ k w. limited_gives limit types (NamedTy number) (ConV tag vs) k w (le-ltb _ _ small) (le-ltb _ _ shallow),
    )
