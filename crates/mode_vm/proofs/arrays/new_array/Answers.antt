use Rattle.std.proofs.Common.{◌≡◌, ◌≤◌, ◌<◌, ◌+◌, ◌∙◌, Some, sym, ap, arith, leb-true, leb-false, le-ltb, lt-ltb, length}
use Rattle.core_terms.specs.Formats.{depth_limit}
use Rattle.core_terms.specs.Types.{VecTy, item_types}
use Rattle.core_terms.specs.Values.{ItemsV, depth, size}
use Rattle.value_store.specs.CodeNodes.{numbers_of}
use Rattle.value_store.specs.Nodes.{greatest_depth, total_size}
use Rattle.value_store.proofs.KeptSizes.{depths_stand, sizes_stand}
use Rattle.mode_vm.proofs.Operands.{limited_big, limited_deep, limited_gives}
use Rattle.mode_vm.proofs.arrays.new_array.Goals as goal

pub returns-then-not-sizes_fit-clause-makes : goal.returns-then-not-sizes_fit-clause-makes
returns-then-not-sizes_fit-clause-makes g c limit is m kind types t vs stand =
    let nodes = g.N.Nodes.nodes c.args.store.now in
    let rs = numbers_of c.args.items.now in
    let n = length c.args.items.now in
    let sound = g.met.N.Nodes.sound c.args.store.now in
    let size_is : size types (VecTy n t) (ItemsV vs) ≡ total_size nodes rs = sym (sizes_stand nodes sound kind types (Some (item_types n t)) rs vs stand) in
    let more = leb-false (total_size nodes rs) c.limit.result (sym c.sizes_fit.ensures ∙ c.if-not-sizes_fit.true) in
    let big : limit < size types (VecTy n t) (ItemsV vs) = omega (arith, size_is, more, is, c.limit.ensures) in
    λ k w. limited_big limit types (VecTy n t) (ItemsV vs) k w (lt-ltb _ _ big)

pub returns-then-not-depths_fit-clause-makes : goal.returns-then-not-depths_fit-clause-makes
returns-then-not-depths_fit-clause-makes g c limit is m kind types t vs stand =
    let nodes = g.N.Nodes.nodes c.args.store.now in
    let rs = numbers_of c.args.items.now in
    let n = length c.args.items.now in
    let sound = g.met.N.Nodes.sound c.args.store.now in
    let size_is : size types (VecTy n t) (ItemsV vs) ≡ total_size nodes rs = sym (sizes_stand nodes sound kind types (Some (item_types n t)) rs vs stand) in
    let depth_is : depth types (VecTy n t) (ItemsV vs) ≡ 1 + greatest_depth nodes rs =
    ap (λ n. 1 + n) (sym (depths_stand nodes sound kind types (Some (item_types n t)) rs vs stand)) in
    let fits = leb-true (total_size nodes rs) c.limit.result (sym c.sizes_fit.ensures ∙ c.if-not-sizes_fit.false) in
    let more = leb-false (greatest_depth nodes rs) 511 (sym c.depths_fit.ensures ∙ c.if-not-depths_fit.true) in
    let small : size types (VecTy n t) (ItemsV vs) ≤ limit = omega (arith, size_is, fits, is, c.limit.ensures) in
    let deep : depth_limit < depth types (VecTy n t) (ItemsV vs) = omega (arith, depth_is, more) in
    λ k w. limited_deep limit types (VecTy n t) (ItemsV vs) k w (le-ltb _ _ small) (lt-ltb _ _ deep)

pub returns-clause-makes : goal.returns-clause-makes
returns-clause-makes g c limit is m kind types t vs stand =
    let nodes = g.N.Nodes.nodes c.args.store.now in
    let rs = numbers_of c.args.items.now in
    let n = length c.args.items.now in
    let sound = g.met.N.Nodes.sound c.args.store.now in
    let size_is : size types (VecTy n t) (ItemsV vs) ≡ total_size nodes rs = sym (sizes_stand nodes sound kind types (Some (item_types n t)) rs vs stand) in
    let depth_is : depth types (VecTy n t) (ItemsV vs) ≡ 1 + greatest_depth nodes rs =
    ap (λ n. 1 + n) (sym (depths_stand nodes sound kind types (Some (item_types n t)) rs vs stand)) in
    let fits = leb-true (total_size nodes rs) c.limit.result (sym c.sizes_fit.ensures ∙ c.if-not-sizes_fit.false) in
    let within = leb-true (greatest_depth nodes rs) 511 (sym c.depths_fit.ensures ∙ c.if-not-depths_fit.false) in
    let small : size types (VecTy n t) (ItemsV vs) ≤ limit = omega (arith, size_is, fits, is, c.limit.ensures) in
    let shallow : depth types (VecTy n t) (ItemsV vs) ≤ depth_limit = omega (arith, depth_is, within) in (
      ItemsV vs,
      c.in_ok-r.ensures.stands kind types t vs stand,
      λ k w. limited_gives limit types (VecTy n t) (ItemsV vs) k w (le-ltb _ _ small) (le-ltb _ _ shallow),
    )
