use Rattle.std.proofs.Common.{◌≤◌, max, sym, ap₂, ◌∙◌, arith, le-ltb}
use Rattle.core_terms.specs.Types.{PairTy}
use Rattle.core_terms.specs.Values.{PairV, size, depth}
use Rattle.core_terms.specs.Formats.{depth_limit}
use Rattle.mode_vm.proofs.Operands.{limited_gives}
use Rattle.mode_vm.proofs.composites.new_pair.Goals as goal

pub returns-clause-makes : goal.returns-clause-makes
returns-clause-makes g c limit is m kind types a b x y h j =
    let p = c.shallow_size.ensures.size kind types a x h in
    let q = c.shallow_size-2.ensures.size kind types b y j in
    let d = ap₂ max (sym (c.shallow_depth.ensures.depth kind types a x h)) (sym (c.shallow_depth-2.ensures.depth kind types b y j)) ∙ sym c.max.ensures in
    let fits : size types (PairTy a b) (PairV x y) ≤ limit = omega (arith, p, q, is, c.limit.ensures, c.if-shallow_size-limit.false) in
    let deep : depth types (PairTy a b) (PairV x y) ≤ depth_limit = omega (arith, d, c.if-max-ge-DEPTH_LIMIT.false) in (
      PairV x y,
      c.in_ok-r.ensures.stands kind types a b x y h j,
      λ k w. limited_gives limit types (PairTy a b) (PairV x y) k w (le-ltb _ _ fits) (le-ltb _ _ deep),
    )
