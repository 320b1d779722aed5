use Rattle.std.proofs.Common.{◌≡◌, ◌≤◌, ◌++◌, ◌∙◌, ap, ap₂, length-append, subst, arith, le-ltb}
use Rattle.core_terms.specs.Formats.{depth_limit}
use Rattle.core_terms.specs.Types.{TextTy}
use Rattle.core_terms.specs.Values.{TextV, depth, size}
use Rattle.ideal_meaning.specs.Run as meant
use Rattle.value_store.specs.Standing.{StandsFor}
use Rattle.mode_vm.proofs.Operands.{limited_gives}
use Rattle.mode_vm.proofs.texts.new_text.Goals as goal

pub returns-clause-makes : goal.returns-clause-makes
returns-clause-makes g c limit is m kind types x y h j =
    let first = c.text_in-x.result.now in
    let second = c.text_in-y.result.now in
    let both = first ++ second in
    let joined : c.deref.result.now ≡ both = c.deref.ensures ∙ c.in_ok-push_str.ensures.bytes ∙ ap (λ bytes. bytes ++ second) c.in_ok-text.ensures.ok in
    let long = length-append first second in
    let fits : size types TextTy (TextV both) ≤ limit = omega (arith, long, is, c.limit.ensures, g.met.N.Nodes.least c.args.store.now, c.if-x-y.false) in
    let shallow : depth types TextTy (TextV both) ≤ depth_limit = omega arith in (
      TextV both,
      subst (λ bytes. StandsFor kind types (g.N.Nodes.nodes c.put_text.new.self) c.in_ok-r.r.0 TextTy (TextV bytes)) joined (c.in_ok-r.ensures.stands kind types),
      λ k w. ap₂ (λ u v. meant.limited limit types TextTy (TextV (meant.text_in u ++ meant.text_in v)) k w) (c.text_in-x.ensures kind types x h) (c.text_in-y.ensures kind types y j)
          ∙ limited_gives limit types TextTy (TextV both) k w (le-ltb _ _ fits) (le-ltb _ _ shallow),
    )
