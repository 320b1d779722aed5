use Rattle.std.proofs.Common.{◌≡◌, ◌<◌, ℕ, ap, length, List, subst, sym}
use Rattle.core_terms.specs.Types.{VecTy, item_types}
use Rattle.core_terms.specs.Values.{ItemsV}
use Rattle.value_store.specs.CodeNodes.{numbers_of}
use Rattle.value_store.specs.Standing.{AllStandFor, StandsFor, VerifierNodes}
use Rattle.shallow_codec.specs.PutNodes.{AreThere}
use Rattle.value_store.specs.declared.node.Ref.{Ref}
use Rattle.shallow_codec.proofs.GrownNodes.{below_behind}
use Rattle.shallow_codec.proofs.ReadNodes.{items_is_read}
use Rattle.shallow_codec.proofs.composites.put_items.Goals as goal

pub returns-clause-read : goal.returns-clause-read
returns-clause-read g c = λ types levels t at read.
    let old = g.N.Nodes.nodes c.args.store.now in
    let new = g.N.Nodes.nodes c.put_vec.new.self in
    let m = length c.args.items.values.items in
    let there = subst (λ (rs : List Ref). AreThere types old levels read.1 (numbers_of rs) (item_types m t) read.0) (sym c.as_slice.ensures) read.3 in
    let len : length c.as_slice.result.now ≡ m = ap length c.as_slice.ensures in
    let stands = subst (λ (n : ℕ). StandsFor VerifierNodes types new c.in_ok-value.value.0 (VecTy n t) (ItemsV read.0)) len
    (c.in_ok-value.ensures.stands VerifierNodes types t read.0
    (subst (λ (n : ℕ). AllStandFor VerifierNodes types old (numbers_of c.as_slice.result.now) (item_types n t) read.0) (sym len) there.stand)) in
    items_is_read types levels m t at c.args.items.behind old new
    (numbers_of c.as_slice.result.now) c.in_ok-value.value.0 read.1 read.0 read.2 there read.4 c.in_ok-value.ensures.put stands

pub returns-clause-inside : goal.returns-clause-inside
returns-clause-inside g c =
    let new = g.N.Nodes.nodes c.put_vec.new.self in
    let put = c.in_ok-value.ensures.put in
    subst (λ i. i < length new) (sym put.0) (below_behind (g.N.Nodes.nodes c.args.store.now) new _ put.1)
