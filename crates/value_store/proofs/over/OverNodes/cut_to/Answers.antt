use Rattle.std.proofs.Common.{◌≡◌, ◌≤◌, length, subst}
use Rattle.value_store.specs.Packing.{packed_nodes}
use Rattle.value_store.specs.Stores.{nodes_in}
use Rattle.value_store.specs.Overs.{lent_nodes, over_nodes}
use Rattle.value_store.proofs.Overs.{over_cut, lent_length, cut_keeps, cut_sound}
use Rattle.value_store.proofs.over.OverNodes.cut_to.Goals as goal

pub invariant_of-self : goal.invariant_of-self
invariant_of-self c =
    let o = c.args.self.now in
    let at : length (lent_nodes o) ≡ o.from = lent_length o.from (nodes_in o.base.now) o.within in
    let le : o.from ≤ c.args.mark.0 = subst (λ n. n ≤ c.args.mark.0) at c.requires.lent in
    record {
      within = o.within;
      sound = cut_sound (over_nodes o) _ c.args.mark.0 o.sound (over_cut (lent_nodes o) o.from c.args.mark.0 (packed_nodes o.own.packed) (packed_nodes c.cut_to.new.self) at le c.cut_to.ensures);
    }

pub returns-clause-nodes : goal.returns-clause-nodes
returns-clause-nodes c =
    let o = c.args.self.now in
    let at : length (lent_nodes o) ≡ o.from = lent_length o.from (nodes_in o.base.now) o.within in
    let le : o.from ≤ c.args.mark.0 = subst (λ n. n ≤ c.args.mark.0) at c.requires.lent in
    over_cut (lent_nodes o) o.from c.args.mark.0 (packed_nodes o.own.packed) (packed_nodes c.cut_to.new.self) at le c.cut_to.ensures

pub returns-clause-keeps : goal.returns-clause-keeps
returns-clause-keeps c kind types r t v below h =
    let o = c.args.self.now in
    let at : length (lent_nodes o) ≡ o.from = lent_length o.from (nodes_in o.base.now) o.within in
    let le : o.from ≤ c.args.mark.0 = subst (λ n. n ≤ c.args.mark.0) at c.requires.lent in
    cut_keeps (over_nodes o) _ c.args.mark.0 o.sound (over_cut (lent_nodes o) o.from c.args.mark.0 (packed_nodes o.own.packed) (packed_nodes c.cut_to.new.self) at le c.cut_to.ensures) kind types r t v below h
