use Rattle.value_store.specs.Overs.{lent_nodes, over_nodes}
use Rattle.value_store.specs.Packing.{packed_nodes}
use Rattle.value_store.specs.Placing.{with_parts}
use Rattle.value_store.specs.Views.{form_shown}
use Rattle.std.proofs.Common.{◌++◌}
use Rattle.value_store.proofs.AddedNodes.{added_keeps, added_sound, adds_either, over_either}
use Rattle.value_store.proofs.over.OverNodes.put.Goals as goal

pub invariant_of-self : goal.invariant_of-self
invariant_of-self c =
    let o = c.args.self.now in
    record {
      within = o.within;
      sound = added_sound (over_nodes o) (lent_nodes o ++ packed_nodes c.put.new.self) (form_shown c.args.form) c.args.size c.args.depth c.requires.size c.requires.depth
          (over_either (lent_nodes o) (packed_nodes o.own.packed) (packed_nodes c.put.new.self) (with_parts (form_shown c.args.form) c.args.size c.args.depth)
          (adds_either (packed_nodes o.own.packed) (packed_nodes c.put.new.self) _ c.put.result c.put.ensures))
          c.requires.refers c.requires.fits o.sound;
    }

pub returns-clause-keeps : goal.returns-clause-keeps
returns-clause-keeps c =
    let o = c.args.self.now in
    added_keeps (over_nodes o) (lent_nodes o ++ packed_nodes c.put.new.self) (form_shown c.args.form) c.args.size c.args.depth c.requires.size c.requires.depth
    (over_either (lent_nodes o) (packed_nodes o.own.packed) (packed_nodes c.put.new.self) (with_parts (form_shown c.args.form) c.args.size c.args.depth)
    (adds_either (packed_nodes o.own.packed) (packed_nodes c.put.new.self) _ c.put.result c.put.ensures))
