use Rattle.value_store.specs.Packing.{packed_nodes}
use Rattle.value_store.specs.Stores.{nodes_in}
use Rattle.value_store.specs.Views.{form_shown}
use Rattle.value_store.proofs.AddedNodes.{added_keeps, added_sound, adds_either}
use Rattle.value_store.proofs.store.StoreNodes.put.Goals as goal

pub invariant_of-self : goal.invariant_of-self
invariant_of-self c =
    record {
      sound = added_sound (nodes_in c.args.self.now) (packed_nodes c.put.new.self) (form_shown c.args.form) c.args.size c.args.depth c.requires.size c.requires.depth
          (adds_either (nodes_in c.args.self.now) (packed_nodes c.put.new.self) _ c.put.result c.put.ensures) c.requires.refers c.requires.fits c.args.self.now.sound;
      least = c.args.self.now.least;
      greatest = c.args.self.now.greatest;
    }

pub returns-clause-keeps : goal.returns-clause-keeps
returns-clause-keeps c =
    added_keeps (nodes_in c.args.self.now) (packed_nodes c.put.new.self) (form_shown c.args.form) c.args.size c.args.depth c.requires.size c.requires.depth
    (adds_either (nodes_in c.args.self.now) (packed_nodes c.put.new.self) _ c.put.result c.put.ensures)
