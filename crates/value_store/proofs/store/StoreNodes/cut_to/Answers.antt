use Rattle.value_store.specs.Stores.{nodes_in}
use Rattle.value_store.proofs.Overs.{cut_keeps, cut_sound}
use Rattle.value_store.proofs.store.StoreNodes.cut_to.Goals as goal

pub invariant_of-self : goal.invariant_of-self
invariant_of-self c =
    record {
      sound = cut_sound (nodes_in c.args.self.now) _ c.args.mark.0 c.args.self.now.sound c.cut_to.ensures;
      least = c.args.self.now.least;
      greatest = c.args.self.now.greatest;
    }

pub returns-clause-keeps : goal.returns-clause-keeps
returns-clause-keeps c kind types r t v below h = cut_keeps (nodes_in c.args.self.now) _ c.args.mark.0 c.args.self.now.sound c.cut_to.ensures kind types r t v below h
