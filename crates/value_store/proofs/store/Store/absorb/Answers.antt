use Rattle.std.proofs.Common.{◌-◌, ap, ◌∙◌}
use Rattle.value_store.specs.Moving.{moved_ref}
use Rattle.value_store.specs.Overs.{own_nodes}
use Rattle.value_store.specs.Packing.{packed_nodes}
use Rattle.value_store.specs.Stores.{nodes_in}
use Rattle.value_store.proofs.Absorbed.{joined_keeps, joined_sound, joined_stands}
use Rattle.value_store.proofs.Renumbered.{own_refers}
use Rattle.value_store.proofs.store.Store.absorb.Goals as goal

pub absorb-requires-clause-refers : goal.absorb-requires-clause-refers
absorb-requires-clause-refers c = own_refers c.args.from (nodes_in c.args.self.now) (own_nodes c.args.own) c.requires.within c.requires.sound

pub invariant_of-self : goal.invariant_of-self
invariant_of-self c =
    record {
      sound = joined_sound c.args.from (nodes_in c.args.self.now) (own_nodes c.args.own) (packed_nodes c.absorb.new.self) c.requires.within c.requires.sound c.absorb.ensures.either c.args.self.now.sound;
      least = c.args.self.now.least;
      greatest = c.args.self.now.greatest;
    }

pub returns-clause-keeps : goal.returns-clause-keeps
returns-clause-keeps c =
    joined_keeps c.args.from (nodes_in c.args.self.now) (own_nodes c.args.own) (packed_nodes c.absorb.new.self) c.requires.within c.requires.sound c.absorb.ensures.either

pub returns-clause-stands : goal.returns-clause-stands
returns-clause-stands c kind types t v h =
    joined_stands c.args.from (nodes_in c.args.self.now) (own_nodes c.args.own) (packed_nodes c.absorb.new.self) c.requires.within c.requires.sound c.in_ok-absorb.ensures.nodes
    c.args.r.0 c.moved.result.0 (c.moved.ensures ∙ ap (λ n. moved_ref c.args.from (n - c.args.from) c.args.r.0) c.len.ensures) kind types t v h
