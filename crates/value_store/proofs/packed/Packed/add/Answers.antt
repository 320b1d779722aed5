use Rattle.std.proofs.Common.{◌≡◌, length, ◌∙◌}
use Rattle.value_store.proofs.Pools.{placed_pushed, rise_pushed}
use Rattle.value_store.proofs.packed.Packed.add.Goals as goal

parts_at : (c : goal.After-push) → c.in_ok-fitting.field-0 ≡ length c.args.self.now.parts.items
parts_at c = c.in_ok-fitting.ensures ∙ c.len.ensures ∙ c.args.self.now.parts.ok.0

digests_at : (c : goal.After-push) → c.in_ok-fitting-2.field-0 ≡ length c.args.self.now.digests.items
digests_at c = c.in_ok-fitting-2.ensures ∙ c.len-2.ensures ∙ c.args.self.now.digests.ok.0

pub invariant_of-self : goal.invariant_of-self
invariant_of-self c =
    let s = c.args.self.now in
    record {
      placed = placed_pushed s.parts.items s.digests.items s.nodes.items s.placed s.rise (record { form = c.args.form; ends = record { parts = c.in_ok-fitting.field-0; digests = c.in_ok-fitting-2.field-0 } }) (parts_at c) (digests_at c) _ c.push.new.self.items c.push.ensures.items c.requires.lies;
      rise = rise_pushed s.parts.items s.digests.items s.nodes.items s.placed s.rise (record { form = c.args.form; ends = record { parts = c.in_ok-fitting.field-0; digests = c.in_ok-fitting-2.field-0 } }) (parts_at c) (digests_at c) _ c.push.new.self.items c.push.ensures.items;
    }
