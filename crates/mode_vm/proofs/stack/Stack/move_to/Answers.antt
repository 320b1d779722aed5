use Rattle.std.proofs.Common.{◌-◌, ◌++◌, length, drop, refl, ap, sym, ◌∙◌}
use Rattle.mode_vm.proofs.Topmost.{as_many_on_top, under_top}
use Rattle.mode_vm.proofs.stack.Stack.move_to.Goals as goal

pub returns-clause-moved : goal.returns-clause-moved
returns-clause-moved c =
    let items = c.args.self.now.items in
    let kept = length items - c.args.count in
    record {
      moved = drop kept items;
      many = as_many_on_top items (length items) c.args.count refl c.requires;
      from = under_top items kept ∙ ap (λ l. l ++ drop kept items) (sym c.drop_last.ensures.items);
      to = c.in_ok-push_all.ensures.items ∙ ap (λ l. c.args.to.now.items ++ l) c.topmost.ensures;
    }
