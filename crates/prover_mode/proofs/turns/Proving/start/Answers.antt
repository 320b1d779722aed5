use Rattle.std.proofs.Common.{◌≡◌, [], List, sym, ap, ◌∙◌, subst, arith}
use Rattle.core_terms.specs.Fronts.{AreFronts}
use Rattle.code_gen.specs.Programs.{program_in}
use Rattle.ideal_meaning.specs.Headline.{call_values}
use Rattle.mode_vm.specs.Meanings.{program_of}
use Rattle.mode_vm.proofs.StateCalls.{both_stand}
use Rattle.prover_mode.specs.Seen.{AreSeen}
use Rattle.prover_mode.specs.declared.opened.Opened.{Opened}
use Rattle.prover_mode.proofs.turns.Proving.start.Goals as goal

pub returns : goal.returns
returns g c nodes s a called =
    let hash = g.H.Hash32.hash in
    let P = program_of c.args.code.now in
    let machine = c.in_ok-machine.machine in
    let starts = c.in_ok-machine.ensures.starts in
    let stand = both_stand P c.args.role.0 c.requires.role hash nodes c.args.state c.args.argument s a called in
    let none : machine.mode.opened.items ≡ [] = ap (λ m. m.opened.items) c.in_ok-machine.ensures.mode ∙ c.new-prover.ensures.opened in
    record {
      seen = [];
      opened = subst (λ (os : List Opened). AreSeen hash (program_in c.args.code.now).types nodes os []) (sym none) tt;
      runs = c.in_ok-machine.ensures.will nodes (call_values s a) [] stand;
      calls = let fuel = starts.fuel in omega (arith, fuel);
      due = starts.entered;
      knows = subst (λ m. AreFronts hash (program_in c.args.code.now).types m.digesting.fronts) (sym c.in_ok-machine.ensures.mode)
          (subst (AreFronts hash (program_in c.args.code.now).types) (sym c.new-prover.ensures.fronts) (subst (λ t. AreFronts hash t c.in_ok-fronts.fronts) c.types.ensures c.in_ok-fronts.ensures));
      few = c.in_ok-machine.ensures.few;
    }
