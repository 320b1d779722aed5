use Rattle.mode_vm.specs.Meanings.{program_of}
use Rattle.mode_vm.proofs.LoadedLocals.{load_acts, local_there}
use Rattle.mode_vm.proofs.frame.Frame.load.Goals as goal

pub at-r-requires : goal.at-r-requires
at-r-requires g c =
    let b = c.requires.before in
    local_there b.0 (program_of c.args.code.now) (g.N.Nodes.nodes c.args.store.now) c.args.self.now c.args.local.0 b.1 b.2

pub returns : goal.returns
returns g c = record {
  does = λ m values b.
      load_acts m (program_of c.args.code.now) (g.N.Nodes.nodes c.args.store.now) c.args.self.now c.args.local.0 values b c.finish.new.self c.at-r.result
      c.at-r.ensures c.finish.result c.finish.ensures;
}
