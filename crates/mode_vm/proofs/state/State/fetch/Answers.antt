use Rattle.mode_vm.specs.Meanings.{program_of}
use Rattle.mode_vm.proofs.Lifting.{top_there}
use Rattle.mode_vm.proofs.state.State.fetch.Goals as goal

pub instructions-requires : goal.instructions-requires
instructions-requires c =
    let b = c.requires.shows in
    top_there b.0 (program_of c.args.code.now) b.1 b.2 c.args.self.now b.3 b.4
