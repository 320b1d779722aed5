use Rattle.std.proofs.Common.{◌+◌, ◌<◌, ◌≤◌, ◌≡◌, ◌^◌, ◌++◌, List, false}
use Rattle.core_terms.specs.Types.{Ty}
use Rattle.value_store.specs.Standing.{Keeps}
use Rattle.core_terms.specs.Bodies.{code_at}
use Rattle.core_terms.specs.GeneratedCode.{generated}
use Rattle.core_terms.specs.InstructionViews.{instructions_of}
use Rattle.core_terms.specs.Programs.{types_of}
use Rattle.code_gen.specs.Programs.{program_in}
use Rattle.mode_vm.specs.Machines.{steps_left}
use Rattle.mode_vm.specs.Openings.{GaveAll}
use Rattle.mode_vm.proofs.Slicing.{Begun}
use Rattle.mode_vm.specs.Meanings.{RunOf, StateOf, program_of}
use Rattle.mode_vm.specs.Runs.{Ready, WillRun}
use Rattle.mode_vm.specs.NodesPut.{WorksInHand}
use Rattle.mode_vm.proofs.machine.Machine.run_slice.Given as goal

-- the machine is ready and will come to what it would have come to at first; few enough values will be opened; the instructions are
-- those of the function
abbrev pub invariant-loop-instructions : goal.invariant-loop-instructions
invariant-loop-instructions g l =
    ((z : Ty) → Ready g.M.Mode.marking (program_of l.code) z (g.N.Nodes.nodes l.fn.store) l.fn.self.state → Ready g.M.Mode.marking (program_of l.code) z (g.N.Nodes.nodes l.store) l.self.state)
    × ((z : Ty) (w : StateOf g.M.Mode.marking) (run : RunOf g.M.Mode.marking) → g.M.Mode.Follows (program_in l.code).types l.fn.self.mode l.fn.world (g.N.Nodes.nodes l.fn.store) w
    → WillRun g.M.Mode.marking (program_of l.code) z (g.N.Nodes.nodes l.fn.store) l.fn.self.state w run
    → (w' : StateOf g.M.Mode.marking) × g.M.Mode.Follows (program_in l.code).types l.self.mode l.world (g.N.Nodes.nodes l.store) w'
    × WillRun g.M.Mode.marking (program_of l.code) z (g.N.Nodes.nodes l.store) l.self.state w' run)
    × (g.M.Mode.opened l.self.mode + steps_left (program_of l.code) l.self.state < 2 ^ 63)
    × Keeps (g.N.Nodes.nodes l.fn.store) (g.N.Nodes.nodes l.store)
    × (l.self.state.fuel ≤ l.fn.self.state.fuel)
    × (l.fn.self.state.fuel ≤ l.self.state.fuel + l.units)
    × (l.fn.self.state.entered ≡ false → 0 < l.fn.self.state.fuel → Begun l.fn.self.state.fuel l.self.state.fuel l.self.state.entered)
    × (g.M.Mode.faults l.world ≡ g.M.Mode.faults l.fn.world)
    × (g.M.Mode.rest l.world ≡ g.M.Mode.rest l.fn.world)
    × g.M.Mode.Moves l.fn.self.mode l.fn.world l.self.mode l.world
    × (g.N.Nodes.lent l.store ≡ g.N.Nodes.lent l.fn.store)
    × g.M.Mode.Knows (program_in l.code).types l.self.mode (g.N.Nodes.nodes l.store)
    × (g.M.Mode.Asks → (got : List g.M.Mode.Answer) × GaveAll g.M.Mode.May l.fn.world got l.world
    × ((z : Ty) (w : StateOf g.M.Mode.marking) (run : RunOf g.M.Mode.marking) (more : List g.M.Mode.Answer) → g.M.Mode.Expects l.fn.self.mode w (got ++ more)
    → WillRun g.M.Mode.marking (program_of l.code) z (g.N.Nodes.nodes l.fn.store) l.fn.self.state w run
    → (w' : StateOf g.M.Mode.marking) × g.M.Mode.Expects l.self.mode w' more × WillRun g.M.Mode.marking (program_of l.code) z (g.N.Nodes.nodes l.store) l.self.state w' run))
    × (WorksInHand (program_of l.code) → g.N.Nodes.nodes l.store ≡ g.N.Nodes.nodes l.fn.store)
    × (instructions_of (types_of (program_in l.code)) l.instructions ≡ (code_at (generated (program_of l.code)) l.function.0).code)

abbrev pub decreases-loop-instructions : goal.decreases-loop-instructions
decreases-loop-instructions g l = steps_left (program_of l.code) l.self.state
