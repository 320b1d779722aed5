use Rattle.std.proofs.Common.{◌≡◌, ℕ, List, Result, Ok, Vec, ap₂, subst, sym}
use Rattle.std.specs.declared.alloc.Global.{Global}
use Rattle.core_terms.specs.Programs.{meaning, types_of}
use Rattle.core_terms.specs.ProgramTrees.{operation_of}
use Rattle.core_terms.specs.Values.{Value, Values}
use Rattle.core_terms.specs.declared.program.Program.{Program}
use Rattle.core_terms.specs.declared.term.Operation.{Operation}
use Rattle.ideal_meaning.specs.Ideal.{Opened}
use Rattle.ideal_meaning.specs.Run as meant
use Rattle.reference_run.specs.PlainValues.{plain_of, plains_of}
use Rattle.reference_run.specs.Telling.{Evaluation, TellsBehind, Tells, row_values}
use Rattle.reference_run.specs.declared.stop.Stop.{Stop}
use Rattle.reference_run.specs.declared.values.Plain.{Plain}
use Rattle.reference_run.proofs.Calculated.{behind}
use Rattle.reference_run.proofs.arrays.operate.Goals as goal

-- what an operation gives in a program
abbrev operated : Program → Operation → Values → ℕ → List Opened → Evaluation Value
operated p op vs k seen = meant.operate (meaning p).format.limit (meaning p).types (operation_of (types_of p) op) vs k seen

-- what is told of it on these operands
told : (p : Program) (op is : Operation) (operands : Result (Vec Plain Global) Stop) (given : Vec Plain Global) (lent : List Plain) (result : Result Plain Stop)
    → op ≡ is → operands ≡ Ok given → lent ≡ given.items → ((k : ℕ) (seen : List Opened) → Tells plain_of k result (operated p is (plains_of lent) k seen))
    → TellsBehind row_values (operated p op) operands result
told p op is operands given lent result same was items h =
    behind row_values (operated p op) operands given result was (λ k seen.
    subst (λ run. Tells plain_of k result run) (ap₂ (λ op vs. operated p op (plains_of vs) k seen) (sym same) items) (h k seen))

pub returns-in-VecFill : goal.returns-in-VecFill
returns-in-VecFill c =
    told c.args.program.now c.args.operation _ c.args.operands c.in_ok-operands.operands c.deref.result.now c.filled.result
    c.in-VecFill.is c.in_ok-operands.was c.deref.ensures.value c.filled.ensures

pub returns-in-VecGet : goal.returns-in-VecGet
returns-in-VecGet c =
    told c.args.program.now c.args.operation _ c.args.operands c.in_ok-operands.operands c.deref-in-VecGet.result.now c.element.result
    c.in-VecGet.is c.in_ok-operands.was c.deref-in-VecGet.ensures.value c.element.ensures

pub returns : goal.returns
returns c =
    told c.args.program.now c.args.operation _ c.args.operands c.in_ok-operands.operands c.deref-in-VecPut.result.now c.changed.result
    c.in-VecPut.is c.in_ok-operands.was c.deref-in-VecPut.ensures.value c.changed.ensures
