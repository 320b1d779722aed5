-- What the answers of reading a script say of the definition. Where memory ran out nothing is said.
use Rattle.std.specs.Prelude.{◌≡◌, map, Result, Ok, Err, ⊤, Vec, vec_items}
use Rattle.ask_script.specs.Scripts.{UserStep, Opens, Calls, Goes, Closes, Script, Steps, FaultyLine}
use Rattle.ask_script.specs.declared.script.ScriptFault.{ScriptFault}
use Rattle.ask_script.specs.declared.script.ScriptFault.TheVariants.{Line, NoMemory}
use Rattle.ask_script.specs.declared.step.Step.{Step}
use Rattle.ask_script.specs.declared.step.Step.TheVariants.{Open, Call, Go, Close}

-- the step of the definition that one of the code stands for
abbrev pub step_meant : Step → UserStep
step_meant (Open session kept) = Opens session kept
step_meant (Call session role fuel argument) = Calls session role fuel argument
step_meant Go = Goes
step_meant (Close session) = Closes session

-- Ok gives the steps of the script, a fault the number of its first line that is at fault
abbrev pub ReadsScript : {Z : Type 0} → Script → Result (Vec Step Z) ScriptFault → Type 0
ReadsScript script (Ok steps) = script ≡ Steps (map step_meant (vec_items steps))
ReadsScript script (Err (Line number)) = script ≡ FaultyLine number
ReadsScript script (Err NoMemory) = ⊤
