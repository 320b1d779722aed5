-- What the code holds of a call before its link is made.
use Rattle.std.specs.Prelude.{◌≡◌, ℕ, List, [], ◌∷◌, Option}
use Rattle.code_gen.specs.Programs.{program_in}
use Rattle.core_terms.specs.declared.program.Program.{Program}
use Rattle.command_parts.specs.Answer.{Drawing}
use Rattle.command_parts.specs.RoleInputs.{with_fueled_role}
use Rattle.command_parts.specs.AnswerForms.{Answer}
use Rattle.command_parts.specs.FueledRoles.{FueledRole, NamedProgram}
use Rattle.command_parts.specs.RolesCalled.{IsCalled}
use Rattle.command_parts.specs.RolesJudged.{call_meant}
use Rattle.command_parts.specs.declared.roles.Callee.TheVariants.{OfState}
use Rattle.net_commands.specs.declared.drawing.DrawInputs.{DrawInputs}
use Rattle.net_commands.specs.declared.drawing.DrawWords.{DrawWords}
use Rattle.net_commands.specs.declared.drawing.PreparedDrawing.{PreparedDrawing}

-- the texts that the words are
abbrev pub texts_of : DrawWords → List (List ℕ)
texts_of words = words.call.program.now ∷ words.call.role.now ∷ words.state.now ∷ words.call.argument.now ∷ words.call.fuel.now ∷ words.port.now ∷ []

-- what is to be judged of a program with these inputs, and what is held of it
abbrev pub drawn_with : Program → DrawInputs → Drawing
drawn_with p inputs = record { call = call_meant p inputs.call; port = inputs.port }

abbrev pub drawing_of : PreparedDrawing → Drawing
drawing_of held = record { call = call_meant (program_in held.code) held.call; port = held.port }

-- The words tell this role and its fuel: with them it is gone on, whatever the files hold.
abbrev pub TellsRole : NamedProgram → (role fuel : List ℕ) → FueledRole → Type 0
TellsRole p role fuel r = (go : FueledRole → Option Answer) → with_fueled_role OfState p role fuel go ≡ go r

-- the role is one of the program's that read a state, and is called with as much fuel as there may be
abbrev pub IsReady : PreparedDrawing → Type 0
IsReady held = IsCalled OfState (program_in held.code) held.call.called
