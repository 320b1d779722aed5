-- Calls of the roles of a program: which of them a command calls, how a call ends, and which state it makes.
use Rattle.std.specs.Prelude.{ℕ, List, Bool, true, false}
use Rattle.sha2.specs.Sha256.{sha256}
use Rattle.core_terms.specs.Types.{Ty}
use Rattle.core_terms.specs.Values.{Value, Values, PairV}
use Rattle.core_terms.specs.Terms.{Kind, Program, function_at}
use Rattle.core_terms.specs.Terms as tree
use Rattle.core_terms.specs.Roles.{role_with}
use Rattle.core_terms.specs.Projection.{projection}
use Rattle.printed_syntax.specs.Literals.{Literal, literal_in}
use Rattle.ideal_meaning.specs.Ideal.{Outcome, ideal, outcome}
use Rattle.command_parts.specs.FueledRoles.{FueledRole, NamedProgram}
use Rattle.command_parts.specs.declared.roles.Callee.{Callee}
use Rattle.command_parts.specs.declared.roles.Callee.TheVariants.{Init, OfState, Update}

-- a role of this kind is one that the command calls
abbrev pub is_called : Callee → Kind → Bool
is_called Init tree.Init = true
is_called OfState tree.Query = true
is_called OfState tree.Update = true
is_called Update tree.Update = true
is_called callee kind = false

-- the program of the role, and the role's kind
abbrev pub program_called : FueledRole → Program
program_called r = r.program.digested.program

abbrev pub kind_called : FueledRole → Kind
kind_called r = (function_at (program_called r) r.role).kind

-- the type of what is passed to it, beside the state, and that of its result: of an update a pair, the new state and the answer
abbrev pub type_passed : FueledRole → Ty
type_passed r = (role_with r.role (function_at (program_called r) r.role)).argument

abbrev pub result_called : FueledRole → Ty
result_called r = (function_at (program_called r) r.role).result

-- a text as a literal of a type, and of what is passed
unfoldable pub named_literal : NamedProgram → Ty → List ℕ → Literal
named_literal p t text = literal_in p.digested.program p.names t text

abbrev pub passed_literal : FueledRole → List ℕ → Literal
passed_literal r text = named_literal r.program (type_passed r) text

-- the projection of a value of its result: a digest stands for what is authenticated
unfoldable pub projection_called : FueledRole → Value → Value
projection_called r v = projection sha256 (program_called r) (result_called r) v

-- how it ends in ideal mode, called with these values and its fuel
unfoldable pub outcome_called : FueledRole → Values → Outcome
outcome_called r arguments = outcome (ideal (program_called r) r.role arguments r.fuel)

-- a role that was called, and how it ended
pub record EndedRole : Type 0 where
  pub role : FueledRole
  pub outcome : Outcome

abbrev pub ended_with : FueledRole → Values → EndedRole
ended_with r arguments = record { role = r; outcome = outcome_called r arguments }

-- the state that a value of the result of a role of this kind makes: an init makes it alone, and an update with an answer
abbrev pub state_made : Kind → Value → Value
state_made tree.Update (PairV state answer) = state
state_made kind v = v
