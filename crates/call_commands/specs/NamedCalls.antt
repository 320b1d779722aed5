-- What the words of a command line name: a role, and a call of it on an ideal state.
use Rattle.std.specs.Prelude.{◌≡◌, ◌≤◌, ℕ, List, true, length, Option, Some}
use Rattle.lam_outside.specs.Told.{Contents}
use Rattle.core_terms.specs.Limits.{most_file_bytes}
use Rattle.core_terms.specs.Roles.{role_named}
use Rattle.core_terms.specs.Values.{Value}
use Rattle.printed_syntax.specs.Literals.{IsValue}
use Rattle.images.specs.Images.{Root}
use Rattle.command_parts.specs.FileInputs.{image_read}
use Rattle.command_parts.specs.Arguments.{fuel_of}
use Rattle.command_parts.specs.FilePrograms.{longest_program, program_of_file}
use Rattle.command_parts.specs.FueledRoles.{DigestedProgram, FueledRole, NamedProgram}
use Rattle.command_parts.specs.IdealCalls.{IdealCall}
use Rattle.command_parts.specs.RoleCalls.{is_called, kind_called, passed_literal, program_called}
use Rattle.command_parts.specs.TextPrograms.{IsProgram}
use Rattle.command_parts.specs.declared.roles.Callee.{Callee}
use Rattle.call_commands.specs.NamedPrograms.{named_program}

-- a file with this program, as a text or as an object
pub record KeepsProgram (file : Option (List ℕ)) (p : NamedProgram) : Type 0 where
  pub bytes : List ℕ
  pub there : file ≡ Some bytes
  pub fits : length bytes ≤ longest_program bytes
  pub program : program_of_file bytes ≡ IsProgram p.digested.program
  pub named : p ≡ named_program bytes p.digested.program

-- the role of this name of the program in the file, of a kind that the command calls, with the fuel that the text tells
pub record NamesRole (callee : Callee) (program_name role_name fuel_text : List ℕ) (files : Contents) (r : FueledRole) : Type 0 where
  pub program_file : KeepsProgram (files program_name) r.program
  pub role : role_named (program_called r) role_name ≡ Some r.role
  pub called : is_called callee (kind_called r) ≡ true
  pub fuel : fuel_of fuel_text ≡ Some r.fuel

-- a file with an image of the program whose root is this state
pub record KeepsState (file : Option (List ℕ)) (p : DigestedProgram) (state : Value) : Type 0 where
  pub image : List ℕ
  pub there : file ≡ Some image
  pub fits : length image ≤ most_file_bytes
  pub root : image_read p image ≡ Root state

-- the state of the call is that of the image in the file, and its argument is what the text is a literal of
pub record NamesInputs (image_name argument_text : List ℕ) (files : Contents) (call : IdealCall) : Type 0 where
  pub image_file : KeepsState (files image_name) call.role.program.digested call.state
  pub argument : passed_literal call.role argument_text ≡ IsValue call.argument
