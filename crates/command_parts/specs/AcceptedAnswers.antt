-- What is answered for an outcome in projection that is accepted, and what is stored of it.
use Rattle.ideal_meaning.specs.Ideal as ideal
use Rattle.printed_lines.specs.OutcomeLines.{named_done_line, out_line, trap_line}
use Rattle.command_parts.specs.FueledRoles.{FueledRole}
use Rattle.command_parts.specs.RoleCalls.{program_called, result_called, kind_called, state_made}
use Rattle.command_parts.specs.declared.status.Status.TheVariants.{Done, Trap, OutOfFuel}
use Rattle.command_parts.specs.AnswerForms.{Answer, says}
use Rattle.std.specs.Prelude.{ℕ, List, [], ◌∷◌, Option, Some, None}
use Rattle.lam_outside.specs.Told.{Stores}
use Rattle.core_terms.specs.Terms.{Update}
use Rattle.core_terms.specs.Spelling.{spelling}
use Rattle.command_parts.specs.declared.roles.Callee.{Callee}
use Rattle.command_parts.specs.declared.roles.Callee.TheVariants as callee

-- what is answered for an outcome in projection: its value, with the names of its constructors
abbrev pub shallow_told : FueledRole → ideal.Outcome → Answer
shallow_told r (ideal.Done v) = says Done (named_done_line (program_called r).types r.program.names (result_called r) v)
shallow_told r (ideal.Trapped trap) = says Trap (trap_line trap)
shallow_told r ideal.Out = says OutOfFuel out_line

-- which roles `verify` calls: updates alone, where a name is given for the new state
abbrev pub callee_of : Option (List ℕ) → Callee
callee_of None = callee.OfState
callee_of (Some out) = callee.Update

-- what is stored of an outcome in projection: the spelling of the new state, where a name is given for it
abbrev pub spelling_stored : FueledRole → Option (List ℕ) → ideal.Outcome → Stores
spelling_stored r (Some name) (ideal.Done v) = (name, spelling (state_made (kind_called r) v)) ∷ []
spelling_stored r out o = []

-- what is answered for an outcome that is accepted
abbrev pub accepted_answer : FueledRole → Option (List ℕ) → ideal.Outcome → Answer
accepted_answer r out o = record (shallow_told r o) { stored = spelling_stored r out o }
