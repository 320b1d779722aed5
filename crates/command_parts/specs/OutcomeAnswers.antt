-- What is answered for a call of a role that ended, and what is stored of it.
use Rattle.std.specs.Prelude.{ℕ, List, [], ◌∷◌, length, nat_le, if◌then◌else◌}
use Rattle.sha2.specs.Sha256.{sha256}
use Rattle.core_terms.specs.Values.{Value}
use Rattle.core_terms.specs.Terms.{Program}
use Rattle.core_terms.specs.Spelling.{spelling}
use Rattle.core_terms.specs.Projection.{projection}
use Rattle.core_terms.specs.Limits.{most_file_bytes}
use Rattle.ideal_meaning.specs.Ideal as ideal
use Rattle.images.specs.SavedImages.{saved_image}
use Rattle.printed_lines.specs.Lines.{state_line}
use Rattle.printed_lines.specs.declared.refusal.Argument.TheVariants as named
use Rattle.printed_lines.specs.declared.refusal.InputFault.TheVariants.{TooLong}
use Rattle.command_parts.specs.FueledRoles.{DigestedProgram, FueledRole, NamedProgram}
use Rattle.command_parts.specs.RoleCalls.{EndedRole, kind_called, projection_called, state_made}
use Rattle.command_parts.specs.declared.status.Status.TheVariants.{Done}
use Rattle.command_parts.specs.AnswerForms.{Answer}
use Rattle.command_parts.specs.RefusedAnswers.{input_refused}
use Rattle.command_parts.specs.AcceptedAnswers.{shallow_told}

-- the projection of an ideal state: a digest stands for what is authenticated
unfoldable pub state_projection : Program → Value → Value
state_projection P v = projection sha256 P P.state v

-- the line of the projection of an ideal state: its value, with the names of its constructors
abbrev pub projected_line : NamedProgram → Value → List ℕ
projected_line p v = let P = p.digested.program in state_line P.types p.names P.state (state_projection P v)

-- what is answered for an ideal state whose projection is told, and its spelling stored under a name
abbrev pub state_answer : NamedProgram → Value → List ℕ → Answer
state_answer p v name =
    record { status = Done; lines = projected_line p v ∷ []; stored = (name, spelling (state_projection p.digested.program v)) ∷ [] }

-- what is answered for a role that was called: of a value its projection
abbrev pub outcome_told : FueledRole → ideal.Outcome → Answer
outcome_told r (ideal.Done v) = shallow_told r (ideal.Done (projection_called r v))
outcome_told r (ideal.Trapped trap) = shallow_told r (ideal.Trapped trap)
outcome_told r ideal.Out = shallow_told r ideal.Out

abbrev pub role_answer : EndedRole → Answer
role_answer ended = outcome_told ended.role ended.outcome

-- the image of a state
unfoldable pub state_image : DigestedProgram → Value → List ℕ
state_image p v = saved_image p.program p.digest v

-- the same answer with the image of a state stored under a name, where it isn't too long to be stored
abbrev pub storing : DigestedProgram → Value → List ℕ → Answer → Answer
storing p state name a =
    let image = state_image p state in
    if nat_le (length image) most_file_bytes then record a { stored = (name, image) ∷ [] } else input_refused (TooLong named.Out)

-- what is answered where the state that was made is stored
abbrev pub outcome_stored : FueledRole → ideal.Outcome → List ℕ → Answer
outcome_stored r (ideal.Done v) name = storing r.program.digested (state_made (kind_called r) v) name (outcome_told r (ideal.Done v))
outcome_stored r o name = outcome_told r o

abbrev pub storing_answer : EndedRole → List ℕ → Answer
storing_answer ended name = outcome_stored ended.role ended.outcome name
