-- What `shallow` stores for a client of `prove`: each step of its work goes on.
use Rattle.std.proofs.Common.{Option, Some, refl, ◌∙◌}
use Rattle.core_terms.specs.Values.{Value}
use Rattle.command_parts.specs.OutcomeAnswers.{state_answer}
use Rattle.command_parts.specs.FileInputs.{with_image_file}
use Rattle.command_parts.specs.AnswerForms.{Answer}
use Rattle.command_parts.specs.FueledRoles.{NamedProgram}
use Rattle.call_commands.specs.ShallowLaws.{ShallowStoresTheClientsState}
use Rattle.call_commands.proofs.GoingOn.{program_goes, state_goes}

pub stores_the_clients_state : ShallowStoresTheClientsState
stores_the_clients_state invocation files call n proof calls program image out later program_is image_is =
    let p = call.role.program in
    let told : NamedProgram → Value → Option Answer = λ p v. Some (state_answer p v out) in
    record {
      answer = state_answer p call.state out;
      answered =
          program_goes (files calls.program_name) (later program) p calls.role.program_file (λ p. with_image_file p.digested (later image) (told p)) program_is
          ∙ state_goes (files calls.image_name) (later image) p.digested call.state calls.inputs.image_file (told p) image_is;
      done = refl;
      stored = refl;
    }
