-- What is answered to the words of `verify`, `fetch`, `prove` and `audit`, and to those behind the program.
use Rattle.std.specs.Prelude.{ℕ, List, [], Option, Some, option_map, unwrap_or}
use Rattle.lam_outside.specs.Told.{Contents}
use Rattle.command_parts.specs.AcceptedAnswers as def
use Rattle.command_parts.specs.Answer.{judged_answer, verified_answer, mirrored_answer, with_mirror_file, call_audit_answer, proof_answer, with_kept}
use Rattle.command_parts.specs.FileInputs.{with_bytes}
use Rattle.command_parts.specs.AnswerForms.{Answer}
use Rattle.command_parts.specs.FueledRoles.{NamedProgram}
use Rattle.call_commands.specs.declared.verify_call.VerifyWords.{VerifyWords}
use Rattle.command_parts.specs.RolesJudged.{with_named_call}
use Rattle.call_commands.specs.declared.fetch_call.FetchWords.{FetchWords}
use Rattle.command_parts.specs.declared.roles.Callee.TheVariants.{OfState}
use Rattle.command_parts.specs.RoleInputs.{with_fueled_role, with_ideal_call}
use Rattle.command_parts.specs.RoleCalls.{program_called}
use Rattle.command_parts.specs.CallsInStores.{with_called}

-- the name that the words of `verify` give for the new state, and the name as the code holds it, which is empty where there is none
abbrev pub out_of : VerifyWords → Option (List ℕ)
out_of words = option_map (λ name. name.now) words.out

abbrev pub name_of : Option (List ℕ) → List ℕ
name_of out = unwrap_or out []

-- what is answered to these words, and to those behind the program
abbrev pub answer_to : VerifyWords → Contents → Option Answer
answer_to words = judged_answer words.call.program.now words.call.role.now words.state.now words.call.argument.now words.call.fuel.now words.proof.now (out_of words)

abbrev pub answer_behind : NamedProgram → VerifyWords → Contents → Option Answer
answer_behind p words files =
    with_named_call (def.callee_of (out_of words)) p words.call.role.now words.call.fuel.now words.state.now words.call.argument.now files (λ call.
    with_bytes (files words.proof.now) (λ bytes. Some (verified_answer (out_of words) call bytes)))

-- what is answered to those of `fetch` behind the program
abbrev pub fetched_behind : NamedProgram → FetchWords → Contents → Option Answer
fetched_behind p words files =
    with_named_call OfState p words.call.role.now words.call.fuel.now words.state.now words.call.argument.now files (λ call.
    with_mirror_file (files words.mirror.now) (λ pieces. Some (mirrored_answer call pieces)))

-- the same of `prove` and `audit`
abbrev pub proved_behind : (role image argument fuel kept out : List ℕ) → NamedProgram → Contents → Option Answer
proved_behind role image argument fuel kept out p files =
    with_fueled_role OfState p role fuel (λ r.
    with_kept (program_called r) kept (λ n.
    with_ideal_call r image argument files (λ call. Some (proof_answer call n out))))

abbrev pub audited_behind : (role image argument fuel proof : List ℕ) → NamedProgram → Contents → Option Answer
audited_behind role image argument fuel proof p files =
    with_called OfState p role image argument fuel files (λ call. with_bytes (files proof) (λ bytes. Some (call_audit_answer call bytes)))
