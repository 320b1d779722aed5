use Rattle.std.proofs.Common.{ap, ◌∙◌}
use Rattle.code_gen.specs.Programs.{program_in}
use Rattle.command_parts.specs.ReadPrograms.{digested_of}
use Rattle.net_commands.proofs.ServeTexts.{serving_told}
use Rattle.net_commands.proofs.serve.serve.Goals as goal

pub store_last-requires : goal.store_last-requires
store_last-requires g c =
    let told = c.serve_and_tell-told.ensures in
    let course = told.course c.requires.0 c.requires.1 in
    (c.requires.0, course.server, record { program = ap (λ code. digested_of (program_in code)) told.code.code ∙ c.requires.1.program }, course.server_left)

pub returns-clause-ends : goal.returns-clause-ends
returns-clause-ends g c = λ s prepared.
    let told = c.serve_and_tell-told.ensures in
    let course = told.course s prepared in
    let stored = c.store_last.ensures.stores s course.server (record { program = ap (λ code. digested_of (program_in code)) told.code.code ∙ prepared.program }) course.server_left in record {
      course = course.course;
      server = course.server;
      storage = stored.storage;
      gone = course.gone;
      told = serving_told s course.course course.server stored.storage _ _ c.serve_and_tell-told.result c.store_last.result _ _ course.is_told stored.is_told;
      stored = stored.stored;
      reads = c.store_last.ensures.faults;
    }
