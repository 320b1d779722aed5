use Rattle.std.proofs.lemmas.Result.{IfOk-weaker}
use Rattle.sha2.specs.Sha256.{sha256}
use Rattle.code_gen.specs.Programs.{program_in}
use Rattle.core_terms.specs.Programs.{meaning}
use Rattle.images.specs.declared.load.Loaded.{Loaded}
use Rattle.workloads.specs.Workloads.{after_rounds, no_calls}
use Rattle.file_commands.specs.GeneratedCalls.{numbers_of}
use Rattle.file_commands.proofs.Workloads.{same_stored, stored_behind, workload_told}
use Rattle.file_commands.proofs.gen_workload.run_and_tell.Goals as goal

pub run_workload-requires-clause-put : goal.run_workload-requires-clause-put
run_workload-requires-clause-put c = λ κs. (c.requires.calls.put_answer, c.requires.calls.put)

pub run_workload-requires-clause-get : goal.run_workload-requires-clause-get
run_workload-requires-clause-get c = λ κs. (c.requires.calls.get_answer, c.requires.calls.get)

pub run_workload-requires-clause-state : goal.run_workload-requires-clause-state
run_workload-requires-clause-state c = λ κs. (c.requires.state.0, c.requires.state.1.stands)

pub run_workload-requires-clause-limit : goal.run_workload-requires-clause-limit
run_workload-requires-clause-limit c = λ κs. c.requires.state.1.limit

pub sums_report-requires : goal.sums_report-requires
sums_report-requires c =
    let p = program_in c.args.code.now in
    let s = c.requires.state.0 in
    let last = after_rounds sha256 (meaning p) c.args.workload.now c.args.numbers.rounds c.args.numbers.seed s no_calls in
    let behind : Loaded = record { store = c.run_workload.new.store; root = c.in_ok-told.told.1 } in
    let h = c.requires.state.1 in
    let told = c.in_ok-told.ensures in
    (last.1, same_stored p c.program.result.now c.program.ensures behind last.1 (stored_behind p c.args.first behind s last.1 told.lent h (told.state s h.stands)))

pub returns-clause-finds : goal.returns-clause-finds
returns-clause-finds c =
    let p = program_in c.args.code.now in
    let told = c.in_ok-told.ensures in
    IfOk-weaker c.sums_report.result _ _
    (λ report tells s h.
    let behind : Loaded = record { store = c.run_workload.new.store; root = c.in_ok-told.told.1 } in
    let last = after_rounds sha256 (meaning p) c.args.workload.now c.args.numbers.rounds c.args.numbers.seed s no_calls in
    workload_told p c.program.result.now c.program.ensures (numbers_of c.args.numbers) c.args.workload.now s c.in_ok-told.told.0 behind report (told.tally s h.stands)
    (stored_behind p c.args.first behind s last.1 told.lent h (told.state s h.stands)) tells)
    c.sums_report.ensures.tells
