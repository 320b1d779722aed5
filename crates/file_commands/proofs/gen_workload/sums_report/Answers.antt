use Rattle.std.proofs.Common.{[], ◌++◌, ap, ◌∙◌}
use Rattle.command_parts.specs.ReadPrograms.{named_of}
use Rattle.file_commands.proofs.Workloads.{sums_told}
use Rattle.file_commands.proofs.gen_workload.sums_report.Goals as goal

pub returns-clause-tells : goal.returns-clause-tells
returns-clause-tells c = λ v h.
    sums_told (named_of c.args.program.now) c.args.tally.now v _ _ _ _ _ c.calls.ensures c.done.ensures c.fresh.ensures c.again.ensures c.bytes.ensures c.in_ok-text.text.items c.in_ok-shown.shown.report c.extend_from_slice.new.self
    c.in_ok-text.ensures (c.in_ok-shown.ensures.output [] v h).lines
    (c.in_ok-extend_from_slice.ensures.items ∙ ap (λ bytes. c.in_ok-text.text.items ++ bytes) c.deref.ensures.value)
