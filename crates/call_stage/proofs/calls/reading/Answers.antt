use Rattle.std.proofs.Common.{length, refl}
use Rattle.std.proofs.lemmas.Option.{slice_get_read}
use Rattle.mode_vm.proofs.StateRoles.{reads_state, takes_state}
use Rattle.call_stage.proofs.calls.reading.Goals as goal

pub returns-in-Query : goal.returns-in-Query
returns-in-Query c =
    let roles = c.roles.result.now in
    let n = c.in_ok-number.field-0.0 in
    let role = c.in_ok-role.role.now in
    let lookup = c.in_ok-role.ensures.lookup in
    takes_state c.args.program.now roles n role c.roles.ensures.roles c.roles.ensures.shapes
    (slice_get_read roles (length roles) n role refl lookup.3.0 lookup.1) (reads_state role.kind c.in-Query.is)
