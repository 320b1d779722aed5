use Rattle.std.proofs.Common.{Err, sym, subst}
use Rattle.core_terms.specs.Programs.{meaning}
use Rattle.core_terms.specs.ProgramTypes.{types_meaning}
use Rattle.core_terms.specs.Projection.{read_at}
use Rattle.shallow_codec.specs.ProgramTypes.{ty_of}
use Rattle.shallow_codec.specs.Unspelled.{IsRead}
use Rattle.command_parts.specs.FileInputs.{with_state}
use Rattle.command_parts.specs.Halting.{StepGives, InHand}
use Rattle.command_parts.proofs.StatesRead.{state_goes_on, state_is_refused}
use Rattle.command_parts.proofs.calls.judge_state.Goals as goal

pub returns-in-Ok : goal.returns-in-Ok
returns-in-Ok c =
    state_goes_on c.args.program.now c.types.result.now c.types.ensures c.state_type.result c.state_type.ensures.state c.args.bytes.now c.in-Ok.ensures

pub returns-in-Err-Bad : goal.returns-in-Err-Bad
returns-in-Err-Bad c =
    let types = c.types.result.now in
    let id = c.state_type.result in
    let bytes = c.args.bytes.now in
    let bad = subst (λ fault. IsRead {A = Unit {0}} (read_at (types_meaning types) (ty_of types id) bytes) (Err fault)) c.in-Err-Bad.field-0-is c.in-Err-Bad.ensures in
    subst (λ halt. InHand (StepGives {T = Unit {0}} (with_state (meaning c.args.program.now) bytes) (λ _. bytes)) (Err halt)) (sym c.into.ensures)
    (state_is_refused c.args.program.now types c.types.ensures id c.state_type.ensures.state bytes c.in-Err-Bad.offset bad)
