use Rattle.std.proofs.Common.{ℕ, List, Option, ◌∙◌}
use Rattle.std.proofs.lemmas.Result.{err_from_is_err_and}
use Rattle.printed_lines.specs.declared.refusal.Argument.TheVariants.{Connections, Port, Slice}
use Rattle.command_parts.specs.Answer.{ServingNumbers, with_serving_numbers}
use Rattle.command_parts.specs.FileInputs.{with_number}
use Rattle.command_parts.specs.AnswerForms.{Answer}
use Rattle.command_parts.specs.Arguments.{most_links, most_port, most_slice, positive_within}
use Rattle.net_commands.specs.PreparedServers.{numbers_of}
use Rattle.command_parts.proofs.LineSteps.{first_halts, goes_as}
use Rattle.net_commands.proofs.serving.read_numbers.Goals as goal

-- the steps
abbrev on_slice : (slice : List ℕ) → (port links : ℕ) → (ServingNumbers → Option Answer) → Option Answer
on_slice slice port links go = with_number Slice (positive_within most_slice slice) (λ k. go (record { port = port; links = links; slice = k }))

abbrev on_links : (links slice : List ℕ) → (port : ℕ) → (ServingNumbers → Option Answer) → Option Answer
on_links links slice port go = with_number Connections (positive_within most_links links) (λ m. on_slice slice port m go)

pub returns-in_err-port-clause-goes : goal.returns-in_err-port-clause-goes
returns-in_err-port-clause-goes c =
    let err = err_from_is_err_and c.from_residual.result c.from_residual.ensures.1 in
    first_halts (with_number Port (positive_within most_port c.args.port.now)) (on_links c.args.connections.now c.args.slice.now) (λ (n : ℕ). n) numbers_of c.from_residual.result _ (cc)
    c.in_err-port.ensures.goes

pub returns-in_err-connections-clause-goes : goal.returns-in_err-connections-clause-goes
returns-in_err-connections-clause-goes c =
    let port = c.in_ok-port.port in
    let result = c.from_residual-in_err-connections.result in
    let err = err_from_is_err_and c.from_residual-in_err-connections.result c.from_residual-in_err-connections.ensures.1 in
    goes_as (on_links c.args.connections.now c.args.slice.now port) (with_serving_numbers c.args.port.now c.args.connections.now c.args.slice.now) numbers_of
    (λ go. c.in_ok-port.ensures.goes (λ n. on_links c.args.connections.now c.args.slice.now n go)) result
    (first_halts (with_number Connections (positive_within most_links c.args.connections.now)) (on_slice c.args.slice.now port) (λ (n : ℕ). n) numbers_of result _ (cc)
    c.in_err-connections.ensures.goes)

pub returns-in_err-slice-clause-goes : goal.returns-in_err-slice-clause-goes
returns-in_err-slice-clause-goes c =
    let port = c.in_ok-port.port in
    let links = c.in_ok-connections.connections in
    let result = c.from_residual-in_err-slice.result in
    let err = err_from_is_err_and c.from_residual-in_err-slice.result c.from_residual-in_err-slice.ensures.1 in
    goes_as (on_slice c.args.slice.now port links) (with_serving_numbers c.args.port.now c.args.connections.now c.args.slice.now) numbers_of
    (λ go. c.in_ok-port.ensures.goes (λ n. on_links c.args.connections.now c.args.slice.now n go) ∙ c.in_ok-connections.ensures.goes (λ m. on_slice c.args.slice.now port m go)) result
    (first_halts (with_number Slice (positive_within most_slice c.args.slice.now)) (λ k go. go (record { port = port; links = links; slice = k })) (λ (n : ℕ). n) numbers_of
    result _ (cc) c.in_err-slice.ensures.goes)
