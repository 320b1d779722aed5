use Rattle.std.proofs.Common.{ℕ, None, ap, sym, subst, ◌∙◌}
use Rattle.std.proofs.lemmas.Result.{err_from_is_err_and}
use Rattle.command_words.specs.declared.command.Command.TheVariants.{Mirror}
use Rattle.printed_lines.specs.declared.refusal.Argument.TheVariants.{Connections, Port}
use Rattle.command_parts.specs.Answer.{Mirroring, with_mirror_file, with_mirroring}
use Rattle.command_parts.specs.UnansweredInCode.{unmirrored_answer}
use Rattle.command_parts.specs.FileInputs.{with_number}
use Rattle.command_parts.specs.Arguments.{most_links, most_port, positive_within}
use Rattle.command_parts.specs.Reaching.{without}
use Rattle.net_commands.specs.PreparedMirrors.{mirroring_by, mirroring_of}
use Rattle.net_commands.specs.ToldNumbers.{TellMirrorNumbers}
use Rattle.command_parts.proofs.Possible.{err_possible, hand_halt_possible}
use Rattle.command_parts.proofs.Reached.{faults_reached, hand_reached, is_missing}
use Rattle.command_parts.proofs.Steps.{halted, halts_behind, halts_first, hand_halts}
use Rattle.net_commands.proofs.MirrorReading.{number_inputs, on_links, on_mirror}
use Rattle.net_commands.proofs.mirroring.read_mirroring.Goals as goal

pub returns-in_err-port-clause-goes : goal.returns-in_err-port-clause-goes
returns-in_err-port-clause-goes g c = λ told known.
    let words = c.args.words.now in
    let err = err_from_is_err_and c.from_residual.result c.from_residual.ensures.1 in
    let first = with_number Port (positive_within most_port words.port.now) in
    halts_first first (on_links words.mirror.now words.connections.now told) (λ held. mirroring_of held.value) c.from_residual.result _ (cc)
    (hand_halts first (λ (n : ℕ). n) _ c.in_err-port.ensures.goes)

pub returns-in_err-port-clause-reached : goal.returns-in_err-port-clause-reached
returns-in_err-port-clause-reached g c =
    let words = c.args.words.now in
    let err = err_from_is_err_and c.from_residual.result c.from_residual.ensures.1 in
    hand_reached (with_number Port (positive_within most_port words.port.now)) (λ (n : ℕ). n) (unmirrored_answer words.mirror.now words.port.now words.connections.now) _ _ _
    c.from_residual.result (cc) c.in_err-port.ensures.goes

pub returns-in_err-port-clause-possible : goal.returns-in_err-port-clause-possible
returns-in_err-port-clause-possible g c =
    let found = positive_within most_port c.args.words.now.port.now in
    let err = err_from_is_err_and c.from_residual.result c.from_residual.ensures.1 in
    err_possible Mirror c.from_residual.result _ (cc) (hand_halt_possible (with_number Port found) (λ (n : ℕ). n) (number_inputs Port found) Mirror _ c.in_err-port.ensures.goes)

pub returns-in_err-connections-clause-goes : goal.returns-in_err-connections-clause-goes
returns-in_err-connections-clause-goes g c = λ told known.
    let words = c.args.words.now in
    let port = c.in_ok-port.port in
    let err = err_from_is_err_and c.from_residual-in_err-connections.result c.from_residual-in_err-connections.ensures.1 in
    halted (with_mirroring words.mirror.now words.port.now words.connections.now told) (λ held. mirroring_of held.value) c.from_residual-in_err-connections.result _ (cc)
    (λ go. halts_behind _ _ _ (c.in_ok-port.ensures.goes (λ n. on_links words.mirror.now words.connections.now told n go))
    (hand_halts (with_number Connections (positive_within most_links words.connections.now)) (λ (n : ℕ). n) _ c.in_err-connections.ensures.goes (λ m. on_mirror words.mirror.now told port m go)))

pub returns-in_err-connections-clause-reached : goal.returns-in_err-connections-clause-reached
returns-in_err-connections-clause-reached g c =
    let words = c.args.words.now in
    let err = err_from_is_err_and c.from_residual-in_err-connections.result c.from_residual-in_err-connections.ensures.1 in
    hand_reached (with_number Connections (positive_within most_links words.connections.now)) (λ (n : ℕ). n)
    (unmirrored_answer words.mirror.now words.port.now words.connections.now) _ _ _ c.from_residual-in_err-connections.result (cc) c.in_err-connections.ensures.goes

pub returns-in_err-connections-clause-possible : goal.returns-in_err-connections-clause-possible
returns-in_err-connections-clause-possible g c =
    let found = positive_within most_links c.args.words.now.connections.now in
    let err = err_from_is_err_and c.from_residual-in_err-connections.result c.from_residual-in_err-connections.ensures.1 in
    err_possible Mirror c.from_residual-in_err-connections.result _ (cc)
    (hand_halt_possible (with_number Connections found) (λ (n : ℕ). n) (number_inputs Connections found) Mirror _ c.in_err-connections.ensures.goes)

pub returns-in_err-mirror-clause-goes : goal.returns-in_err-mirror-clause-goes
returns-in_err-mirror-clause-goes g c = λ told known.
    let words = c.args.words.now in
    let port = c.in_ok-port.port in
    let links = c.in_ok-connections.connections in
    let err = err_from_is_err_and c.from_residual-in_err-mirror.result c.from_residual-in_err-mirror.ensures.1 in
    halted (with_mirroring words.mirror.now words.port.now words.connections.now told) (λ held. mirroring_of held.value) c.from_residual-in_err-mirror.result _ (cc)
    (λ go. halts_behind _ _ _ (c.in_ok-port.ensures.goes (λ n. on_links words.mirror.now words.connections.now told n go)
    ∙ c.in_ok-connections.ensures.goes (λ m. on_mirror words.mirror.now told port m go))
    (c.in_err-mirror.ensures.goes told known (λ pieces. go (mirroring_by pieces port links))))

pub returns-in_err-mirror-clause-reached : goal.returns-in_err-mirror-clause-reached
returns-in_err-mirror-clause-reached g c =
    let words = c.args.words.now in
    let mirror = words.mirror.now in
    let port = c.in_ok-port.port in
    let err = err_from_is_err_and c.from_residual-in_err-mirror.result c.from_residual-in_err-mirror.ensures.1 in
    faults_reached (unmirrored_answer mirror words.port.now words.connections.now) mirror _ _ _ c.from_residual-in_err-mirror.result (cc)
    (λ files known. c.in_ok-port.ensures.goes (λ n. on_links mirror words.connections.now (without mirror files) n (λ m. None))
    ∙ (c.in_ok-connections.ensures.goes (λ m. on_mirror mirror (without mirror files) port m (λ m. None))
    ∙ ap (λ file. with_mirror_file file (λ pieces. None)) (is_missing mirror files)))
    c.in_err-mirror.ensures.asked

pub returns-in_err-mirror-clause-possible : goal.returns-in_err-mirror-clause-possible
returns-in_err-mirror-clause-possible g c =
    let err = err_from_is_err_and c.from_residual-in_err-mirror.result c.from_residual-in_err-mirror.ensures.1 in
    err_possible Mirror c.from_residual-in_err-mirror.result _ (cc) (c.in_err-mirror.ensures.possible Mirror tt)

pub returns-clause-goes : goal.returns-clause-goes
returns-clause-goes g c = λ told known go.
    let words = c.args.words.now in
    let port = c.in_ok-port.port in
    let links = c.in_ok-connections.connections in
    c.in_ok-port.ensures.goes (λ n. on_links words.mirror.now words.connections.now told n go)
    ∙ (c.in_ok-connections.ensures.goes (λ m. on_mirror words.mirror.now told port m go)
    ∙ (c.in_ok-mirror.ensures.goes told known (λ pieces. go (mirroring_by pieces port links)) ∙ ap go (sym c.in_ok-prepare.ensures.is)))

pub returns-clause-numbers : goal.returns-clause-numbers
returns-clause-numbers g c =
    let words = c.args.words.now in
    let port = c.in_ok-port.port in
    subst (λ (m : Mirroring). TellMirrorNumbers words.port.now words.connections.now m.port m.links) (sym c.in_ok-prepare.ensures.is)
    (λ go. c.in_ok-port.ensures.goes (λ n. with_number Connections (positive_within most_links words.connections.now) (λ m. go n m)) ∙ c.in_ok-connections.ensures.goes (λ m. go port m))
