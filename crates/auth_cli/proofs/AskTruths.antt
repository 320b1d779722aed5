-- What is told of an asking is true: for `run`, clause `told_truth`.
use Rattle.std.proofs.Common.{◌<◌, ◌^◌}
use Rattle.sha2.specs.Sha256.{sha256}
use Rattle.sha2.proofs.Facts256.{length-sha256}
use Rattle.core_terms.specs.Formats.{IsFormat}
use Rattle.core_terms.proofs.LawProofs.{typing_test_is_exact}
use Rattle.ask_script.proofs.ByteArguments.{arguments_are_bytes}
use Rattle.script_play.proofs.Runs.{plays_tell_truth}
use Rattle.session_meaning.proofs.ClientRun.{told_is_true}
use Rattle.command_parts.specs.Answer.{Asking}
use Rattle.net_commands.specs.Asking.{IsOfSources, TellsTrueOutcomes}
use Rattle.command_parts.proofs.SoundFiles.{file_is_sound, file_tags, sound_format}

-- whatever replies come
pub asked_truth : (a : Asking) → IsOfSources a → TellsTrueOutcomes a
asked_truth a sources = λ ms.
    let P = a.program.digested.program in
    let sound = file_is_sound sources.program.bytes P sources.program.program in
    let format : IsFormat P.format = sound_format P sound in
    let fits : P.format.limit < 2 ^ 32 = format.limit_fits in
    let tags = file_tags sources.program.bytes P sources.program.fits sources.program.program in
    plays_tell_truth told_is_true sha256 length-sha256 P format ((typing_test_is_exact P).0 sound.typed) sound.shaped a.program.digested.digest a.state a.steps
    (arguments_are_bytes P fits tags a.program.names sources.script.0 a.steps sources.script.1) ms
