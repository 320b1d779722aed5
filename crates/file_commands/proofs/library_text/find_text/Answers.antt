use Rattle.std.proofs.lemmas.Result.{err_from_is_err_and}
use Rattle.command_words.specs.declared.command.Command.TheVariants.{Library}
use Rattle.command_parts.proofs.Possible.{halted_possible}
use Rattle.file_commands.proofs.library_text.find_text.Goals as goal

pub returns-in_err-source-clause-possible : goal.returns-in_err-source-clause-possible
returns-in_err-source-clause-possible c =
    let err = err_from_is_err_and c.from_residual.result c.from_residual.ensures.1 in
    halted_possible Library c.from_residual.result _ (cc) (c.in_err-source.ensures.possible Library)
