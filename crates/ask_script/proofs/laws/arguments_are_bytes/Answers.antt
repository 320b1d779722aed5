use Rattle.ask_script.proofs.ByteArguments.{arguments_are_bytes}
use Rattle.ask_script.proofs.laws.arguments_are_bytes.Goals as goal

pub returns : goal.returns
returns c = arguments_are_bytes
