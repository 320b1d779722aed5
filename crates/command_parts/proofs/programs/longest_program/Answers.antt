use Rattle.std.proofs.Common.{sym, ◌∙◌}
use Rattle.command_parts.proofs.FileReadings.{object_limit, text_limit}
use Rattle.command_parts.proofs.programs.longest_program.Goals as goal

pub returns-then-begins_as_object : goal.returns-then-begins_as_object
returns-then-begins_as_object c = sym (object_limit c.args.bytes.now (sym c.begins_as_object.ensures ∙ c.if-begins_as_object.true))

pub returns-else-begins_as_object : goal.returns-else-begins_as_object
returns-else-begins_as_object c = sym (text_limit c.args.bytes.now (sym c.begins_as_object.ensures ∙ c.if-begins_as_object.false))
