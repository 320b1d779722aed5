use Rattle.std.proofs.Common.{◌∙◌, ap}
use Rattle.std.specs.Str.{is_utf8}
use Rattle.std.proofs.lemmas.Str.{is_utf8-from_IsUtf8}
use Rattle.code_check.proofs.listed_code.copied.Goals as goal

pub new-requires-clause-utf8 : goal.new-requires-clause-utf8
new-requires-clause-utf8 c = ap is_utf8 (c.in_ok-bytes.ensures.items ∙ c.as_bytes.ensures.value) ∙ is_utf8-from_IsUtf8 c.args.text.now c.utf8.text
