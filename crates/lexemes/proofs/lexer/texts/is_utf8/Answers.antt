use Rattle.std.proofs.Common.{◌∙◌}
use Rattle.lexemes.proofs.TextLemmas.{utf8_test}
use Rattle.lexemes.proofs.lexer.texts.is_utf8.Goals as goal

pub returns : goal.returns
returns c = c.is_ok.ensures.value ∙ utf8_test c.args.bytes.now c.from_utf8.result _ _ c.from_utf8.ensures.cases
