use Rattle.std.proofs.Common.{◌≡◌, ap, ◌∙◌}
use Rattle.lexemes.specs.Remaining.{remaining}
use Rattle.lexemes.specs.Tokens.{tokens}
use Rattle.auth_syntax.specs.ProgramTokens.{text_tokens}
use Rattle.auth_syntax.specs.Trees.{declarations_of}
use Rattle.auth_syntax.proofs.Exact.{parsed_is_written}
use Rattle.auth_syntax.proofs.WithinLimits.{read_is_tree, read_is_within_limits}
use Rattle.auth_syntax.proofs.parser.parse.Goals as goal

pub invariant_of-result : goal.invariant_of-result
invariant_of-result c =
    let text = c.args.text.now in
    let told = c.in_ok-format-2 in let found = c.in_ok-declarations in
    let whole : remaining c.new-parser.result ≡ text_tokens text = c.new-parser.ensures ∙ ap (λ format. tokens format text) c.in_ok-format.ensures in
    record {
      within = read_is_within_limits text _ told.format _ (declarations_of found.declarations) _ found.end c.requires
          whole told.ensures found.ensures.declarations found.ensures.end;
    }

pub returns-clause-written : goal.returns-clause-written
returns-clause-written c =
    let text = c.args.text.now in
    let told = c.in_ok-format-2 in let found = c.in_ok-declarations in
    let whole : remaining c.new-parser.result ≡ text_tokens text = c.new-parser.ensures ∙ ap (λ format. tokens format text) c.in_ok-format.ensures in
    parsed_is_written _ _ (read_is_tree text _ told.format _ (declarations_of found.declarations) _ found.end
    whole told.ensures found.ensures.declarations found.ensures.end)
