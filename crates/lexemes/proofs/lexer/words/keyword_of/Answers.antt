use Rattle.lexemes.proofs.WordLemmas.{common_found}
use Rattle.lexemes.proofs.lexer.words.keyword_of.Goals as goal

pub returns-in-Some : goal.returns-in-Some
returns-in-Some c = common_found c.args.format c.args.word.now c.common_keyword.result c.in-Some.keyword c.common_keyword.ensures c.in-Some.is
