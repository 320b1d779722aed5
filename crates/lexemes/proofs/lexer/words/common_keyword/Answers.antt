use Rattle.std.proofs.Common.{rules, sym, ap, arith}
use Rattle.std.specs.Prelude.{codes}
use Rattle.std.proofs.lemmas.Grind.{common_steps}
use Rattle.std.proofs.lemmas.Slice.Eq.{text_from_reads}
use Rattle.lexemes.specs.Tokens.{keyword_among, common_keywords}
use Rattle.lexemes.proofs.lexer.words.common_keyword.Goals as goal

pub returns-in-state : goal.returns-in-state
returns-in-state c = sym (ap (keyword_among common_keywords) (text_from_reads c.args.word.now (codes "state") (grind (arith, common_steps)) (search (rules))))

pub returns-in-query : goal.returns-in-query
returns-in-query c = sym (ap (keyword_among common_keywords) (text_from_reads c.args.word.now (codes "query") (grind (arith, common_steps)) (search (rules))))

pub returns-in-match : goal.returns-in-match
returns-in-match c = sym (ap (keyword_among common_keywords) (text_from_reads c.args.word.now (codes "match") (grind (arith, common_steps)) (search (rules))))

pub returns-in-false : goal.returns-in-false
returns-in-false c = sym (ap (keyword_among common_keywords) (text_from_reads c.args.word.now (codes "false") (grind (arith, common_steps)) (search (rules))))

pub returns-in-update : goal.returns-in-update
returns-in-update c = sym (ap (keyword_among common_keywords) (text_from_reads c.args.word.now (codes "update") (grind (arith, common_steps)) (search (rules))))

pub returns-in-unauth : goal.returns-in-unauth
returns-in-unauth c = sym (ap (keyword_among common_keywords) (text_from_reads c.args.word.now (codes "unauth") (grind (arith, common_steps)) (search (rules))))
