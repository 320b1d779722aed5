use Rattle.ask_script.proofs.CutWords.{word_cut, word_whole}
use Rattle.ask_script.proofs.words.cut_word.Goals as goal

pub returns-clause-cut : goal.returns-clause-cut
returns-clause-cut c = word_cut c.args.text.now c.split_once.result c.split_once.ensures.cases

pub returns-clause-whole : goal.returns-clause-whole
returns-clause-whole c = word_whole c.args.text.now c.split_once.result c.split_once.ensures.cases
