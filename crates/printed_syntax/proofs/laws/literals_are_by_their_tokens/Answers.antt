use Rattle.printed_syntax.proofs.LiteralsByTokens.{literals_are_by_their_tokens}
use Rattle.printed_syntax.proofs.laws.literals_are_by_their_tokens.Goals as goal

pub returns : goal.returns
returns c = literals_are_by_their_tokens
