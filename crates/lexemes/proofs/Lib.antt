-- place::Place::behind and lexer::Lexer::pass; the law places_are_counted
pub mod PlaceLemmas
pub mod Counted
-- lexer::Lexer::next and lexer::words
pub mod TokenLemmas
-- the names among them
pub mod WordLemmas
-- lexer::texts
pub mod TextLemmas
-- lexer::numbers and lexer::pieces
pub mod NumberLemmas
-- keywords and marks told apart, for the laws of the grammar
pub mod Signs
-- the definitions, computed on texts
mod TokenRows
