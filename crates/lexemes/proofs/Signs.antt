-- The tests that tell keywords and marks apart.
use Rattle.std.proofs.Common.{◌≡◌, true, Some, refl, sym, ap, ◌∙◌}
use Rattle.std.proofs.lemmas.Slice.Eq.{bytes_eq-Decides}
use Rattle.core_terms.specs.declared.format.Format.TheVariants.{Second}
use Rattle.core_terms.specs.declared.term.Arith.{Arith as ArithOperator}
use Rattle.core_terms.specs.declared.term.Arith.TheVariants.{Add}
use Rattle.core_terms.specs.declared.term.Compare.{Compare as CompareOperator}
use Rattle.core_terms.specs.declared.term.Compare.TheVariants.{Eq}
use Rattle.core_terms.specs.declared.term.TextCompare.{TextCompare as TextCompareOperator}
use Rattle.core_terms.specs.declared.term.TextCompare.TheVariants.{Eq as TEq}
use Rattle.core_terms.specs.declared.term.BinaryOperator.TheVariants.{Arith, Compare, TextCompare, Cat}
use Rattle.lexemes.specs.Tokens.{operator_text, keyword_text, keyword_of}
use Rattle.lexemes.specs.declared.token.Keyword.{Keyword}
use Rattle.lexemes.specs.declared.token.Keyword.TheVariants.{«Type» as TypeWord, Binary as BinaryWord}
use Rattle.lexemes.specs.declared.token.Mark.{Mark}
use Rattle.lexemes.specs.declared.token.Mark.TheVariants.{LeftParenthesis, RightParenthesis, Comma, Semicolon, Colon, EqualsSign, Bar, Arrow, LeftBracket, RightBracket}
use Rattle.lexemes.specs.Readings.{is_mark, is_keyword}

-- a keyword is the one of its text
arith_of-text : (o : ArithOperator) → keyword_of Second (operator_text (Arith o)) ≡ Some (BinaryWord (Arith o))
arith_of-text Add = refl
arith_of-text o = refl

compare_of-text : (o : CompareOperator) → keyword_of Second (operator_text (Compare o)) ≡ Some (BinaryWord (Compare o))
compare_of-text Eq = refl
compare_of-text o = refl

text_compare_of-text : (o : TextCompareOperator) → keyword_of Second (operator_text (TextCompare o)) ≡ Some (BinaryWord (TextCompare o))
text_compare_of-text TEq = refl
text_compare_of-text o = refl

keyword_of-text : (keyword : Keyword) → keyword_of Second (keyword_text keyword) ≡ Some keyword
keyword_of-text TypeWord = refl
keyword_of-text (BinaryWord (Arith o)) = arith_of-text o
keyword_of-text (BinaryWord (Compare o)) = compare_of-text o
keyword_of-text (BinaryWord (TextCompare o)) = text_compare_of-text o
keyword_of-text (BinaryWord Cat) = refl
keyword_of-text keyword = refl

some_inj : (a b : Keyword) → Some a ≡ Some b → a ≡ b
some_inj a b h = cc

pub is_keyword-true : (a b : Keyword) → is_keyword a b ≡ true → a ≡ b
is_keyword-true a b h =
    let e : keyword_text a ≡ keyword_text b = (bytes_eq-Decides (keyword_text a) (keyword_text b)).0 h in
    some_inj a b (sym (keyword_of-text a) ∙ (ap (keyword_of Second) e ∙ keyword_of-text b))

pub is_keyword-same : (a : Keyword) → is_keyword a a ≡ true
is_keyword-same a = (bytes_eq-Decides (keyword_text a) (keyword_text a)).1 refl

pub is_mark-true : (a b : Mark) → is_mark a b ≡ true → a ≡ b
is_mark-true LeftParenthesis LeftParenthesis h = refl
is_mark-true RightParenthesis RightParenthesis h = refl
is_mark-true Comma Comma h = refl
is_mark-true Semicolon Semicolon h = refl
is_mark-true Colon Colon h = refl
is_mark-true EqualsSign EqualsSign h = refl
is_mark-true Bar Bar h = refl
is_mark-true Arrow Arrow h = refl
is_mark-true LeftBracket LeftBracket h = refl
is_mark-true RightBracket RightBracket h = refl
is_mark-true a b h = absurd (cc)

pub is_mark-same : (a : Mark) → is_mark a a ≡ true
is_mark-same LeftParenthesis = refl
is_mark-same RightParenthesis = refl
is_mark-same Comma = refl
is_mark-same Semicolon = refl
is_mark-same Colon = refl
is_mark-same EqualsSign = refl
is_mark-same Bar = refl
is_mark-same Arrow = refl
is_mark-same LeftBracket = refl
is_mark-same RightBracket = refl
