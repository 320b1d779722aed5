-- The tokens of each form of an expression, printed one behind the other.
use Rattle.std.proofs.Common.{◌≡◌, [], ◌∷◌, ◌++◌, sym, ap, ◌∙◌}
use Rattle.core_terms.specs.declared.term.BinaryOperator.{BinaryOperator}
use Rattle.lexemes.specs.Places.{start}
use Rattle.lexemes.specs.Tokens.{KeywordToken, MarkToken}
use Rattle.lexemes.specs.declared.token.Keyword.TheVariants.{Let as LetWord, In as InWord, If as IfWord, Then as ThenWord, Else as ElseWord}
use Rattle.lexemes.specs.declared.token.Keyword.TheVariants.{Match as MatchWord, With as WithWord, End as EndWord, Binary as BinaryWord}
use Rattle.lexemes.specs.declared.token.Mark.TheVariants.{LeftParenthesis, RightParenthesis, Comma, EqualsSign}
use Rattle.auth_syntax.specs.Syntax.{NameSyntax, UnaryOperation, ExpSyntax, PairSyntax, UnarySyntax, BinarySyntax, LetSyntax, IfSyntax, MatchSyntax, ArmsSyntax}
use Rattle.auth_syntax.specs.Grammar.{mark, word, lower, unary_word, arms_tokens, expression_tokens}
use Rattle.printed_syntax.specs.LineViews.{Line, with_token, with_tokens}
use Rattle.printed_syntax.proofs.LineLemmas.{with_tokens_append}

-- with an expression more
abbrev with_syntax : Line → ExpSyntax → Line
with_syntax line e = with_tokens line (expression_tokens e)

-- two expressions between parentheses
pub pair_written : (line opened one parted two closed : Line) (first second : ExpSyntax)
    → opened ≡ with_token line (MarkToken LeftParenthesis) → one ≡ with_tokens opened (expression_tokens first) → parted ≡ with_token one (MarkToken Comma)
    → two ≡ with_tokens parted (expression_tokens second) → closed ≡ with_token two (MarkToken RightParenthesis)
    → closed ≡ with_tokens line (expression_tokens (PairSyntax start first second))
pair_written line opened one parted two closed first second e e' f f' g =
    let l = with_token line (MarkToken LeftParenthesis) in
    let ended = mark RightParenthesis ∷ [] in
    g ∙ ap (λ (l : Line). with_token l (MarkToken RightParenthesis)) (f'
    ∙ ap (λ (l : Line). with_syntax l second) (f ∙ ap (λ (l : Line). with_token l (MarkToken Comma)) (e' ∙ ap (λ (l : Line). with_syntax l first) e)))
    ∙ sym (with_tokens_append l (expression_tokens first ++ mark Comma ∷ expression_tokens second) ended
    ∙ ap (λ (l : Line). with_tokens l ended) (with_tokens_append l (expression_tokens first) (mark Comma ∷ expression_tokens second)))

-- an operation on one operand
pub unary_written : (line worded opened one closed : Line) (operation : UnaryOperation) (operand : ExpSyntax)
    → worded ≡ with_token line (KeywordToken (unary_word operation)) → opened ≡ with_token worded (MarkToken LeftParenthesis)
    → one ≡ with_tokens opened (expression_tokens operand) → closed ≡ with_token one (MarkToken RightParenthesis)
    → closed ≡ with_tokens line (expression_tokens (UnarySyntax start operation operand))
unary_written line worded opened one closed operation operand e e' f f' =
    let l = with_token (with_token line (KeywordToken (unary_word operation))) (MarkToken LeftParenthesis) in
    f' ∙ ap (λ (l : Line). with_token l (MarkToken RightParenthesis)) (f
    ∙ ap (λ (l : Line). with_syntax l operand) (e' ∙ ap (λ (l : Line). with_token l (MarkToken LeftParenthesis)) e))
    ∙ sym (with_tokens_append l (expression_tokens operand) (mark RightParenthesis ∷ []))

-- an expression that binds a name
pub let_written : (line worded named signed one joined two : Line) (name : NameSyntax) (bound body : ExpSyntax)
    → worded ≡ with_token line (KeywordToken LetWord) → named ≡ with_tokens worded (lower name ∷ []) → signed ≡ with_token named (MarkToken EqualsSign)
    → one ≡ with_tokens signed (expression_tokens bound) → joined ≡ with_token one (KeywordToken InWord) → two ≡ with_tokens joined (expression_tokens body)
    → two ≡ with_tokens line (expression_tokens (LetSyntax start name bound body))
let_written line worded named signed one joined two name bound body e e' f f' g g' =
    let l = with_token (with_tokens (with_token line (KeywordToken LetWord)) (lower name ∷ [])) (MarkToken EqualsSign) in
    g' ∙ ap (λ (l : Line). with_syntax l body) (g ∙ ap (λ (l : Line). with_token l (KeywordToken InWord)) (f' ∙ ap (λ (l : Line). with_syntax l bound) (f
    ∙ ap (λ (l : Line). with_token l (MarkToken EqualsSign)) (e' ∙ ap (λ (l : Line). with_tokens l (lower name ∷ [])) e))))
    ∙ sym (with_tokens_append l (expression_tokens bound) (word InWord ∷ expression_tokens body))

-- a condition
pub if_written : (line worded one joined two parted three : Line) (test first other : ExpSyntax)
    → worded ≡ with_token line (KeywordToken IfWord) → one ≡ with_tokens worded (expression_tokens test) → joined ≡ with_token one (KeywordToken ThenWord)
    → two ≡ with_tokens joined (expression_tokens first) → parted ≡ with_token two (KeywordToken ElseWord) → three ≡ with_tokens parted (expression_tokens other)
    → three ≡ with_tokens line (expression_tokens (IfSyntax start test first other))
if_written line worded one joined two parted three test first other e e' f f' g g' =
    let l = with_token line (KeywordToken IfWord) in
    let behind = word ElseWord ∷ expression_tokens other in
    g' ∙ ap (λ (l : Line). with_syntax l other) (g ∙ ap (λ (l : Line). with_token l (KeywordToken ElseWord)) (f' ∙ ap (λ (l : Line). with_syntax l first) (f
    ∙ ap (λ (l : Line). with_token l (KeywordToken ThenWord)) (e' ∙ ap (λ (l : Line). with_syntax l test) e))))
    ∙ sym (with_tokens_append l (expression_tokens test ++ word ThenWord ∷ expression_tokens first) behind
    ∙ ap (λ (l : Line). with_tokens l behind) (with_tokens_append l (expression_tokens test) (word ThenWord ∷ expression_tokens first)))

-- a match with its arms
pub match_written : (line worded one joined two closed : Line) (subject : ExpSyntax) (arms : ArmsSyntax)
    → worded ≡ with_token line (KeywordToken MatchWord) → one ≡ with_tokens worded (expression_tokens subject) → joined ≡ with_token one (KeywordToken WithWord)
    → two ≡ with_tokens joined (arms_tokens arms) → closed ≡ with_token two (KeywordToken EndWord)
    → closed ≡ with_tokens line (expression_tokens (MatchSyntax start subject arms))
match_written line worded one joined two closed subject arms e e' f f' g =
    let l = with_token line (KeywordToken MatchWord) in
    let ended = word EndWord ∷ [] in
    g ∙ ap (λ (l : Line). with_token l (KeywordToken EndWord)) (f' ∙ ap (λ (l : Line). with_tokens l (arms_tokens arms)) (f
    ∙ ap (λ (l : Line). with_token l (KeywordToken WithWord)) (e' ∙ ap (λ (l : Line). with_syntax l subject) e)))
    ∙ sym (with_tokens_append l (expression_tokens subject ++ word WithWord ∷ arms_tokens arms) ended
    ∙ ap (λ (l : Line). with_tokens l ended) (with_tokens_append l (expression_tokens subject) (word WithWord ∷ arms_tokens arms)))

-- an operation on two operands
pub binary_written : (line worded paired : Line) (operation : BinaryOperator) (first second : ExpSyntax)
    → worded ≡ with_token line (KeywordToken (BinaryWord operation)) → paired ≡ with_tokens worded (expression_tokens (PairSyntax start first second))
    → paired ≡ with_tokens line (expression_tokens (BinarySyntax start operation first second))
binary_written line worded paired operation first second e e' = e' ∙ ap (λ (l : Line). with_syntax l (PairSyntax start first second)) e
