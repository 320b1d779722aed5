-- Parsing as a function: the tree of a text, found from left to right with one token of lookahead, or the first fault: that of the first
-- token that is faulty or is not allowed where it stands.
use Rattle.std.specs.Prelude.{ℕ, zero, suc, ℤ, pos, negsuc, Bool, true, false, List, [], ◌∷◌, Option, Some, None, if◌then◌else◌}
use Rattle.core_terms.specs.declared.format.Format.{Format}
use Rattle.core_terms.specs.Types.{is_length}
use Rattle.core_terms.specs.declared.term.BinaryOperator.{BinaryOperator}
use Rattle.lexemes.specs.declared.place.Place.{Place}
use Rattle.lexemes.specs.Tokens.{Token, KeywordToken, MarkToken, LowerToken, UpperToken, IntToken, TextToken, Tokens, Next, End, Faulty, count}
use Rattle.lexemes.specs.declared.token.Keyword.{Keyword}
use Rattle.lexemes.specs.declared.token.Keyword.TheVariants.{«Type» as TypeWord, State as StateWord, Fun as FunWord, Init as InitWord, Query as QueryWord, Update as UpdateWord, Let as LetWord, In as InWord, Match as MatchWord, With as WithWord, End as EndWord, If as IfWord, Then as ThenWord, Else as ElseWord, Auth as AuthWord, Unauth as UnauthWord, Fst as FstWord, Snd as SndWord, Unit as UnitWord, Bool as BoolWord, Int as IntWord, Text as TextWord, True as TrueWord, False as FalseWord, Len as LenWord, Not as NotWord, Vec as VecWord, VecFill as VecFillWord, VecGet as VecGetWord, VecPut as VecPutWord, Binary as BinaryWord}
use Rattle.lexemes.specs.declared.token.Mark.TheVariants.{LeftParenthesis, RightParenthesis, Comma, Semicolon, Colon, EqualsSign, Bar, Arrow, LeftBracket, RightBracket}
use Rattle.lexemes.specs.declared.fault.SyntaxKind.{SyntaxKind}
use Rattle.lexemes.specs.declared.fault.SyntaxKind.TheVariants.{Lexical, Expected, TooNested}
use Rattle.lexemes.specs.declared.fault.LexicalFault.TheVariants.{NumberRange}
use Rattle.lexemes.specs.Readings.{Reading, Found, FaultAt, then_read, refused, read_mark, read_keyword, read_separator}
use Rattle.auth_syntax.specs.Syntax.{NameSyntax, TypeSyntax, UnitTypeSyntax, BoolTypeSyntax, IntTypeSyntax, TextTypeSyntax, NamedTypeSyntax, AuthTypeSyntax, PairTypeSyntax, VecTypeSyntax, UnaryOperation, FstOperation, SndOperation, AuthOperation, UnauthOperation, LenOperation, NotOperation, ArrayOperation, FillOperation, GetOperation, PutOperation, ExpSyntax, UnitSyntax, BoolSyntax, IntSyntax, TextSyntax, LocalSyntax, PairSyntax, UnarySyntax, BinarySyntax, CallSyntax, ConstructorSyntax, OperateSyntax, LetSyntax, IfSyntax, MatchSyntax, ExpsSyntax, NoExp, AndExp, ArmsSyntax, NoArmSyntax, AndArmSyntax, ParameterSyntax, KindSyntax, InnerSyntax, InitSyntax, QuerySyntax, UpdateSyntax, FunctionSyntax, ConstructorDeclaration, DeclarationSyntax, TypeDeclaration, StateDeclaration, FunctionDeclaration, Program}
use Rattle.auth_syntax.specs.ProgramTokens.{read_format, text_tokens}
use Rattle.auth_syntax.specs.Nesting.{nesting_limit, others_of}

-- nothing more may be nested: a token that would begin something nested is told apart from one that begins nothing
abbrev pub too_nested : {A : Type 0} → (Token → Bool) → Tokens → Reading A
too_nested begins (Next at token rest) = FaultAt (if begins token then TooNested else Expected) at
too_nested begins tokens = refused tokens

-- a lower name, and an upper name
abbrev pub read_lower : Tokens → Reading NameSyntax
read_lower (Next at (LowerToken name) rest) = Found (record { at = at; name = name }) rest
read_lower tokens = refused tokens

abbrev pub read_upper : Tokens → Reading NameSyntax
read_upper (Next at (UpperToken name) rest) = Found (record { at = at; name = name }) rest
read_upper tokens = refused tokens

-- the others of a list, behind its first: where the separator says so another one follows
abbrev pub read_others : {A : Type 0} → Reading Bool → (Tokens → Reading (List A)) → Reading (List A)
read_others separator more = then_read separator (λ follows rest. if follows then more rest else Found [] rest)

-- At least one and at most so many of a kind, with commas between them, and the parenthesis that ends them. A text has no more of
-- anything than tokens, so the number of tokens is bound enough.
abbrev pub read_list : {A : Type 0} → (Tokens → Reading A) → ℕ → Tokens → Reading (List A)
read_list one zero tokens = refused tokens
read_list one (suc most) tokens =
    then_read (one tokens) (λ first tokens.
    then_read (read_others (read_separator tokens) (read_list one most)) (λ others tokens. Found (first ∷ others) tokens))

-- a list in parentheses, or none where no parenthesis stands
abbrev pub read_optional_list : {A : Type 0} → (Tokens → Reading A) → Tokens → Reading (List A)
read_optional_list one (Next at (MarkToken LeftParenthesis) rest) = read_list one (count rest) rest
read_optional_list one tokens = Found [] tokens

-- the length of an array, from 1 to 64; another int is out of range
abbrev pub as_length : ℤ → Place → Tokens → Reading ℕ
as_length (pos n) at rest = if is_length n then Found n rest else FaultAt (Lexical NumberRange) at
as_length (negsuc n) at rest = FaultAt (Lexical NumberRange) at

abbrev pub read_int_length : Tokens → Reading ℕ
read_int_length (Next at (IntToken z) rest) = as_length z at rest
read_int_length tokens = refused tokens

-- the same in brackets
abbrev pub read_length : Tokens → Reading ℕ
read_length tokens =
    then_read (read_mark LeftBracket tokens) (λ _ tokens.
    then_read (read_int_length tokens) (λ n tokens.
    then_read (read_mark RightBracket tokens) (λ _ tokens. Found n tokens)))

-- the type `auth t`, a pair of types, and an array of so many, behind their first token; `part` reads a part
abbrev pub read_auth_type : (Tokens → Reading TypeSyntax) → Place → Tokens → Reading TypeSyntax
read_auth_type part at tokens = then_read (part tokens) (λ inner rest. Found (AuthTypeSyntax at inner) rest)

abbrev pub read_pair_type : (Tokens → Reading TypeSyntax) → Place → Tokens → Reading TypeSyntax
read_pair_type part at tokens =
    then_read (part tokens) (λ first tokens.
    then_read (read_mark Comma tokens) (λ _ tokens.
    then_read (part tokens) (λ second tokens.
    then_read (read_mark RightParenthesis tokens) (λ _ tokens. Found (PairTypeSyntax at first second) tokens))))

abbrev pub read_array_type : (Tokens → Reading TypeSyntax) → Place → Tokens → Reading TypeSyntax
read_array_type part at tokens =
    then_read (read_length tokens) (λ n tokens.
    then_read (part tokens) (λ item rest. Found (VecTypeSyntax at n item) rest))

-- the operation whose word a keyword is
abbrev pub unary_of : Keyword → Option UnaryOperation
unary_of FstWord = Some FstOperation
unary_of SndWord = Some SndOperation
unary_of AuthWord = Some AuthOperation
unary_of UnauthWord = Some UnauthOperation
unary_of LenWord = Some LenOperation
unary_of NotWord = Some NotOperation
unary_of keyword = None

abbrev pub binary_of : Keyword → Option BinaryOperator
binary_of (BinaryWord operation) = Some operation
binary_of keyword = None

-- what stands behind the word of an operation on arrays, up to the parenthesis before its operands
abbrev pub read_brackets : Keyword → Place → Tokens → Reading ArrayOperation
read_brackets VecFillWord at tokens = then_read (read_length tokens) (λ n tokens. Found (FillOperation n) tokens)
read_brackets VecGetWord at tokens = Found GetOperation tokens
read_brackets VecPutWord at tokens = Found PutOperation tokens
read_brackets keyword at tokens = FaultAt Expected at

-- expressions in a row, from a list of them
abbrev pub in_a_row : List ExpSyntax → ExpsSyntax
in_a_row [] = NoExp
in_a_row (e ∷ rest) = AndExp e (in_a_row rest)

-- What stands behind the first token of an expression; `part` reads a part. Behind `(`: its end, or a pair.
abbrev pub read_pair : (Tokens → Reading ExpSyntax) → Place → Tokens → Reading ExpSyntax
read_pair part at tokens =
    then_read (part tokens) (λ first tokens.
    then_read (read_mark Comma tokens) (λ _ tokens.
    then_read (part tokens) (λ second tokens.
    then_read (read_mark RightParenthesis tokens) (λ _ tokens. Found (PairSyntax at first second) tokens))))

-- behind a lower name: the arguments of a call; where no parenthesis stands, the name is a local
abbrev pub read_call : (Tokens → Reading ExpSyntax) → Place → List ℕ → Tokens → Reading ExpSyntax
read_call part at name (Next next (MarkToken LeftParenthesis) rest) =
    then_read (read_list part (count rest) rest) (λ operands rest. Found (CallSyntax at name (in_a_row operands)) rest)
read_call part at name tokens = Found (LocalSyntax at name) tokens

-- behind an upper name: the fields of a constructor
abbrev pub read_constructor : (Tokens → Reading ExpSyntax) → Place → List ℕ → Tokens → Reading ExpSyntax
read_constructor part at name tokens =
    then_read (read_optional_list part tokens) (λ operands rest. Found (ConstructorSyntax at name (in_a_row operands)) rest)

-- behind the word of an operation: its operands
abbrev pub read_unary : (Tokens → Reading ExpSyntax) → Place → UnaryOperation → Tokens → Reading ExpSyntax
read_unary part at operation tokens =
    then_read (read_mark LeftParenthesis tokens) (λ _ tokens.
    then_read (part tokens) (λ operand tokens.
    then_read (read_mark RightParenthesis tokens) (λ _ tokens. Found (UnarySyntax at operation operand) tokens)))

abbrev pub read_binary : (Tokens → Reading ExpSyntax) → Place → BinaryOperator → Tokens → Reading ExpSyntax
read_binary part at operation tokens =
    then_read (read_mark LeftParenthesis tokens) (λ _ tokens.
    then_read (part tokens) (λ first tokens.
    then_read (read_mark Comma tokens) (λ _ tokens.
    then_read (part tokens) (λ second tokens.
    then_read (read_mark RightParenthesis tokens) (λ _ tokens. Found (BinarySyntax at operation first second) tokens)))))

-- one and so many others, with commas between them, and the parenthesis that ends them
abbrev pub read_so_many : (Tokens → Reading ExpSyntax) → ℕ → Tokens → Reading (List ExpSyntax)
read_so_many part zero tokens =
    then_read (part tokens) (λ last tokens.
    then_read (read_mark RightParenthesis tokens) (λ _ tokens. Found (last ∷ []) tokens))
read_so_many part (suc n) tokens =
    then_read (part tokens) (λ first tokens.
    then_read (read_mark Comma tokens) (λ _ tokens.
    then_read (read_so_many part n tokens) (λ others tokens. Found (first ∷ others) tokens)))

-- behind the word of an operation on arrays: its length, where it has one, and its operands
abbrev pub read_operate : (Tokens → Reading ExpSyntax) → Place → Keyword → Tokens → Reading ExpSyntax
read_operate part at keyword tokens =
    then_read (read_brackets keyword at tokens) (λ operation tokens.
    then_read (read_mark LeftParenthesis tokens) (λ _ tokens.
    then_read (read_so_many part (others_of operation) tokens) (λ operands tokens.
    Found (OperateSyntax at operation (in_a_row operands)) tokens)))

-- behind `let`, `if` and `match`
abbrev pub read_let : (Tokens → Reading ExpSyntax) → Place → Tokens → Reading ExpSyntax
read_let part at tokens =
    then_read (read_lower tokens) (λ name tokens.
    then_read (read_mark EqualsSign tokens) (λ _ tokens.
    then_read (part tokens) (λ bound tokens.
    then_read (read_keyword InWord tokens) (λ _ tokens.
    then_read (part tokens) (λ body tokens. Found (LetSyntax at name bound body) tokens)))))

abbrev pub read_if : (Tokens → Reading ExpSyntax) → Place → Tokens → Reading ExpSyntax
read_if part at tokens =
    then_read (part tokens) (λ test tokens.
    then_read (read_keyword ThenWord tokens) (λ _ tokens.
    then_read (part tokens) (λ first tokens.
    then_read (read_keyword ElseWord tokens) (λ _ tokens.
    then_read (part tokens) (λ other tokens. Found (IfSyntax at test first other) tokens)))))

-- behind the body of an arm: a bar, so that another arm follows, or `end`
abbrev pub read_arm_separator : Tokens → Reading Bool
read_arm_separator (Next at (MarkToken Bar) rest) = Found true rest
read_arm_separator (Next at (KeywordToken EndWord) rest) = Found false rest
read_arm_separator tokens = refused tokens

abbrev pub read_other_arms : Reading Bool → (Tokens → Reading ArmsSyntax) → Reading ArmsSyntax
read_other_arms separator more = then_read separator (λ follows rest. if follows then more rest else Found NoArmSyntax rest)

-- at least one arm, behind its bar, and at most so many, with the `end` behind them
abbrev pub read_arms : (Tokens → Reading ExpSyntax) → ℕ → Tokens → Reading ArmsSyntax
read_arms part zero tokens = refused tokens
read_arms part (suc most) tokens =
    then_read (read_upper tokens) (λ constructor tokens.
    then_read (read_optional_list read_lower tokens) (λ fields tokens.
    then_read (read_mark Arrow tokens) (λ _ tokens.
    then_read (part tokens) (λ body tokens.
    then_read (read_other_arms (read_arm_separator tokens) (read_arms part most)) (λ rest tokens.
    Found (AndArmSyntax constructor fields body rest) tokens)))))

abbrev pub read_match : (Tokens → Reading ExpSyntax) → Place → Tokens → Reading ExpSyntax
read_match part at tokens =
    then_read (part tokens) (λ subject tokens.
    then_read (read_keyword WithWord tokens) (λ _ tokens.
    then_read (read_mark Bar tokens) (λ _ tokens.
    then_read (read_arms part (count tokens) tokens) (λ arms tokens. Found (MatchSyntax at subject arms) tokens))))

-- behind a constructor: a bar, so that another one follows, or the semicolon that ends the type
abbrev pub read_bar : Tokens → Reading Bool
read_bar (Next at (MarkToken Bar) rest) = Found true rest
read_bar (Next at (MarkToken Semicolon) rest) = Found false rest
read_bar tokens = refused tokens

-- whether a token begins a type
abbrev pub begins_type : Token → Bool
begins_type (KeywordToken UnitWord) = true
begins_type (KeywordToken BoolWord) = true
begins_type (KeywordToken IntWord) = true
begins_type (KeywordToken TextWord) = true
begins_type (KeywordToken AuthWord) = true
begins_type (KeywordToken VecWord) = true
begins_type (LowerToken name) = true
begins_type (MarkToken LeftParenthesis) = true
begins_type token = false

-- the type that a token begins
abbrev pub type_from : (Tokens → Reading TypeSyntax) → Place → Token → Tokens → Reading TypeSyntax
type_from part at (KeywordToken UnitWord) rest = Found (UnitTypeSyntax at) rest
type_from part at (KeywordToken BoolWord) rest = Found (BoolTypeSyntax at) rest
type_from part at (KeywordToken IntWord) rest = Found (IntTypeSyntax at) rest
type_from part at (KeywordToken TextWord) rest = Found (TextTypeSyntax at) rest
type_from part at (LowerToken name) rest = Found (NamedTypeSyntax at name) rest
type_from part at (KeywordToken AuthWord) rest = read_auth_type part at rest
type_from part at (MarkToken LeftParenthesis) rest = read_pair_type part at rest
type_from part at (KeywordToken VecWord) rest = read_array_type part at rest
type_from part at token rest = FaultAt Expected at

-- a type, of at most so many levels
abbrev pub read_type : ℕ → Tokens → Reading TypeSyntax
read_type zero tokens = too_nested begins_type tokens
read_type (suc levels) (Next at token rest) = type_from (read_type levels) at token rest
read_type (suc levels) tokens = refused tokens

-- a type that stands in no other
abbrev pub read_whole_type : Tokens → Reading TypeSyntax
read_whole_type tokens = read_type nesting_limit tokens

-- whether a keyword begins an expression
abbrev pub operation_begins : Option UnaryOperation → Option BinaryOperator → Bool
operation_begins (Some operation) binary = true
operation_begins None (Some operation) = true
operation_begins None None = false

abbrev pub word_begins : Keyword → Bool
word_begins TrueWord = true
word_begins FalseWord = true
word_begins LetWord = true
word_begins IfWord = true
word_begins MatchWord = true
word_begins VecFillWord = true
word_begins VecGetWord = true
word_begins VecPutWord = true
word_begins keyword = operation_begins (unary_of keyword) (binary_of keyword)

-- whether a token begins an expression
abbrev pub begins_expression : Token → Bool
begins_expression (MarkToken LeftParenthesis) = true
begins_expression (LowerToken name) = true
begins_expression (UpperToken name) = true
begins_expression (IntToken z) = true
begins_expression (TextToken bytes) = true
begins_expression (KeywordToken keyword) = word_begins keyword
begins_expression token = false

abbrev pub read_unit_or_pair : (Tokens → Reading ExpSyntax) → Place → Tokens → Reading ExpSyntax
read_unit_or_pair part at (Next next (MarkToken RightParenthesis) rest) = Found (UnitSyntax at) rest
read_unit_or_pair part at tokens = read_pair part at tokens

abbrev pub operation_from : (Tokens → Reading ExpSyntax) → Place → Option UnaryOperation → Option BinaryOperator → Tokens → Reading ExpSyntax
operation_from part at (Some operation) binary rest = read_unary part at operation rest
operation_from part at None (Some operation) rest = read_binary part at operation rest
operation_from part at None None rest = FaultAt Expected at

-- the expression that a keyword begins
abbrev pub word_from : (Tokens → Reading ExpSyntax) → Place → Keyword → Tokens → Reading ExpSyntax
word_from part at TrueWord rest = Found (BoolSyntax at true) rest
word_from part at FalseWord rest = Found (BoolSyntax at false) rest
word_from part at LetWord rest = read_let part at rest
word_from part at IfWord rest = read_if part at rest
word_from part at MatchWord rest = read_match part at rest
word_from part at VecFillWord rest = read_operate part at VecFillWord rest
word_from part at VecGetWord rest = read_operate part at VecGetWord rest
word_from part at VecPutWord rest = read_operate part at VecPutWord rest
word_from part at keyword rest = operation_from part at (unary_of keyword) (binary_of keyword) rest

-- the expression that a token begins
abbrev pub expression_from : (Tokens → Reading ExpSyntax) → Place → Token → Tokens → Reading ExpSyntax
expression_from part at (MarkToken LeftParenthesis) rest = read_unit_or_pair part at rest
expression_from part at (LowerToken name) rest = read_call part at name rest
expression_from part at (UpperToken name) rest = read_constructor part at name rest
expression_from part at (IntToken z) rest = Found (IntSyntax at z) rest
expression_from part at (TextToken bytes) rest = Found (TextSyntax at bytes) rest
expression_from part at (KeywordToken keyword) rest = word_from part at keyword rest
expression_from part at token rest = FaultAt Expected at

-- an expression, of at most so many levels
abbrev pub read_expression : ℕ → Tokens → Reading ExpSyntax
read_expression zero tokens = too_nested begins_expression tokens
read_expression (suc levels) (Next at token rest) = expression_from (read_expression levels) at token rest
read_expression (suc levels) tokens = refused tokens

-- an expression that stands in no other
abbrev pub read_whole_expression : Tokens → Reading ExpSyntax
read_whole_expression tokens = read_expression nesting_limit tokens

-- a parameter
abbrev pub read_parameter : Tokens → Reading ParameterSyntax
read_parameter tokens =
    then_read (read_lower tokens) (λ name tokens.
    then_read (read_mark Colon tokens) (λ _ tokens.
    then_read (read_whole_type tokens) (λ of_type tokens. Found (record { name = name; of_type = of_type }) tokens)))

-- a function, from the colon behind its parameters on
abbrev pub read_behind_parameters : KindSyntax → NameSyntax → List ParameterSyntax → Tokens → Reading FunctionSyntax
read_behind_parameters kind name parameters tokens =
    then_read (read_mark Colon tokens) (λ _ tokens.
    then_read (read_whole_type tokens) (λ result_type tokens.
    then_read (read_mark EqualsSign tokens) (λ _ tokens.
    then_read (read_whole_expression tokens) (λ body tokens.
    then_read (read_mark Semicolon tokens) (λ _ tokens.
    Found (record { kind = kind; name = name; parameters = parameters; result_type = result_type; body = body }) tokens)))))

-- a function, behind the keyword of its kind
abbrev pub read_function : KindSyntax → Tokens → Reading FunctionSyntax
read_function kind tokens =
    then_read (read_lower tokens) (λ name tokens.
    then_read (read_mark LeftParenthesis tokens) (λ _ tokens.
    then_read (read_list read_parameter (count tokens) tokens) (λ parameters tokens. read_behind_parameters kind name parameters tokens)))

abbrev pub read_function_declaration : Place → KindSyntax → Tokens → Reading DeclarationSyntax
read_function_declaration at kind tokens =
    then_read (read_function kind tokens) (λ function tokens. Found (FunctionDeclaration at function) tokens)

-- the type of the state, behind its keyword
abbrev pub read_state : Place → Tokens → Reading DeclarationSyntax
read_state at tokens =
    then_read (read_whole_type tokens) (λ of_type tokens.
    then_read (read_mark Semicolon tokens) (λ _ tokens. Found (StateDeclaration at of_type) tokens))

-- a constructor of a named type
abbrev pub read_constructor_declaration : Tokens → Reading ConstructorDeclaration
read_constructor_declaration tokens =
    then_read (read_upper tokens) (λ name tokens.
    then_read (read_optional_list read_whole_type tokens) (λ fields tokens. Found (record { name = name; fields = fields }) tokens))

-- at least one and at most so many constructors, and the semicolon that ends them
abbrev pub read_constructors : ℕ → Tokens → Reading (List ConstructorDeclaration)
read_constructors zero tokens = refused tokens
read_constructors (suc most) tokens =
    then_read (read_constructor_declaration tokens) (λ first tokens.
    then_read (read_others (read_bar tokens) (read_constructors most)) (λ others tokens. Found (first ∷ others) tokens))

-- a named type, behind its keyword
abbrev pub read_type_declaration : Place → Tokens → Reading DeclarationSyntax
read_type_declaration at tokens =
    then_read (read_lower tokens) (λ name tokens.
    then_read (read_mark EqualsSign tokens) (λ _ tokens.
    then_read (read_constructors (count tokens) tokens) (λ constructors tokens. Found (TypeDeclaration at name constructors) tokens)))

-- a declaration
abbrev pub read_declaration : Tokens → Reading DeclarationSyntax
read_declaration (Next at (KeywordToken TypeWord) rest) = read_type_declaration at rest
read_declaration (Next at (KeywordToken StateWord) rest) = read_state at rest
read_declaration (Next at (KeywordToken FunWord) rest) = read_function_declaration at InnerSyntax rest
read_declaration (Next at (KeywordToken InitWord) rest) = read_function_declaration at InitSyntax rest
read_declaration (Next at (KeywordToken QueryWord) rest) = read_function_declaration at QuerySyntax rest
read_declaration (Next at (KeywordToken UpdateWord) rest) = read_function_declaration at UpdateSyntax rest
read_declaration tokens = refused tokens

-- at most so many declarations, which end with the text
abbrev pub read_declarations : ℕ → Tokens → Reading (List DeclarationSyntax)
read_declarations most (End at) = Found [] (End at)
read_declarations zero tokens = refused tokens
read_declarations (suc most) tokens =
    then_read (read_declaration tokens) (λ declaration tokens.
    then_read (read_declarations most tokens) (λ rest tokens. Found (declaration ∷ rest) tokens))

-- what parsing a text gives: its tree, or its first fault with its place
pub data Parsed : Type 0 where
  Tree : (program : Program) → Parsed
  FirstFault : (kind : SyntaxKind) (at : Place) → Parsed

-- the place at which some tokens end
abbrev pub end_of : Tokens → Place
end_of (Next at token rest) = end_of rest
end_of (End at) = at
end_of (Faulty at kind) = at

abbrev pub as_program : Option Format → Reading (List DeclarationSyntax) → Parsed
as_program format (Found declarations rest) = Tree (record { format = format; declarations = declarations; end = end_of rest })
as_program format (FaultAt kind at) = FirstFault kind at

-- behind its format
abbrev pub read_program : Reading (Option Format) → Parsed
read_program (Found format rest) = as_program format (read_declarations (count rest) rest)
read_program (FaultAt kind at) = FirstFault kind at

-- the program that a text is one of, or the text's first fault
abbrev pub parsed : List ℕ → Parsed
parsed text = read_program (read_format (text_tokens text))
