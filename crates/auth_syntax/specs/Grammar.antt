-- The grammar: the tokens with which each syntax tree is written, an equation for each production.
use Rattle.std.specs.Prelude.{◌≡◌, ℕ, zero, suc, max, ◌≤◌, ℤ, pos, Bool, true, false, List, [], ◌∷◌, ◌++◌, Option, Some, None}
use Rattle.core_terms.specs.Types.{is_length}
use Rattle.core_terms.specs.declared.format.Format.{Format}
use Rattle.core_terms.specs.declared.format.Format.TheVariants.{First, Second}
use Rattle.lexemes.specs.declared.place.Place.{Place}
use Rattle.lexemes.specs.Tokens.{Token, KeywordToken, MarkToken, LowerToken, UpperToken, IntToken, TextToken, Tokens, Next, End}
use Rattle.lexemes.specs.declared.token.Keyword.{Keyword}
use Rattle.lexemes.specs.declared.token.Keyword.TheVariants.{«Type» as TypeWord, State as StateWord, Fun as FunWord, Init as InitWord, Query as QueryWord, Update as UpdateWord, Let as LetWord, In as InWord, Match as MatchWord, With as WithWord, End as EndWord, If as IfWord, Then as ThenWord, Else as ElseWord, Auth as AuthWord, Unauth as UnauthWord, Fst as FstWord, Snd as SndWord, Unit as UnitWord, Bool as BoolWord, Int as IntWord, Text as TextWord, True as TrueWord, False as FalseWord, Len as LenWord, Not as NotWord, Vec as VecWord, VecFill as VecFillWord, VecGet as VecGetWord, VecPut as VecPutWord, Binary as BinaryWord}
use Rattle.lexemes.specs.declared.token.Mark.{Mark}
use Rattle.lexemes.specs.declared.token.Mark.TheVariants.{LeftParenthesis, RightParenthesis, Comma, Semicolon, Colon, EqualsSign, Bar, Arrow, LeftBracket, RightBracket}
use Rattle.auth_syntax.specs.ProgramTokens.{format_word, text_tokens}
use Rattle.auth_syntax.specs.Syntax.{NameSyntax, TypeSyntax, UnitTypeSyntax, BoolTypeSyntax, IntTypeSyntax, TextTypeSyntax, NamedTypeSyntax, AuthTypeSyntax, PairTypeSyntax, VecTypeSyntax, UnaryOperation, FstOperation, SndOperation, AuthOperation, UnauthOperation, LenOperation, NotOperation, ArrayOperation, FillOperation, GetOperation, PutOperation, ExpSyntax, UnitSyntax, BoolSyntax, IntSyntax, TextSyntax, LocalSyntax, PairSyntax, UnarySyntax, BinarySyntax, CallSyntax, ConstructorSyntax, OperateSyntax, LetSyntax, IfSyntax, MatchSyntax, ExpsSyntax, NoExp, AndExp, ArmsSyntax, NoArmSyntax, AndArmSyntax, ParameterSyntax, KindSyntax, InnerSyntax, InitSyntax, QuerySyntax, UpdateSyntax, FunctionSyntax, ConstructorDeclaration, DeclarationSyntax, TypeDeclaration, StateDeclaration, FunctionDeclaration, Program}
use Rattle.auth_syntax.specs.Nesting.{nesting_limit, others_of}

-- a token of a tree, with its place where the tree keeps it
pub record Written : Type 0 where
  pub at : Option Place
  pub token : Token

abbrev pub anywhere : Token → Written
anywhere token = record { at = None; token = token }

abbrev pub standing : Place → Token → Written
standing at token = record { at = Some at; token = token }

-- a mark, and a keyword
abbrev pub mark : Mark → Written
mark m = anywhere (MarkToken m)

abbrev pub word : Keyword → Written
word keyword = anywhere (KeywordToken keyword)

-- lower, upper: a name where it stands
abbrev pub lower : NameSyntax → Written
lower name = standing name.at (LowerToken name.name)

abbrev pub upper : NameSyntax → Written
upper name = standing name.at (UpperToken name.name)

-- the word of an operation on one operand; that of an operator on two is its keyword
abbrev pub unary_word : UnaryOperation → Keyword
unary_word FstOperation = FstWord
unary_word SndOperation = SndWord
unary_word AuthOperation = AuthWord
unary_word UnauthOperation = UnauthWord
unary_word LenOperation = LenWord
unary_word NotOperation = NotWord

-- length  =  "[" int "]"
abbrev pub length_tokens : ℕ → List Written
length_tokens n = mark LeftBracket ∷ anywhere (IntToken (pos n)) ∷ mark RightBracket ∷ []

-- type  =  "unit" | "bool" | "int" | "text" | lower | "auth" type | "(" type "," type ")" | "vec" length type
abbrev pub type_tokens : TypeSyntax → List Written
type_tokens (UnitTypeSyntax at) = standing at (KeywordToken UnitWord) ∷ []
type_tokens (BoolTypeSyntax at) = standing at (KeywordToken BoolWord) ∷ []
type_tokens (IntTypeSyntax at) = standing at (KeywordToken IntWord) ∷ []
type_tokens (TextTypeSyntax at) = standing at (KeywordToken TextWord) ∷ []
type_tokens (NamedTypeSyntax at name) = standing at (LowerToken name) ∷ []
type_tokens (AuthTypeSyntax at inner) = standing at (KeywordToken AuthWord) ∷ type_tokens inner
type_tokens (PairTypeSyntax at first second) =
    standing at (MarkToken LeftParenthesis) ∷ type_tokens first ++ mark Comma ∷ type_tokens second ++ mark RightParenthesis ∷ []
type_tokens (VecTypeSyntax at n item) = standing at (KeywordToken VecWord) ∷ length_tokens n ++ type_tokens item

-- "true"  |  "false"
abbrev pub bool_word : Bool → Keyword
bool_word true = TrueWord
bool_word false = FalseWord

-- names  =  lower { "," lower }
abbrev pub names_tokens : List NameSyntax → List Written
names_tokens [] = []
names_tokens (name ∷ []) = lower name ∷ []
names_tokens (name ∷ next ∷ rest) = lower name ∷ mark Comma ∷ names_tokens (next ∷ rest)

-- what stands between parentheses, where there is anything
abbrev pub in_parentheses : List Written → List Written
in_parentheses [] = []
in_parentheses (first ∷ rest) = mark LeftParenthesis ∷ (first ∷ rest) ++ mark RightParenthesis ∷ []

-- the word of an operation on arrays, what stands between it and its operands, and how many of these it has behind its first
abbrev pub array_word : ArrayOperation → Keyword
array_word (FillOperation n) = VecFillWord
array_word GetOperation = VecGetWord
array_word PutOperation = VecPutWord

abbrev pub brackets : ArrayOperation → List Written
brackets (FillOperation n) = length_tokens n
brackets operation = []

abbrev mutual
  -- expression  =  "(" ")"  |  "(" expression "," expression ")"  |  "true"  |  "false"  |  int  |  text
  --   |  lower  |  lower "(" expressions ")"  |  upper [ "(" expressions ")" ]
  --   |  unary "(" expression ")"  |  binary "(" expression "," expression ")"
  --   |  "vfill" length "(" expressions ")"  |  ( "vget" | "vput" ) "(" expressions ")"
  --   |  "let" lower "=" expression "in" expression
  --   |  "if" expression "then" expression "else" expression
  --   |  "match" expression "with" arms "end"
  pub expression_tokens : ExpSyntax → List Written
  expression_tokens (UnitSyntax at) = standing at (MarkToken LeftParenthesis) ∷ mark RightParenthesis ∷ []
  expression_tokens (BoolSyntax at b) = standing at (KeywordToken (bool_word b)) ∷ []
  expression_tokens (IntSyntax at z) = standing at (IntToken z) ∷ []
  expression_tokens (TextSyntax at bytes) = standing at (TextToken bytes) ∷ []
  expression_tokens (LocalSyntax at name) = standing at (LowerToken name) ∷ []
  expression_tokens (PairSyntax at first second) =
      standing at (MarkToken LeftParenthesis) ∷ expression_tokens first ++ mark Comma ∷ expression_tokens second ++ mark RightParenthesis ∷ []
  expression_tokens (UnarySyntax at operation operand) =
      standing at (KeywordToken (unary_word operation)) ∷ mark LeftParenthesis ∷ expression_tokens operand ++ mark RightParenthesis ∷ []
  expression_tokens (BinarySyntax at operation first second) =
      standing at (KeywordToken (BinaryWord operation)) ∷ mark LeftParenthesis
      ∷ expression_tokens first ++ mark Comma ∷ expression_tokens second ++ mark RightParenthesis ∷ []
  expression_tokens (CallSyntax at name operands) =
      standing at (LowerToken name) ∷ mark LeftParenthesis ∷ expressions_tokens operands ++ mark RightParenthesis ∷ []
  expression_tokens (ConstructorSyntax at name operands) = standing at (UpperToken name) ∷ in_parentheses (expressions_tokens operands)
  expression_tokens (OperateSyntax at operation operands) =
      standing at (KeywordToken (array_word operation)) ∷ brackets operation
      ++ mark LeftParenthesis ∷ expressions_tokens operands ++ mark RightParenthesis ∷ []
  expression_tokens (LetSyntax at name bound body) =
      standing at (KeywordToken LetWord) ∷ lower name ∷ mark EqualsSign
      ∷ expression_tokens bound ++ word InWord ∷ expression_tokens body
  expression_tokens (IfSyntax at test first other) =
      standing at (KeywordToken IfWord) ∷ expression_tokens test
      ++ word ThenWord ∷ expression_tokens first ++ word ElseWord ∷ expression_tokens other
  expression_tokens (MatchSyntax at subject arms) =
      standing at (KeywordToken MatchWord) ∷ expression_tokens subject ++ word WithWord ∷ arms_tokens arms ++ word EndWord ∷ []

  -- expressions  =  expression { "," expression }
  pub expressions_tokens : ExpsSyntax → List Written
  expressions_tokens NoExp = []
  expressions_tokens (AndExp e NoExp) = expression_tokens e
  expressions_tokens (AndExp e (AndExp next rest)) = expression_tokens e ++ mark Comma ∷ expressions_tokens (AndExp next rest)

  -- arms  =  { "|" upper [ "(" names ")" ] "->" expression }
  pub arms_tokens : ArmsSyntax → List Written
  arms_tokens NoArmSyntax = []
  arms_tokens (AndArmSyntax constructor fields body rest) =
      mark Bar ∷ upper constructor ∷ in_parentheses (names_tokens fields) ++ mark Arrow ∷ expression_tokens body ++ arms_tokens rest

-- parameter  =  lower ":" type
abbrev pub parameter_tokens : ParameterSyntax → List Written
parameter_tokens parameter = lower parameter.name ∷ mark Colon ∷ type_tokens parameter.of_type

-- parameters  =  parameter { "," parameter }
abbrev pub parameters_tokens : List ParameterSyntax → List Written
parameters_tokens [] = []
parameters_tokens (parameter ∷ []) = parameter_tokens parameter
parameters_tokens (parameter ∷ next ∷ rest) = parameter_tokens parameter ++ mark Comma ∷ parameters_tokens (next ∷ rest)

-- types  =  type { "," type }
abbrev pub types_tokens : List TypeSyntax → List Written
types_tokens [] = []
types_tokens (t ∷ []) = type_tokens t
types_tokens (t ∷ next ∷ rest) = type_tokens t ++ mark Comma ∷ types_tokens (next ∷ rest)

-- constructor  =  upper [ "(" types ")" ]
abbrev pub constructor_tokens : ConstructorDeclaration → List Written
constructor_tokens constructor = upper constructor.name ∷ in_parentheses (types_tokens constructor.fields)

-- constructors  =  constructor { "|" constructor }
abbrev pub constructors_tokens : List ConstructorDeclaration → List Written
constructors_tokens [] = []
constructors_tokens (constructor ∷ []) = constructor_tokens constructor
constructors_tokens (constructor ∷ next ∷ rest) = constructor_tokens constructor ++ mark Bar ∷ constructors_tokens (next ∷ rest)

-- "fun"  |  "init"  |  "query"  |  "update"
abbrev pub kind_keyword : KindSyntax → Keyword
kind_keyword InnerSyntax = FunWord
kind_keyword InitSyntax = InitWord
kind_keyword QuerySyntax = QueryWord
kind_keyword UpdateSyntax = UpdateWord

-- declaration  =  "type" lower "=" constructors ";"
--   |  "state" type ";"
--   |  ( "fun" | "init" | "query" | "update" ) lower "(" parameters ")" ":" type "=" expression ";"
abbrev pub declaration_tokens : DeclarationSyntax → List Written
declaration_tokens (TypeDeclaration at name constructors) =
    standing at (KeywordToken TypeWord) ∷ lower name ∷ mark EqualsSign ∷ constructors_tokens constructors ++ mark Semicolon ∷ []
declaration_tokens (StateDeclaration at of_type) = standing at (KeywordToken StateWord) ∷ type_tokens of_type ++ mark Semicolon ∷ []
declaration_tokens (FunctionDeclaration at function) =
    standing at (KeywordToken (kind_keyword function.kind)) ∷ lower function.name
    ∷ mark LeftParenthesis ∷ parameters_tokens function.parameters
    ++ mark RightParenthesis ∷ mark Colon ∷ type_tokens function.result_type
    ++ mark EqualsSign ∷ expression_tokens function.body
    ++ mark Semicolon ∷ []

-- declarations  =  { declaration }
abbrev pub declarations_tokens : List DeclarationSyntax → List Written
declarations_tokens [] = []
declarations_tokens (declaration ∷ rest) = declaration_tokens declaration ++ declarations_tokens rest

-- the number of a format
abbrev pub format_number : Format → ℤ
format_number First = pos 1
format_number Second = pos 2

-- format  =  [ "format" ( "1" | "2" ) ";" ]
abbrev pub format_tokens : Option Format → List Written
format_tokens None = []
format_tokens (Some format) = anywhere (LowerToken format_word) ∷ anywhere (IntToken (format_number format)) ∷ mark Semicolon ∷ []

-- program  =  format declarations
abbrev pub program_tokens : Option Format → List DeclarationSyntax → List Written
program_tokens format declarations = format_tokens format ++ declarations_tokens declarations

-- how many types stand inside one another, the outermost among them
abbrev pub type_levels : TypeSyntax → ℕ
type_levels (AuthTypeSyntax at inner) = suc (type_levels inner)
type_levels (PairTypeSyntax at first second) = suc (max (type_levels first) (type_levels second))
type_levels (VecTypeSyntax at n item) = suc (type_levels item)
type_levels t = 1

abbrev mutual
  -- how many expressions stand inside one another, the outermost among them
  pub expression_levels : ExpSyntax → ℕ
  expression_levels (PairSyntax at first second) = suc (max (expression_levels first) (expression_levels second))
  expression_levels (UnarySyntax at operation operand) = suc (expression_levels operand)
  expression_levels (BinarySyntax at operation first second) = suc (max (expression_levels first) (expression_levels second))
  expression_levels (CallSyntax at name operands) = suc (expressions_levels operands)
  expression_levels (ConstructorSyntax at name operands) = suc (expressions_levels operands)
  expression_levels (OperateSyntax at operation operands) = suc (expressions_levels operands)
  expression_levels (LetSyntax at name bound body) = suc (max (expression_levels bound) (expression_levels body))
  expression_levels (IfSyntax at test first other) =
      suc (max (expression_levels test) (max (expression_levels first) (expression_levels other)))
  expression_levels (MatchSyntax at subject arms) = suc (max (expression_levels subject) (arms_levels arms))
  expression_levels e = 1

  pub expressions_levels : ExpsSyntax → ℕ
  expressions_levels NoExp = 0
  expressions_levels (AndExp e rest) = max (expression_levels e) (expressions_levels rest)

  pub arms_levels : ArmsSyntax → ℕ
  arms_levels NoArmSyntax = 0
  arms_levels (AndArmSyntax constructor fields body rest) = max (expression_levels body) (arms_levels rest)

-- each array of a type has a length from 1 to 64
abbrev pub HasLengths : TypeSyntax → Type 0
HasLengths (AuthTypeSyntax at inner) = HasLengths inner
HasLengths (PairTypeSyntax at first second) = HasLengths first × HasLengths second
HasLengths (VecTypeSyntax at n item) = (is_length n ≡ true) × HasLengths item
HasLengths t = Unit {0}

-- so has one that an operation makes
abbrev pub has_length : ArrayOperation → Bool
has_length (FillOperation n) = is_length n
has_length operation = true

-- how many expressions stand in a row
abbrev pub row_length : ExpsSyntax → ℕ
row_length NoExp = zero
row_length (AndExp e rest) = suc (row_length rest)

abbrev mutual
  -- each call has an argument, each match an arm, and each operation on arrays its operands and its length
  pub HasParts : ExpSyntax → Type 0
  HasParts (UnitSyntax at) = Unit {0}
  HasParts (BoolSyntax at b) = Unit {0}
  HasParts (IntSyntax at z) = Unit {0}
  HasParts (TextSyntax at bytes) = Unit {0}
  HasParts (LocalSyntax at name) = Unit {0}
  HasParts (PairSyntax at first second) = HasParts first × HasParts second
  HasParts (UnarySyntax at operation operand) = HasParts operand
  HasParts (BinarySyntax at operation first second) = HasParts first × HasParts second
  HasParts (CallSyntax at name NoExp) = ⊥
  HasParts (CallSyntax at name (AndExp e rest)) = HaveParts (AndExp e rest)
  HasParts (ConstructorSyntax at name operands) = HaveParts operands
  HasParts (OperateSyntax at operation operands) = (has_length operation ≡ true) × (row_length operands ≡ suc (others_of operation)) × HaveParts operands
  HasParts (LetSyntax at name bound body) = HasParts bound × HasParts body
  HasParts (IfSyntax at test first other) = HasParts test × HasParts first × HasParts other
  HasParts (MatchSyntax at subject NoArmSyntax) = ⊥
  HasParts (MatchSyntax at subject (AndArmSyntax constructor fields body rest)) =
      HasParts subject × ArmsHaveParts (AndArmSyntax constructor fields body rest)

  pub HaveParts : ExpsSyntax → Type 0
  HaveParts NoExp = Unit {0}
  HaveParts (AndExp e rest) = HasParts e × HaveParts rest

  pub ArmsHaveParts : ArmsSyntax → Type 0
  ArmsHaveParts NoArmSyntax = Unit {0}
  ArmsHaveParts (AndArmSyntax constructor fields body rest) = HasParts body × ArmsHaveParts rest

-- there is a first one
abbrev pub IsSome : {A : Type 0} → List A → Type 0
IsSome [] = ⊥
IsSome (first ∷ rest) = Unit {0}

module _ (limit : ℕ) where
  -- a type, and an expression, within a limit of nesting
  abbrev pub IsType : TypeSyntax → Type 0
  IsType t = HasLengths t × (type_levels t ≤ limit)

  abbrev pub IsExpression : ExpSyntax → Type 0
  IsExpression e = HasParts e × (expression_levels e ≤ limit)

  abbrev pub AreTypes : List TypeSyntax → Type 0
  AreTypes [] = Unit {0}
  AreTypes (t ∷ rest) = IsType t × AreTypes rest

  abbrev pub AreParameters : List ParameterSyntax → Type 0
  AreParameters [] = Unit {0}
  AreParameters (parameter ∷ rest) = IsType parameter.of_type × AreParameters rest

  abbrev pub AreConstructors : List ConstructorDeclaration → Type 0
  AreConstructors [] = Unit {0}
  AreConstructors (constructor ∷ rest) = AreTypes constructor.fields × AreConstructors rest

  -- a function has a parameter
  pub record IsFunction (function : FunctionSyntax) : Type 0 where
    pub has_parameter : IsSome function.parameters
    pub parameters : AreParameters function.parameters
    pub result_type : IsType function.result_type
    pub body : IsExpression function.body

  -- a named type has a constructor
  abbrev pub IsDeclaration : DeclarationSyntax → Type 0
  IsDeclaration (TypeDeclaration at name constructors) = IsSome constructors × AreConstructors constructors
  IsDeclaration (StateDeclaration at of_type) = IsType of_type
  IsDeclaration (FunctionDeclaration at function) = IsFunction function

  abbrev pub AreDeclarations : List DeclarationSyntax → Type 0
  AreDeclarations [] = Unit {0}
  AreDeclarations (declaration ∷ rest) = IsDeclaration declaration × AreDeclarations rest

-- a place that a tree keeps is that of the token
abbrev pub IsKept : Option Place → Place → Type 0
IsKept None at = Unit {0}
IsKept (Some kept) at = kept ≡ at

-- the tokens of a text are those of a tree, and behind them the text ends at this place
abbrev pub AreWritten : Tokens → List Written → Place → Type 0
AreWritten (End at) [] end = at ≡ end
AreWritten (Next at token rest) (written ∷ others) end = (token ≡ written.token) × IsKept written.at at × AreWritten rest others end
AreWritten found written end = ⊥

-- The text is one of the program: its tokens are those with which the program is written, and the program is within the limits of nesting
-- and of lengths, with a parameter, a constructor, an argument, an operand and an arm wherever there has to be one.
pub record IsProgramText (text : List ℕ) (program : Program) : Type 0 where
  pub written : AreWritten (text_tokens text) (program_tokens program.format program.declarations) program.end
  pub well_formed : AreDeclarations nesting_limit program.declarations
