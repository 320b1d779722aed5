-- The readers of declarations and of programs.
use Rattle.std.proofs.Common.{◌≡◌, ℕ, List, [], ◌∷◌, ◌++◌, refl, sym, ap, subst, ◌∙◌, arith, append_assoc}
use Rattle.lexemes.specs.declared.place.Place.{Place}
use Rattle.lexemes.specs.declared.token.Keyword.TheVariants.{«Type» as TypeWord, State as StateWord, Fun as FunWord, Init as InitWord, Query as QueryWord, Update as UpdateWord}
use Rattle.lexemes.specs.declared.token.Mark.TheVariants.{LeftParenthesis, RightParenthesis, Comma, Semicolon, Colon, EqualsSign, Bar}
use Rattle.lexemes.specs.Tokens.{Token, KeywordToken, Tokens, Next}
use Rattle.auth_syntax.specs.Syntax.{ParameterSyntax, KindSyntax, InnerSyntax, InitSyntax, QuerySyntax, UpdateSyntax, FunctionSyntax, ConstructorDeclaration, DeclarationSyntax, TypeDeclaration, StateDeclaration, FunctionDeclaration}
use Rattle.auth_syntax.specs.Grammar.{Written, standing, mark, lower, type_tokens, expression_tokens, parameter_tokens, parameters_tokens, types_tokens, constructor_tokens, constructors_tokens, kind_keyword, declaration_tokens, IsType, IsExpression, AreTypes, AreParameters, AreConstructors, IsSome, IsDeclaration}
use Rattle.lexemes.specs.Readings.{Reading, Found, refused}
use Rattle.auth_syntax.specs.Parsing.{read_bar}
use Rattle.auth_syntax.proofs.Beginnings.{Begin, First, begin-next, begin-first, begin-as}
use Rattle.auth_syntax.proofs.Readers.{IsClear, IsReader, Reader, Row, Done, ThenMark, ThenLower, ThenUpper, Then, Last, read_row, row_sound, row_complete}
use Rattle.auth_syntax.proofs.Lists.{IsListed, list, optional, counted, bars, refused_found}
use Rattle.auth_syntax.proofs.Heads.{head_is}
use Rattle.auth_syntax.proofs.Types.{types, type_tokens-some}
use Rattle.auth_syntax.proofs.Expressions.{expressions}

module _ (limit : ℕ) where
  -- a parameter, and parameters
  abbrev pub parameter_row : Row limit ParameterSyntax
  parameter_row = ThenLower (λ name. ThenMark Colon (Last (types limit) (λ of_type. record { name = name; of_type = of_type })))

  abbrev pub is_parameter : ℕ → ParameterSyntax → Type 0
  is_parameter at_most parameter = IsType at_most parameter.of_type

  parameter_found : (tokens : Tokens) (found : ParameterSyntax) (left : Tokens) → read_row parameter_row limit tokens ≡ Found found left
      → Begin tokens (parameter_tokens found) left × is_parameter limit found
  parameter_found tokens found left e =
      let s = row_sound parameter_row tokens found left e in
      subst (λ (p : ParameterSyntax). Begin tokens (parameter_tokens p) left × is_parameter limit p) s.is (s.begin, s.fits)

  pub parameters_are : IsReader limit (read_row parameter_row) parameter_tokens is_parameter
  parameters_are = record {
    sound = parameter_found;
    complete = λ parameter tokens left begin within clear.
        row_complete parameter_row (λ name. tt) (parameter.name, parameter.of_type) tokens left begin within clear;
  }

  abbrev pub parameter_reader : Reader limit
  parameter_reader =
      record { A = ParameterSyntax; read = read_row parameter_row; written = parameter_tokens; within = is_parameter; is = parameters_are }

  pub parameters_listed : IsListed limit (mark Comma) parameter_tokens is_parameter parameters_tokens AreParameters
  parameters_listed = record {
    none = refl;
    single = λ p. refl;
    several = λ p next rest. refl;
    some = λ p. omega arith;
    none_within = tt;
    more_within = λ p rest h hs. (h, hs);
    first_within = λ p rest h. h.0;
    others_within = λ p rest h. h.1;
  }

  pub types_listed : IsListed limit (mark Comma) type_tokens IsType types_tokens AreTypes
  types_listed = record {
    none = refl;
    single = λ t. refl;
    several = λ t next rest. refl;
    some = type_tokens-some;
    none_within = tt;
    more_within = λ t rest h hs. (h, hs);
    first_within = λ t rest h. h.0;
    others_within = λ t rest h. h.1;
  }

  -- a function behind its keyword
  abbrev pub parameter_list : Reader limit
  parameter_list = list limit parameter_reader parameters_tokens AreParameters parameters_listed

  abbrev pub function_row : KindSyntax → Row limit FunctionSyntax
  function_row kind =
      ThenLower (λ name. ThenMark LeftParenthesis (Then parameter_list (λ parameters. ThenMark Colon (Then (types limit) (λ result_type.
      ThenMark EqualsSign (Then (expressions limit) (λ body. ThenMark Semicolon
      (Done (record { kind = kind; name = name; parameters = parameters; result_type = result_type; body = body })))))))))

  abbrev pub function_written : FunctionSyntax → List Written
  function_written function =
      lower function.name ∷ (mark LeftParenthesis ∷ ((parameters_tokens function.parameters ++ (mark RightParenthesis ∷ []))
      ++ (mark Colon ∷ (type_tokens function.result_type ++ (mark EqualsSign ∷ (expression_tokens function.body ++ (mark Semicolon ∷ [])))))))

  pub function_grouped : (at : Place) (function : FunctionSyntax)
      → standing at (KeywordToken (kind_keyword function.kind)) ∷ function_written function ≡ declaration_tokens (FunctionDeclaration at function)
  function_grouped at function = simp append_assoc

  abbrev pub is_of_kind : KindSyntax → ℕ → FunctionSyntax → Type 0
  is_of_kind kind at_most function =
      (kind ≡ function.kind) × IsSome function.parameters × AreParameters at_most function.parameters
      × IsType at_most function.result_type × IsExpression at_most function.body

  function_found : (kind : KindSyntax) (tokens : Tokens) (found : FunctionSyntax) (left : Tokens) → read_row (function_row kind) limit tokens ≡ Found found left
      → Begin tokens (function_written found) left × is_of_kind kind limit found
  function_found kind tokens found left e =
      let s = row_sound (function_row kind) tokens found left e in
      subst (λ (f : FunctionSyntax). Begin tokens (function_written f) left × is_of_kind kind limit f) s.is
      (s.begin, (refl, s.fits.0.0, s.fits.0.1, s.fits.1.0, s.fits.1.1.0))

  function_complete : (kind : KindSyntax) (function : FunctionSyntax) (tokens left : Tokens) → Begin tokens (function_written function) left
      → is_of_kind kind limit function → IsClear left → read_row (function_row kind) limit tokens ≡ Found function left
  function_complete kind function tokens left begin within clear =
      row_complete (function_row kind) (λ name parameters. (refl, λ result_type. (refl, λ body. (refl, tt))))
      (function.name, (function.parameters, (function.result_type, (function.body, tt)))) tokens left begin
      ((within.1, within.2), (within.3, (within.4, tt))) clear
      ∙ ap (λ (kind : KindSyntax). Found (record function { kind = kind }) left) within.0

  pub functions_are : (kind : KindSyntax) → IsReader limit (read_row (function_row kind)) function_written (is_of_kind kind)
  functions_are kind = record { sound = function_found kind; complete = function_complete kind }

  abbrev pub function_reader : KindSyntax → Reader limit
  function_reader kind = record {
    A = FunctionSyntax;
    read = read_row (function_row kind);
    written = function_written;
    within = is_of_kind kind;
    is = functions_are kind;
  }

  abbrev pub function_declaration_row : Place → KindSyntax → Row limit DeclarationSyntax
  function_declaration_row at kind = Last (function_reader kind) (λ function. FunctionDeclaration at function)

  -- a constructor, and constructors
  abbrev pub field_types : Reader limit
  field_types = optional limit (types limit) types_tokens AreTypes types_listed

  abbrev pub constructor_row : Row limit ConstructorDeclaration
  constructor_row = ThenUpper (λ name. Last field_types (λ fields. record { name = name; fields = fields }))

  abbrev pub is_constructor : ℕ → ConstructorDeclaration → Type 0
  is_constructor at_most constructor = AreTypes at_most constructor.fields

  constructor_found : (tokens : Tokens) (found : ConstructorDeclaration) (left : Tokens) → read_row constructor_row limit tokens ≡ Found found left
      → Begin tokens (constructor_tokens found) left × is_constructor limit found
  constructor_found tokens found left e =
      let s = row_sound constructor_row tokens found left e in
      subst (λ (c : ConstructorDeclaration). Begin tokens (constructor_tokens c) left × is_constructor limit c) s.is (s.begin, s.fits)

  pub constructors_are : IsReader limit (read_row constructor_row) constructor_tokens is_constructor
  constructors_are = record {
    sound = constructor_found;
    complete = λ constructor tokens left begin within clear.
        row_complete constructor_row (λ name. tt) (constructor.name, constructor.fields) tokens left begin within clear;
  }

  abbrev pub constructor_reader : Reader limit
  constructor_reader =
      record { A = ConstructorDeclaration; read = read_row constructor_row; written = constructor_tokens; within = is_constructor; is = constructors_are }

  pub constructors_listed : IsListed limit (mark Bar) constructor_tokens is_constructor constructors_tokens AreConstructors
  constructors_listed = record {
    none = refl;
    single = λ c. refl;
    several = λ c next rest. refl;
    some = λ c. omega arith;
    none_within = tt;
    more_within = λ c rest h hs. (h, hs);
    first_within = λ c rest h. h.0;
    others_within = λ c rest h. h.1;
  }

  abbrev pub constructor_list : Reader limit
  constructor_list =
      counted limit constructor_reader (mark Bar) (mark Semicolon) constructors_tokens AreConstructors constructors_listed read_bar bars

  -- a named type behind its keyword, and the type of the state
  abbrev pub type_row : Place → Row limit DeclarationSyntax
  type_row at = ThenLower (λ name. ThenMark EqualsSign (Last constructor_list (λ constructors. TypeDeclaration at name constructors)))

  abbrev pub state_row : Place → Row limit DeclarationSyntax
  state_row at = Then (types limit) (λ of_type. ThenMark Semicolon (Done (StateDeclaration at of_type)))

  -- a declaration
  abbrev pub read_declaration_at : ℕ → Tokens → Reading DeclarationSyntax
  read_declaration_at at_most (Next at (KeywordToken TypeWord) rest) = read_row (type_row at) at_most rest
  read_declaration_at at_most (Next at (KeywordToken StateWord) rest) = read_row (state_row at) at_most rest
  read_declaration_at at_most (Next at (KeywordToken FunWord) rest) =
      read_row (function_declaration_row at InnerSyntax) at_most rest
  read_declaration_at at_most (Next at (KeywordToken InitWord) rest) = read_row (function_declaration_row at InitSyntax) at_most rest
  read_declaration_at at_most (Next at (KeywordToken QueryWord) rest) = read_row (function_declaration_row at QuerySyntax) at_most rest
  read_declaration_at at_most (Next at (KeywordToken UpdateWord) rest) =
      read_row (function_declaration_row at UpdateSyntax) at_most rest
  read_declaration_at at_most tokens = refused tokens

  abbrev IsFound : Tokens → DeclarationSyntax → Tokens → Type 0
  IsFound tokens found left = Begin tokens (declaration_tokens found) left × IsDeclaration limit found

  function_declared : (at : Place) (kind : KindSyntax) (rest : Tokens) (found : DeclarationSyntax) (left : Tokens)
      → read_row (function_declaration_row at kind) limit rest ≡ Found found left → IsFound (Next at (KeywordToken (kind_keyword kind)) rest) found left
  function_declared at kind rest found left e =
      let s = row_sound (function_declaration_row at kind) rest found left e in
      let f : FunctionSyntax = s.thing in
      subst (λ (d : DeclarationSyntax). IsFound (Next at (KeywordToken (kind_keyword kind)) rest) d left) s.is (
        begin-as (function_grouped at f)
            (begin-next at (KeywordToken (kind_keyword kind)) (standing at (KeywordToken (kind_keyword f.kind)))
            (ap (λ (k : KindSyntax). KeywordToken (kind_keyword k)) s.fits.0) refl s.begin),
        record {
          has_parameter = s.fits.1;
          parameters = s.fits.2;
          result_type = s.fits.3;
          body = s.fits.4;
        },
      )

  declaration_found : (tokens : Tokens) (found : DeclarationSyntax) (left : Tokens) → read_declaration_at limit tokens ≡ Found found left
      → IsFound tokens found left
  declaration_found (Next at (KeywordToken TypeWord) rest) found left e =
      let s = row_sound (type_row at) rest found left e in
      subst (λ (d : DeclarationSyntax). IsFound (Next at (KeywordToken TypeWord) rest) d left) s.is
      (begin-next at (KeywordToken TypeWord) (standing at (KeywordToken TypeWord)) refl refl s.begin, (s.fits.0, s.fits.1))
  declaration_found (Next at (KeywordToken StateWord) rest) found left e =
      let s = row_sound (state_row at) rest found left e in
      subst (λ (d : DeclarationSyntax). IsFound (Next at (KeywordToken StateWord) rest) d left) s.is
      (begin-next at (KeywordToken StateWord) (standing at (KeywordToken StateWord)) refl refl s.begin, s.fits.0)
  declaration_found (Next at (KeywordToken FunWord) rest) found left e = function_declared at InnerSyntax rest found left e
  declaration_found (Next at (KeywordToken InitWord) rest) found left e = function_declared at InitSyntax rest found left e
  declaration_found (Next at (KeywordToken QueryWord) rest) found left e = function_declared at QuerySyntax rest found left e
  declaration_found (Next at (KeywordToken UpdateWord) rest) found left e = function_declared at UpdateSyntax rest found left e
  declaration_found tokens found left e = absurd (refused_found tokens found left e)

  -- a declaration that is written is found
  from : (at : Place) (token : Token) (others : List Written) (tokens left : Tokens) (result : Reading DeclarationSyntax)
      (h : First tokens (standing at token) others left)
      → read_declaration_at limit (Next at token h.rest) ≡ result → read_declaration_at limit tokens ≡ result
  from at token others tokens left result h e = ap (read_declaration_at limit) (head_is at token others tokens left h) ∙ e

  of_kind : (kind : KindSyntax) (at : Place) (rest : Tokens)
      → read_declaration_at limit (Next at (KeywordToken (kind_keyword kind)) rest) ≡ read_row (function_declaration_row at kind) limit rest
  of_kind InnerSyntax at rest = refl
  of_kind InitSyntax at rest = refl
  of_kind QuerySyntax at rest = refl
  of_kind UpdateSyntax at rest = refl

  declaration_complete : (declaration : DeclarationSyntax) (tokens left : Tokens) → Begin tokens (declaration_tokens declaration) left
      → IsDeclaration limit declaration → IsClear left → read_declaration_at limit tokens ≡ Found declaration left
  declaration_complete (TypeDeclaration at name constructors) tokens left begin within clear =
      let f = begin-first begin in
      from at (KeywordToken TypeWord) _ tokens left _ f
      (row_complete (type_row at) (λ name. tt) (name, constructors) f.rest left f.begin (within.0, within.1) clear)
  declaration_complete (StateDeclaration at of_type) tokens left begin within clear =
      let f = begin-first begin in
      from at (KeywordToken StateWord) _ tokens left _ f
      (row_complete (state_row at) (λ of_type. (refl, tt)) (of_type, tt) f.rest left f.begin (within, tt) clear)
  declaration_complete (FunctionDeclaration at function) tokens left begin within clear =
      let f = begin-first (begin-as (sym (function_grouped at function)) begin) in
      from at (KeywordToken (kind_keyword function.kind)) _ tokens left _ f
      (of_kind function.kind at f.rest
      ∙ row_complete (function_declaration_row at function.kind) tt function f.rest left f.begin
      (refl, within.has_parameter, within.parameters, within.result_type, within.body) clear)

  pub declarations_are : IsReader limit read_declaration_at declaration_tokens IsDeclaration
  declarations_are = record { sound = declaration_found; complete = declaration_complete }
