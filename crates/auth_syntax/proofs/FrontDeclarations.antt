-- The readers of declarations, on tokens that only begin alike.
use Rattle.std.proofs.Common.{◌≡◌, ℕ, ◌≤◌, List, [], ◌∷◌, refl, ap, ◌∙◌, arith}
use Rattle.lexemes.specs.declared.place.Place.{Place}
use Rattle.lexemes.specs.declared.fault.SyntaxKind.{SyntaxKind}
use Rattle.lexemes.specs.declared.token.Keyword.TheVariants.{«Type» as TypeWord, State as StateWord, Fun as FunWord, Init as InitWord, Query as QueryWord, Update as UpdateWord}
use Rattle.lexemes.specs.declared.token.Mark.TheVariants.{Semicolon, Bar}
use Rattle.lexemes.specs.Tokens.{Token, KeywordToken, Tokens, Next, End, Faulty}
use Rattle.auth_syntax.specs.Syntax.{TypeSyntax, UnitTypeSyntax, LocalSyntax, ParameterSyntax, KindSyntax, InnerSyntax, InitSyntax, QuerySyntax, UpdateSyntax, FunctionSyntax, ConstructorDeclaration, DeclarationSyntax, TypeDeclaration, StateDeclaration, FunctionDeclaration}
use Rattle.auth_syntax.specs.Grammar.{standing, mark, types_tokens, parameter_tokens, parameters_tokens, constructor_tokens, constructors_tokens, kind_keyword, declaration_tokens, AreTypes, AreParameters, AreConstructors, IsDeclaration}
use Rattle.lexemes.specs.Readings.{Reading, Found, FaultAt}
use Rattle.auth_syntax.specs.Parsing.{read_bar}
use Rattle.auth_syntax.proofs.Readers.{Row, read_row}
use Rattle.auth_syntax.proofs.Lists.{bars}
use Rattle.auth_syntax.proofs.Types.{types}
use Rattle.auth_syntax.proofs.Declarations.{parameter_row, is_parameter, parameter_reader, parameters_listed, parameter_list, types_listed, function_row, function_written, function_grouped, is_of_kind, function_declaration_row, field_types, constructor_row, is_constructor, constructor_reader, constructors_listed, constructor_list, type_row, state_row, read_declaration_at}
use Rattle.auth_syntax.proofs.Fronts.{CanBegin, Taken, Stuck, IsLocal}
use Rattle.auth_syntax.proofs.FrontRows.{some_name}
use Rattle.auth_syntax.proofs.Productions.{HasSome, IsHeaded, token_taken, token_stuck, token_refused, rest_refused, row_local}
use Rattle.auth_syntax.proofs.FrontLists.{counted_local}
use Rattle.auth_syntax.proofs.FrontCommas.{bar_one, list_local, optional_local}
use Rattle.auth_syntax.proofs.FrontTypes.{type_widen, types_local}
use Rattle.auth_syntax.proofs.FrontExpressions.{expressions_local}

abbrev some_place : Place
some_place = record { offset = 0; line = 1; column = 1 }

abbrev some_parameter : ParameterSyntax
some_parameter = record { name = some_name; of_type = UnitTypeSyntax some_place }

abbrev some_constructor : ConstructorDeclaration
some_constructor = record { name = some_name; fields = [] }

-- what is within a limit is within a wider one
types_widen : (n wider : ℕ) (ts : List TypeSyntax) → n ≤ wider → AreTypes n ts → AreTypes wider ts
types_widen n wider [] h fits = tt
types_widen n wider (t ∷ rest) h fits = (type_widen n wider t h fits.0, types_widen n wider rest h fits.1)

parameters_widen : (n wider : ℕ) (ps : List ParameterSyntax) → n ≤ wider → AreParameters n ps → AreParameters wider ps
parameters_widen n wider [] h fits = tt
parameters_widen n wider (p ∷ rest) h fits = (type_widen n wider p.of_type h fits.0, parameters_widen n wider rest h fits.1)

constructors_widen : (n wider : ℕ) (cs : List ConstructorDeclaration) → n ≤ wider → AreConstructors n cs → AreConstructors wider cs
constructors_widen n wider [] h fits = tt
constructors_widen n wider (c ∷ rest) h fits = (types_widen n wider c.fields h fits.0, constructors_widen n wider rest h fits.1)

pub declaration_widen : (n wider : ℕ) (d : DeclarationSyntax) → n ≤ wider → IsDeclaration n d → IsDeclaration wider d
declaration_widen n wider (TypeDeclaration at name constructors) h fits = (fits.0, constructors_widen n wider constructors h fits.1)
declaration_widen n wider (StateDeclaration at of_type) h fits = type_widen n wider of_type h fits
declaration_widen n wider (FunctionDeclaration at function) h fits = record {
  has_parameter = fits.has_parameter;
  parameters = parameters_widen n wider function.parameters h fits.parameters;
  result_type = type_widen n wider function.result_type h fits.result_type;
  body = (fits.body.0, omega (arith, fits.body.1));
}

module _ (limit : ℕ) where
  parameter_local : IsLocal limit (read_row (parameter_row limit)) parameter_tokens (is_parameter limit)
  parameter_local =
      row_local limit (parameter_row limit) parameter_tokens (is_parameter limit) (λ name. types_local limit) (λ n things fits. (refl, fits))
      some_parameter (λ n. (tt, omega arith)) (λ n wider p h fits. type_widen n wider p.of_type h fits)

  parameter_list_local : IsLocal limit (parameter_list limit).read (parameter_list limit).written (parameter_list limit).within
  parameter_list_local =
      list_local limit (parameter_reader limit) parameters_tokens AreParameters parameters_listed parameter_local parameters_widen

  abbrev some_function : KindSyntax → FunctionSyntax
  some_function kind = record {
    kind = kind;
    name = some_name;
    parameters = some_parameter ∷ [];
    result_type = UnitTypeSyntax some_place;
    body = LocalSyntax some_place [];
  }

  function_local : (kind : KindSyntax)
      → IsLocal limit (read_row (function_row limit kind)) (function_written limit) (is_of_kind limit kind)
  function_local kind =
      row_local limit (function_row limit kind) (function_written limit) (is_of_kind limit kind)
      (λ name. (parameter_list_local, λ parameters. (types_local limit, λ result_type. (expressions_local limit, λ body. tt))))
      (λ n t w. (refl, (refl, w.0.0, w.0.1, w.1.0, w.1.1.0)))
      (some_function kind) (λ n. (refl, tt, ((tt, omega arith), tt), (tt, omega arith), (tt, omega arith)))
      (λ n wider f h fits. (fits.0, fits.1, parameters_widen n wider f.parameters h fits.2, type_widen n wider f.result_type h fits.3, (fits.4.0, omega (arith, fits.4.1))))

  field_types_local : IsLocal limit (field_types limit).read (field_types limit).written (field_types limit).within
  field_types_local =
      optional_local limit (types limit) types_tokens AreTypes types_listed (types_local limit) types_widen

  constructor_local : IsLocal limit (read_row (constructor_row limit)) constructor_tokens (is_constructor limit)
  constructor_local =
      row_local limit (constructor_row limit) constructor_tokens (is_constructor limit) (λ name. field_types_local) (λ n things fits. (refl, fits))
      some_constructor (λ n. tt) (λ n wider c h fits. types_widen n wider c.fields h fits)

  constructor_list_local : IsLocal limit (constructor_list limit).read (constructor_list limit).written (constructor_list limit).within
  constructor_list_local =
      counted_local limit (constructor_reader limit) (mark Bar) (mark Semicolon) constructors_tokens AreConstructors constructors_listed
      read_bar bars constructor_local bar_one constructors_widen

  -- the declarations
  abbrev read : ℕ → Tokens → Reading DeclarationSyntax
  read = read_declaration_at limit

  abbrev is_declared : ℕ → DeclarationSyntax → Type 0
  is_declared = IsDeclaration

  some_is : HasSome limit read declaration_tokens is_declared
  some_is = record { some = StateDeclaration some_place (UnitTypeSyntax some_place); some_fits = λ n. (tt, omega arith) }

  abbrev Headed : Place → Token → Row limit DeclarationSyntax → Type 0
  Headed = IsHeaded limit read declaration_tokens is_declared

  type_is : (at : Place) → Headed at (KeywordToken TypeWord) (type_row limit at)
  type_is at = record {
    local = λ name. constructor_list_local;
    makes = λ n t w. (refl, (w.0, w.1));
    reads = λ wider rest. refl;
  }

  state_is : (at : Place) → Headed at (KeywordToken StateWord) (state_row limit at)
  state_is at = record {
    local = (types_local limit, λ of_type. tt);
    makes = λ n t w. (refl, w.0);
    reads = λ wider rest. refl;
  }

  function_is : (at : Place) (kind : KindSyntax)
      → ((wider : ℕ) (rest : Tokens) → read wider (Next at (KeywordToken (kind_keyword kind)) rest)
      ≡ read_row (function_declaration_row limit at kind) wider rest)
      → Headed at (KeywordToken (kind_keyword kind)) (function_declaration_row limit at kind)
  function_is at kind reads = record {
    local = function_local kind;
    makes = λ n f w. (
      ap (λ (k : KindSyntax). standing at (KeywordToken (kind_keyword k)) ∷ function_written limit f) w.0 ∙ function_grouped limit at f,
      record { has_parameter = w.1; parameters = w.2; result_type = w.3; body = w.4 },
    );
    reads = reads;
  }

  inner_is : (at : Place) → Headed at (KeywordToken FunWord) (function_declaration_row limit at InnerSyntax)
  inner_is at = function_is at InnerSyntax (λ wider rest. refl)

  init_is : (at : Place) → Headed at (KeywordToken InitWord) (function_declaration_row limit at InitSyntax)
  init_is at = function_is at InitSyntax (λ wider rest. refl)

  query_is : (at : Place) → Headed at (KeywordToken QueryWord) (function_declaration_row limit at QuerySyntax)
  query_is at = function_is at QuerySyntax (λ wider rest. refl)

  update_is : (at : Place) → Headed at (KeywordToken UpdateWord) (function_declaration_row limit at UpdateSyntax)
  update_is at = function_is at UpdateSyntax (λ wider rest. refl)

  declaration_taken : (before : Tokens) (found : DeclarationSyntax) (left : Tokens) → read limit before ≡ Found found left
      → Taken limit read (λ d. d) declaration_tokens is_declared before found left
  declaration_taken (Next at (KeywordToken TypeWord) rest) found left e = token_taken limit read declaration_tokens is_declared at _ _ (type_is at) rest found left e
  declaration_taken (Next at (KeywordToken StateWord) rest) found left e = token_taken limit read declaration_tokens is_declared at _ _ (state_is at) rest found left e
  declaration_taken (Next at (KeywordToken FunWord) rest) found left e = token_taken limit read declaration_tokens is_declared at _ _ (inner_is at) rest found left e
  declaration_taken (Next at (KeywordToken InitWord) rest) found left e = token_taken limit read declaration_tokens is_declared at _ _ (init_is at) rest found left e
  declaration_taken (Next at (KeywordToken QueryWord) rest) found left e = token_taken limit read declaration_tokens is_declared at _ _ (query_is at) rest found left e
  declaration_taken (Next at (KeywordToken UpdateWord) rest) found left e = token_taken limit read declaration_tokens is_declared at _ _ (update_is at) rest found left e
  declaration_taken before found left e = absurd (cc)

  token_not_declared : (at : Place) (token : Token) (rest : Tokens) (kind : SyntaxKind) (place : Place) → read limit (Next at token rest) ≡ FaultAt kind place
      → Stuck limit read (CanBegin declaration_tokens is_declared) (Next at token rest) kind place
  token_not_declared at (KeywordToken TypeWord) rest kind place e = token_stuck limit read declaration_tokens is_declared at _ _ (type_is at) rest kind place e
  token_not_declared at (KeywordToken StateWord) rest kind place e = token_stuck limit read declaration_tokens is_declared at _ _ (state_is at) rest kind place e
  token_not_declared at (KeywordToken FunWord) rest kind place e = token_stuck limit read declaration_tokens is_declared at _ _ (inner_is at) rest kind place e
  token_not_declared at (KeywordToken InitWord) rest kind place e = token_stuck limit read declaration_tokens is_declared at _ _ (init_is at) rest kind place e
  token_not_declared at (KeywordToken QueryWord) rest kind place e = token_stuck limit read declaration_tokens is_declared at _ _ (query_is at) rest kind place e
  token_not_declared at (KeywordToken UpdateWord) rest kind place e = token_stuck limit read declaration_tokens is_declared at _ _ (update_is at) rest kind place e
  token_not_declared at token rest kind place e = token_refused limit read declaration_tokens is_declared some_is at token rest kind place (λ wider rest. refl) (λ int wider rest. refl) e

  declaration_stuck : (before : Tokens) (kind : SyntaxKind) (place : Place) → read limit before ≡ FaultAt kind place
      → Stuck limit read (CanBegin declaration_tokens is_declared) before kind place
  declaration_stuck (Next at token rest) kind place e = token_not_declared at token rest kind place e
  declaration_stuck (End at) kind place e = rest_refused limit read declaration_tokens is_declared some_is (End at) kind place e (λ at token rest e. cc)
  declaration_stuck (Faulty at fault) kind place e =
      rest_refused limit read declaration_tokens is_declared some_is (Faulty at fault) kind place e (λ at token rest e. cc)

  pub declarations_local : IsLocal limit (read_declaration_at limit) declaration_tokens IsDeclaration
  declarations_local = record {
    taken = declaration_taken;
    stuck = declaration_stuck;
    some = StateDeclaration some_place (UnitTypeSyntax some_place);
    some_fits = λ n. (tt, omega arith);
    widen = declaration_widen;
  }
