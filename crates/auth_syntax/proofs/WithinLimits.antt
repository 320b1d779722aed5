-- The tree of a text of at most 262,144 bytes is within the limits.
use Rattle.std.proofs.Common.{◌≡◌, ℕ, ◌≤◌, List, [], ◌∷◌, length, map, Option, Some, None, refl, sym, ap, subst, ◌∙◌, arith, length-append}
use Rattle.std.proofs.lemmas.List.Elements.{All-nil, All-cons, All-tail, All-append}
use Rattle.std.specs.Prelude.{All, flat_map}
use Rattle.core_terms.specs.declared.format.Format.{Format}
use Rattle.core_terms.specs.declared.format.Format.TheVariants.{First}
use Rattle.lexemes.specs.declared.place.Place.{Place}
use Rattle.lexemes.specs.Readings.{Found}
use Rattle.lexemes.specs.Tokens.{Tokens, End, tokens, count}
use Rattle.auth_syntax.specs.Syntax.{TypeSyntax, ExpSyntax, ParameterSyntax, ConstructorDeclaration, DeclarationSyntax, TypeDeclaration, StateDeclaration, FunctionDeclaration, Program}
use Rattle.auth_syntax.specs.ProgramTokens.{format_word, read_format, text_tokens, told_format}
use Rattle.auth_syntax.specs.Grammar.{type_levels, expression_levels, declarations_tokens, format_tokens, program_tokens, AreTypes, AreParameters, AreConstructors, IsDeclaration, AreDeclarations, IsProgramText}
use Rattle.auth_syntax.specs.Nesting.{nesting_limit}
use Rattle.auth_syntax.specs.Parsing.{read_declarations, read_program, parsed, as_program, end_of, Tree}
use Rattle.auth_syntax.specs.TreeLimits.{types_in_declaration, types_in_program, bodies_in_declaration, bodies_in_program, expression_limit, IsWithinLimits}
use Rattle.auth_syntax.proofs.Exact.{parsed_is_written}
use Rattle.auth_syntax.proofs.LimitsOfTokens.{HasNameSize, HasTextSize, names_written, texts_written, written_short, names_limited, texts_limited}
use Rattle.auth_syntax.proofs.LimitsOfTrees.{program_names, program_texts, program_counted}

-- nested no further than the limit
abbrev IsShallowType : TypeSyntax → Type 0
IsShallowType t = type_levels t ≤ nesting_limit

abbrev IsShallowBody : ExpSyntax → Type 0
IsShallowBody body = expression_levels body ≤ nesting_limit

types_shallow : (ts : List TypeSyntax) → AreTypes nesting_limit ts → All IsShallowType ts
types_shallow [] h = All-nil IsShallowType
types_shallow (t ∷ rest) h = All-cons IsShallowType t rest h.0.1 (types_shallow rest h.1)

fields_shallow : (constructors : List ConstructorDeclaration) → AreConstructors nesting_limit constructors
    → All IsShallowType (flat_map (λ (constructor : ConstructorDeclaration). constructor.fields) constructors)
fields_shallow [] h = All-nil IsShallowType
fields_shallow (constructor ∷ rest) h =
    All-append IsShallowType constructor.fields _ (types_shallow constructor.fields h.0) (fields_shallow rest h.1)

parameters_shallow : (parameters : List ParameterSyntax) → AreParameters nesting_limit parameters
    → All IsShallowType (map (λ (parameter : ParameterSyntax). parameter.of_type) parameters)
parameters_shallow [] h = All-nil IsShallowType
parameters_shallow (parameter ∷ rest) h = All-cons IsShallowType parameter.of_type _ h.0.1 (parameters_shallow rest h.1)

declaration_shallow : (declaration : DeclarationSyntax) → IsDeclaration nesting_limit declaration
    → All IsShallowType (types_in_declaration declaration) × All IsShallowBody (bodies_in_declaration declaration)
declaration_shallow (TypeDeclaration at name constructors) h = (fields_shallow constructors h.1, All-nil IsShallowBody)
declaration_shallow (StateDeclaration at of_type) h =
    (All-cons IsShallowType of_type [] h.1 (All-nil IsShallowType), All-nil IsShallowBody)
declaration_shallow (FunctionDeclaration at function) h = (
  All-append IsShallowType (map (λ (parameter : ParameterSyntax). parameter.of_type) function.parameters) (function.result_type ∷ [])
      (parameters_shallow function.parameters h.parameters)
      (All-cons IsShallowType function.result_type [] h.result_type.1 (All-nil IsShallowType)),
  All-cons IsShallowBody function.body [] h.body.1 (All-nil IsShallowBody),
)

program_shallow : (declarations : List DeclarationSyntax) → AreDeclarations nesting_limit declarations
    → All IsShallowType (types_in_program declarations) × All IsShallowBody (bodies_in_program declarations)
program_shallow [] h = (All-nil IsShallowType, All-nil IsShallowBody)
program_shallow (declaration ∷ rest) h =
    let first = declaration_shallow declaration h.0 in
    let others = program_shallow rest h.1 in (
      All-append IsShallowType (types_in_declaration declaration) (types_in_program rest) first.0 others.0,
      All-append IsShallowBody (bodies_in_declaration declaration) (bodies_in_program rest) first.1 others.1,
    )

-- behind what a program tells of its format stand its declarations
names_behind : (told : Option Format) (declarations : List DeclarationSyntax) → All HasNameSize (names_written (program_tokens told declarations))
    → All HasNameSize (names_written (declarations_tokens declarations))
names_behind None declarations h = h
names_behind (Some format) declarations h = All-tail HasNameSize format_word (names_written (declarations_tokens declarations)) h

texts_behind : (told : Option Format) (declarations : List DeclarationSyntax)
    → texts_written (program_tokens told declarations) ≡ texts_written (declarations_tokens declarations)
texts_behind None declarations = refl
texts_behind (Some format) declarations = refl

within_limits : (text : List ℕ) (program : Program) → length text ≤ expression_limit → IsProgramText text program
    → IsWithinLimits program.declarations
within_limits text program short h =
    let shallow = program_shallow program.declarations h.well_formed in
    let format = told_format (read_format (tokens First text)) in
    let written = program_tokens program.format program.declarations in
    record {
      names = subst (All HasNameSize) (program_names program.declarations)
          (names_behind program.format program.declarations (names_limited format text written program.end h.written));
      texts = subst (All HasTextSize) (texts_behind program.format program.declarations ∙ program_texts program.declarations)
          (texts_limited format text written program.end h.written);
      types = shallow.0;
      bodies = shallow.1;
      expressions = omega (
        arith,
        short,
        program_counted program.declarations,
        length-append (format_tokens program.format) (declarations_tokens program.declarations),
        written_short format text written program.end h.written,
      );
    }

-- the declarations that are read behind a format up to the end of a text are those of its program
pub read_is_tree : (text : List ℕ) (before : Tokens) (format : Option Format) (behind : Tokens) (declarations : List DeclarationSyntax) (rest : Tokens) (end : Place)
    → before ≡ text_tokens text → read_format before ≡ Found format behind → read_declarations (count behind) behind ≡ Found declarations rest → rest ≡ End end
    → parsed text ≡ Tree (record { format = format; declarations = declarations; end = end })
read_is_tree text before format behind declarations rest end whole told h h' =
    ap (λ (before : Tokens). read_program (read_format before)) (sym whole)
    ∙ ap read_program told ∙ ap (as_program format) h
    ∙ ap (λ (rest : Tokens). Tree (record { format = format; declarations = declarations; end = end_of rest })) h'

pub read_is_within_limits : (text : List ℕ) (before : Tokens) (format : Option Format) (behind : Tokens) (declarations : List DeclarationSyntax) (rest : Tokens)
    (end : Place) → length text ≤ expression_limit → before ≡ text_tokens text → read_format before ≡ Found format behind
    → read_declarations (count behind) behind ≡ Found declarations rest → rest ≡ End end → IsWithinLimits declarations
read_is_within_limits text before format behind declarations rest end short whole told h h' =
    let program : Program = record { format = format; declarations = declarations; end = end } in
    within_limits text program short (parsed_is_written text program (read_is_tree text before format behind declarations rest end whole told h h'))
