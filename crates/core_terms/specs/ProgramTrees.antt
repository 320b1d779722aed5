-- The program of the definitions that a table of types, named types and functions stand for.
use Rattle.std.specs.Prelude.{ℕ, Bool, ◌&&◌, List, [], ◌∷◌, length, map, nat_lt, None}
use Rattle.std.specs.List.{list_all}
use Rattle.core_terms.specs.Types.{Ty, Table}
use Rattle.core_terms.specs.ProgramFormats.{format_with}
use Rattle.core_terms.specs.Terms.{Expression, UnitE, BoolE, IntE, TextE, LocalE, PairE, FstE, SndE, NotE, LenE, AuthE, UnauthE, ConE, ArithE, CompareE, TextCompareE, CatE, LetE, IfE, MatchE, CallE, Expressions, NoE, AndE, Arms, NoArm, AndArm, OperateE, Operation, VecFill, VecGet, VecPut}
use Rattle.core_terms.specs.Terms as tree
use Rattle.core_terms.specs.Roles.{is_entered}
use Rattle.core_terms.specs.Texts.{bytes_of}
use Rattle.core_terms.specs.TypeDeclarations.{types_text}
use Rattle.core_terms.specs.TypeNames.{all_constructor_names, type_names}
use Rattle.core_terms.specs.TypeTables.{type_at, types_of_forms}
use Rattle.core_terms.specs.declared.format.Format.{Format}
use Rattle.core_terms.specs.declared.types.TyId.{TyId}
use Rattle.core_terms.specs.declared.types.TyForm.{TyForm}
use Rattle.core_terms.specs.declared.term.Term.{Term}
use Rattle.core_terms.specs.declared.term.Term.TheOpen.{Term-F}
use Rattle.core_terms.specs.declared.term.Term.TheFolds.{fold-Term}
use Rattle.core_terms.specs.declared.term.Operation as code_operation
use Rattle.core_terms.specs.declared.term.Operation.TheVariants as coded
use Rattle.core_terms.specs.declared.term.Kind.{Kind}
use Rattle.core_terms.specs.declared.term.Kind.TheVariants.{Inner, Init, Query, Update}
use Rattle.core_terms.specs.declared.term.Constructor.{Constructor}
use Rattle.core_terms.specs.declared.term.NamedType.{NamedType}
use Rattle.core_terms.specs.declared.term.Function.{Function}

-- expressions in a row, and arms in a row, from a list of them
abbrev pub in_a_row : List Expression → Expressions
in_a_row [] = NoE
in_a_row (x ∷ xs) = AndE x (in_a_row xs)

abbrev pub arms_in_a_row : List Expression → Arms
arms_in_a_row [] = NoArm
arms_in_a_row (body ∷ bodies) = AndArm body (arms_in_a_row bodies)

-- the operation, over these types
abbrev pub operation_of : List Ty → code_operation.Operation → Operation
operation_of types (coded.VecFill n item) = VecFill n (type_at types item)
operation_of types (coded.VecGet n item) = VecGet n (type_at types item)
operation_of types (coded.VecPut n item) = VecPut n (type_at types item)

-- the expression of a term over these types, where its parts stand for these expressions already
abbrev pub expression_from_parts : List Ty → Term-F Expression → Expression
expression_from_parts types Term-F.UnitLiteral = UnitE
expression_from_parts types (Term-F.BoolLiteral b) = BoolE b
expression_from_parts types (Term-F.IntLiteral z) = IntE z
expression_from_parts types (Term-F.TextLiteral text) = TextE (bytes_of text)
expression_from_parts types (Term-F.Local i) = LocalE i.0
expression_from_parts types (Term-F.Pair a b x y) = PairE (type_at types a) (type_at types b) x.value y.value
expression_from_parts types (Term-F.Fst a b x) = FstE (type_at types a) (type_at types b) x.value
expression_from_parts types (Term-F.Snd a b x) = SndE (type_at types a) (type_at types b) x.value
expression_from_parts types (Term-F.Not x) = NotE x.value
expression_from_parts types (Term-F.Len x) = LenE x.value
expression_from_parts types (Term-F.Auth t x) = AuthE (type_at types t) x.value
expression_from_parts types (Term-F.Unauth t x) = UnauthE (type_at types t) x.value
expression_from_parts types (Term-F.Constructor named tag fields) = ConE named.0 tag.0 (in_a_row fields.items)
expression_from_parts types (Term-F.Arith op x y) = ArithE op x.value y.value
expression_from_parts types (Term-F.Compare op x y) = CompareE op x.value y.value
expression_from_parts types (Term-F.TextCompare op x y) = TextCompareE op x.value y.value
expression_from_parts types (Term-F.Cat x y) = CatE x.value y.value
expression_from_parts types (Term-F.Let a bound body) = LetE (type_at types a) bound.value body.value
expression_from_parts types (Term-F.If test first other) = IfE test.value first.value other.value
expression_from_parts types (Term-F.Match named subject arms) = MatchE named.0 subject.value (arms_in_a_row arms.items)
expression_from_parts types (Term-F.Call f arguments) = CallE f.0 (in_a_row arguments.items)
expression_from_parts types (Term-F.Operate op operands) = OperateE (operation_of types op) (in_a_row operands.items)

-- a term as an expression, over the types of its program by number
abbrev pub expression_of : List Ty → Term → Expression
expression_of types = fold-Term Expression (expression_from_parts types)

-- the types with these numbers
abbrev pub types_at : List Ty → List TyId → List Ty
types_at types ids = map (type_at types) ids

-- the named types by number, and of each the field types of its constructors by tag
abbrev pub table_of : List Ty → List NamedType → Table
table_of types named = map (λ (declared : NamedType). map (λ (constructor : Constructor). types_at types constructor.fields.items) declared.constructors.items) named

-- the declarations of named types, printed
abbrev pub declared_text : List Ty → List NamedType → List ℕ
declared_text types named = types_text (type_names named) (all_constructor_names named) (table_of types named)

abbrev pub kind_of : Kind → tree.Kind
kind_of Inner = tree.Inner
kind_of Init = tree.Init
kind_of Query = tree.Query
kind_of Update = tree.Update

abbrev pub function_of : List Ty → Function → tree.Function
function_of types f = record {
  name = f.name;
  kind = kind_of f.kind;
  parameters = types_at types f.parameters.items;
  result = type_at types f.result;
  body = expression_of types f.body;
}

-- the function is a role
abbrev pub is_role : Function → Bool
is_role f = is_entered (kind_of f.kind)

-- the types with these numbers are among so many
abbrev pub are_below : ℕ → List TyId → Bool
are_below count ids = list_all (λ (id : TyId). nat_lt id.0 count) ids

-- so are the types of a named type's fields, and those of a function's parameters and result
abbrev pub has_fields_below : ℕ → NamedType → Bool
has_fields_below count declared = list_all (λ (constructor : Constructor). are_below count constructor.fields.items) declared.constructors.items

abbrev pub has_types_below : ℕ → Function → Bool
has_types_below count f = are_below count f.parameters.items && nat_lt f.result.0 count

-- the types of a program's state and fields are among so many
abbrev pub are_types_within : ℕ → List NamedType → TyId → Bool
are_types_within count named state = nat_lt state.0 count && list_all (has_fields_below count) named

-- the types of a program's state, fields, parameters and results are in its table
abbrev pub is_within : List TyForm → List NamedType → TyId → List Function → Bool
is_within forms named state functions =
    let count = length (types_of_forms forms) in
    nat_lt state.0 count && (list_all (has_fields_below count) named && list_all (has_types_below count) functions)

-- the program of this format
abbrev pub program_of : Format → List TyForm → List NamedType → TyId → List Function → tree.Program
program_of format forms named state functions =
    let types = types_of_forms forms in
    record {
      format = format_with format (declared_text types named);
      types = table_of types named;
      state = type_at types state;
      functions = map (function_of types) functions;
      code = None;
    }
