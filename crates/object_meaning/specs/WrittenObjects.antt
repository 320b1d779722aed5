-- The object that is written of a program.
use Rattle.std.specs.Prelude.{ℕ, suc, ◌+◌, List, [], ◌∷◌, ◌++◌, length, map, nat_le, ◌&&◌, Option, Some, None, option_map, slice_get, unwrap_or, if◌then◌else◌}
use Rattle.std.specs.Option.{is_some}
use Rattle.core_terms.specs.Types.{Ty, UnitTy, BoolTy, IntTy, TextTy, PairTy, NamedTy, AuthTy, VecTy, Table, same_type}
use Rattle.core_terms.specs.Terms as tree
use Rattle.core_terms.specs.Roles.{is_entered}
use Rattle.core_terms.specs.Instructions as code
use Rattle.core_terms.specs.Bodies.{FunctionCode}
use Rattle.core_terms.specs.GeneratedCode.{function_code}
use Rattle.object_meaning.specs.Objects.{ListedConstructor, ListedType, ListedUnit, ListedBool, ListedInt, ListedText, ListedPair, ListedNamed, ListedAuth, Instruction, PushUnit, PushBool, PushInt, PushText, Load, Bind, Unbind, Pair, Fst, Snd, Make, Switch, Branch, Jump, Call, Return, Auth, Unauth, ArithOp, CompareOp, TextCompareOp, Cat, Len, Not, ListedFunction, Object, most_object_bytes, most_listed_types}
use Rattle.object_meaning.specs.ObjectBytes.{object_bytes}

-- the place of a type among these
abbrev pub place_of : List Ty → Ty → Option ℕ
place_of [] t = None
place_of (u ∷ us) t = if same_type u t then Some 0 else option_map suc (place_of us t)

-- the number of a type that is among these
abbrev pub number_in : List Ty → Ty → ℕ
number_in types t = unwrap_or (place_of types t) 0

-- with a type behind them, where it isn't among them
abbrev pub once : List Ty → Ty → List Ty
once types t = if is_some (place_of types t) then types else types ++ t ∷ []

-- With a type and its parts, parts first. Arrays have no place in an object, and no program of the first format has one: what is written of
-- them here and below stands for nothing.
abbrev pub with_type : List Ty → Ty → List Ty
with_type types (PairTy a b) = once (with_type (with_type types a) b) (PairTy a b)
with_type types (AuthTy t) = once (with_type types t) (AuthTy t)
with_type types t = once types t

abbrev pub with_types : List Ty → List Ty → List Ty
with_types types [] = types
with_types types (t ∷ ts) = with_types (with_type types t) ts

-- the types that an instruction names
abbrev pub types_named : code.Instruction → List Ty
types_named (code.Auth t) = t ∷ []
types_named (code.Unauth t) = t ∷ []
types_named i = []

abbrev pub with_instructions : List Ty → List code.Instruction → List Ty
with_instructions types [] = types
with_instructions types (i ∷ is) = with_instructions (with_types types (types_named i)) is

-- function by function: the parameters, the result, the instructions
abbrev pub with_functions : List Ty → List FunctionCode → List Ty
with_functions types [] = types
with_functions types (g ∷ gs) = with_functions (with_instructions (with_type (with_types types g.parameters) g.result) g.code) gs

-- the named types, as many as there are, of which the first has number n
abbrev pub named_from : ℕ → Table → List Ty
named_from n [] = []
named_from n (cs ∷ types) = NamedTy n ∷ named_from (suc n) types

-- with the types of their fields
abbrev pub with_fields : List Ty → List (List Ty) → List Ty
with_fields types [] = types
with_fields types (ts ∷ cs) = with_fields (with_types types ts) cs

abbrev pub with_all_fields : List Ty → Table → List Ty
with_all_fields types [] = types
with_all_fields types (cs ∷ more) = with_all_fields (with_fields types cs) more

-- the code of a program's functions
abbrev pub codes_in : tree.Program → List FunctionCode
codes_in P = map (function_code P.types) P.functions

-- The types of the object, by number: the named ones; then those of their fields, of the state, and of the functions.
abbrev pub types_written : tree.Program → List Ty
types_written P = with_functions (with_type (with_all_fields (named_from 0 P.types) P.types) P.state) (codes_in P)

-- constructors with their names; where a name wants, there is none
abbrev pub constructors_written : List Ty → List (List Ty) → List (List ℕ) → List ListedConstructor
constructors_written types [] names = []
constructors_written types (ts ∷ cs) [] = record { name = []; fields = map (number_in types) ts } ∷ constructors_written types cs []
constructors_written types (ts ∷ cs) (name ∷ names) = record { name = name; fields = map (number_in types) ts } ∷ constructors_written types cs names

-- a type of the list, over the named types and the names of their constructors
abbrev pub type_written : List Ty → Table → List (List (List ℕ)) → Ty → ListedType
type_written types table names UnitTy = ListedUnit
type_written types table names BoolTy = ListedBool
type_written types table names IntTy = ListedInt
type_written types table names TextTy = ListedText
type_written types table names (PairTy a b) = ListedPair (number_in types a) (number_in types b)
type_written types table names (NamedTy n) = ListedNamed (constructors_written types (unwrap_or (slice_get table n) []) (unwrap_or (slice_get names n) []))
type_written types table names (AuthTy t) = ListedAuth (number_in types t)
type_written types table names (VecTy n t) = ListedUnit

-- the instruction to which so many are passed over, from instruction i
abbrev pub target_of : ℕ → ℕ → ℕ
target_of i n = suc (i + n)

abbrev pub instruction_written : List Ty → ℕ → code.Instruction → Instruction
instruction_written types i code.PushUnit = PushUnit
instruction_written types i (code.PushBool b) = PushBool b
instruction_written types i (code.PushInt z) = PushInt z
instruction_written types i (code.PushText bytes) = PushText bytes
instruction_written types i (code.Load n) = Load n
instruction_written types i code.Bind = Bind
instruction_written types i (code.Unbind n) = Unbind n
instruction_written types i code.Pair = Pair
instruction_written types i code.Fst = Fst
instruction_written types i code.Snd = Snd
instruction_written types i (code.Make number tag) = Make number tag
instruction_written types i (code.Switch number places) = Switch number (map (target_of i) places)
instruction_written types i (code.Branch n) = Branch (target_of i n)
instruction_written types i (code.Jump n) = Jump (target_of i n)
instruction_written types i (code.Call f) = Call f
instruction_written types i code.Return = Return
instruction_written types i (code.Auth t) = Auth (number_in types t)
instruction_written types i (code.Unauth t) = Unauth (number_in types t)
instruction_written types i (code.ArithOp op) = ArithOp op
instruction_written types i (code.CompareOp op) = CompareOp op
instruction_written types i (code.TextCompareOp op) = TextCompareOp op
instruction_written types i code.Cat = Cat
instruction_written types i code.Len = Len
instruction_written types i code.Not = Not
instruction_written types i (code.VecFill n) = Return
instruction_written types i code.VecGet = Return
instruction_written types i code.VecPut = Return

abbrev pub code_written : List Ty → ℕ → List code.Instruction → List Instruction
code_written types i [] = []
code_written types i (x ∷ xs) = instruction_written types i x ∷ code_written types (suc i) xs

-- the name that an object has of a function: only a role has one
abbrev pub name_written : tree.Function → List ℕ
name_written f = if is_entered f.kind then f.name else []

abbrev pub function_written : List Ty → Table → tree.Function → ListedFunction
function_written types table f =
    let g = function_code table f in
    record {
      kind = f.kind;
      name = name_written f;
      parameters = map (number_in types) f.parameters;
      result = number_in types f.result;
      code = code_written types 0 g.code;
    }

-- The object of a program, whose constructors have these names, by type and by tag.
abbrev pub object_of : tree.Program → List (List (List ℕ)) → Object
object_of P names =
    let types = types_written P in
    record {
      types = map (type_written types P.types names) types;
      state = number_in types P.state;
      functions = map (function_written types P.types) P.functions;
    }

-- Its bytes; none where there are too many of them, or too many types.
abbrev pub written : tree.Program → List (List (List ℕ)) → Option (List ℕ)
written P names =
    let bytes = object_bytes (object_of P names) in
    if nat_le (length bytes) most_object_bytes && nat_le (length (types_written P)) most_listed_types then Some bytes else None
