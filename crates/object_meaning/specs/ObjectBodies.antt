-- What an object is as code: its types as trees, and its functions with the code that they run.
use Rattle.std.specs.Prelude.{ℕ, suc, ◌+◌, ◌-◌, List, [], ◌∷◌, ◌++◌, codes, map, Some, slice_index_or, if◌then◌else◌}
use Rattle.core_terms.specs.Types.{Ty, UnitTy, BoolTy, IntTy, TextTy, PairTy, NamedTy, AuthTy, Table}
use Rattle.core_terms.specs.Formats.{Format, first_format}
use Rattle.core_terms.specs.ProgramFormats.{most_kept_pieces}
use Rattle.core_terms.specs.Roles.{is_entered}
use Rattle.core_terms.specs.Terms as tree
use Rattle.core_terms.specs.Instructions as code
use Rattle.core_terms.specs.Bodies.{Body, FunctionCode}
use Rattle.object_meaning.specs.Objects.{ListedConstructor, ListedType, ListedUnit, ListedBool, ListedInt, ListedText, ListedPair, ListedNamed, ListedAuth, Instruction, PushUnit, PushBool, PushInt, PushText, Load, Bind, Unbind, Pair, Fst, Snd, Make, Switch, Branch, Jump, Call, Return, Auth, Unauth, ArithOp, CompareOp, TextCompareOp, Cat, Len, Not, ListedFunction, Object}
use Rattle.object_meaning.specs.ReadObjects.{named_count, names_of}

-- the type with a number, among these
abbrev pub listed_at : List Ty → ℕ → Ty
listed_at types n = slice_index_or types n UnitTy

-- a listed type behind these, of which so many are named ones: the named types are numbered in their order
abbrev pub tree_of : List Ty → ℕ → ListedType → Ty
tree_of before named ListedUnit = UnitTy
tree_of before named ListedBool = BoolTy
tree_of before named ListedInt = IntTy
tree_of before named ListedText = TextTy
tree_of before named (ListedPair a b) = PairTy (listed_at before a) (listed_at before b)
tree_of before named (ListedNamed constructors) = NamedTy named
tree_of before named (ListedAuth a) = AuthTy (listed_at before a)

abbrev pub trees_behind : List Ty → ℕ → List ListedType → List Ty
trees_behind before named [] = before
trees_behind before named (t ∷ ts) = trees_behind (before ++ tree_of before named t ∷ []) (named + named_count (t ∷ [])) ts

-- the listed types as trees
abbrev pub trees_of : List ListedType → List Ty
trees_of types = trees_behind [] 0 types

-- the named types among these, and of each the field types of its constructors
abbrev pub named_tables : List Ty → List ListedType → Table
named_tables trees [] = []
named_tables trees (ListedNamed constructors ∷ ts) = map (λ (c : ListedConstructor). map (listed_at trees) c.fields) constructors ∷ named_tables trees ts
named_tables trees (t ∷ ts) = named_tables trees ts

-- the names of the constructors of each named type, by number and by tag
abbrev pub constructor_names : List ListedType → List (List (List ℕ))
constructor_names [] = []
constructor_names (ListedNamed constructors ∷ ts) = names_of constructors ∷ constructor_names ts
constructor_names (t ∷ ts) = constructor_names ts

-- the number of a named type
abbrev pub number_of : Ty → ℕ
number_of (NamedTy n) = n
number_of t = 0

-- how many instructions are passed over from instruction i to another one behind it
abbrev pub passed : ℕ → ℕ → ℕ
passed i target = target - suc i

-- instruction i of a function, over these types
abbrev pub instruction_of : List Ty → ℕ → Instruction → code.Instruction
instruction_of trees i PushUnit = code.PushUnit
instruction_of trees i (PushBool b) = code.PushBool b
instruction_of trees i (PushInt z) = code.PushInt z
instruction_of trees i (PushText bytes) = code.PushText bytes
instruction_of trees i (Load n) = code.Load n
instruction_of trees i Bind = code.Bind
instruction_of trees i (Unbind n) = code.Unbind n
instruction_of trees i Pair = code.Pair
instruction_of trees i Fst = code.Fst
instruction_of trees i Snd = code.Snd
instruction_of trees i (Make ty tag) = code.Make (number_of (listed_at trees ty)) tag
instruction_of trees i (Switch ty targets) = code.Switch (number_of (listed_at trees ty)) (map (passed i) targets)
instruction_of trees i (Branch target) = code.Branch (passed i target)
instruction_of trees i (Jump target) = code.Jump (passed i target)
instruction_of trees i (Call f) = code.Call f
instruction_of trees i Return = code.Return
instruction_of trees i (Auth ty) = code.Auth (listed_at trees ty)
instruction_of trees i (Unauth ty) = code.Unauth (listed_at trees ty)
instruction_of trees i (ArithOp op) = code.ArithOp op
instruction_of trees i (CompareOp op) = code.CompareOp op
instruction_of trees i (TextCompareOp op) = code.TextCompareOp op
instruction_of trees i Cat = code.Cat
instruction_of trees i Len = code.Len
instruction_of trees i Not = code.Not

-- instructions of which the first has number i
abbrev pub code_from : List Ty → ℕ → List Instruction → List code.Instruction
code_from trees i [] = []
code_from trees i (x ∷ xs) = instruction_of trees i x ∷ code_from trees (suc i) xs

abbrev pub function_in : List Ty → ListedFunction → FunctionCode
function_in trees f = record { parameters = map (listed_at trees) f.parameters; result = listed_at trees f.result; code = code_from trees 0 f.code }

-- objects are of the first format
abbrev pub object_format : Format
object_format = first_format most_kept_pieces

-- the object as code
abbrev pub body_in : Object → Body
body_in o =
    let trees = trees_of o.types in
    record { limit = object_format.limit; types = named_tables trees o.types; functions = map (function_in trees) o.functions }

-- The name of a function in the program of an object. A function that is no role has none in the object, and each function of a program has
-- one: it is named `fun`. That is a keyword, so no role has this name; and by their names roles alone are found.
abbrev pub name_declared : tree.Kind → List ℕ → List ℕ
name_declared kind name = if is_entered kind then name else codes "fun"

-- The object as a program of the definitions, which is compiled: its functions are declared, without bodies, and each has its code. All that
-- is said of programs (meanings, verdicts, sessions) is said of an object by this one.
abbrev pub declared_in : List Ty → ListedFunction → tree.Function
declared_in trees f =
    record { name = name_declared f.kind f.name; kind = f.kind; parameters = map (listed_at trees) f.parameters; result = listed_at trees f.result; body = tree.UnitE }

abbrev pub code_in : List Ty → ListedFunction → List code.Instruction
code_in trees f = code_from trees 0 f.code

abbrev pub program_in : Object → tree.Program
program_in o =
    let trees = trees_of o.types in
    record {
      format = object_format;
      types = named_tables trees o.types;
      state = listed_at trees o.state;
      functions = map (declared_in trees) o.functions;
      code = Some (map (code_in trees) o.functions);
    }
