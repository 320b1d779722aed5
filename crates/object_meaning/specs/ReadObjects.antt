-- How an object is read from bytes, from left to right: the object that they begin with, or the first fault.
use Rattle.std.specs.Prelude.{ℕ, suc, ◌+◌, Bool, true, false, not, ◌&&◌, ◌||◌, List, [], ◌∷◌, ◌++◌, length, map, take, drop, nat_eq, nat_lt, nat_le, bytes_eq, slice_index_or, if◌then◌else◌}
use Rattle.std.specs.Char.{is_ascii_lowercase, is_ascii_uppercase}
use Rattle.std.specs.Int.{w64, cast_signed, from_be_bytes}
use Rattle.std.specs.List.{list_all}
use Rattle.std.specs.Option.{is_none}
use Rattle.std.specs.Str.{is_utf8}
use Rattle.core_terms.specs.Names.{longest_name}
use Rattle.core_terms.specs.ProgramLimits.{most_constructors, most_fields, most_functions, most_parameters, most_types}
use Rattle.core_terms.specs.Roles.{is_entered}
use Rattle.core_terms.specs.Terms.{Kind, Inner, Init, Query, Update}
use Rattle.core_terms.specs.Values.{int_fits}
use Rattle.core_terms.specs.declared.term.Arith.{Arith}
use Rattle.core_terms.specs.declared.term.Arith.TheVariants.{Add, Sub, Mul, Div, Rem}
use Rattle.core_terms.specs.declared.term.Compare.{Compare}
use Rattle.core_terms.specs.declared.term.Compare.TheVariants.{Eq, Lt, Le}
use Rattle.core_terms.specs.declared.term.TextCompare.{TextCompare}
use Rattle.core_terms.specs.declared.term.TextCompare.TheVariants.{Eq as TEq, Lt as TLt}
use Rattle.core_terms.specs.declared.format.Format.TheVariants.{First}
use Rattle.lexemes.specs.Tokens.{is_name_byte, keyword_of}
use Rattle.object_meaning.specs.Objects.{ListedConstructor, ListedType, ListedUnit, ListedBool, ListedInt, ListedText, ListedPair, ListedNamed, ListedAuth, Instruction, PushUnit, PushBool, PushInt, PushText, Load, Bind, Unbind, Pair, Fst, Snd, Make, Switch, Branch, Jump, Call, Return, Auth, Unauth, ArithOp, CompareOp, TextCompareOp, Cat, Len, Not, ListedFunction, Object, most_listed_types}
use Rattle.object_meaning.specs.ObjectBytes.{object_magic}
use Rattle.object_meaning.specs.Readers.{Taken, Took, CutShort, BadAt, Reader, then_take, taken_as, field, u8, u16, u32, any, within, text_behind, times_from, times, times_behind}

-- NAMES
-- a name of at most 64 bytes that begins with a byte of this kind
abbrev pub is_name_from : (ℕ → Bool) → List ℕ → Bool
is_name_from starts [] = false
is_name_from starts (b ∷ rest) = starts b && (list_all is_name_byte rest && nat_le (length (b ∷ rest)) longest_name)

abbrev pub is_upper_name : List ℕ → Bool
is_upper_name name = is_name_from is_ascii_uppercase name

-- a lower name, which is no keyword; the words of arrays are names, since objects are of the first format
abbrev pub is_lower_name : List ℕ → Bool
is_lower_name name = is_name_from is_ascii_lowercase name && is_none (keyword_of First name)

-- the name is one of these
abbrev pub is_among : List ℕ → List (List ℕ) → Bool
is_among name [] = false
is_among name (other ∷ others) = bytes_eq name other || is_among name others

-- a name behind its length, of this form and none of those before it; a fault stands at the length
abbrev pub name_read : (List ℕ → Bool) → List (List ℕ) → Reader (List ℕ)
name_read form before bytes place =
    then_take (u8 any bytes place) (λ n bytes behind. text_behind place (λ name. form name && not (is_among name before)) n bytes behind)

-- TYPES
-- the names of the constructors of these, and of the types
abbrev pub names_of : List ListedConstructor → List (List ℕ)
names_of constructors = map (λ (c : ListedConstructor). c.name) constructors

abbrev pub names_in : ListedType → List (List ℕ)
names_in (ListedNamed constructors) = names_of constructors
names_in t = []

abbrev pub all_names : List ListedType → List (List ℕ)
all_names [] = []
all_names (t ∷ ts) = names_in t ++ all_names ts

-- how many of the types are named ones
abbrev pub named_count : List ListedType → ℕ
named_count [] = 0
named_count (ListedNamed constructors ∷ ts) = suc (named_count ts)
named_count (t ∷ ts) = named_count ts

-- the types are the same, and none is a named one: each of these is a type of its own
abbrev pub same_listed : ListedType → ListedType → Bool
same_listed ListedUnit ListedUnit = true
same_listed ListedBool ListedBool = true
same_listed ListedInt ListedInt = true
same_listed ListedText ListedText = true
same_listed (ListedPair a b) (ListedPair c d) = nat_eq a c && nat_eq b d
same_listed (ListedAuth a) (ListedAuth b) = nat_eq a b
same_listed t u = false

abbrev pub is_listed : ListedType → List ListedType → Bool
is_listed t [] = false
is_listed t (u ∷ us) = same_listed t u || is_listed t us

-- a constructor of a program with so many types, where these names stood before: its name, and its fields
abbrev pub constructor_read : (count : ℕ) → List (List ℕ) → List ListedConstructor → Reader ListedConstructor
constructor_read count before others bytes place =
    then_take (name_read is_upper_name (before ++ names_of others) bytes place) (λ name bytes place.
    then_take (u8 (within 0 most_fields) bytes place) (λ fields bytes place.
    taken_as (λ fields. record { name = name; fields = fields }) (times fields (u32 (λ t. nat_lt t count)) bytes place)))

-- What stands behind each tag, in the order of the tags, where these types stood before.
abbrev pub type_readers : (count : ℕ) → List ListedType → List (Reader ListedType)
type_readers count before =
    let earlier = u32 (λ t. nat_lt t (length before)) in
    (λ bytes place. Took ListedUnit bytes place)
    ∷ (λ bytes place. Took ListedBool bytes place)
    ∷ (λ bytes place. Took ListedInt bytes place)
    ∷ (λ bytes place. Took ListedText bytes place)
    ∷ (λ bytes place. then_take (earlier bytes place) (λ a bytes place. taken_as (ListedPair a) (earlier bytes place)))
    ∷ (λ bytes place. then_take (u8 (within 1 most_constructors) bytes place) (λ n bytes place.
    taken_as ListedNamed (times_behind [] n (constructor_read count (all_names before)) bytes place)))
    ∷ (λ bytes place. taken_as ListedAuth (earlier bytes place))
    ∷ []

-- a tag that is allowed: a named type isn't, where there are as many as there may be
abbrev pub is_tag : List ListedType → ℕ → Bool
is_tag before tag = nat_lt tag 7 && (not (nat_eq tag 5) || nat_lt (named_count before) most_types)

abbrev pub nothing_read : {A : Type 0} → Reader A
nothing_read bytes place = BadAt place

-- a type that isn't listed yet; else it is at fault at its tag
abbrev pub new_type : List ListedType → (offset : ℕ) → Taken ListedType → Taken ListedType
new_type before offset t = then_take t (λ ty bytes place. if is_listed ty before then BadAt offset else Took ty bytes place)

abbrev pub type_read : (count : ℕ) → List ListedType → Reader ListedType
type_read count before bytes place =
    then_take (u8 (is_tag before) bytes place) (λ tag bytes behind. new_type before place (slice_index_or (type_readers count before) tag nothing_read bytes behind))

-- ROLES
abbrev pub kinds : List Kind
kinds = Inner ∷ Init ∷ Query ∷ Update ∷ []

-- the names of the roles among functions
abbrev pub role_names : List ListedFunction → List (List ℕ)
role_names [] = []
role_names (f ∷ fs) = if is_entered f.kind then f.name ∷ role_names fs else role_names fs

-- the name of a function that is a role, which is none of a role before it; any other function has no name
abbrev pub role_name_read : Kind → List ListedFunction → Reader (List ℕ)
role_name_read Inner before bytes place = taken_as (λ n. []) (u8 (nat_eq 0) bytes place)
role_name_read kind before bytes place = name_read is_lower_name (role_names before) bytes place

-- INSTRUCTIONS
abbrev pub constructors_in : ListedType → List ListedConstructor
constructors_in (ListedNamed constructors) = constructors
constructors_in t = []

-- the constructors of the type with a number; none where it isn't a named one
abbrev pub constructors_of : List ListedType → ℕ → List ListedConstructor
constructors_of types ty = constructors_in (slice_index_or types ty ListedUnit)

abbrev pub is_named : List ListedType → ℕ → Bool
is_named types ty = nat_lt 0 (length (constructors_of types ty))

abbrev pub ariths : List Arith
ariths = Add ∷ Sub ∷ Mul ∷ Div ∷ Rem ∷ []

abbrev pub compares : List Compare
compares = Eq ∷ Lt ∷ Le ∷ []

abbrev pub text_compares : List TextCompare
text_compares = TEq ∷ TLt ∷ []

abbrev pub text_read : Reader Instruction
text_read bytes place =
    then_take (u32 (within 0 65532) bytes place) (λ n bytes behind. taken_as PushText (text_behind place is_utf8 n bytes behind))

-- an int of 8 bytes: of bytes each one is
abbrev pub is_int : ℕ → Bool
is_int n = int_fits (cast_signed w64 n)

abbrev pub int_read : Reader Instruction
int_read bytes place = taken_as (λ n. PushInt (cast_signed w64 n)) (field 8 (from_be_bytes w64) is_int bytes place)

module _ (types : List ListedType) (functions : ℕ) where
  -- What stands behind the byte of each instruction, in the order of the table of instructions; for instruction i, of n in its function.
  abbrev pub operand_readers : (i n : ℕ) → List (Reader Instruction)
  operand_readers i n =
      let ty = u32 (λ t. nat_lt t (length types)) in
      let named = u32 (is_named types) in
      let target = u32 (λ t. nat_lt i t && nat_lt t n) in
      (λ bytes place. Took PushUnit bytes place)
      ∷ (λ bytes place. taken_as (λ b. PushBool (nat_eq b 1)) (u8 (within 0 1) bytes place))
      ∷ int_read
      ∷ text_read
      ∷ (λ bytes place. taken_as Load (u8 any bytes place))
      ∷ (λ bytes place. Took Bind bytes place)
      ∷ (λ bytes place. taken_as Unbind (u8 any bytes place))
      ∷ (λ bytes place. Took Pair bytes place)
      ∷ (λ bytes place. Took Fst bytes place)
      ∷ (λ bytes place. Took Snd bytes place)
      ∷ (λ bytes place. then_take (named bytes place) (λ ty bytes place. taken_as (Make ty) (u8 (λ tag. nat_lt tag (length (constructors_of types ty))) bytes place)))
      ∷ (λ bytes place. then_take (named bytes place) (λ ty bytes place. taken_as (Switch ty) (times (length (constructors_of types ty)) target bytes place)))
      ∷ (λ bytes place. taken_as Branch (target bytes place))
      ∷ (λ bytes place. taken_as Jump (target bytes place))
      ∷ (λ bytes place. taken_as Call (u16 (λ f. nat_lt f functions) bytes place))
      ∷ (λ bytes place. Took Return bytes place)
      ∷ (λ bytes place. taken_as Auth (ty bytes place))
      ∷ (λ bytes place. taken_as Unauth (ty bytes place))
      ∷ (λ bytes place. taken_as (λ op. ArithOp (slice_index_or ariths op Add)) (u8 (within 0 4) bytes place))
      ∷ (λ bytes place. taken_as (λ op. CompareOp (slice_index_or compares op Eq)) (u8 (within 0 2) bytes place))
      ∷ (λ bytes place. taken_as (λ op. TextCompareOp (slice_index_or text_compares op TEq)) (u8 (within 0 1) bytes place))
      ∷ (λ bytes place. Took Cat bytes place)
      ∷ (λ bytes place. Took Len bytes place)
      ∷ (λ bytes place. Took Not bytes place)
      ∷ []

  abbrev pub instruction_read : (n i : ℕ) → Reader Instruction
  instruction_read n i bytes place =
      then_take (u8 (within 0 23) bytes place) (λ code bytes place. slice_index_or (operand_readers i n) code nothing_read bytes place)

  -- FUNCTIONS
  abbrev pub type_number : Reader ℕ
  type_number bytes place = u32 (λ t. nat_lt t (length types)) bytes place

  -- a function behind the number of its instructions, its result, its parameters and their number, its name, its kind
  abbrev pub behind_length : Kind → List ℕ → List ℕ → ℕ → ℕ → Reader ListedFunction
  behind_length kind name parameters result n bytes place =
      taken_as (λ code. record { kind = kind; name = name; parameters = parameters; result = result; code = code }) (times_from 0 n (instruction_read n) bytes place)

  abbrev pub behind_result : Kind → List ℕ → List ℕ → ℕ → Reader ListedFunction
  behind_result kind name parameters result bytes place = then_take (u32 (nat_le 1) bytes place) (behind_length kind name parameters result)

  abbrev pub behind_parameters : Kind → List ℕ → List ℕ → Reader ListedFunction
  behind_parameters kind name parameters bytes place = then_take (type_number bytes place) (behind_result kind name parameters)

  abbrev pub behind_count : Kind → List ℕ → ℕ → Reader ListedFunction
  behind_count kind name count bytes place = then_take (times count type_number bytes place) (behind_parameters kind name)

  abbrev pub behind_name : Kind → List ℕ → Reader ListedFunction
  behind_name kind name bytes place = then_take (u8 (within 1 most_parameters) bytes place) (behind_count kind name)

  abbrev pub behind_kind : List ListedFunction → Kind → Reader ListedFunction
  behind_kind before kind bytes place = then_take (role_name_read kind before bytes place) (behind_name kind)

  abbrev pub function_read : List ListedFunction → Reader ListedFunction
  function_read before bytes place = then_take (u8 (within 0 3) bytes place) (λ number. behind_kind before (slice_index_or kinds number Inner))

-- WHOLE OBJECTS
abbrev pub magic_read : Reader ℕ
magic_read bytes place =
    if nat_lt (length bytes) 4 then CutShort else (if bytes_eq (take 4 bytes) object_magic then Took 0 (drop 4 bytes) (place + 4) else BadAt place)

-- an object behind the number of its functions, its state, its types and their number, and the magic
abbrev pub behind_function_count : List ListedType → ℕ → ℕ → Reader Object
behind_function_count types state functions bytes place =
    taken_as (λ functions. record { types = types; state = state; functions = functions }) (times_behind [] functions (function_read types functions) bytes place)

abbrev pub behind_state : List ListedType → ℕ → Reader Object
behind_state types state bytes place = then_take (u16 (within 0 most_functions) bytes place) (behind_function_count types state)

abbrev pub behind_types : ℕ → List ListedType → Reader Object
behind_types count types bytes place = then_take (u32 (λ t. nat_lt t count) bytes place) (behind_state types)

abbrev pub behind_type_count : ℕ → Reader Object
behind_type_count count bytes place = then_take (times_behind [] count (type_read count) bytes place) (behind_types count)

abbrev pub behind_magic : ℕ → Reader Object
behind_magic magic bytes place = then_take (u32 (within 0 most_listed_types) bytes place) behind_type_count

abbrev pub object_read : Reader Object
object_read bytes place = then_take (magic_read bytes place) behind_magic
