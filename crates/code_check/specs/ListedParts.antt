-- What the parts of a program have to do with the parts of an object that they are made of. The types of the object go by their numbers in
-- its list, those of the program by their numbers in a table: `numbers` has for each listed type the number in the table.
use Rattle.std.specs.Prelude.{◌≡◌, ◌<◌, ◌≤◌, ℕ, suc, true, List, [], ◌∷◌, length, map, codes, nat_lt, ◌&&◌, Vec, All}
use Rattle.std.specs.List.{AllZip, list_all}
use Rattle.std.specs.declared.alloc.Global.{Global}
use Rattle.core_terms.specs.Names.{IsName}
use Rattle.core_terms.specs.Roles.{is_entered}
use Rattle.core_terms.specs.Types.{Ty}
use Rattle.core_terms.specs.ProgramTrees.{are_below, function_of, has_fields_below, has_types_below, table_of, types_at}
use Rattle.core_terms.specs.Terms.{Kind}
use Rattle.core_terms.specs.TypeNames.{AreNamed, all_constructor_names}
use Rattle.core_terms.specs.TypeTables.{type_at}
use Rattle.core_terms.specs.InstructionViews.{instruction_of}
use Rattle.core_terms.specs.declared.instruction.Instruction.{Instruction}
use Rattle.core_terms.specs.declared.term.Constructor.{Constructor}
use Rattle.core_terms.specs.declared.term.Function.{Function}
use Rattle.core_terms.specs.declared.term.NamedType.{NamedType}
use Rattle.core_terms.specs.declared.types.TyId.{TyId}
use Rattle.object_meaning.specs.ObjectBodies as bodies
use Rattle.object_meaning.specs.ObjectBodies.{code_from, code_in, constructor_names, declared_in, listed_at, named_tables, trees_of}
use Rattle.object_meaning.specs.Objects as meant
use Rattle.object_meaning.specs.Objects.{ListedConstructor, ListedFunction, ListedType, ListedPair, ListedNamed, ListedAuth, Object}
use Rattle.object_meaning.specs.ReadObjects.{constructors_in}
use Rattle.object_meaning.specs.WellFormedObjects.{AllBelow}
use Rattle.code_check.specs.CodeTypes.{is_code_within, is_listable}
use Rattle.code_check.specs.declared.listed.ListedParts.{ListedParts}

-- WHAT IS THERE
-- the parts of a type are among the first n types
abbrev pub HasPartsBefore : ℕ → ListedType → Type 0
HasPartsBefore n (ListedPair a b) = (a < n) × (b < n)
HasPartsBefore n (ListedAuth a) = a < n
HasPartsBefore n t = Unit {0}

-- those of each are among the types before it, where n types stand before all of these
abbrev pub HavePartsBefore : ℕ → List ListedType → Type 0
HavePartsBefore n [] = Unit {0}
HavePartsBefore n (t ∷ ts) = HasPartsBefore n t × HavePartsBefore (suc n) ts

-- a constructor has a name, and the types of its fields are among n types
pub record IsConstructorAmong (n : ℕ) (c : ListedConstructor) : Type 0 where
  pub name : IsName c.name
  pub fields : AllBelow n c.fields

-- each constructor of a type, which has none where it isn't a named one
abbrev pub HasConstructorsAmong : ℕ → ListedType → Type 0
HasConstructorsAmong n t = All (IsConstructorAmong n) (constructors_in t)

-- each of these is an instruction behind number i
abbrev pub AllBehind : ℕ → List ℕ → Type 0
AllBehind i [] = Unit {0}
AllBehind i (t ∷ ts) = (i < t) × AllBehind i ts

-- the types that instruction i names are among n types, it jumps forward, and its text is one of a program
abbrev pub IsInstructionAmong : ℕ → ℕ → meant.Instruction → Type 0
IsInstructionAmong n i (meant.PushText bytes) = length bytes ≤ 65532
IsInstructionAmong n i (meant.Make ty tag) = ty < n
IsInstructionAmong n i (meant.Switch ty targets) = (ty < n) × AllBehind i targets
IsInstructionAmong n i (meant.Branch target) = i < target
IsInstructionAmong n i (meant.Jump target) = i < target
IsInstructionAmong n i (meant.Auth ty) = ty < n
IsInstructionAmong n i (meant.Unauth ty) = ty < n
IsInstructionAmong n i x = Unit {0}

-- instructions of which the first has number i
abbrev pub AreInstructionsAmong : ℕ → ℕ → List meant.Instruction → Type 0
AreInstructionsAmong n i [] = Unit {0}
AreInstructionsAmong n i (x ∷ xs) = IsInstructionAmong n i x × AreInstructionsAmong n (suc i) xs

-- a role has a name
abbrev pub HasRoleName : Kind → List ℕ → Type 0
HasRoleName kind name = is_entered kind ≡ true → IsName name

-- the name of a function is one where it is a role, the types that it and its code name are among n types, and its jumps go forward
pub record IsFunctionAmong (n : ℕ) (f : ListedFunction) : Type 0 where
  pub name : HasRoleName f.kind f.name
  pub parameters : AllBelow n f.parameters
  pub result : f.result < n
  pub code : AreInstructionsAmong n 0 f.code

-- WHAT IS MADE
-- The type with this number in the table is the listed one, and it is among as many types as all listed ones are. (So it is over any types,
-- and no table is named where none is read.)
pub record IsTypeOf (numbers : List TyId) (listed : ℕ) (id : TyId) : Type 0 where
  pub ty : (types : List Ty) → type_at types id ≡ listed_at (types_at types numbers) listed
  pub within : (count : ℕ) → are_below count numbers ≡ true → id.0 < count

-- the same of each
pub record AreTypesOf (numbers : List TyId) (listed : List ℕ) (ids : List TyId) : Type 0 where
  pub types : (types : List Ty) → types_at types ids ≡ map (listed_at (types_at types numbers)) listed
  pub within : (count : ℕ) → are_below count numbers ≡ true → are_below count ids ≡ true

-- a constructor, with its name and the types of its fields
pub record IsConstructorOf (numbers : List TyId) (listed : ListedConstructor) (c : Constructor) : Type 0 where
  pub name : c.name ≡ listed.name
  pub fields : AreTypesOf numbers listed.fields c.fields.items

-- a named type, whose name is the keyword: in an object it has none
pub record IsNamedOf (numbers : List TyId) (listed : List ListedConstructor) (named : NamedType) : Type 0 where
  pub name : named.name ≡ codes "type"
  pub constructors : AllZip (IsConstructorOf numbers) listed named.constructors.items

-- the constructors of each named type among these
abbrev pub constructor_lists : List ListedType → List (List ListedConstructor)
constructor_lists [] = []
constructor_lists (ListedNamed constructors ∷ ts) = constructors ∷ constructor_lists ts
constructor_lists (t ∷ ts) = constructor_lists ts

-- the named types of a list
abbrev pub AreNamedOf : List TyId → List ListedType → List NamedType → Type 0
AreNamedOf numbers listed named = AllZip (IsNamedOf numbers) (constructor_lists listed) named

-- a function, without its code
pub record IsFunctionOf (numbers : List TyId) (listed : ListedFunction) (f : Function) : Type 0 where
  pub declared : (types : List Ty) → function_of types f ≡ declared_in (types_at types numbers) listed
  pub within : (count : ℕ) → are_below count numbers ≡ true → has_types_below count f ≡ true

-- instruction i over the types of a table, which has the types that it names
pub record IsInstructionOf (types : List Ty) (numbers : List TyId) (i : ℕ) (listed : meant.Instruction) (instruction : Instruction) : Type 0 where
  pub meaning : instruction_of types instruction ≡ bodies.instruction_of (types_at types numbers) i listed
  pub within : is_listable (length types) instruction ≡ true

-- instructions of which the first has number 0
pub record IsCodeOf (types : List Ty) (numbers : List TyId) (listed : List meant.Instruction) (code : List Instruction) : Type 0 where
  pub meaning : map (instruction_of types) code ≡ code_from (types_at types numbers) 0 listed
  pub within : list_all (is_listable (length types)) code ≡ true

-- the code of a function
abbrev pub IsFunctionCode : List Ty → List TyId → ListedFunction → Vec Instruction Global → Type 0
IsFunctionCode types numbers listed code = IsCodeOf types numbers listed.code code.items

-- all parts of an object, over the types of a table
pub record AreListedParts (types : List Ty) (o : Object) (parts : ListedParts) : Type 0 where
  pub named : table_of types parts.named.items ≡ named_tables (trees_of o.types) o.types
  pub state : type_at types parts.state ≡ listed_at (trees_of o.types) o.state
  pub functions : map (function_of types) parts.functions.items ≡ map (declared_in (trees_of o.types)) o.functions
  pub code : map (λ (code : Vec Instruction Global). map (instruction_of types) code.items) parts.code.items ≡ map (code_in (trees_of o.types)) o.functions
  pub constructor_names : all_constructor_names parts.named.items ≡ constructor_names o.types
  pub are_named : AreNamed parts.named.items
  pub within : (nat_lt parts.state.0 (length types) && (list_all (has_fields_below (length types)) parts.named.items && list_all (has_types_below (length types)) parts.functions.items)) ≡ true
  pub code_within : is_code_within (length types) parts.code.items ≡ true
