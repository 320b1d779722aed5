-- Which objects have bytes that are read back: their numbers name what is there, their names are names, and their counts are within the limits.
use Rattle.std.specs.Prelude.{◌≡◌, ◌<◌, ◌≤◌, ◌^◌, ℕ, suc, Bool, true, false, List, [], ◌∷◌, ◌++◌, length, IsUtf8}
use Rattle.core_terms.specs.ProgramLimits.{most_constructors, most_fields, most_functions, most_parameters, most_types}
use Rattle.core_terms.specs.Terms.{Kind, Inner}
use Rattle.core_terms.specs.Values.{int_fits}
use Rattle.object_meaning.specs.Objects.{ListedConstructor, ListedType, ListedPair, ListedNamed, ListedAuth, Instruction, PushInt, PushText, Make, Switch, Branch, Jump, Call, Auth, Unauth, ListedFunction, Object, most_listed_types}
use Rattle.object_meaning.specs.ReadObjects.{is_upper_name, is_lower_name, is_among, names_of, all_names, named_count, is_listed, role_names, constructors_of, is_named}

-- each of these is below a number
abbrev pub AllBelow : ℕ → List ℕ → Type 0
AllBelow count [] = Unit {0}
AllBelow count (n ∷ ns) = (n < count) × AllBelow count ns

-- a new name of this form
pub record IsNewName (form : List ℕ → Bool) (before : List (List ℕ)) (name : List ℕ) : Type 0 where
  pub is_formed : form name ≡ true
  pub is_new : is_among name before ≡ false

-- a constructor of an object with so many types, where these names stood before
pub record IsConstructor (count : ℕ) (before : List (List ℕ)) (c : ListedConstructor) : Type 0 where
  pub name : IsNewName is_upper_name before c.name
  pub few : length c.fields ≤ most_fields
  pub fields : AllBelow count c.fields

abbrev pub AreConstructors : ℕ → List (List ℕ) → List ListedConstructor → List ListedConstructor → Type 0
AreConstructors count before others [] = Unit {0}
AreConstructors count before others (c ∷ cs) = IsConstructor count (before ++ names_of others) c × AreConstructors count before (others ++ c ∷ []) cs

-- a type behind these
abbrev pub IsType : ℕ → List ListedType → ListedType → Type 0
IsType count before (ListedPair a b) = (a < length before) × (b < length before)
IsType count before (ListedNamed cs) = (named_count before < most_types) × (1 ≤ length cs) × (length cs ≤ most_constructors) × AreConstructors count (all_names before) [] cs
IsType count before (ListedAuth a) = a < length before
IsType count before t = Unit {0}

abbrev pub AreTypes : ℕ → List ListedType → List ListedType → Type 0
AreTypes count before [] = Unit {0}
AreTypes count before (t ∷ ts) = IsType count before t × (is_listed t before ≡ false) × AreTypes count (before ++ t ∷ []) ts

-- each of these is an instruction behind number i, of n
abbrev pub AllAhead : ℕ → ℕ → List ℕ → Type 0
AllAhead i n [] = Unit {0}
AllAhead i n (t ∷ ts) = ((i < t) × (t < n)) × AllAhead i n ts

-- a role has a new name; any other function has none
abbrev pub HasRoleName : Kind → List ListedFunction → List ℕ → Type 0
HasRoleName Inner before name = name ≡ []
HasRoleName kind before name = IsNewName is_lower_name (role_names before) name

module _ (types : List ListedType) (functions : ℕ) where
  -- instruction i, of n in its function
  abbrev pub IsInstruction : (i n : ℕ) → Instruction → Type 0
  IsInstruction i n (PushInt z) = int_fits z ≡ true
  IsInstruction i n (PushText bytes) = IsUtf8 bytes × (length bytes ≤ 65532)
  IsInstruction i n (Make ty tag) = (is_named types ty ≡ true) × (ty < length types) × (tag < length (constructors_of types ty))
  IsInstruction i n (Switch ty targets) = (is_named types ty ≡ true) × (ty < length types) × (length targets ≡ length (constructors_of types ty)) × AllAhead i n targets
  IsInstruction i n (Branch target) = (i < target) × (target < n)
  IsInstruction i n (Jump target) = (i < target) × (target < n)
  IsInstruction i n (Call f) = f < functions
  IsInstruction i n (Auth ty) = ty < length types
  IsInstruction i n (Unauth ty) = ty < length types
  IsInstruction i n x = Unit {0}

  abbrev pub AreInstructions : (i n : ℕ) → List Instruction → Type 0
  AreInstructions i n [] = Unit {0}
  AreInstructions i n (x ∷ xs) = IsInstruction i n x × AreInstructions (suc i) n xs

  pub record IsListedFunction (before : List ListedFunction) (f : ListedFunction) : Type 0 where
    pub name : HasRoleName f.kind before f.name
    pub some : 1 ≤ length f.parameters
    pub few : length f.parameters ≤ most_parameters
    pub parameters : AllBelow (length types) f.parameters
    pub result : f.result < length types
    pub filled : 1 ≤ length f.code
    pub fits : length f.code < 2 ^ 32
    pub code : AreInstructions 0 (length f.code) f.code

  abbrev pub AreFunctions : List ListedFunction → List ListedFunction → Type 0
  AreFunctions before [] = Unit {0}
  AreFunctions before (f ∷ fs) = IsListedFunction before f × AreFunctions (before ++ f ∷ []) fs

pub record IsObject (o : Object) : Type 0 where
  pub few_types : length o.types ≤ most_listed_types
  pub types : AreTypes (length o.types) [] o.types
  pub state : o.state < length o.types
  pub few_functions : length o.functions ≤ most_functions
  pub functions : AreFunctions o.types (length o.functions) [] o.functions
