-- How the type declarations of a program are printed, each on its line.
use Rattle.std.specs.Prelude.{ℕ, ◌+◌, ◌/◌, ◌%◌, nat_lt, Bool, true, false, List, [], ◌∷◌, ◌++◌, slice_index_or, if◌then◌else◌, codes}
use Rattle.core_terms.specs.Types.{Ty, UnitTy, BoolTy, IntTy, TextTy, PairTy, NamedTy, AuthTy, VecTy, Table}

abbrev pub is_pair : Ty → Bool
is_pair (PairTy a b) = true
is_pair t = false

-- the number of an array's elements, which has two digits at most
abbrev pub length_text : ℕ → List ℕ
length_text n = if nat_lt n 10 then (0x30 + n) ∷ [] else (0x30 + n / 10) ∷ (0x30 + n % 10) ∷ []

module _ (names : List (List ℕ)) where
  -- A type, where named types have these names. Behind `auth` stands a blank, but before a parenthesis.
  abbrev pub type_text : Ty → List ℕ
  type_text UnitTy = codes "unit"
  type_text BoolTy = codes "bool"
  type_text IntTy = codes "int"
  type_text TextTy = codes "text"
  type_text (PairTy a b) = codes "(" ++ (type_text a ++ (codes ", " ++ (type_text b ++ codes ")")))
  type_text (NamedTy number) = slice_index_or names number []
  type_text (VecTy n t) = codes "vec[" ++ (length_text n ++ (codes "] " ++ type_text t))
  type_text (AuthTy t) = codes "auth" ++ ((if is_pair t then [] else codes " ") ++ type_text t)

  -- types in a row, with this mark before the first and a comma before each other one
  abbrev pub row_text : List ℕ → List Ty → List ℕ
  row_text mark [] = []
  row_text mark (t ∷ ts) = mark ++ (type_text t ++ row_text (codes ", ") ts)

  -- the fields of a constructor, in parentheses where there is one
  abbrev pub fields_text : List Ty → List ℕ
  fields_text [] = []
  fields_text (t ∷ ts) = row_text (codes "(") (t ∷ ts) ++ codes ")"

  -- the constructors with these names and fields, with this mark before the first and a bar before each other one
  abbrev pub constructors_text : List ℕ → List (List ℕ) → List (List Ty) → List ℕ
  constructors_text mark (c ∷ cs) (ts ∷ tss) = mark ++ (c ++ (fields_text ts ++ constructors_text (codes " | ") cs tss))
  constructors_text mark cs tss = []

  -- the declaration of a named type, on its line
  abbrev pub declaration_text : List ℕ → List (List ℕ) → List (List Ty) → List ℕ
  declaration_text name cs tss = codes "type " ++ (name ++ (constructors_text (codes " = ") cs tss ++ codes ";\n"))

  abbrev pub declarations_text : List (List ℕ) → List (List (List ℕ)) → Table → List ℕ
  declarations_text (name ∷ more) (cs ∷ css) (tss ∷ table) = declaration_text name cs tss ++ declarations_text more css table
  declarations_text more css table = []

-- the declarations of named types with these names, constructors of these names, and this table
abbrev pub types_text : List (List ℕ) → List (List (List ℕ)) → Table → List ℕ
types_text names css table = declarations_text names names css table
