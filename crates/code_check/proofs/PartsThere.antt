-- What a well-formed object lists names what is there.
use Rattle.std.proofs.Common.{◌≡◌, ℕ, suc, Bool, true, ◌&&◌, List, [], ◌∷◌, ◌++◌, length, map, sym, ◌∙◌, subst, arith, nat_le}
use Rattle.std.specs.Char.{is_ascii_lowercase, is_ascii_uppercase}
use Rattle.std.specs.List.{All, list_all}
use Rattle.std.specs.Option.{is_none}
use Rattle.std.proofs.lemmas.Bool.{leb-true}
use Rattle.std.proofs.lemmas.List.{length-map, length_push}
use Rattle.std.proofs.lemmas.List.Elements.{All-nil, All-cons, All-map, All-weaker}
use Rattle.core_terms.specs.Names.{IsName, longest_name}
use Rattle.core_terms.specs.Terms.{Kind, Inner, Init, Query, Update}
use Rattle.core_terms.specs.declared.format.Format.TheVariants.{First}
use Rattle.core_terms.proofs.SameTypes.{first_of, second_of}
use Rattle.lexemes.specs.Tokens.{is_name_byte, keyword_of}
use Rattle.object_meaning.specs.ObjectBodies.{constructor_names}
use Rattle.object_meaning.specs.Objects.{ListedConstructor, ListedType, ListedUnit, ListedBool, ListedInt, ListedText, ListedPair, ListedNamed, ListedAuth, Instruction, PushText, Make, Switch, Branch, Jump, Auth, Unauth, ListedFunction}
use Rattle.object_meaning.specs.ReadObjects.{all_names, is_name_from, names_of}
use Rattle.object_meaning.specs.WellFormedObjects as formed
use Rattle.object_meaning.specs.WellFormedObjects.{AllAhead, AreConstructors, AreFunctions, AreInstructions, AreTypes, IsInstruction, IsListedFunction, IsObject, IsType}
use Rattle.object_reader.specs.ObjectViews.{function_of, object_of, type_of}
use Rattle.object_reader.specs.declared.object.ListedFunction as coded_function
use Rattle.object_reader.specs.declared.object.ListedType as coded_type
use Rattle.object_reader.specs.declared.object.Object.{Object}
use Rattle.code_check.specs.ListedParts.{AllBehind, AreInstructionsAmong, HasConstructorsAmong, HasPartsBefore, HasRoleName, HavePartsBefore, IsConstructorAmong, IsFunctionAmong, IsInstructionAmong}
use Rattle.code_check.proofs.Zips.{all_mapped}

name_fits : (starts : ℕ → Bool) (name : List ℕ) → is_name_from starts name ≡ true → IsName name
name_fits starts [] e = absurd (cc (e))
name_fits starts (b ∷ rest) e =
    let fits = second_of (list_all is_name_byte rest) (nat_le (length (b ∷ rest)) longest_name) (second_of (starts b) (list_all is_name_byte rest && nat_le (length (b ∷ rest)) longest_name) e) in
    (omega arith, leb-true (length (b ∷ rest)) longest_name fits)

-- TYPES
constructors_among : (count : ℕ) (before : List (List ℕ)) (others cs : List ListedConstructor) → AreConstructors count before others cs → All (IsConstructorAmong count) cs
constructors_among count before others [] h = All-nil (IsConstructorAmong count)
constructors_among count before others (c ∷ cs) h =
    All-cons (IsConstructorAmong count) c cs (record { name = name_fits is_ascii_uppercase c.name h.0.name.is_formed; fields = h.0.fields }) (constructors_among count before (others ++ c ∷ []) cs h.1)

type_among : (count : ℕ) (before : List ListedType) (t : ListedType) → IsType count before t → HasConstructorsAmong count t
type_among count before ListedUnit h = All-nil (IsConstructorAmong count)
type_among count before ListedBool h = All-nil (IsConstructorAmong count)
type_among count before ListedInt h = All-nil (IsConstructorAmong count)
type_among count before ListedText h = All-nil (IsConstructorAmong count)
type_among count before (ListedPair a b) h = All-nil (IsConstructorAmong count)
type_among count before (ListedNamed cs) h = constructors_among count (all_names before) [] cs h.3
type_among count before (ListedAuth a) h = All-nil (IsConstructorAmong count)

types_among : (count : ℕ) (before ts : List ListedType) → AreTypes count before ts → All (HasConstructorsAmong count) ts
types_among count before [] h = All-nil (HasConstructorsAmong count)
types_among count before (t ∷ ts) h = All-cons (HasConstructorsAmong count) t ts (type_among count before t h.0) (types_among count (before ++ t ∷ []) ts h.2)

part_before : (count : ℕ) (before : List ListedType) (t : ListedType) → IsType count before t → HasPartsBefore (length before) t
part_before count before ListedUnit h = tt
part_before count before ListedBool h = tt
part_before count before ListedInt h = tt
part_before count before ListedText h = tt
part_before count before (ListedPair a b) h = h
part_before count before (ListedNamed cs) h = tt
part_before count before (ListedAuth a) h = h

parts_before : (count : ℕ) (before ts : List ListedType) → AreTypes count before ts → HavePartsBefore (length before) ts
parts_before count before [] h = tt
parts_before count before (t ∷ ts) h =
    let longer : length (before ++ t ∷ []) ≡ suc (length before) = omega (arith, length_push before t) in
    (part_before count before t h.0, subst (λ n. HavePartsBefore n ts) longer (parts_before count (before ++ t ∷ []) ts h.2))

pub parts_there : (o : Object) (xs : List coded_type.ListedType) → IsObject (object_of o) → xs ≡ o.types.items → HavePartsBefore 0 (map type_of xs)
parts_there o xs is same = subst (λ l. HavePartsBefore 0 (map type_of l)) (sym same) (parts_before (length (object_of o).types) [] (object_of o).types is.types)

all_among : (o : Object) → IsObject (object_of o) → All (HasConstructorsAmong (length o.types.items)) (object_of o).types
all_among o is = subst (λ n. All (HasConstructorsAmong n) (object_of o).types) (length-map o.types.items type_of) (types_among (length (object_of o).types) [] (object_of o).types is.types)

pub named_there : (o : Object) (n : ℕ) (xs : List coded_type.ListedType) → IsObject (object_of o) → n ≡ length o.types.items → xs ≡ o.types.items
    → All (λ (t : coded_type.ListedType). HasConstructorsAmong n (type_of t)) xs
named_there o n xs is same items =
    subst (λ m. All (λ (t : coded_type.ListedType). HasConstructorsAmong m (type_of t)) xs) (sym same)
    (subst (All (λ (t : coded_type.ListedType). HasConstructorsAmong (length o.types.items) (type_of t))) (sym items)
    (all_mapped (HasConstructorsAmong (length o.types.items)) type_of o.types.items (all_among o is)))

-- the constructors have names
names_from : (n : ℕ) (ts : List ListedType) → All (HasConstructorsAmong n) ts → All (All IsName) (constructor_names ts)
names_from n [] all = All-nil (All IsName)
names_from n (t ∷ ts) all = by t (all 0 t (omega arith)) (names_from n ts (λ i d h. all (suc i) d (omega (arith, h))))
  where
    by : (t : ListedType) → HasConstructorsAmong n t → All (All IsName) (constructor_names ts) → All (All IsName) (constructor_names (t ∷ ts))
    by ListedUnit here rest = rest
    by ListedBool here rest = rest
    by ListedInt here rest = rest
    by ListedText here rest = rest
    by (ListedPair a b) here rest = rest
    by (ListedNamed cs) here rest =
        let named = All-weaker (IsConstructorAmong n) (λ (c : ListedConstructor). IsName c.name) (λ c h. h.name) cs here in
        All-cons (All IsName) (names_of cs) (constructor_names ts) (All-map IsName (λ (c : ListedConstructor). c.name) cs named) rest
    by (ListedAuth a) here rest = rest

pub names_there : (o : Object) → IsObject (object_of o) → All (All IsName) (constructor_names (object_of o).types)
names_there o is = names_from (length o.types.items) (object_of o).types (all_among o is)

-- FUNCTIONS
behind : (i n : ℕ) (ts : List ℕ) → AllAhead i n ts → AllBehind i ts
behind i n [] h = tt
behind i n (t ∷ ts) h = (h.0.0, behind i n ts h.1)

role_name : (kind : Kind) (before : List ListedFunction) (name : List ℕ) → formed.HasRoleName kind before name → HasRoleName kind name
role_name Inner before name h e = absurd (cc (e))
role_name Init before name h e = name_fits is_ascii_lowercase name (first_of (is_name_from is_ascii_lowercase name) (is_none (keyword_of First name)) h.is_formed)
role_name Query before name h e = name_fits is_ascii_lowercase name (first_of (is_name_from is_ascii_lowercase name) (is_none (keyword_of First name)) h.is_formed)
role_name Update before name h e = name_fits is_ascii_lowercase name (first_of (is_name_from is_ascii_lowercase name) (is_none (keyword_of First name)) h.is_formed)

module _ (types : List ListedType) (functions : ℕ) where
  instruction_among : (i n : ℕ) (x : Instruction) → IsInstruction types functions i n x → IsInstructionAmong (length types) i x
  instruction_among i n (PushText bytes) h = h.1
  instruction_among i n (Make ty tag) h = h.1
  instruction_among i n (Switch ty targets) h = (h.1, behind i n targets h.3)
  instruction_among i n (Branch target) h = h.0
  instruction_among i n (Jump target) h = h.0
  instruction_among i n (Auth ty) h = h
  instruction_among i n (Unauth ty) h = h
  instruction_among i n x h = tt

  code_among : (i n : ℕ) (xs : List Instruction) → AreInstructions types functions i n xs → AreInstructionsAmong (length types) i xs
  code_among i n [] h = tt
  code_among i n (x ∷ xs) h = (instruction_among i n x h.0, code_among (suc i) n xs h.1)

  function_among : (before : List ListedFunction) (f : ListedFunction) → IsListedFunction types functions before f → IsFunctionAmong (length types) f
  function_among before f h = record {
    name = role_name f.kind before f.name h.name;
    parameters = h.parameters;
    result = h.result;
    code = code_among 0 (length f.code) f.code h.code;
  }

  functions_among : (before fs : List ListedFunction) → AreFunctions types functions before fs → All (IsFunctionAmong (length types)) fs
  functions_among before [] h = All-nil (IsFunctionAmong (length types))
  functions_among before (f ∷ fs) h = All-cons (IsFunctionAmong (length types)) f fs (function_among before f h.0) (functions_among (before ++ f ∷ []) fs h.1)

pub functions_there : (o : Object) (n : ℕ) (xs : List coded_function.ListedFunction) → IsObject (object_of o) → n ≡ length o.types.items → xs ≡ o.functions.items
    → All (λ (f : coded_function.ListedFunction). IsFunctionAmong n (function_of f)) xs
functions_there o n xs is same items =
    let m = length (object_of o).types in
    let all = all_mapped (IsFunctionAmong m) function_of o.functions.items (functions_among (object_of o).types (length (object_of o).functions) [] (object_of o).functions is.functions) in
    subst (λ k. All (λ (f : coded_function.ListedFunction). IsFunctionAmong k (function_of f)) xs) (length-map o.types.items type_of ∙ sym same)
    (subst (All (λ (f : coded_function.ListedFunction). IsFunctionAmong m (function_of f))) (sym items) all)
