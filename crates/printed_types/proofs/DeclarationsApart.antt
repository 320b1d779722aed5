-- Declarations of types whose texts are the same declare the same types.
use Rattle.std.proofs.Common.{◌≡◌, ℕ, List, [], ◌∷◌, ◌++◌, map, codes, refl, ap₂}
use Rattle.core_terms.specs.Types.{Ty, Table}
use Rattle.auth_syntax.specs.Syntax.{TypeSyntax, ConstructorDeclaration, DeclarationSyntax, TypeDeclaration}
use Rattle.auth_syntax.specs.Grammar.{IsSome}
use Rattle.printed_types.proofs.WrittenTexts.{fields_before, constructor_before, others_before, constructors_before, declaration_before}
use Rattle.printed_types.proofs.SpelledTypes.{IsSpelledConstructor, AreSpelledConstructors, IsSpelledType}
use Rattle.printed_types.proofs.WordsApart.{Begins, ends_word, ends_constructor, word_ends_at_constructor, first_apart, words_apart}
use Rattle.printed_types.proofs.TypesApart.{meant, fields_same}

-- a type with its constructors, and those that are declared
pub record WrittenType : Type 0 where
  pub name : List ℕ
  pub constructors : List ConstructorDeclaration

abbrev pub written_types : List DeclarationSyntax → List WrittenType
written_types [] = []
written_types (TypeDeclaration at name constructors ∷ ds) = record { name = name.name; constructors = constructors } ∷ written_types ds
written_types (d ∷ ds) = written_types ds

abbrev pub types_before : List WrittenType → List ℕ
types_before [] = []
types_before (t ∷ ts) = declaration_before t.name t.constructors (codes ";\n" ++ types_before ts)

abbrev pub AreSpelledTypes : List WrittenType → Type 0
AreSpelledTypes [] = Unit {0}
AreSpelledTypes (t ∷ ts) = IsSpelledType t.name t.constructors × AreSpelledTypes ts

-- their names, those of their constructors, and their table
abbrev pub constructor_names : List ConstructorDeclaration → List (List ℕ)
constructor_names cs = map (λ (c : ConstructorDeclaration). c.name.name) cs

abbrev pub rows_meant : List (List ℕ) → List ConstructorDeclaration → List (List Ty)
rows_meant names cs = map (λ (c : ConstructorDeclaration). map (meant names) c.fields) cs

abbrev pub names_in : List WrittenType → List (List ℕ)
names_in ts = map (λ (t : WrittenType). t.name) ts

abbrev pub all_constructor_names : List WrittenType → List (List (List ℕ))
all_constructor_names ts = map (λ (t : WrittenType). constructor_names t.constructors) ts

abbrev pub table_meant : List (List ℕ) → List WrittenType → Table
table_meant names ts = map (λ (t : WrittenType). rows_meant names t.constructors) ts

module _ (names : List (List ℕ)) where
  pub record AreSame (cs ds : List ConstructorDeclaration) (rest others : List ℕ) : Type 0 where
    pub names_are : constructor_names cs ≡ constructor_names ds
    pub rows_are : rows_meant names cs ≡ rows_meant names ds
    pub behind : rest ≡ others

  fields_end : (ts : List TypeSyntax) (rest : List ℕ) → Begins ends_constructor rest → Begins ends_word (fields_before ts rest)
  fields_end [] rest h = word_ends_at_constructor rest h
  fields_end (t ∷ ts) rest h = refl

  others_end : (cs : List ConstructorDeclaration) (rest : List ℕ) → Begins ends_constructor (others_before cs (59 ∷ rest))
  others_end [] rest = refl
  others_end (c ∷ cs) rest = refl

  -- a constructor, and constructors up to the semicolon
  constructor_same : (c d : ConstructorDeclaration) (rest others : List ℕ) → IsSpelledConstructor c → IsSpelledConstructor d
      → Begins ends_constructor rest → Begins ends_constructor others → constructor_before c rest ≡ constructor_before d others
      → (c.name.name ≡ d.name.name) × (map (meant names) c.fields ≡ map (meant names) d.fields) × (rest ≡ others)
  constructor_same c d rest others h k ends ends' e =
      let words = words_apart c.name.name d.name.name (fields_before c.fields rest) (fields_before d.fields others) h.0 k.0
      (fields_end c.fields rest ends) (fields_end d.fields others ends') e in
      let fields = fields_same names c.fields d.fields rest others h.1 k.1 ends ends' words.1 in
      (words.0, fields.0, fields.1)

  one_more : (c d : ConstructorDeclaration) (cs ds : List ConstructorDeclaration) (rest others : List ℕ)
      → (c.name.name ≡ d.name.name) × (map (meant names) c.fields ≡ map (meant names) d.fields) → AreSame cs ds rest others
      → AreSame (c ∷ cs) (d ∷ ds) rest others
  one_more c d cs ds rest others one more = record {
    names_are = ap₂ (λ (n : List ℕ) (ns : List (List ℕ)). n ∷ ns) one.0 more.names_are;
    rows_are = ap₂ (λ (ts : List Ty) (tss : List (List Ty)). ts ∷ tss) one.1 more.rows_are;
    behind = more.behind;
  }

  others_same : (cs ds : List ConstructorDeclaration) (rest others : List ℕ) → AreSpelledConstructors cs → AreSpelledConstructors ds
      → others_before cs (59 ∷ rest) ≡ others_before ds (59 ∷ others) → AreSame cs ds rest others
  others_same [] [] rest others h k e = record { names_are = refl; rows_are = refl; behind = cc }
  others_same [] (d ∷ ds) rest others h k e = absurd (first_apart 59 32 _ _ refl e)
  others_same (c ∷ cs) [] rest others h k e = absurd (first_apart 32 59 _ _ refl e)
  others_same (c ∷ cs) (d ∷ ds) rest others h k e =
      let behind = others_before cs (59 ∷ rest) in
      let behind' = others_before ds (59 ∷ others) in
      let inside : constructor_before c behind ≡ constructor_before d behind' = cc in
      let one = constructor_same c d behind behind' h.0 k.0 (others_end cs rest) (others_end ds others) inside in
      one_more c d cs ds rest others (one.0, one.1) (others_same cs ds rest others h.1 k.1 one.2)

  constructors_same : (cs ds : List ConstructorDeclaration) (rest others : List ℕ) → IsSome cs → IsSome ds
      → AreSpelledConstructors cs → AreSpelledConstructors ds
      → constructors_before cs (59 ∷ rest) ≡ constructors_before ds (59 ∷ others) → AreSame cs ds rest others
  constructors_same [] ds rest others some some' h k e = absurd some
  constructors_same (c ∷ cs) [] rest others some some' h k e = absurd some'
  constructors_same (c ∷ cs) (d ∷ ds) rest others some some' h k e =
      let behind = others_before cs (59 ∷ rest) in
      let behind' = others_before ds (59 ∷ others) in
      let inside : constructor_before c behind ≡ constructor_before d behind' = cc in
      let one = constructor_same c d behind behind' h.0 k.0 (others_end cs rest) (others_end ds others) inside in
      one_more c d cs ds rest others (one.0, one.1) (others_same cs ds rest others h.1 k.1 one.2)

  -- a declaration with its line
  constructors_end : (cs : List ConstructorDeclaration) (rest : List ℕ) → Begins ends_word (constructors_before cs (59 ∷ rest))
  constructors_end [] rest = refl
  constructors_end (c ∷ cs) rest = refl

  declaration_same : (name other : List ℕ) (cs ds : List ConstructorDeclaration) (rest others : List ℕ) → IsSpelledType name cs → IsSpelledType other ds
      → declaration_before name cs (59 ∷ rest) ≡ declaration_before other ds (59 ∷ others) → (name ≡ other) × AreSame cs ds rest others
  declaration_same name other cs ds rest others h k e =
      let inside : name ++ constructors_before cs (59 ∷ rest) ≡ other ++ constructors_before ds (59 ∷ others) = cc in
      let words = words_apart name other (constructors_before cs (59 ∷ rest)) (constructors_before ds (59 ∷ others)) h.is_word k.is_word
      (constructors_end cs rest) (constructors_end ds others) inside in
      (words.0, constructors_same cs ds rest others h.is_some k.is_some h.are_spelled k.are_spelled words.1)

  pub types_same : (ts us : List WrittenType) → AreSpelledTypes ts → AreSpelledTypes us → types_before ts ≡ types_before us
      → (names_in ts ≡ names_in us) × (all_constructor_names ts ≡ all_constructor_names us) × (table_meant names ts ≡ table_meant names us)
  types_same [] [] h k e = (refl, refl, refl)
  types_same [] (u ∷ us) h k e = absurd (cc)
  types_same (t ∷ ts) [] h k e = absurd (cc)
  types_same (t ∷ ts) (u ∷ us) h k e =
      let (name, same) = declaration_same t.name u.name t.constructors u.constructors (10 ∷ types_before ts) (10 ∷ types_before us) h.0 k.0 e in
      let line : 10 ∷ types_before ts ≡ 10 ∷ types_before us = same.behind in
      let inside : types_before ts ≡ types_before us = cc in
      let more = types_same ts us h.1 k.1 inside in (
        ap₂ (λ (n : List ℕ) (ns : List (List ℕ)). n ∷ ns) name more.0,
        ap₂ (λ (cs : List (List ℕ)) (css : List (List (List ℕ))). cs ∷ css) same.names_are more.1,
        ap₂ (λ (tss : List (List Ty)) (table : Table). tss ∷ table) same.rows_are more.2,
      )
