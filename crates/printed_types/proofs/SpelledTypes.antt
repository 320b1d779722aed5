-- The names in declared types are names, and no words that both formats have.
use Rattle.std.proofs.Common.{◌≡◌, ℕ, Bool, true, List, [], ◌∷◌, ◌++◌, Option, Some, None, refl}
use Rattle.std.specs.List.{list_all}
use Rattle.core_terms.specs.declared.format.Format.{Format}
use Rattle.lexemes.specs.declared.place.Place.{Place}
use Rattle.lexemes.specs.declared.token.Keyword.{Keyword}
use Rattle.lexemes.specs.declared.token.Mark.TheVariants.{RightParenthesis, Comma, Semicolon, Bar}
use Rattle.lexemes.specs.Tokens.{is_name_byte, keyword_among, keyword_of, common_keywords}
use Rattle.lexemes.proofs.WordLemmas.{common_found}
use Rattle.auth_syntax.specs.Syntax.{NameSyntax, TypeSyntax, NamedTypeSyntax, AuthTypeSyntax, PairTypeSyntax, VecTypeSyntax, ConstructorDeclaration, DeclarationSyntax, TypeDeclaration}
use Rattle.auth_syntax.specs.Grammar.{Written, mark, type_tokens, types_tokens, in_parentheses, constructor_tokens, constructors_tokens, declaration_tokens, declarations_tokens, IsSome, AreDeclarations}
use Rattle.printed_syntax.specs.PrintedProgramLaws.{IsName, AreTokens}

-- the name of a type
pub record IsTypeName (name : List ℕ) : Type 0 where
  pub is_some : IsSome name
  pub is_word : list_all is_name_byte name ≡ true
  pub is_free : keyword_among common_keywords name ≡ None

abbrev pub IsSpelled : TypeSyntax → Type 0
IsSpelled (NamedTypeSyntax at name) = IsTypeName name
IsSpelled (AuthTypeSyntax at inner) = IsSpelled inner
IsSpelled (PairTypeSyntax at first second) = IsSpelled first × IsSpelled second
IsSpelled (VecTypeSyntax at n item) = IsSpelled item
IsSpelled t = Unit {0}

abbrev pub AreSpelled : List TypeSyntax → Type 0
AreSpelled [] = Unit {0}
AreSpelled (t ∷ ts) = IsSpelled t × AreSpelled ts

-- a constructor with its fields, and a type with its constructors, of which it has one
abbrev pub IsSpelledConstructor : ConstructorDeclaration → Type 0
IsSpelledConstructor c = (list_all is_name_byte c.name.name ≡ true) × AreSpelled c.fields

abbrev pub AreSpelledConstructors : List ConstructorDeclaration → Type 0
AreSpelledConstructors [] = Unit {0}
AreSpelledConstructors (c ∷ cs) = IsSpelledConstructor c × AreSpelledConstructors cs

pub record IsSpelledType (name : List ℕ) (constructors : List ConstructorDeclaration) : Type 0 where
  pub is_word : list_all is_name_byte name ≡ true
  pub is_some : IsSome constructors
  pub are_spelled : AreSpelledConstructors constructors

abbrev pub AreSpelledDeclarations : List DeclarationSyntax → Type 0
AreSpelledDeclarations [] = Unit {0}
AreSpelledDeclarations (TypeDeclaration at name constructors ∷ ds) = IsSpelledType name.name constructors × AreSpelledDeclarations ds
AreSpelledDeclarations (d ∷ ds) = AreSpelledDeclarations ds

-- a name has a byte, and its bytes are those of names
name_is_some : (is_first : ℕ → Bool) (name : List ℕ) → IsName is_first name → IsSome name
name_is_some is_first [] h = absurd h
name_is_some is_first (b ∷ rest) h = tt

name_is_word : (is_first : ℕ → Bool) (name : List ℕ) → IsName is_first name → list_all is_name_byte name ≡ true
name_is_word is_first [] h = absurd h
name_is_word is_first (b ∷ rest) h = h.1

module _ (format : Format) where
  -- a word that is no keyword of a format is none of both formats
  name_is_free : (name : List ℕ) → keyword_of format name ≡ None → keyword_among common_keywords name ≡ None
  name_is_free name h = by (keyword_among common_keywords name) refl where
    by : (found : Option Keyword) → keyword_among common_keywords name ≡ found → found ≡ None
    by None e = refl
    by (Some keyword) e = let found = common_found format name (keyword_among common_keywords name) keyword refl e in absurd (cc)

  pub parts_are : (ws vs : List Written) → AreTokens format (ws ++ vs) → AreTokens format ws × AreTokens format vs
  parts_are [] vs h = (tt, h)
  parts_are (w ∷ ws) vs h = let others = parts_are ws vs h.1 in ((h.0, others.0), others.1)

  type_spelled : (t : TypeSyntax) → AreTokens format (type_tokens t) → IsSpelled t
  type_spelled (NamedTypeSyntax at name) h = record {
    is_some = name_is_some _ name h.0.0;
    is_word = name_is_word _ name h.0.0;
    is_free = name_is_free name h.0.1;
  }
  type_spelled (AuthTypeSyntax at inner) h = type_spelled inner h.1
  type_spelled (PairTypeSyntax at first second) h =
      let whole = parts_are (type_tokens first ++ (mark Comma ∷ type_tokens second)) (mark RightParenthesis ∷ []) h.1 in
      let both = parts_are (type_tokens first) (mark Comma ∷ type_tokens second) whole.0 in
      (type_spelled first both.0, type_spelled second both.1.1)
  type_spelled (VecTypeSyntax at n item) h = type_spelled item h.1.1.1.1
  type_spelled t h = tt

  row_spelled : (ts : List TypeSyntax) (t : TypeSyntax) → AreTokens format (types_tokens (t ∷ ts)) → AreSpelled (t ∷ ts)
  row_spelled [] t h = (type_spelled t h, tt)
  row_spelled (next ∷ ts) t h =
      let both = parts_are (type_tokens t) (mark Comma ∷ types_tokens (next ∷ ts)) h in
      (type_spelled t both.0, row_spelled ts next both.1.1)

  fields_spelled : (ts : List TypeSyntax) → AreTokens format (types_tokens ts) → AreSpelled ts
  fields_spelled [] h = tt
  fields_spelled (t ∷ ts) h = row_spelled ts t h

  inside_parentheses : (ws : List Written) → AreTokens format (in_parentheses ws) → AreTokens format ws
  inside_parentheses [] h = tt
  inside_parentheses (w ∷ ws) h = (parts_are (w ∷ ws) (mark RightParenthesis ∷ []) h.1).0

  constructor_spelled : (c : ConstructorDeclaration) → AreTokens format (constructor_tokens c) → IsSpelledConstructor c
  constructor_spelled c h = (name_is_word _ c.name.name h.0, fields_spelled c.fields (inside_parentheses (types_tokens c.fields) h.1))

  constructors_spelled : (cs : List ConstructorDeclaration) (c : ConstructorDeclaration) → AreTokens format (constructors_tokens (c ∷ cs))
      → AreSpelledConstructors (c ∷ cs)
  constructors_spelled [] c h = (constructor_spelled c h, tt)
  constructors_spelled (next ∷ cs) c h =
      let both = parts_are (constructor_tokens c) (mark Bar ∷ constructors_tokens (next ∷ cs)) h in
      (constructor_spelled c both.0, constructors_spelled cs next both.1.1)

  declaration_spelled : (at : Place) (name : NameSyntax) (cs : List ConstructorDeclaration) → IsSome cs
      → AreTokens format (declaration_tokens (TypeDeclaration at name cs)) → IsSpelledType name.name cs
  declaration_spelled at name [] some h = absurd some
  declaration_spelled at name (c ∷ cs) some h = record {
    is_word = name_is_word _ name.name h.1.0.0;
    is_some = tt;
    are_spelled = constructors_spelled cs c (parts_are (constructors_tokens (c ∷ cs)) (mark Semicolon ∷ []) h.1.1.1).0;
  }

  pub declarations_spelled : (limit : ℕ) (ds : List DeclarationSyntax) → AreTokens format (declarations_tokens ds) → AreDeclarations limit ds
      → AreSpelledDeclarations ds
  declarations_spelled limit [] h within = tt
  declarations_spelled limit (TypeDeclaration at name cs ∷ ds) h within =
      let both = parts_are (declaration_tokens (TypeDeclaration at name cs)) (declarations_tokens ds) h in
      (declaration_spelled at name cs within.0.0 both.0, declarations_spelled limit ds both.1 within.1)
  declarations_spelled limit (d ∷ ds) h within =
      declarations_spelled limit ds (parts_are (declaration_tokens d) (declarations_tokens ds) h).1 within.1
