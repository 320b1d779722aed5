-- Types whose texts are the same, and end alike, are the same.
use Rattle.std.proofs.Common.{◌≡◌, ℕ, ◌+◌, ◌/◌, ◌%◌, Bool, true, false, nat_lt, List, [], ◌∷◌, ◌++◌, map, Option, Some, None, unwrap_or, if◌then◌else◌, codes, refl, sym, ap, ap₂, ◌∙◌, subst, arith}
use Rattle.std.specs.Prelude.{◌==◌}
use Rattle.std.specs.List.{list_all}
use Rattle.core_terms.specs.Types.{Ty, NamedTy, AuthTy, PairTy}
use Rattle.core_terms.specs.TypeDeclarations.{length_text}
use Rattle.core_terms.specs.declared.format.Format.TheVariants.{Second}
use Rattle.lexemes.specs.declared.token.Keyword.{Keyword}
use Rattle.lexemes.specs.declared.token.Keyword.TheVariants.{Vec as VecWord}
use Rattle.lexemes.specs.declared.token.Mark.TheVariants.{LeftParenthesis}
use Rattle.lexemes.specs.Tokens.{Token, KeywordToken, MarkToken, LowerToken, is_name_byte, keyword_among, common_keywords}
use Rattle.auth_syntax.specs.Syntax.{TypeSyntax, UnitTypeSyntax, BoolTypeSyntax, IntTypeSyntax, TextTypeSyntax, NamedTypeSyntax, AuthTypeSyntax, PairTypeSyntax, VecTypeSyntax}
use Rattle.declared_types.specs.WrittenTypes.{number_of, array_meant, type_meant}
use Rattle.printed_types.proofs.WrittenTexts.{blank_before_type, type_before, more_before, fields_before}
use Rattle.printed_types.proofs.LinesOfTypes.{first_token}
use Rattle.printed_types.proofs.SpelledTypes.{IsTypeName, IsSpelled, AreSpelled}
use Rattle.printed_types.proofs.WordsApart.{Begins, ends_word, ends_type, ends_constructor, word_ends_at_type, first_apart, words_apart}

-- the first word of a type, which is empty before a parenthesis, and what stands behind it
abbrev head_word : TypeSyntax → List ℕ
head_word (UnitTypeSyntax at) = codes "unit"
head_word (BoolTypeSyntax at) = codes "bool"
head_word (IntTypeSyntax at) = codes "int"
head_word (TextTypeSyntax at) = codes "text"
head_word (NamedTypeSyntax at name) = name
head_word (AuthTypeSyntax at inner) = codes "auth"
head_word (PairTypeSyntax at first second) = []
head_word (VecTypeSyntax at n item) = codes "vec"

abbrev behind_head : TypeSyntax → List ℕ → List ℕ
behind_head (AuthTypeSyntax at inner) rest = blank_before_type inner ++ type_before inner rest
behind_head (PairTypeSyntax at first second) rest = codes "(" ++ type_before first (codes ", " ++ type_before second (codes ")" ++ rest))
behind_head (VecTypeSyntax at n item) rest = codes "[" ++ (length_text n ++ (codes "] " ++ type_before item rest))
behind_head t rest = rest

whole_text : (t : TypeSyntax) (rest : List ℕ) → type_before t rest ≡ head_word t ++ behind_head t rest
whole_text (AuthTypeSyntax at inner) rest = refl
whole_text (PairTypeSyntax at first second) rest = refl
whole_text (VecTypeSyntax at n item) rest = refl
whole_text t rest = refl

head_is_word : (t : TypeSyntax) → IsSpelled t → list_all is_name_byte (head_word t) ≡ true
head_is_word (NamedTypeSyntax at name) h = h.is_word
head_is_word t h = refl

auth_ends : (inner : TypeSyntax) (rest : List ℕ) → Begins ends_word (blank_before_type inner ++ type_before inner rest)
auth_ends (PairTypeSyntax at first second) rest = refl
auth_ends t rest = refl

head_ends : (t : TypeSyntax) (rest : List ℕ) → Begins ends_type rest → Begins ends_word (behind_head t rest)
head_ends (AuthTypeSyntax at inner) rest h = auth_ends inner rest
head_ends (PairTypeSyntax at first second) rest h = refl
head_ends (VecTypeSyntax at n item) rest h = refl
head_ends t rest h = word_ends_at_type rest h

-- where texts are the same, so are their first words, and what stands behind these
heads_apart : (t u : TypeSyntax) (rest others : List ℕ) → IsSpelled t → IsSpelled u → Begins ends_type rest → Begins ends_type others
    → type_before t rest ≡ type_before u others → (head_word t ≡ head_word u) × (behind_head t rest ≡ behind_head u others)
heads_apart t u rest others h k ends ends' e =
    words_apart (head_word t) (head_word u) (behind_head t rest) (behind_head u others) (head_is_word t h) (head_is_word u k)
    (head_ends t rest ends) (head_ends u others ends') (sym (whole_text t rest) ∙ e ∙ whole_text u others)

-- The first token of a type is told by its first word and what stands behind it: where that is a bracket, the word is that of arrays, which
-- is a name in the first format.
abbrev begins_bracket : List ℕ → Bool
begins_bracket [] = false
begins_bracket (b ∷ rest) = b == 91

abbrev token_of_word : Option Keyword → List ℕ → List ℕ → Token
token_of_word (Some keyword) word behind = KeywordToken keyword
token_of_word None word behind = if begins_bracket behind then KeywordToken VecWord else LowerToken word

abbrev token_at : List ℕ → List ℕ → Token
token_at [] behind = MarkToken LeftParenthesis
token_at (b ∷ word) behind = token_of_word (keyword_among common_keywords (b ∷ word)) (b ∷ word) behind

no_bracket_at : (b : ℕ) → ends_type b ≡ true → b == 91 ≡ false
no_bracket_at b h = grind (arith)

no_bracket : (rest : List ℕ) → Begins ends_type rest → begins_bracket rest ≡ false
no_bracket [] h = absurd h
no_bracket (b ∷ rest) h = no_bracket_at b h

name_token : (name rest : List ℕ) → IsTypeName name → Begins ends_type rest → token_at name rest ≡ LowerToken name
name_token [] rest h ends = absurd h.is_some
name_token (b ∷ word) rest h ends =
    ap (λ (found : Option Keyword). token_of_word found (b ∷ word) rest) h.is_free
    ∙ ap (λ (test : Bool). if test then KeywordToken VecWord else LowerToken (b ∷ word)) (no_bracket rest ends)

token_is : (t : TypeSyntax) (rest : List ℕ) → IsSpelled t → Begins ends_type rest → token_at (head_word t) (behind_head t rest) ≡ first_token t
token_is (NamedTypeSyntax at name) rest h ends = name_token name rest h ends
token_is t rest h ends = refl

tokens_same : (t u : TypeSyntax) (rest others : List ℕ) → IsSpelled t → IsSpelled u → Begins ends_type rest → Begins ends_type others
    → type_before t rest ≡ type_before u others → first_token t ≡ first_token u
tokens_same t u rest others h k ends ends' e =
    let heads = heads_apart t u rest others h k ends ends' e in
    sym (token_is t rest h ends) ∙ ap₂ token_at heads.0 heads.1 ∙ token_is u others k ends'

-- behind `auth`
blanks_off : (t u : TypeSyntax) (rest others : List ℕ)
    → blank_before_type t ++ type_before t rest ≡ blank_before_type u ++ type_before u others → type_before t rest ≡ type_before u others
blanks_off (PairTypeSyntax at first second) (PairTypeSyntax at' first' second') rest others e = e
blanks_off (PairTypeSyntax at first second) u rest others e = absurd (first_apart 40 32 _ _ refl e)
blanks_off t (PairTypeSyntax at first second) rest others e = absurd (first_apart 32 40 _ _ refl e)
blanks_off t u rest others e = cc

-- lengths before the bracket that closes them
abbrev digits_by : Bool → ℕ → List ℕ
digits_by test n = if test then (0x30 + n) ∷ [] else (0x30 + n / 10) ∷ (0x30 + n % 10) ∷ []

digits_apart : (a b : Bool) (n m : ℕ) (rest others : List ℕ) → digits_by a n ++ (93 ∷ rest) ≡ digits_by b m ++ (93 ∷ others) → (n ≡ m) × (rest ≡ others)
digits_apart true true n m rest others e =
    let first : 0x30 + n ≡ 0x30 + m = cc in
    (omega arith, cc)
digits_apart false false n m rest others e =
    let tens : 0x30 + n / 10 ≡ 0x30 + m / 10 = cc in
    let ones : 0x30 + n % 10 ≡ 0x30 + m % 10 = cc in
    (omega arith, cc)
digits_apart true false n m rest others e = let ones : 93 ≡ 0x30 + m % 10 = cc in absurd (omega arith)
digits_apart false true n m rest others e = let ones : 0x30 + n % 10 ≡ 93 = cc in absurd (omega arith)

lengths_apart : (n m : ℕ) (rest others : List ℕ) → length_text n ++ (93 ∷ rest) ≡ length_text m ++ (93 ∷ others) → (n ≡ m) × (rest ≡ others)
lengths_apart n m rest others e = digits_apart (nat_lt n 10) (nat_lt m 10) n m rest others e

module _ (names : List (List ℕ)) where
  -- what is written, in a program of the second format; a known type means the same in each
  abbrev pub meant : TypeSyntax → Ty
  meant t = type_meant Second names t

  type_same : (t u : TypeSyntax) (rest others : List ℕ) → IsSpelled t → IsSpelled u → Begins ends_type rest → Begins ends_type others
      → type_before t rest ≡ type_before u others → (meant t ≡ meant u) × (rest ≡ others)
  type_same (UnitTypeSyntax at) (UnitTypeSyntax at') rest others h k ends ends' e = (refl, cc)
  type_same (BoolTypeSyntax at) (BoolTypeSyntax at') rest others h k ends ends' e = (refl, cc)
  type_same (IntTypeSyntax at) (IntTypeSyntax at') rest others h k ends ends' e = (refl, cc)
  type_same (TextTypeSyntax at) (TextTypeSyntax at') rest others h k ends ends' e = (refl, cc)
  type_same (NamedTypeSyntax at name) (NamedTypeSyntax at' name') rest others h k ends ends' e =
      let heads = heads_apart (NamedTypeSyntax at name) (NamedTypeSyntax at' name') rest others h k ends ends' e in
      (ap (λ (n : List ℕ). NamedTy (unwrap_or (number_of names n) 0)) heads.0, heads.1)
  type_same (AuthTypeSyntax at inner) (AuthTypeSyntax at' inner') rest others h k ends ends' e =
      let behind : blank_before_type inner ++ type_before inner rest ≡ blank_before_type inner' ++ type_before inner' others = cc in
      let same = type_same inner inner' rest others h k ends ends' (blanks_off inner inner' rest others behind) in
      (ap AuthTy same.0, same.1)
  type_same (PairTypeSyntax at first second) (PairTypeSyntax at' first' second') rest others h k ends ends' e =
      let behind = codes ", " ++ type_before second (codes ")" ++ rest) in
      let behind' = codes ", " ++ type_before second' (codes ")" ++ others) in
      let inside : type_before first behind ≡ type_before first' behind' = cc in
      let one = type_same first first' behind behind' h.0 k.0 refl refl inside in
      let more : behind ≡ behind' = one.1 in
      let inside' : type_before second (codes ")" ++ rest) ≡ type_before second' (codes ")" ++ others) = cc in
      let two = type_same second second' (codes ")" ++ rest) (codes ")" ++ others) h.1 k.1 refl refl inside' in
      let closed : codes ")" ++ rest ≡ codes ")" ++ others = two.1 in
      (ap₂ PairTy one.0 two.0, cc)
  type_same (VecTypeSyntax at n item) (VecTypeSyntax at' m item') rest others h k ends ends' e =
      let behind : length_text n ++ (codes "] " ++ type_before item rest) ≡ length_text m ++ (codes "] " ++ type_before item' others) = cc in
      let lengths = lengths_apart n m (codes " " ++ type_before item rest) (codes " " ++ type_before item' others) behind in
      let blank : codes " " ++ type_before item rest ≡ codes " " ++ type_before item' others = lengths.1 in
      let inside : type_before item rest ≡ type_before item' others = cc in
      let same = type_same item item' rest others h k ends ends' inside in
      (ap₂ (array_meant Second) lengths.0 same.0, same.1)
  type_same t u rest others h k ends ends' e = let same : first_token t ≡ first_token u = tokens_same t u rest others h k ends ends' e in absurd (cc)

  -- types behind a first one, up to the parenthesis that closes them
  more_ends : (ts : List TypeSyntax) (rest : List ℕ) → Begins ends_type (more_before ts (41 ∷ rest))
  more_ends [] rest = refl
  more_ends (t ∷ ts) rest = refl

  more_same : (ts us : List TypeSyntax) (rest others : List ℕ) → AreSpelled ts → AreSpelled us
      → more_before ts (41 ∷ rest) ≡ more_before us (41 ∷ others) → (map meant ts ≡ map meant us) × (rest ≡ others)
  more_same [] [] rest others h k e = (refl, cc)
  more_same [] (u ∷ us) rest others h k e = absurd (first_apart 41 44 _ _ refl e)
  more_same (t ∷ ts) [] rest others h k e = absurd (first_apart 44 41 _ _ refl e)
  more_same (t ∷ ts) (u ∷ us) rest others h k e =
      let behind = more_before ts (41 ∷ rest) in
      let behind' = more_before us (41 ∷ others) in
      let inside : type_before t behind ≡ type_before u behind' = cc in
      let one = type_same t u behind behind' h.0 k.0 (more_ends ts rest) (more_ends us others) inside in
      let more = more_same ts us rest others h.1 k.1 one.1 in
      (ap₂ (λ (first : Ty) (others : List Ty). first ∷ others) one.0 more.0, more.1)

  -- the fields of a constructor
  no_parenthesis : (rest others : List ℕ) → Begins ends_constructor rest → rest ≡ 40 ∷ others → ⊥
  no_parenthesis rest others ends e = let wrong : false ≡ true = subst (Begins ends_constructor) e ends in absurd (cc)

  pub fields_same : (ts us : List TypeSyntax) (rest others : List ℕ) → AreSpelled ts → AreSpelled us
      → Begins ends_constructor rest → Begins ends_constructor others
      → fields_before ts rest ≡ fields_before us others → (map meant ts ≡ map meant us) × (rest ≡ others)
  fields_same [] [] rest others h k ends ends' e = (refl, e)
  fields_same [] (u ∷ us) rest others h k ends ends' e = absurd (no_parenthesis rest _ ends e)
  fields_same (t ∷ ts) [] rest others h k ends ends' e = absurd (no_parenthesis others _ ends' (sym e))
  fields_same (t ∷ ts) (u ∷ us) rest others h k ends ends' e =
      let behind = more_before ts (41 ∷ rest) in
      let behind' = more_before us (41 ∷ others) in
      let inside : type_before t behind ≡ type_before u behind' = cc in
      let one = type_same t u behind behind' h.0 k.0 (more_ends ts rest) (more_ends us others) inside in
      let more = more_same ts us rest others h.1 k.1 one.1 in
      (ap₂ (λ (first : Ty) (others : List Ty). first ∷ others) one.0 more.0, more.1)
