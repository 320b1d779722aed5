-- Words of bytes that may stand in a name, each before a byte that may not.
use Rattle.std.proofs.Common.{◌≡◌, ℕ, Bool, true, false, not, ◌||◌, List, [], ◌∷◌, ◌++◌, refl, sym, ap₂, subst, arith}
use Rattle.std.specs.Prelude.{◌==◌}
use Rattle.std.specs.List.{list_all}
use Rattle.lexemes.specs.Tokens.{is_name_byte}
use Rattle.lexemes.proofs.NumberLemmas.{both_true}

-- there is a first byte, and it passes this test
abbrev pub Begins : (ℕ → Bool) → List ℕ → Type 0
Begins test [] = ⊥
Begins test (b ∷ rest) = test b ≡ true

-- a byte that ends a word; one behind a type, and one behind a constructor
abbrev pub ends_word : ℕ → Bool
ends_word b = not (is_name_byte b)

abbrev pub ends_type : ℕ → Bool
ends_type b = b == 44 || b == 41

abbrev pub ends_constructor : ℕ → Bool
ends_constructor b = b == 32 || b == 59

type_ends : (b : ℕ) → ends_type b ≡ true → ends_word b ≡ true
type_ends b h = grind (arith)

constructor_ends : (b : ℕ) → ends_constructor b ≡ true → ends_word b ≡ true
constructor_ends b h = grind (arith)

pub word_ends_at_type : (rest : List ℕ) → Begins ends_type rest → Begins ends_word rest
word_ends_at_type [] h = absurd h
word_ends_at_type (b ∷ rest) h = type_ends b h

pub word_ends_at_constructor : (rest : List ℕ) → Begins ends_constructor rest → Begins ends_word rest
word_ends_at_constructor [] h = absurd h
word_ends_at_constructor (b ∷ rest) h = constructor_ends b h

-- texts whose first bytes differ are not the same
pub first_apart : (a b : ℕ) (rest others : List ℕ) → (a == b) ≡ false → a ∷ rest ≡ b ∷ others → ⊥
first_apart a b rest others differ e = let same : a ≡ b = cc in grind (arith)

-- no byte both ends a word and stands in it
never_both : (test : Bool) → not test ≡ true → test ≡ true → ⊥
never_both true h k = absurd (cc)
never_both false h k = absurd (cc)

not_within : (b : ℕ) (bytes rest : List ℕ) (others : List ℕ) → Begins ends_word others → list_all is_name_byte (b ∷ bytes) ≡ true → others ≡ b ∷ rest → ⊥
not_within b bytes rest others ends word e =
    never_both (is_name_byte b) (subst (Begins ends_word) e ends) (both_true (is_name_byte b) (list_all is_name_byte bytes) word).0

-- where two texts are the same, so are their first words
pub words_apart : (word other rest others : List ℕ) → list_all is_name_byte word ≡ true → list_all is_name_byte other ≡ true
    → Begins ends_word rest → Begins ends_word others → word ++ rest ≡ other ++ others → (word ≡ other) × (rest ≡ others)
words_apart [] [] rest others h k ends ends' e = (refl, e)
words_apart [] (b ∷ other) rest others h k ends ends' e = absurd (not_within b other (other ++ others) rest ends k e)
words_apart (a ∷ word) [] rest others h k ends ends' e = absurd (not_within a word (word ++ rest) others ends' h (sym e))
words_apart (a ∷ word) (b ∷ other) rest others h k ends ends' e =
    let first : a ≡ b = cc in
    let behind : word ++ rest ≡ other ++ others = cc in
    let same = words_apart word other rest others (both_true (is_name_byte a) (list_all is_name_byte word) h).1
    (both_true (is_name_byte b) (list_all is_name_byte other) k).1 ends ends' behind in
    (ap₂ (λ (c : ℕ) (cs : List ℕ). c ∷ cs) first same.0, same.1)
