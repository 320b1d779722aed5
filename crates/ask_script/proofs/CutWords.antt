-- Words of a line: where the first one ends, and what is one word alone.
use Rattle.std.proofs.Common.{◌≡◌, ℕ, suc, ◌+◌, Bool, true, false, not, cond, ◌&&◌, List, [], ◌∷◌, length, Option, Some, None, refl, sym, ap, ◌∙◌, arith}
use Rattle.std.specs.Option.{IfSome, IsNone}
use Rattle.std.specs.Char.{is_ascii_digit}
use Rattle.std.specs.Str.{all_ascii_digits}
use Rattle.std.specs.List.{position_or_len, after_first, onto_first}
use Rattle.std.proofs.lemmas.List.Splits.{slice_split_first, length-slice_split, join_with_byte-slice_split}
use Rattle.std.proofs.lemmas.Str.Pattern.{IsSplitOnceResult, split_once_first}
use lib.Dec.{eqb}
use denote.Ref.{Bor}
use Rattle.number_words.specs.Numbers.{number_within}
use Rattle.number_words.proofs.Numbers.{number_has_digits}
use Rattle.ask_script.specs.Scripts.{text_of, words_of}

-- the test by which words are parted
abbrev blank : ℕ → Bool
blank byte = eqb byte 32

-- a text without a blank is one word
pub one_word : (text : List ℕ) → position_or_len (λ byte. eqb byte 32) text ≡ length text → words_of text ≡ text ∷ []
one_word [] none = refl
one_word (b ∷ bs) none = by (eqb b 32) (λ fewer. one_word bs fewer) none
  where
    by : (t : Bool) → (position_or_len (λ byte. eqb byte 32) bs ≡ length bs → words_of bs ≡ bs ∷ [])
        → cond (not t) (1 + position_or_len (λ byte. eqb byte 32) bs) 0 ≡ suc (length bs)
        → cond t ([] ∷ words_of bs) (onto_first b (words_of bs)) ≡ (b ∷ bs) ∷ []
    by true others e = absurd (omega (arith, e))
    by false others e = ap (onto_first b) (others (omega (arith, e)))

module _ (text : List ℕ) where
  -- what a cut at the first blank says of the words
  pub word_cut : (r : Option (Bor (List ℕ) × Bor (List ℕ))) → IsSplitOnceResult 32 text r
      → IfSome r (λ parts. words_of text ≡ parts.0.now ∷ words_of parts.1.now)
  word_cut (Some (first, rest)) told =
      let found = split_once_first 32 text (Some (first, rest)) told (omega arith) in
      slice_split_first (λ byte. eqb byte 32) text 0 found.0
      ∙ ap (λ word. word ∷ words_of (after_first (λ byte. eqb byte 32) text)) (sym found.1)
      ∙ ap (λ behind. first.now ∷ words_of behind) (sym found.2)
  word_cut None told = tt

  pub word_whole : (r : Option (Bor (List ℕ) × Bor (List ℕ))) → IsSplitOnceResult 32 text r → IsNone r → words_of text ≡ text ∷ []
  word_whole (Some parts) told none = absurd (cc)
  word_whole None told none = one_word text (split_once_first 32 text None told (omega arith))

  -- there is a word at least
  pub some_word : words_of text ≡ [] → ⊥
  some_word none = let many = length-slice_split (λ byte. eqb byte 32) text in let nothing = ap length none in omega (arith, many, nothing)

  -- the words and the blanks between them are the text
  pub text_back : text_of (words_of text) ≡ text
  text_back = join_with_byte-slice_split 32 text

  -- so a word alone is the text
  pub word_alone : (word : List ℕ) → words_of text ≡ word ∷ [] → word ≡ text
  word_alone word is = sym (ap text_of is) ∙ text_back

not_blank : (b : ℕ) → is_ascii_digit b ≡ true → eqb b 32 ≡ false
not_blank b digit = grind arith

both_parts : (a b : Bool) → (a && b) ≡ true → (a ≡ true) × (b ≡ true)
both_parts true b e = (refl, e)
both_parts false b e = absurd (cc)

-- digits are one word
digits_word : (text : List ℕ) → all_ascii_digits text ≡ true → words_of text ≡ text ∷ []
digits_word [] digits = refl
digits_word (b ∷ bs) digits =
    let parts = both_parts (is_ascii_digit b) (all_ascii_digits bs) digits in
    ap (λ t. cond t ([] ∷ words_of bs) (onto_first b (words_of bs))) (not_blank b parts.0)
    ∙ ap (onto_first b) (digits_word bs parts.1)

-- where there are more words than one, they are no number
pub words_no_number : (most : ℕ) (text first second : List ℕ) (others : List (List ℕ)) → words_of text ≡ first ∷ second ∷ others → number_within most text ≡ None
words_no_number most text first second others are = by (number_within most text) refl
  where
    by : (o : Option ℕ) → number_within most text ≡ o → number_within most text ≡ None
    by None none = none
    by (Some n) told =
        let one : first ∷ second ∷ others ≡ text ∷ [] = sym are ∙ digits_word text (number_has_digits most text n told) in
        absurd (let counts = ap length one in omega (arith, counts))
