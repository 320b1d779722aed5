-- The forms of lines, by the words behind the first one.
use Rattle.std.proofs.Common.{◌≡◌, ℕ, Bool, true, false, List, [], ◌∷◌, Option, Some, None, option_map, bytes_eq, codes, if◌then◌else◌, refl, sym, ap, ◌∙◌}
use Rattle.std.specs.Bool.{Decides}
use Rattle.std.specs.Option.{option_and_then}
use Rattle.std.proofs.lemmas.Slice.Eq.{bytes_eq-Decides}
use Rattle.core_terms.specs.Types.{Ty}
use Rattle.std.specs.Prelude.{nat_le}
use Rattle.core_terms.specs.Terms.{Program}
use Rattle.core_terms.specs.Limits.{most_fuel}
use Rattle.printed_syntax.specs.Literals.{ConstructorNames, literal_in}
use Rattle.number_words.specs.Numbers.{number_within}
use Rattle.session_meaning.specs.Calls.{role_in}
use Rattle.ask_script.specs.Scripts.{UserStep, Calls, Closes, calls, form_of, most_session, opens, role_called, session_in, spelled, text_of, words_of}
use Rattle.ask_script.proofs.CutWords.{some_word, text_back, word_alone, words_no_number}

-- no session, where there are more words than one
words_no_session : (text first second : List ℕ) (others : List (List ℕ)) → words_of text ≡ first ∷ second ∷ others → session_in text ≡ None
words_no_session text first second others are =
    ap (option_and_then (λ number. if nat_le 1 number then Some number else None)) (words_no_number most_session text first second others are)

opens_no_pieces : (session : Option ℕ) → opens session None ≡ None
opens_no_pieces (Some n) = refl
opens_no_pieces None = refl

module _ (P : Program) (names : ConstructorNames) where
  abbrev of : List (List ℕ) → Option UserStep
  of = form_of P names

  -- ---- lines that open
  open_rest : (session kept : List ℕ) (words : List (List ℕ)) → words_of kept ≡ words
      → of (codes "open" ∷ session ∷ words) ≡ opens (session_in session) (number_within P.format.most_kept kept)
  open_rest session kept [] are = absurd (some_word kept are)
  open_rest session kept (w ∷ []) are = ap (λ word. opens (session_in session) (number_within P.format.most_kept word)) (word_alone kept w are)
  open_rest session kept (w ∷ v ∷ []) are =
      sym (ap (opens (session_in session)) (words_no_number P.format.most_kept kept w v [] are) ∙ opens_no_pieces (session_in session))
  open_rest session kept (w ∷ v ∷ u ∷ us) are =
      sym (ap (opens (session_in session)) (words_no_number P.format.most_kept kept w v (u ∷ us) are) ∙ opens_no_pieces (session_in session))

  pub open_two : (text session kept : List ℕ) → words_of text ≡ session ∷ words_of kept
      → of (codes "open" ∷ words_of text) ≡ opens (session_in session) (number_within P.format.most_kept kept)
  open_two text session kept are = ap (λ words. of (codes "open" ∷ words)) are ∙ open_rest session kept (words_of kept) refl

  -- ---- lines that close
  close_rest : (text : List ℕ) (words : List (List ℕ)) → words_of text ≡ words → of (codes "close" ∷ words) ≡ option_map Closes (session_in text)
  close_rest text [] are = absurd (some_word text are)
  close_rest text (w ∷ []) are = ap (λ word. option_map Closes (session_in word)) (word_alone text w are)
  close_rest text (w ∷ v ∷ []) are = sym (ap (option_map Closes) (words_no_session text w v [] are))
  close_rest text (w ∷ v ∷ u ∷ []) are = sym (ap (option_map Closes) (words_no_session text w v (u ∷ []) are))
  close_rest text (w ∷ v ∷ u ∷ t ∷ ts) are = sym (ap (option_map Closes) (words_no_session text w v (u ∷ t ∷ ts) are))

  pub close_form : (text : List ℕ) → of (codes "close" ∷ words_of text) ≡ option_map Closes (session_in text)
  close_form text = close_rest text (words_of text) refl

  -- ---- lines that call
  call_rest : (session role fuel argument : List ℕ) (words : List (List ℕ)) → words_of argument ≡ words
      → of (codes "call" ∷ session ∷ role ∷ fuel ∷ words) ≡ calls P names (session_in session) (role_called P role) (number_within most_fuel fuel) (text_of words)
  call_rest session role fuel argument [] are = absurd (some_word argument are)
  call_rest session role fuel argument (first ∷ others) are = refl

  pub call_form : (text session role fuel argument : List ℕ) → words_of text ≡ session ∷ role ∷ fuel ∷ words_of argument
      → of (codes "call" ∷ words_of text) ≡ calls P names (session_in session) (role_called P role) (number_within most_fuel fuel) argument
  call_form text session role fuel argument are =
      ap (λ words. of (codes "call" ∷ words)) are
      ∙ call_rest session role fuel argument (words_of argument) refl
      ∙ ap (calls P names (session_in session) (role_called P role) (number_within most_fuel fuel)) (text_back argument)

  -- ---- lines of more words than one whose first word is none of these
  differs : (xs ys : List ℕ) → (xs ≡ ys → ⊥) → bytes_eq xs ys ≡ false
  differs xs ys apart = by (bytes_eq xs ys) (bytes_eq-Decides xs ys)
    where
      by : (t : Bool) → Decides t (xs ≡ ys) → t ≡ false
      by true same = absurd (apart (same.0 refl))
      by false other = refl

  other_rest : (word behind : List ℕ) (words : List (List ℕ)) → words_of behind ≡ words
      → bytes_eq word (codes "open") ≡ false → bytes_eq word (codes "call") ≡ false → bytes_eq word (codes "close") ≡ false → of (word ∷ words) ≡ None
  other_rest word behind [] are no_open no_call no_close = absurd (some_word behind are)
  other_rest word behind (w ∷ []) are no_open no_call no_close = ap (λ t. if t then option_map Closes (session_in w) else None) no_close
  other_rest word behind (w ∷ v ∷ []) are no_open no_call no_close =
      ap (λ t. if t then opens (session_in w) (number_within P.format.most_kept v) else None) no_open
  other_rest word behind (w ∷ v ∷ u ∷ []) are no_open no_call no_close = refl
  other_rest word behind (w ∷ v ∷ u ∷ t ∷ ts) are no_open no_call no_close =
      ap (λ (b : Bool). if b then calls P names (session_in w) (role_called P v) (number_within most_fuel u) (text_of (t ∷ ts)) else None) no_call

  pub other_form : (text word behind : List ℕ) → words_of text ≡ word ∷ words_of behind
      → (word ≡ codes "open" → ⊥) → (word ≡ codes "call" → ⊥) → (word ≡ codes "close" → ⊥) → of (words_of text) ≡ None
  other_form text word behind are no_open no_call no_close =
      ap of are
      ∙ other_rest word behind (words_of behind) refl (differs word (codes "open") no_open) (differs word (codes "call") no_call) (differs word (codes "close") no_close)

-- what the parts of a line that opens give
pub opened : (P : Program) (names : ConstructorNames) (text session kept : List ℕ) (most : ℕ) (a b : Option ℕ) → words_of text ≡ session ∷ words_of kept
    → a ≡ session_in session → b ≡ number_within most kept → most ≡ P.format.most_kept → opens a b ≡ form_of P names (codes "open" ∷ words_of text)
opened P names text session kept most a b are is_a is_b is_most =
    ap (λ x. opens x b) is_a
    ∙ ap (opens (session_in session)) (is_b ∙ ap (λ m. number_within m kept) is_most)
    ∙ sym (open_two P names text session kept are)

-- ---- calls
module _ (P : Program) (names : ConstructorNames) (text : List ℕ) where
  pub no_session : (session role fuel : Option ℕ) → session ≡ None → calls P names session role fuel text ≡ None
  no_session session role fuel none = ap (λ o. calls P names o role fuel text) none

  pub no_role : (session role fuel : Option ℕ) → role ≡ None → calls P names session role fuel text ≡ None
  no_role (Some n) role fuel none = ap (λ o. calls P names (Some n) o fuel text) none
  no_role None role fuel none = refl

  pub no_fuel : (session role fuel : Option ℕ) → fuel ≡ None → calls P names session role fuel text ≡ None
  no_fuel (Some n) (Some m) fuel none = ap (λ o. calls P names (Some n) (Some m) o text) none
  no_fuel (Some n) None fuel none = refl
  no_fuel None role fuel none = refl

  pub all_told : (session role fuel : Option ℕ) (n m k : ℕ) → session ≡ Some n → role ≡ Some m → fuel ≡ Some k
      → calls P names session role fuel text ≡ option_map (Calls n m k) (spelled (literal_in P names (role_in P m).argument text))
  all_told session role fuel n m k is_n is_m is_k =
      ap (λ o. calls P names o role fuel text) is_n
      ∙ ap (λ o. calls P names (Some n) o fuel text) is_m
      ∙ ap (λ o. calls P names (Some n) (Some m) o text) is_k

-- what the parts of a line that calls give
pub call_told : (P : Program) (names : ConstructorNames) (text session role fuel argument : List ℕ) (n m k : ℕ) (t : Ty) (o : Option (List ℕ))
    → words_of text ≡ session ∷ role ∷ fuel ∷ words_of argument → session_in session ≡ Some n → role_called P role ≡ Some m → t ≡ (role_in P m).argument
    → number_within most_fuel fuel ≡ Some k → o ≡ spelled (literal_in P names t argument) → option_map (Calls n m k) o ≡ form_of P names (codes "call" ∷ words_of text)
call_told P names text session role fuel argument n m k t o are is_n is_m is_t is_k is_o =
    ap (option_map (Calls n m k)) (is_o ∙ ap (λ t. spelled (literal_in P names t argument)) is_t)
    ∙ sym (all_told P names argument (session_in session) (role_called P role) (number_within most_fuel fuel) n m k is_n is_m is_k)
    ∙ sym (call_form P names text session role fuel argument are)
