-- clap's verdict on all words that the program's own test lets through: it takes exactly those that call a command.
use Rattle.std.proofs.Common.{◌≡◌, ◌≢◌, ◌↔◌, ◌⊎◌, inl, inr, ◌==◌, ◌≤◌, List, [], ◌∷◌, length, Option, Some, None, Err, find, Bool, true, false, ◌||◌, ◌&&◌, codes, arith, refl, sym, ◌∙◌, ap, eqb-true, nat_le, nat_lt, leb-true, ltb-true, not, subst, option_map, if◌then◌else◌, get_or, drop, take, ◌-◌}
use Rattle.std.specs.Borrow.{Bor}
use Rattle.std.specs.List.{list_all, list_any}
use Rattle.std.specs.Option.{option_and_then}
use Rattle.std.specs.Str.{bytes_eq}
use Rattle.std.proofs.lemmas.List.{take_rest}
use Rattle.std.proofs.lemmas.Slice.Eq.{bytes_eq-Decides}
use Rattle.clap.specs.Words.{fault_of}
use Rattle.clap.specs.Faults.{is_simple_and_free}
use Rattle.clap.proofs.OnLiterals.{clap_on_literals}
use Rattle.clap.specs.Lexer.{usize_max}
use Rattle.clap.specs.Walk.{idle, subcommand_met}
use Rattle.command_words.specs.CommandLine.{AreRefused, command_line, naming_one, with_command}
use Rattle.command_words.specs.Commands.{AreCounted, IsNamedBy, IsOfCommand, IsOfOneOf, Row, Text, commands, row_named, texts}
use Rattle.command_words.specs.Invocations.{Invocation, are_counted, called, calls, invocation_behind, invocation_of, is_refused, is_refused_word}
use Rattle.command_words.specs.Reading.{IsJudged, Reads}
use Rattle.command_words.specs.declared.fault.WordsFault.{WordsFault}
use Rattle.command_words.specs.declared.fault.WordsFault.TheVariants as fault
use Rattle.command_words.proofs.Counts.{IsCounted, both_parts, counted, fits, no_negation, refused}
use Rattle.command_words.proofs.Leaves.{finds, leaf_of, line_of, meets, most_of, names, row_in}
use Rattle.command_words.proofs.Levels.{faults_behind, no_name_refused, no_words_refused, unknown_refused}
use Rattle.command_words.proofs.PlainWords.{either_false, plain_word, plain_words}

-- clap takes the words, and they call this
pub record IsTaken (words : List Text) : Type 0 where
  pub invocation : Invocation
  pub passes : fault_of command_line words ≡ []
  pub behind : invocation_behind words ≡ Some invocation
  pub counted : IsOfCommand invocation.command invocation.texts

-- clap refuses the words, and they call nothing
pub record IsDenied (words : List Text) : Type 0 where
  pub fails : fault_of command_line words ≢ []
  pub uncalled : invocation_behind words ≡ None

abbrev pub IsDecided : List Text → Type 0
IsDecided words = IsTaken words ⊎ IsDenied words

other_way : (a b : Text) → bytes_eq a b ≡ false → bytes_eq b a ≡ false
other_way a b e = by (bytes_eq b a) refl
  where
    by : (t : Bool) → bytes_eq b a ≡ t → t ≡ false
    by false t = refl
    by true t = absurd (cc (sym ((bytes_eq-Decides a b).1 (sym ((bytes_eq-Decides b a).0 t))) ∙ e))

not_both : {A : Type 0} (o : Option A) (x : A) → o ≡ Some x → o ≡ None → ⊥
not_both o x some none = absurd (cc)

not_true : {b : Bool} → b ≡ false → b ≡ true → ⊥
not_true off on = absurd (cc)

-- ---- what is found in the table

module _ {A : Type 0} (p : A → Bool) (x : A) where
  found_passes : (xs : List A) → find p xs ≡ Some x → p x ≡ true
  found_passes [] e = absurd (cc)
  found_passes (y ∷ ys) e = go (p y) refl e (found_passes ys)
    where
      go : (b : Bool) → p y ≡ b → (if b then Some y else find p ys) ≡ Some x → (find p ys ≡ Some x → p x ≡ true) → p x ≡ true
      go true is here later = let same : y ≡ x = cc in ap p (sym same) ∙ is
      go false is here later = later here

  found_holds : (q : A → Bool) (xs : List A) → list_all q xs ≡ true → find p xs ≡ Some x → q x ≡ true
  found_holds q [] all e = absurd (cc)
  found_holds q (y ∷ ys) all e = go (p y) (q y) refl all e (found_holds q ys)
    where
      go : (b d : Bool) → q y ≡ d → (d && list_all q ys) ≡ true → (if b then Some y else find p ys) ≡ Some x → (list_all q ys ≡ true → find p ys ≡ Some x → q x ≡ true) → q x ≡ true
      go b false is all here later = absurd (cc)
      go true true is all here later = let same : y ≡ x = cc in ap q (sym same) ∙ is
      go false true is all here later = later all here

-- texts that are as many as the row takes are so many for its command
among : (p : Row → Bool) (row : Row) (texts : List Text) → AreCounted row texts → (rows : List Row) → find p rows ≡ Some row
    → IsOfOneOf row.command texts rows
among p row texts as_many [] e = absurd (cc)
among p row texts as_many (r ∷ rows) e = go (p r) e (among p row texts as_many rows)
  where
    go : (b : Bool) → (if b then Some r else find p rows) ≡ Some row → (find p rows ≡ Some row → IsOfOneOf row.command texts rows) → IsOfOneOf row.command texts (r ∷ rows)
    go true here later = let same : r ≡ row = cc in inl (ap (λ (r : Row). r.command) same, subst (λ (r : Row). AreCounted r texts) (sym same) as_many)
    go false here later = inr (later here)

-- the row of a name has this name
is_of_name : (rows : List Row) (name : Text) (row : Row) → row_in rows name ≡ Some row → row.name ≡ name
is_of_name rows name row is = (bytes_eq-Decides row.name name).0 (found_passes (λ r. bytes_eq r.name name) row rows is)

-- ---- the verdict

module _ (program name : Text) (ws : List Text) (own : is_refused (program ∷ name ∷ ws) ≡ false) where
  parts : (bytes_eq name (codes "help") ≡ false) × ((is_refused_word name || list_any is_refused_word ws) ≡ false)
  parts = either_false (bytes_eq name (codes "help")) (is_refused_word name || list_any is_refused_word ws) own

  no_flags : (is_refused_word name ≡ false) × (list_any is_refused_word ws ≡ false)
  no_flags = either_false (is_refused_word name) (list_any is_refused_word ws) parts.1

  other : bytes_eq (codes "help") name ≡ false
  other = other_way name (codes "help") parts.0

  unnamed : row_named name ≡ None → IsDecided (program ∷ name ∷ ws)
  unfolding row_named
  unnamed is = inr (record {
    fails = unknown_refused commands program name ws (plain_word name no_flags.0) (meets commands name other ∙ ap (option_map (λ row. row.name)) is);
    uncalled = ap (option_and_then (called ws)) is;
  })

  module _ (row : Row) where
    -- whatever the other rows are, the verdict is that on its own command
    faults : (rows : List Row) → row_in rows name ≡ Some row
        → fault_of (line_of rows) (program ∷ name ∷ ws) ≡ refused row.name row.least (most_of row) (length row.arguments) ws
    faults rows is = faults_behind rows name (leaf_of row) met parts.0 (finds rows name other ∙ ap (option_map leaf_of) is) program ws
      where
        met : subcommand_met (names rows) idle name ≡ Some name
        met = meets rows name other ∙ ap (option_map (λ row. row.name)) is ∙ ap (λ n. Some n) (is_of_name rows name row is)

    module _ (is : row_named name ≡ Some row) where
      holds : (q : Row → Bool) → list_all q commands ≡ true → q row ≡ true
      unfolding row_named
      holds q all = found_holds (λ r. bytes_eq r.name name) row q commands all is

      some : 1 ≤ row.least
      some = ltb-true 0 row.least (holds (λ r. nat_lt 0 r.least) refl)

      bounded : (most_of row == usize_max) ≡ false
      bounded = no_negation (most_of row == usize_max) (holds (λ r. not (most_of r == usize_max)) refl)

      most : most_of row ≡ length row.arguments
      most = eqb-true (most_of row) (length row.arguments) (holds (λ r. most_of r == length r.arguments) refl)

      over_all : fault_of command_line (program ∷ name ∷ ws) ≡ refused row.name row.least (most_of row) (length row.arguments) ws
      unfolding row_named
      over_all = faults commands is

      over_one : fault_of (with_command naming_one row) (program ∷ name ∷ ws) ≡ refused row.name row.least (most_of row) (length row.arguments) ws
      unfolding row_named
      over_one = faults (row ∷ []) (rw (found_passes (λ r. bytes_eq r.name name) row commands is) refl)

      texts_counted : AreCounted row ws → IsOfCommand row.command ws
      unfolding row_named
      texts_counted as_many = among (λ r. bytes_eq r.name name) row ws as_many commands is

      same_count : fits row.least (most_of row) ws ≡ are_counted ws row
      same_count = ap (λ k. fits row.least k ws) most

      by_count : IsCounted row.name row.least (most_of row) (length row.arguments) ws → IsDecided (program ∷ name ∷ ws)
      by_count (inl (as_many, passes)) =
          let parts = both_parts (nat_le row.least (length ws)) (nat_le (length ws) (length row.arguments)) (sym same_count ∙ as_many) in
          inl (record {
            invocation = calls row.command ws;
            passes = over_all ∙ passes;
            behind = ap (option_and_then (called ws)) is ∙ ap (λ b. if b then Some (calls row.command ws) else None) (sym same_count ∙ as_many);
            counted = texts_counted (leb-true row.least (length ws) parts.0, leb-true (length ws) (length row.arguments) parts.1);
          })
      by_count (inr (not_so_many, fails)) = inr (record {
        fails = λ none. fails (sym over_all ∙ none);
        uncalled = ap (option_and_then (called ws)) is ∙ ap (λ b. if b then Some (calls row.command ws) else None) (sym same_count ∙ not_so_many);
      })

      named : IsDecided (program ∷ name ∷ ws)
      named = by_count (counted row.name row.least (most_of row) (length row.arguments) some bounded ws (plain_words ws no_flags.1))

  by_row : (o : Option Row) → row_named name ≡ o → IsDecided (program ∷ name ∷ ws)
  by_row None is = unnamed is
  by_row (Some row) is = named row is

decided : (words : List Text) → is_refused words ≡ false → IsDecided words
decided [] own = inr (record { fails = no_words_refused commands; uncalled = refl })
decided (program ∷ []) own = inr (record { fails = no_name_refused commands program; uncalled = refl })
decided (program ∷ name ∷ ws) own = by_row program name ws own (row_named name) refl

-- ---- the line of the one command that the words name

-- it refuses as the whole line does
pub refuses_as_all : (row : Row) (words : List Text) → is_refused words ≡ false → IsNamedBy row words
    → fault_of (with_command naming_one row) words ≡ fault_of command_line words
refuses_as_all row [] own is = absurd is
refuses_as_all row (program ∷ []) own is = absurd is
refuses_as_all row (program ∷ name ∷ ws) own is = over_one program name ws own row is ∙ sym (over_all program name ws own row is)

pub is_free : (row : Row) (words : List Text) → is_refused words ≡ false → IsNamedBy row words → is_simple_and_free (with_command naming_one row) ≡ true
unfolding clap_on_literals
is_free row [] own is = absurd is
is_free row (program ∷ []) own is = absurd is
is_free row (program ∷ name ∷ ws) own is = holds program name ws own row is (λ r. is_simple_and_free (with_command naming_one r)) refl

-- what the own test lets through and clap takes calls a command
taken : (words : List Text) → is_refused words ≡ false → fault_of command_line words ≡ [] → IsTaken words
taken words own passes = by (decided words own)
  where
    by : IsDecided words → IsTaken words
    by (inl given) = given
    by (inr denied) = absurd (denied.fails passes)

-- the words that call nothing are those that are refused
pub refused_exactly : (words : List Text) → (invocation_of words ≡ None) ↔ AreRefused words
refused_exactly words = by (is_refused words) refl
  where
    shown : is_refused words ≡ false → invocation_behind words ≡ invocation_of words
    shown own = rw own refl

    judges : is_refused words ≡ false → IsDecided words → (invocation_of words ≡ None) ↔ AreRefused words
    judges own (inl given) = (λ none. absurd (not_both (invocation_behind words) given.invocation given.behind (shown own ∙ none)), λ refused. absurd (refuses refused))
      where
        refuses : AreRefused words → ⊥
        refuses (inl other) = not_true own other
        refuses (inr fails) = fails given.passes
    judges own (inr denied) = (λ none. inr denied.fails, λ refused. rw own denied.uncalled)

    by : (b : Bool) → is_refused words ≡ b → (invocation_of words ≡ None) ↔ AreRefused words
    by true own = (λ none. inl own, λ refused. rw own refl)
    by false own = judges own (decided words own)

-- words that clap refuses call nothing
pub halted : (A : Type 0) (words : List Text) (f : WordsFault) → IsJudged {A = A} words (Err f) → Reads words (Err f)
halted A words fault.Refused fails = (refused_exactly words).1 (inr fails)
halted A words fault.NoMemory fails = tt

-- ---- the words as the code takes them apart

abbrev no_word : Bor Text
no_word = record { ref_ptr = (0, 0); now = [] }

-- what is called has the command of the row, and these texts
of_row : (row : Row) (ws : List Text) (i : Invocation) → called ws row ≡ Some i → calls row.command ws ≡ i
of_row row ws i is = by (are_counted ws row) is
  where
    by : (b : Bool) → (if b then Some (calls row.command ws) else None) ≡ Some i → calls row.command ws ≡ i
    by true e = cc
    by false e = absurd (cc)

-- words that clap takes call the command of the row that the second names, with the texts behind it
pub called_with : (words : List (Bor Text)) (row : Row) → is_refused (texts words) ≡ false → fault_of command_line (texts words) ≡ []
    → 2 ≤ length words → row_named (get_or words 1 no_word).now ≡ Some row
    → (invocation_of (texts words) ≡ Some (calls row.command (texts (take (length words - 2) (drop 2 words)))))
    × IsOfCommand row.command (texts (take (length words - 2) (drop 2 words)))
called_with [] row own passes two is = absurd (omega (arith, two))
called_with (program ∷ []) row own passes two is = absurd (omega (arith, two))
called_with (program ∷ name ∷ ws) row own passes two is =
    let given = taken (texts (program ∷ name ∷ ws)) own passes in
    let same : given.invocation ≡ calls row.command (texts ws) = sym (of_row row (texts ws) given.invocation (sym (ap (option_and_then (called (texts ws))) is) ∙ given.behind)) in
    let behind : texts (take (length (program ∷ name ∷ ws) - 2) (drop 2 (program ∷ name ∷ ws))) ≡ texts ws = ap texts (take_rest (program ∷ name ∷ ws) 2) in
    (rw behind (rw own (given.behind ∙ ap (λ i. Some i) same)), rw behind (subst (λ (i : Invocation). IsOfCommand i.command i.texts) same given.counted))
