-- Readers of lists: things with a sign between them, and a sign that ends them.
use Rattle.std.proofs.Common.{◌≡◌, ℕ, zero, suc, ◌<◌, ◌≤◌, Bool, true, false, List, [], ◌∷◌, ◌++◌, length, cond, refl, sym, ap, subst, ◌∙◌, arith, append_assoc, length-append}
use Rattle.lexemes.specs.declared.place.Place.{Place}
use Rattle.lexemes.specs.declared.token.Mark.TheVariants.{LeftParenthesis, RightParenthesis, Comma, Semicolon, Bar}
use Rattle.lexemes.specs.Tokens.{MarkToken, Tokens, Next, End, Faulty, count}
use Rattle.auth_syntax.specs.Grammar.{Written, mark, in_parentheses, IsSome}
use Rattle.lexemes.specs.Readings.{Reading, Found, then_read, refused, read_separator}
use Rattle.auth_syntax.specs.Parsing.{read_others, read_list, read_optional_list, read_bar}
use Rattle.auth_syntax.proofs.Beginnings.{Begins, Begin, First, begin-none, begin-next, begin-append, begin-first, none-begin}
use Rattle.auth_syntax.proofs.Readers.{IsClear, IsReader, Reader, Row, Then, Last, read_row, row_sound, row_complete, found_thing, found_left, gone_on, then_found, clear_first}

-- How lists of things are written, with a sign between two, and when they are within a limit.
pub record IsListed {A : Type 0} (limit : ℕ) (between : Written) (one : A → List Written) (within : ℕ → A → Type 0)
    (all : List A → List Written) (all_within : ℕ → List A → Type 0) : Type 0 where
  pub none : all [] ≡ []
  pub single : (thing : A) → all (thing ∷ []) ≡ one thing
  pub several : (thing next : A) (rest : List A) → all (thing ∷ next ∷ rest) ≡ one thing ++ between ∷ all (next ∷ rest)
  pub some : (thing : A) → 0 < length (one thing)
  pub none_within : all_within limit []
  pub more_within : (thing : A) (rest : List A) → within limit thing → all_within limit rest → all_within limit (thing ∷ rest)
  pub first_within : (thing : A) (rest : List A) → all_within limit (thing ∷ rest) → within limit thing
  pub others_within : (thing : A) (rest : List A) → all_within limit (thing ∷ rest) → all_within limit rest

-- the sign that says whether another one follows
abbrev pub sign : Written → Written → Bool → Written
sign between closing true = between
sign between closing false = closing

-- reading this sign
pub record IsSeparator (reads : Tokens → Reading Bool) (between closing : Written) : Type 0 where
  pub found : (tokens left : Tokens) (follows : Bool) → reads tokens ≡ Found follows left → Begin tokens (sign between closing follows ∷ []) left
  pub read : (follows : Bool) (others : List Written) (tokens left : Tokens) (h : First tokens (sign between closing follows) others left)
      → reads tokens ≡ Found follows h.rest
  pub clear : (follows : Bool) (at : Place) (rest : Tokens) → IsClear (Next at (sign between closing follows).token rest)

-- lists with any signs
abbrev pub read_separated : {A : Type 0} → (Tokens → Reading Bool) → (Tokens → Reading A) → ℕ → Tokens → Reading (List A)
read_separated reads one zero tokens = refused tokens
read_separated reads one (suc most) tokens =
    then_read (one tokens) (λ first tokens.
    then_read (read_others (reads tokens) (read_separated reads one most)) (λ others tokens. Found (first ∷ others) tokens))

-- what is refused is not found
pub refused_found : {A : Type 0} (tokens : Tokens) (found : A) (left : Tokens) → refused tokens ≡ Found found left → ⊥
refused_found (Next at token rest) found left e = cc
refused_found (End at) found left e = cc
refused_found (Faulty at kind) found left e = cc

-- what stands behind the first thing of a list
abbrev pub behind_first : {A : Type 0} → Written → Written → (List A → List Written) → List A → List Written
behind_first between closing all [] = closing ∷ []
behind_first between closing all (next ∷ rest) = between ∷ all (next ∷ rest) ++ closing ∷ []

module _ (limit : ℕ) (one : Reader limit) (between closing : Written) (all : List one.A → List Written) (all_within : ℕ → List one.A → Type 0)
    (listed : IsListed limit between one.written one.within all all_within)
    (reads : Tokens → Reading Bool) (separator : IsSeparator reads between closing) where
  abbrev pub list_written : List one.A → List Written
  list_written things = all things ++ closing ∷ []

  abbrev pub list_within : ℕ → ℕ → List one.A → Type 0
  list_within most at_most things = IsSome things × all_within at_most things × (length things ≤ most)

  abbrev pub others_within : ℕ → ℕ → List one.A → Type 0
  others_within most at_most things = all_within at_most things × (length things ≤ most)

  abbrev pub IsListReader : ℕ → Type 0
  IsListReader most = IsReader limit (λ at_most. read_separated reads (one.read at_most) most) list_written (list_within most)

  abbrev read_on : ℕ → ℕ → Bool → Tokens → Reading (List one.A)
  read_on most at_most follows rest = cond follows (read_separated reads (one.read at_most) most rest) (Found [] rest)

  follows_sound : (most : ℕ) → IsListReader most → (follows : Bool) (tokens middle : Tokens) (found : List one.A) (left : Tokens)
      → Begin tokens (sign between closing follows ∷ []) middle → read_on most limit follows middle ≡ Found found left
      → Begin tokens (behind_first between closing all found) left × others_within most limit found
  follows_sound most lists true tokens middle [] left begin e = absurd (lists.sound middle [] left e).1.0
  follows_sound most lists true tokens middle (next ∷ rest) left begin e =
      let s = lists.sound middle (next ∷ rest) left e in (begin-append begin s.0, (s.1.1, s.1.2))
  follows_sound most lists false tokens middle found left begin e =
      subst (λ (things : List one.A). Begin tokens (behind_first between closing all things) left × others_within most limit things) (found_thing e)
      (subst (Begin tokens (closing ∷ [])) (found_left e) begin, (listed.none_within, omega arith))

  others_complete : (most : ℕ) → IsListReader most → (things : List one.A) (tokens left : Tokens)
      → Begin tokens (behind_first between closing all things) left → others_within most limit things → IsClear left
      → read_others (reads tokens) (read_separated reads (one.read limit) most) ≡ Found things left
  others_complete most lists [] tokens left begin within clear =
      let f = begin-first begin in
      then_found (reads tokens) false f.rest _ _ (separator.read false [] tokens left f) (ap (λ ts. Found [] ts) (none-begin f.begin))
  others_complete most lists (next ∷ rest) tokens left begin within clear =
      let f = begin-first begin in
      then_found (reads tokens) true f.rest _ _ (separator.read true _ tokens left f)
      (lists.complete (next ∷ rest) f.rest left f.begin (tt, within.0, within.1) clear)

  others_are : (most : ℕ) → IsListReader most
      → IsReader limit (λ at_most tokens. read_others (reads tokens) (read_separated reads (one.read at_most) most)) (behind_first between closing all)
      (others_within most)
  others_are most lists = record {
    sound = λ tokens found left e.
        let g = gone_on (reads tokens) (read_on most limit) found left e in
        follows_sound most lists g.thing tokens g.middle found left (separator.found tokens g.middle g.thing g.first) g.others;
    complete = others_complete most lists;
  }

  abbrev others_reader : (most : ℕ) → IsListReader most → Reader limit
  others_reader most lists = record {
    A = List one.A;
    read = λ at_most tokens. read_others (reads tokens) (read_separated reads (one.read at_most) most);
    written = behind_first between closing all;
    within = others_within most;
    is = others_are most lists;
  }

  -- a list as a row
  abbrev list_row : (most : ℕ) → IsListReader most → Row limit (List one.A)
  list_row most lists = Then one (λ first. Last (others_reader most lists) (λ others. first ∷ others))

  list_joined : (first : one.A) (others : List one.A) → one.written first ++ behind_first between closing all others ≡ list_written (first ∷ others)
  list_joined first [] = ap (λ ws. ws ++ closing ∷ []) (sym (listed.single first))
  list_joined first (next ∷ rest) =
      sym (append_assoc (one.written first) (between ∷ all (next ∷ rest)) (closing ∷ [])) ∙ ap (λ ws. ws ++ closing ∷ []) (sym (listed.several first next rest))

  others_clear : (most : ℕ) (lists : IsListReader most) (things : List one.A) (tokens left : Tokens)
      → Begin tokens (behind_first between closing all things) left → IsClear left → IsClear tokens
  others_clear most lists [] tokens left begin clear =
      let f = begin-first begin in clear_first tokens closing [] left f (separator.clear false f.at f.rest)
  others_clear most lists (next ∷ rest) tokens left begin clear =
      let f = begin-first begin in clear_first tokens between _ left f (separator.clear true f.at f.rest)

  pub lists_are : (most : ℕ) → IsListReader most
  lists_are zero = record {
    sound = λ tokens found left e. absurd (refused_found tokens found left e);
    complete = λ things tokens left begin within clear. absurd (none_within things within.0 within.2);
  } where
    none_within : (things : List one.A) → IsSome things → length things ≤ 0 → ⊥
    none_within [] some h = some
    none_within (thing ∷ rest) some h = absurd (omega arith)
  lists_are (suc most) = list_is most (lists_are most) where
    list_found : (most : ℕ) (lists : IsListReader most) (tokens : Tokens) (found : List one.A) (left : Tokens)
        → read_row (list_row most lists) limit tokens ≡ Found found left → Begin tokens (list_written found) left × list_within (suc most) limit found
    list_found most lists tokens found left e =
        let s = row_sound (list_row most lists) tokens found left e in
        let first = s.thing.0 in let others = s.thing.1 in
        subst (λ (things : List one.A). Begin tokens (list_written things) left × list_within (suc most) limit things) s.is (
          subst (λ (ws : List Written). Begin tokens ws left) (list_joined first others) s.begin,
          (tt, listed.more_within first others s.fits.0 s.fits.1.0, omega (arith, s.fits.1.1)),
        )

    list_complete : (most : ℕ) (lists : IsListReader most) (things : List one.A) (tokens left : Tokens) → Begin tokens (list_written things) left
        → list_within (suc most) limit things → IsClear left → read_row (list_row most lists) limit tokens ≡ Found things left
    list_complete most lists [] tokens left begin within clear = absurd within.0
    list_complete most lists (first ∷ rest) tokens left begin within clear =
        row_complete (list_row most lists) (λ thing. (others_clear most lists, tt)) (first, rest) tokens left
        (subst (λ (ws : List Written). Begin tokens ws left) (sym (list_joined first rest)) begin)
        (listed.first_within first rest within.1, (listed.others_within first rest within.1, omega (arith, within.2))) clear

    list_is : (most : ℕ) → IsListReader most → IsListReader (suc most)
    list_is most lists = record { sound = list_found most lists; complete = list_complete most lists }

  -- a list has no more things than tokens
  things_fit : (things : List one.A) → length things ≤ length (all things)
  things_fit [] = omega arith
  things_fit (thing ∷ []) = rw listed.single (omega (arith, listed.some thing))
  things_fit (thing ∷ next ∷ rest) =
      let others = things_fit (next ∷ rest) in
      rw listed.several (omega (arith, others, length-append (one.written thing) (between ∷ all (next ∷ rest))))

pub begins_fit : (ws : List Written) (tokens left : Tokens) → Begins tokens ws left → length ws ≤ count tokens
begins_fit [] tokens left h = omega arith
begins_fit (w ∷ ws) (Next at token rest) left h = let others = begins_fit ws rest left h.2 in omega arith
begins_fit (w ∷ ws) (End at) left h = absurd h
begins_fit (w ∷ ws) (Faulty at kind) left h = absurd h

module _ (limit : ℕ) (one : Reader limit) (between closing : Written) (all : List one.A → List Written) (all_within : ℕ → List one.A → Type 0)
    (listed : IsListed limit between one.written one.within all all_within)
    (reads : Tokens → Reading Bool) (separator : IsSeparator reads between closing) where
  abbrev pub some_within : ℕ → List one.A → Type 0
  some_within at_most things = IsSome things × all_within at_most things

  -- a list of no more things than there are tokens
  pub counted_are : IsReader limit (λ at_most tokens. read_separated reads (one.read at_most) (count tokens) tokens)
      (λ things. all things ++ closing ∷ []) some_within
  counted_are =
      let lists = lists_are limit one between closing all all_within listed reads separator in record {
        sound = λ tokens found left e. let s = (lists (count tokens)).sound tokens found left e in (s.0, (s.1.0, s.1.1));
        complete = λ things tokens left begin within clear.
            (lists (count tokens)).complete things tokens left begin (
              within.0,
              within.1,
              omega (
                arith,
                things_fit limit one between closing all all_within listed reads separator things,
                begins_fit (all things ++ closing ∷ []) tokens left begin.is,
                length-append (all things) (closing ∷ []),
              ),
            ) clear;
      }

  abbrev pub counted : Reader limit
  counted = record {
    A = List one.A;
    read = λ at_most tokens. read_separated reads (one.read at_most) (count tokens) tokens;
    written = λ things. all things ++ closing ∷ [];
    within = some_within;
    is = counted_are;
  }

-- lists with commas, which a parenthesis ends
pub commas : IsSeparator read_separator (mark Comma) (mark RightParenthesis)
commas = record { found = comma_found; read = comma_read; clear = comma_clear } where
  comma_found : (tokens left : Tokens) (follows : Bool) → read_separator tokens ≡ Found follows left
      → Begin tokens (sign (mark Comma) (mark RightParenthesis) follows ∷ []) left
  comma_found (Next at (MarkToken Comma) rest) left true e =
      begin-next at (MarkToken Comma) (mark Comma) refl tt (subst (Begin rest []) (found_left e) (begin-none rest))
  comma_found (Next at (MarkToken RightParenthesis) rest) left false e =
      begin-next at (MarkToken RightParenthesis) (mark RightParenthesis) refl tt (subst (Begin rest []) (found_left e) (begin-none rest))
  comma_found tokens left follows e = absurd (cc)

  comma_read : (follows : Bool) (others : List Written) (tokens left : Tokens) (h : First tokens (sign (mark Comma) (mark RightParenthesis) follows) others left)
      → read_separator tokens ≡ Found follows h.rest
  comma_read true others tokens left h = ap read_separator (h.is ∙ ap (λ t. Next h.at t h.rest) h.stands)
  comma_read false others tokens left h = ap read_separator (h.is ∙ ap (λ t. Next h.at t h.rest) h.stands)

  comma_clear : (follows : Bool) (at : Place) (rest : Tokens) → IsClear (Next at (sign (mark Comma) (mark RightParenthesis) follows).token rest)
  comma_clear true at rest = tt
  comma_clear false at rest = tt

-- constructors with bars, which a semicolon ends
pub bars : IsSeparator read_bar (mark Bar) (mark Semicolon)
bars = record { found = bar_found; read = bar_read; clear = bar_clear } where
  bar_found : (tokens left : Tokens) (follows : Bool) → read_bar tokens ≡ Found follows left
      → Begin tokens (sign (mark Bar) (mark Semicolon) follows ∷ []) left
  bar_found (Next at (MarkToken Bar) rest) left true e =
      begin-next at (MarkToken Bar) (mark Bar) refl tt (subst (Begin rest []) (found_left e) (begin-none rest))
  bar_found (Next at (MarkToken Semicolon) rest) left false e =
      begin-next at (MarkToken Semicolon) (mark Semicolon) refl tt (subst (Begin rest []) (found_left e) (begin-none rest))
  bar_found tokens left follows e = absurd (cc)

  bar_read : (follows : Bool) (others : List Written) (tokens left : Tokens) (h : First tokens (sign (mark Bar) (mark Semicolon) follows) others left)
      → read_bar tokens ≡ Found follows h.rest
  bar_read true others tokens left h = ap read_bar (h.is ∙ ap (λ t. Next h.at t h.rest) h.stands)
  bar_read false others tokens left h = ap read_bar (h.is ∙ ap (λ t. Next h.at t h.rest) h.stands)

  bar_clear : (follows : Bool) (at : Place) (rest : Tokens) → IsClear (Next at (sign (mark Bar) (mark Semicolon) follows).token rest)
  bar_clear true at rest = tt
  bar_clear false at rest = tt

-- such lists are read so
pub read_list-is : {A : Type 0} (one : Tokens → Reading A) (most : ℕ) → read_list one most ≡ read_separated read_separator one most
read_list-is one zero = refl
read_list-is one (suc most) =
    ap (λ (more : Tokens → Reading (List _)). λ (tokens : Tokens).
    then_read (one tokens) (λ first tokens.
    then_read (read_others (read_separator tokens) more) (λ others tokens. Found (first ∷ others) tokens)))
    (read_list-is one most)

module _ (limit : ℕ) (one : Reader limit) (all : List one.A → List Written) (all_within : ℕ → List one.A → Type 0)
    (listed : IsListed limit (mark Comma) one.written one.within all all_within) where
  -- behind a parenthesis: a list, and the parenthesis that ends it
  abbrev read_all : ℕ → Tokens → Reading (List one.A)
  read_all at_most tokens = read_list (one.read at_most) (count tokens) tokens

  abbrev counted_list : Reader limit
  counted_list = counted limit one (mark Comma) (mark RightParenthesis) all all_within listed read_separator commas

  read_all-is : (tokens : Tokens) → read_all limit tokens ≡ counted_list.read limit tokens
  read_all-is tokens = ap (λ (read : Tokens → Reading (List one.A)). read tokens) (read_list-is (one.read limit) (count tokens))

  pub list_is : IsReader limit read_all (λ things. all things ++ mark RightParenthesis ∷ []) (λ at_most things. IsSome things × all_within at_most things)
  list_is = record {
    sound = λ tokens found left e. counted_list.is.sound tokens found left (sym (read_all-is tokens) ∙ e);
    complete = λ things tokens left begin within clear. read_all-is tokens ∙ counted_list.is.complete things tokens left begin within clear;
  }

  abbrev pub list : Reader limit
  list = record {
    A = List one.A;
    read = read_all;
    written = λ things. all things ++ mark RightParenthesis ∷ [];
    within = λ at_most things. IsSome things × all_within at_most things;
    is = list_is;
  }

  -- a list in parentheses, or none
  pub in_parentheses-some : (things : List one.A) → IsSome things
      → in_parentheses (all things) ≡ mark LeftParenthesis ∷ all things ++ mark RightParenthesis ∷ []
  in_parentheses-some [] some = absurd some
  in_parentheses-some (thing ∷ rest) some = put (all (thing ∷ rest)) (fits thing rest) where
    put : (ws : List Written) → 0 < length ws → in_parentheses ws ≡ mark LeftParenthesis ∷ ws ++ mark RightParenthesis ∷ []
    put [] h = absurd (omega arith)
    put (w ∷ ws) h = refl

    fits : (thing : one.A) (rest : List one.A) → 0 < length (all (thing ∷ rest))
    fits thing [] = rw listed.single (listed.some thing)
    fits thing (next ∷ rest) =
        rw listed.several (omega (arith, listed.some thing, length-append (one.written thing) (mark Comma ∷ all (next ∷ rest))))

  abbrev IsOptional : Tokens → List one.A → Tokens → Type 0
  IsOptional tokens found left = Begin tokens (in_parentheses (all found)) left × all_within limit found

  optional_none : (tokens : Tokens) (found : List one.A) (left : Tokens) → Found [] tokens ≡ Found found left → IsOptional tokens found left
  optional_none tokens found left e =
      subst (λ (things : List one.A). IsOptional tokens things left) (found_thing e) (
        subst (λ (ws : List Written). Begin tokens (in_parentheses ws) left) (sym listed.none) (subst (Begin tokens []) (found_left e) (begin-none tokens)),
        listed.none_within,
      )

  optional_found : (tokens : Tokens) (found : List one.A) (left : Tokens) → read_optional_list (one.read limit) tokens ≡ Found found left
      → IsOptional tokens found left
  optional_found (Next at (MarkToken LeftParenthesis) rest) found left e =
      let s = list_is.sound rest found left e in (
        subst (λ (ws : List Written). Begin (Next at (MarkToken LeftParenthesis) rest) ws left) (sym (in_parentheses-some found s.1.0))
            (begin-next at (MarkToken LeftParenthesis) (mark LeftParenthesis) refl tt s.0),
        s.1.1,
      )
  optional_found tokens found left e = optional_none tokens found left e

  optional_clear : (tokens : Tokens) → IsClear tokens → read_optional_list (one.read limit) tokens ≡ Found [] tokens
  optional_clear (Next at (MarkToken LeftParenthesis) rest) clear = absurd clear
  optional_clear tokens clear = refl

  optional_complete : (things : List one.A) (tokens left : Tokens) → Begin tokens (in_parentheses (all things)) left → all_within limit things
      → IsClear left → read_optional_list (one.read limit) tokens ≡ Found things left
  optional_complete [] tokens left begin within clear =
      let e : tokens ≡ left = none-begin (subst (λ (ws : List Written). Begin tokens (in_parentheses ws) left) listed.none begin) in
      ap (read_optional_list (one.read limit)) e ∙ optional_clear left clear
  optional_complete (thing ∷ rest) tokens left begin within clear =
      let f = begin-first (subst (λ (ws : List Written). Begin tokens ws left) (in_parentheses-some (thing ∷ rest) tt) begin) in
      ap (read_optional_list (one.read limit)) (f.is ∙ ap (λ t. Next f.at t f.rest) f.stands)
      ∙ list_is.complete (thing ∷ rest) f.rest left f.begin (tt, within) clear

  pub optional_is : IsReader limit (λ at_most. read_optional_list (one.read at_most)) (λ things. in_parentheses (all things)) all_within
  optional_is = record { sound = optional_found; complete = optional_complete }

  abbrev pub optional : Reader limit
  optional = record {
    A = List one.A;
    read = λ at_most. read_optional_list (one.read at_most);
    written = λ things. in_parentheses (all things);
    within = all_within;
    is = optional_is;
  }
