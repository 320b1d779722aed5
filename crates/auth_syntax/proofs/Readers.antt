-- Readers: functions that read a thing at the head of some tokens, and readers that read one thing after another. What a reader finds is
-- written with the tokens that it has taken, and what is written so is found.
use Rattle.std.proofs.Common.{◌≡◌, ℕ, Bool, true, false, List, [], ◌∷◌, ◌++◌, cond, refl, sym, ap, subst, ◌∙◌}
use Rattle.lexemes.specs.declared.place.Place.{Place}
use Rattle.lexemes.specs.declared.token.Mark.{Mark}
use Rattle.lexemes.specs.declared.token.Mark.TheVariants.{LeftParenthesis}
use Rattle.lexemes.specs.declared.token.Keyword.{Keyword}
use Rattle.lexemes.specs.Tokens.{Token, KeywordToken, MarkToken, LowerToken, UpperToken, Tokens, Next}
use Rattle.auth_syntax.specs.Syntax.{NameSyntax}
use Rattle.auth_syntax.specs.Grammar.{Written, mark, word, lower, upper}
use Rattle.lexemes.specs.Readings.{Reading, Found, FaultAt, then_read, read_mark, read_keyword, is_mark, is_keyword}
use Rattle.auth_syntax.specs.Parsing.{read_lower, read_upper}
use Rattle.lexemes.specs.declared.fault.SyntaxKind.TheVariants.{Expected}
use Rattle.lexemes.proofs.Signs.{is_mark-true, is_mark-same, is_keyword-true, is_keyword-same}
use Rattle.auth_syntax.proofs.Beginnings.{Begin, First, begin-none, begin-next, begin-append, begin-first, begin-parted, none-begin}

-- no parenthesis opens there
abbrev pub IsClear : Tokens → Type 0
IsClear (Next at (MarkToken LeftParenthesis) rest) = ⊥
IsClear tokens = Unit {0}

-- what was found is this thing, written with the tokens before those that are left, and within the limit
pub record Sound {A B : Type 0} (make : A → B) (written : A → List Written) (within : A → Type 0) (tokens : Tokens) (found : B) (left : Tokens) : Type 0 where
  pub thing : A
  pub is : make thing ≡ found
  pub begin : Begin tokens (written thing) left
  pub fits : within thing

-- A reader for each limit of nesting. At the limit: what it finds is written with the tokens that it has taken, and is within the limit;
-- and what is written so, before tokens that open no parenthesis, it finds.
pub record IsReader {A : Type 0} (limit : ℕ) (read : ℕ → Tokens → Reading A) (written : A → List Written) (within : ℕ → A → Type 0) : Type 0 where
  pub sound : (tokens : Tokens) (found : A) (left : Tokens) → read limit tokens ≡ Found found left
      → Begin tokens (written found) left × within limit found
  pub complete : (thing : A) (tokens left : Tokens) → Begin tokens (written thing) left → within limit thing → IsClear left
      → read limit tokens ≡ Found thing left

pub record Reader (limit : ℕ) : Type 1 where
  pub A : Type 0
  pub read : ℕ → Tokens → Reading A
  pub written : A → List Written
  pub within : ℕ → A → Type 0
  pub is : IsReader limit read written within

-- readers in a row, which end with a thing
pub data Row (limit : ℕ) (B : Type 0) : Type 1 where
  Done : (thing : B) → Row limit B
  ThenMark : (wanted : Mark) (others : Row limit B) → Row limit B
  ThenWord : (wanted : Keyword) (others : Row limit B) → Row limit B
  ThenLower : (others : NameSyntax → Row limit B) → Row limit B
  ThenUpper : (others : NameSyntax → Row limit B) → Row limit B
  Then : (reader : Reader limit) (others : reader.A → Row limit B) → Row limit B
  Last : (reader : Reader limit) (make : reader.A → B) → Row limit B

abbrev pub read_row : {limit : ℕ} {B : Type 0} → Row limit B → ℕ → Tokens → Reading B
read_row (Done thing) at_most tokens = Found thing tokens
read_row (ThenMark wanted others) at_most tokens = then_read (read_mark wanted tokens) (λ _ tokens. read_row others at_most tokens)
read_row (ThenWord wanted others) at_most tokens = then_read (read_keyword wanted tokens) (λ _ tokens. read_row others at_most tokens)
read_row (ThenLower others) at_most tokens = then_read (read_lower tokens) (λ name tokens. read_row (others name) at_most tokens)
read_row (ThenUpper others) at_most tokens = then_read (read_upper tokens) (λ name tokens. read_row (others name) at_most tokens)
read_row (Then reader others) at_most tokens = then_read (reader.read at_most tokens) (λ thing tokens. read_row (others thing) at_most tokens)
read_row (Last reader make) at_most tokens = then_read (reader.read at_most tokens) (λ thing tokens. Found (make thing) tokens)

-- the things that are read in a row
abbrev pub Things : {limit : ℕ} {B : Type 0} → Row limit B → Type 0
Things (Done thing) = Unit {0}
Things (ThenMark wanted others) = Things others
Things (ThenWord wanted others) = Things others
Things (ThenLower others) = (name : NameSyntax) × Things (others name)
Things (ThenUpper others) = (name : NameSyntax) × Things (others name)
Things (Then reader others) = (thing : reader.A) × Things (others thing)
Things (Last reader make) = reader.A

-- what they make, how they are written, and that each is within the limit
abbrev pub made : {limit : ℕ} {B : Type 0} (row : Row limit B) → Things row → B
made (Done thing) things = thing
made (ThenMark wanted others) things = made others things
made (ThenWord wanted others) things = made others things
made (ThenLower others) things = made (others things.0) things.1
made (ThenUpper others) things = made (others things.0) things.1
made (Then reader others) things = made (others things.0) things.1
made (Last reader make) things = make things

abbrev pub row_written : {limit : ℕ} {B : Type 0} (row : Row limit B) → Things row → List Written
row_written (Done thing) things = []
row_written (ThenMark wanted others) things = mark wanted ∷ row_written others things
row_written (ThenWord wanted others) things = word wanted ∷ row_written others things
row_written (ThenLower others) things = lower things.0 ∷ row_written (others things.0) things.1
row_written (ThenUpper others) things = upper things.0 ∷ row_written (others things.0) things.1
row_written (Then reader others) things = reader.written things.0 ++ row_written (others things.0) things.1
row_written (Last reader make) things = reader.written things

abbrev pub row_within : {limit : ℕ} {B : Type 0} (row : Row limit B) → ℕ → Things row → Type 0
row_within (Done thing) at_most things = Unit {0}
row_within (ThenMark wanted others) at_most things = row_within others at_most things
row_within (ThenWord wanted others) at_most things = row_within others at_most things
row_within (ThenLower others) at_most things = row_within (others things.0) at_most things.1
row_within (ThenUpper others) at_most things = row_within (others things.0) at_most things.1
row_within (Then reader others) at_most things = reader.within at_most things.0 × row_within (others things.0) at_most things.1
row_within (Last reader make) at_most things = reader.within at_most things

-- a reader whose things begin with no parenthesis, and a row, whatever stands behind it
abbrev pub IsClearReader : {limit : ℕ} → Reader limit → Type 0
IsClearReader reader = (thing : reader.A) (tokens left : Tokens) → Begin tokens (reader.written thing) left → IsClear left → IsClear tokens

abbrev pub IsClearRow : {limit : ℕ} {B : Type 0} → Row limit B → Type 0
IsClearRow (Done thing) = Unit {0}
IsClearRow (ThenMark wanted others) = is_mark LeftParenthesis wanted ≡ false
IsClearRow (ThenWord wanted others) = Unit {0}
IsClearRow (ThenLower others) = Unit {0}
IsClearRow (ThenUpper others) = Unit {0}
IsClearRow (Then reader others) = ⊥
IsClearRow (Last reader make) = IsClearReader reader

-- behind each thing the row goes on so
abbrev pub IsApart : {limit : ℕ} {B : Type 0} → Row limit B → Type 0
IsApart (Done thing) = Unit {0}
IsApart (ThenMark wanted others) = IsApart others
IsApart (ThenWord wanted others) = IsApart others
IsApart (ThenLower others) = (name : NameSyntax) → IsApart (others name)
IsApart (ThenUpper others) = (name : NameSyntax) → IsApart (others name)
IsApart (Then reader others) = (thing : reader.A) → IsClearRow (others thing) × IsApart (others thing)
IsApart (Last reader make) = Unit {0}

-- reading on from what was found
pub record GoneOn {A B : Type 0} (reading : Reading A) (go : A → Tokens → Reading B) (found : B) (left : Tokens) : Type 0 where
  pub thing : A
  pub middle : Tokens
  pub first : reading ≡ Found thing middle
  pub others : go thing middle ≡ Found found left

pub gone_on : {A B : Type 0} (reading : Reading A) (go : A → Tokens → Reading B) (found : B) (left : Tokens)
    → then_read reading go ≡ Found found left → GoneOn reading go found left
gone_on (Found thing middle) go found left h = record { thing = thing; middle = middle; first = refl; others = h }
gone_on (FaultAt kind at) go found left h = absurd (cc)

-- one reading behind another, and what is read behind both
pub in_turn : {A B C : Type 0} (first : Reading A) (next : A → Tokens → Reading B) (last : B → Tokens → Reading C)
    → then_read (then_read first next) last ≡ then_read first (λ value rest. then_read (next value rest) last)
in_turn (Found value rest) next last = refl
in_turn (FaultAt kind at) next last = refl

pub alike : {A B : Type 0} (first : Reading A) (next next' : A → Tokens → Reading B) → ((value : A) (rest : Tokens) → next value rest ≡ next' value rest)
    → then_read first next ≡ then_read first next'
alike (Found value rest) next next' h = h value rest
alike (FaultAt kind at) next next' h = refl

-- what was found, and what is left behind it
pub found_thing : {A : Type 0} {a b : A} {left rest : Tokens} → Found a left ≡ Found b rest → a ≡ b
found_thing h = cc

pub found_left : {A : Type 0} {a b : A} {left rest : Tokens} → Found a left ≡ Found b rest → left ≡ rest
found_left h = cc

-- what is found by a token alone
mark_if : (wanted met : Mark) (at : Place) (rest left : Tokens) (u : Unit {0}) (same : Bool) → is_mark wanted met ≡ same
    → cond same (Found tt rest) (FaultAt Expected at) ≡ Found u left → Begin (Next at (MarkToken met) rest) (mark wanted ∷ []) left
mark_if wanted met at rest left u true h e =
    let e' : rest ≡ left = found_left e in
    begin-next at (MarkToken met) (mark wanted) (ap (λ m. MarkToken m) (sym (is_mark-true wanted met h))) tt (subst (Begin rest []) e' (begin-none rest))
mark_if wanted met at rest left u false h e = absurd (cc)

pub mark_found : (wanted : Mark) (tokens left : Tokens) (u : Unit {0}) → read_mark wanted tokens ≡ Found u left → Begin tokens (mark wanted ∷ []) left
mark_found wanted (Next at (MarkToken met) rest) left u e = mark_if wanted met at rest left u (is_mark wanted met) refl e
mark_found wanted tokens left u e = absurd (cc)

word_if : (wanted met : Keyword) (at : Place) (rest left : Tokens) (u : Unit {0}) (same : Bool) → is_keyword wanted met ≡ same
    → cond same (Found tt rest) (FaultAt Expected at) ≡ Found u left → Begin (Next at (KeywordToken met) rest) (word wanted ∷ []) left
word_if wanted met at rest left u true h e =
    let e' : rest ≡ left = found_left e in
    begin-next at (KeywordToken met) (word wanted) (ap (λ k. KeywordToken k) (sym (is_keyword-true wanted met h))) tt
    (subst (Begin rest []) e' (begin-none rest))
word_if wanted met at rest left u false h e = absurd (cc)

pub word_found : (wanted : Keyword) (tokens left : Tokens) (u : Unit {0}) → read_keyword wanted tokens ≡ Found u left
    → Begin tokens (word wanted ∷ []) left
word_found wanted (Next at (KeywordToken met) rest) left u e = word_if wanted met at rest left u (is_keyword wanted met) refl e
word_found wanted tokens left u e = absurd (cc)

pub lower_found : (tokens left : Tokens) (name : NameSyntax) → read_lower tokens ≡ Found name left → Begin tokens (lower name ∷ []) left
lower_found (Next at (LowerToken bytes) rest) left name e =
    let e' : rest ≡ left = found_left e in let n : record { at = at; name = bytes } ≡ name = found_thing e in
    begin-next at (LowerToken bytes) (lower name) (ap (λ (n : NameSyntax). LowerToken n.name) n) (sym (ap (λ (n : NameSyntax). n.at) n))
    (subst (Begin rest []) e' (begin-none rest))
lower_found tokens left name e = absurd (cc)

pub upper_found : (tokens left : Tokens) (name : NameSyntax) → read_upper tokens ≡ Found name left → Begin tokens (upper name ∷ []) left
upper_found (Next at (UpperToken bytes) rest) left name e =
    let e' : rest ≡ left = found_left e in let n : record { at = at; name = bytes } ≡ name = found_thing e in
    begin-next at (UpperToken bytes) (upper name) (ap (λ (n : NameSyntax). UpperToken n.name) n) (sym (ap (λ (n : NameSyntax). n.at) n))
    (subst (Begin rest []) e' (begin-none rest))
upper_found tokens left name e = absurd (cc)

-- a token that stands at the head is found
mark_reads : (wanted : Mark) (others : List Written) (tokens left : Tokens) (h : First tokens (mark wanted) others left)
    → read_mark wanted tokens ≡ Found tt h.rest
mark_reads wanted others tokens left h =
    ap (read_mark wanted) (h.is ∙ ap (λ t. Next h.at t h.rest) h.stands)
    ∙ ap (λ same. cond same (Found tt h.rest) (FaultAt Expected h.at)) (is_mark-same wanted)

word_reads : (wanted : Keyword) (others : List Written) (tokens left : Tokens) (h : First tokens (word wanted) others left)
    → read_keyword wanted tokens ≡ Found tt h.rest
word_reads wanted others tokens left h =
    ap (read_keyword wanted) (h.is ∙ ap (λ t. Next h.at t h.rest) h.stands)
    ∙ ap (λ same. cond same (Found tt h.rest) (FaultAt Expected h.at)) (is_keyword-same wanted)

pub lower_reads : (name : NameSyntax) (others : List Written) (tokens left : Tokens) (h : First tokens (lower name) others left)
    → read_lower tokens ≡ Found name h.rest
lower_reads name others tokens left h =
    ap read_lower (h.is ∙ ap (λ t. Next h.at t h.rest) h.stands)
    ∙ ap (λ (at : Place). Found (record { at = at; name = name.name }) h.rest) (sym h.kept)

upper_reads : (name : NameSyntax) (others : List Written) (tokens left : Tokens) (h : First tokens (upper name) others left)
    → read_upper tokens ≡ Found name h.rest
upper_reads name others tokens left h =
    ap read_upper (h.is ∙ ap (λ t. Next h.at t h.rest) h.stands)
    ∙ ap (λ (at : Place). Found (record { at = at; name = name.name }) h.rest) (sym h.kept)

-- what a row of readers finds is written so
pub row_sound : {limit : ℕ} {B : Type 0} (row : Row limit B) (tokens : Tokens) (found : B) (left : Tokens) → read_row row limit tokens ≡ Found found left
    → Sound (made row) (row_written row) (row_within row limit) tokens found left
row_sound (Done thing) tokens found left e =
    record { thing = tt; is = found_thing e; begin = subst (Begin tokens []) (found_left e) (begin-none tokens); fits = tt }
row_sound (ThenMark wanted others) tokens found left e =
    let g = gone_on (read_mark wanted tokens) _ found left e in
    let s = row_sound others g.middle found left g.others in
    record { thing = s.thing; is = s.is; begin = begin-append (mark_found wanted tokens g.middle g.thing g.first) s.begin; fits = s.fits }
row_sound (ThenWord wanted others) tokens found left e =
    let g = gone_on (read_keyword wanted tokens) _ found left e in
    let s = row_sound others g.middle found left g.others in
    record { thing = s.thing; is = s.is; begin = begin-append (word_found wanted tokens g.middle g.thing g.first) s.begin; fits = s.fits }
row_sound (ThenLower others) tokens found left e =
    let g = gone_on (read_lower tokens) _ found left e in
    let s = row_sound (others g.thing) g.middle found left g.others in
    record { thing = (g.thing, s.thing); is = s.is; begin = begin-append (lower_found tokens g.middle g.thing g.first) s.begin; fits = s.fits }
row_sound (ThenUpper others) tokens found left e =
    let g = gone_on (read_upper tokens) _ found left e in
    let s = row_sound (others g.thing) g.middle found left g.others in
    record { thing = (g.thing, s.thing); is = s.is; begin = begin-append (upper_found tokens g.middle g.thing g.first) s.begin; fits = s.fits }
row_sound {limit} (Then reader others) tokens found left e =
    let g = gone_on (reader.read limit tokens) _ found left e in
    let s = row_sound (others g.thing) g.middle found left g.others in
    let r = reader.is.sound tokens g.thing g.middle g.first in
    record { thing = (g.thing, s.thing); is = s.is; begin = begin-append r.0 s.begin; fits = (r.1, s.fits) }
row_sound {limit} (Last reader make) tokens found left e =
    let g = gone_on (reader.read limit tokens) _ found left e in
    let r = reader.is.sound tokens g.thing g.middle g.first in
    let e' : g.middle ≡ left = found_left g.others in
    record { thing = g.thing; is = found_thing g.others; begin = subst (Begin tokens (reader.written g.thing)) e' r.0; fits = r.1 }

-- behind a thing comes no parenthesis that opens
pub clear_first : (tokens : Tokens) (written : Written) (others : List Written) (left : Tokens) (h : First tokens written others left)
    → IsClear (Next h.at written.token h.rest) → IsClear tokens
clear_first tokens written others left h clear =
    subst IsClear (sym h.is) (subst (λ (t : Token). IsClear (Next h.at t h.rest)) (sym h.stands) clear)

pub clear_mark : (at : Place) (m : Mark) (rest : Tokens) → is_mark LeftParenthesis m ≡ false → IsClear (Next at (MarkToken m) rest)
clear_mark at LeftParenthesis rest h = absurd (cc)
clear_mark at m rest h = tt

row_clear : {limit : ℕ} {B : Type 0} (row : Row limit B) (things : Things row) (tokens left : Tokens) → IsClearRow row
    → Begin tokens (row_written row things) left → IsClear left → IsClear tokens
row_clear (Done thing) things tokens left clear begin last = subst IsClear (sym (none-begin begin)) last
row_clear (ThenMark wanted others) things tokens left clear begin last =
    let f = begin-first begin in clear_first tokens (mark wanted) _ left f (clear_mark f.at wanted f.rest clear)
row_clear (ThenWord wanted others) things tokens left clear begin last =
    let f = begin-first begin in clear_first tokens (word wanted) _ left f tt
row_clear (ThenLower others) things tokens left clear begin last =
    let f = begin-first begin in clear_first tokens (lower things.0) _ left f tt
row_clear (ThenUpper others) things tokens left clear begin last =
    let f = begin-first begin in clear_first tokens (upper things.0) _ left f tt
row_clear (Then reader others) things tokens left clear begin last = absurd clear
row_clear (Last reader make) things tokens left clear begin last = clear things tokens left begin last

-- what is written so is found
pub then_found : {A B : Type 0} (reading : Reading A) (thing : A) (middle : Tokens) (go : A → Tokens → Reading B) (result : Reading B)
    → reading ≡ Found thing middle → go thing middle ≡ result → then_read reading go ≡ result
then_found reading thing middle go result h h' = ap (λ r. then_read r go) h ∙ h'

pub row_complete : {limit : ℕ} {B : Type 0} (row : Row limit B) → IsApart row → (things : Things row) (tokens left : Tokens)
    → Begin tokens (row_written row things) left → row_within row limit things → IsClear left
    → read_row row limit tokens ≡ Found (made row things) left
row_complete (Done thing) apart things tokens left begin within clear = ap (λ ts. Found thing ts) (none-begin begin)
row_complete (ThenMark wanted others) apart things tokens left begin within clear =
    let f = begin-first begin in
    then_found (read_mark wanted tokens) tt f.rest _ _ (mark_reads wanted _ tokens left f)
    (row_complete others apart things f.rest left f.begin within clear)
row_complete (ThenWord wanted others) apart things tokens left begin within clear =
    let f = begin-first begin in
    then_found (read_keyword wanted tokens) tt f.rest _ _ (word_reads wanted _ tokens left f)
    (row_complete others apart things f.rest left f.begin within clear)
row_complete (ThenLower others) apart things tokens left begin within clear =
    let f = begin-first begin in
    then_found (read_lower tokens) things.0 f.rest _ _ (lower_reads things.0 _ tokens left f)
    (row_complete (others things.0) (apart things.0) things.1 f.rest left f.begin within clear)
row_complete (ThenUpper others) apart things tokens left begin within clear =
    let f = begin-first begin in
    then_found (read_upper tokens) things.0 f.rest _ _ (upper_reads things.0 _ tokens left f)
    (row_complete (others things.0) (apart things.0) things.1 f.rest left f.begin within clear)
row_complete {limit} (Then reader others) apart things tokens left begin within clear =
    let p = begin-parted (reader.written things.0) (row_written (others things.0) things.1) tokens left begin in
    then_found (reader.read limit tokens) things.0 p.middle _ _
    (reader.is.complete things.0 tokens p.middle p.begin within.0
    (row_clear (others things.0) things.1 p.middle left (apart things.0).0 p.go_on clear))
    (row_complete (others things.0) (apart things.0).1 things.1 p.middle left p.go_on within.1 clear)
row_complete {limit} (Last reader make) apart things tokens left begin within clear =
    then_found (reader.read limit tokens) things left _ _ (reader.is.complete things tokens left begin within clear) refl
