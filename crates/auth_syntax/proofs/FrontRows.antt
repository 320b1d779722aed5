-- What a row of readers says of tokens that only begin alike.
use Rattle.std.proofs.Common.{◌≡◌, ℕ, suc, ◌⊎◌, inl, inr, Bool, true, false, cond, List, [], ◌∷◌, ◌++◌, refl, sym, ap, subst, ◌∙◌, arith}
use Rattle.lexemes.specs.declared.place.Place.{Place}
use Rattle.lexemes.specs.declared.fault.SyntaxKind.{SyntaxKind}
use Rattle.lexemes.specs.declared.fault.SyntaxKind.TheVariants.{Expected}
use Rattle.lexemes.specs.declared.token.Mark.{Mark}
use Rattle.lexemes.specs.declared.token.Keyword.{Keyword}
use Rattle.lexemes.specs.Tokens.{Token, KeywordToken, MarkToken, LowerToken, UpperToken, Tokens, Next}
use Rattle.auth_syntax.specs.Syntax.{NameSyntax}
use Rattle.auth_syntax.specs.Grammar.{Written, IsKept}
use Rattle.lexemes.specs.Readings.{Reading, Found, FaultAt, then_read, is_mark, is_keyword, read_mark, read_keyword}
use Rattle.auth_syntax.specs.Parsing.{read_lower, read_upper}
use Rattle.auth_syntax.specs.FirstFaults.{Placed, placed, joined, AreFirst}
use Rattle.auth_syntax.proofs.Beginnings.{Begin, begin-first}
use Rattle.auth_syntax.proofs.Readers.{Row, Done, ThenMark, ThenWord, ThenLower, ThenUpper, Then, Last, Things, made, row_written, row_within, read_row, gone_on, found_thing, found_left, mark_found, word_found, lower_found, upper_found}
use Rattle.auth_syntax.proofs.Fronts.{joined-append, first-append, first-longer, AlikeHeads, CanBegin, Taken, Stuck, IsLocal, stuck_behind, IsOneToken, OneTaken, one_taken, one_stuck, front_heads, stuck_on}

pub mark_one : (wanted : Mark) → IsOneToken (read_mark wanted)
mark_one wanted = record { decided = decided; at_end = λ at. refl; at_fault = λ at fault. refl; no_length = λ at rest. refl } where
  by_test : (at : Place) (same : Bool)
      → ((u : Unit {0}) × ((rest : Tokens) → cond same (Found tt rest) (FaultAt Expected at) ≡ Found u rest))
      ⊎ ((rest : Tokens) → ◌≡◌ {A = Reading (Unit {0})} (cond same (Found tt rest) (FaultAt Expected at)) (FaultAt Expected at))
  by_test at true = inl (tt, λ rest. refl)
  by_test at false = inr (λ rest. refl)

  decided : (at : Place) (token : Token)
      → ((u : Unit {0}) × ((rest : Tokens) → read_mark wanted (Next at token rest) ≡ Found u rest))
      ⊎ ((rest : Tokens) → read_mark wanted (Next at token rest) ≡ FaultAt Expected at)
  decided at (MarkToken met) = by_test at (is_mark wanted met)
  decided at token = inr (λ rest. refl)

pub word_one : (wanted : Keyword) → IsOneToken (read_keyword wanted)
word_one wanted = record { decided = decided; at_end = λ at. refl; at_fault = λ at fault. refl; no_length = λ at rest. refl } where
  by_test : (at : Place) (same : Bool)
      → ((u : Unit {0}) × ((rest : Tokens) → cond same (Found tt rest) (FaultAt Expected at) ≡ Found u rest))
      ⊎ ((rest : Tokens) → ◌≡◌ {A = Reading (Unit {0})} (cond same (Found tt rest) (FaultAt Expected at)) (FaultAt Expected at))
  by_test at true = inl (tt, λ rest. refl)
  by_test at false = inr (λ rest. refl)

  decided : (at : Place) (token : Token)
      → ((u : Unit {0}) × ((rest : Tokens) → read_keyword wanted (Next at token rest) ≡ Found u rest))
      ⊎ ((rest : Tokens) → read_keyword wanted (Next at token rest) ≡ FaultAt Expected at)
  decided at (KeywordToken met) = by_test at (is_keyword wanted met)
  decided at token = inr (λ rest. refl)

pub lower_one : IsOneToken read_lower
lower_one = record { decided = decided; at_end = λ at. refl; at_fault = λ at fault. refl; no_length = λ at rest. refl } where
  decided : (at : Place) (token : Token)
      → ((name : NameSyntax) × ((rest : Tokens) → read_lower (Next at token rest) ≡ Found name rest))
      ⊎ ((rest : Tokens) → read_lower (Next at token rest) ≡ FaultAt Expected at)
  decided at (LowerToken name) = inl (record { at = at; name = name }, λ rest. refl)
  decided at token = inr (λ rest. refl)

pub upper_one : IsOneToken read_upper
upper_one = record { decided = decided; at_end = λ at. refl; at_fault = λ at fault. refl; no_length = λ at rest. refl } where
  decided : (at : Place) (token : Token)
      → ((name : NameSyntax) × ((rest : Tokens) → read_upper (Next at token rest) ≡ Found name rest))
      ⊎ ((rest : Tokens) → read_upper (Next at token rest) ≡ FaultAt Expected at)
  decided at (UpperToken name) = inl (record { at = at; name = name }, λ rest. refl)
  decided at token = inr (λ rest. refl)

-- the readers of a row are such
abbrev pub IsLocalRow : {limit : ℕ} {B : Type 0} → Row limit B → Type 0
IsLocalRow (Done thing) = Unit {0}
IsLocalRow (ThenMark wanted others) = IsLocalRow others
IsLocalRow (ThenWord wanted others) = IsLocalRow others
IsLocalRow (ThenLower others) = (name : NameSyntax) → IsLocalRow (others name)
IsLocalRow (ThenUpper others) = (name : NameSyntax) → IsLocalRow (others name)
IsLocalRow {limit} (Then reader others) =
    IsLocal limit reader.read reader.written reader.within × ((thing : reader.A) → IsLocalRow (others thing))
IsLocalRow {limit} (Last reader make) = IsLocal limit reader.read reader.written reader.within

-- some name
abbrev pub some_name : NameSyntax
some_name = record { at = record { offset = 0; line = 1; column = 1 }; name = [] }

-- things of a row on a single level, and things within a wider limit
pub some_things : {limit : ℕ} {B : Type 0} (row : Row limit B) → IsLocalRow row → (things : Things row) × ((n : ℕ) → row_within row (suc n) things)
some_things (Done thing) l = (tt, λ n. tt)
some_things (ThenMark wanted others) l = some_things others l
some_things (ThenWord wanted others) l = some_things others l
some_things (ThenLower others) l = let s = some_things (others some_name) (l some_name) in ((some_name, s.0), s.1)
some_things (ThenUpper others) l = let s = some_things (others some_name) (l some_name) in ((some_name, s.0), s.1)
some_things (Then reader others) l =
    let s = some_things (others l.0.some) (l.1 l.0.some) in ((l.0.some, s.0), λ n. (l.0.some_fits n, s.1 n))
some_things (Last reader make) l = (l.some, l.some_fits)

-- what was taken at one token
pub one_before : {A : Type 0} {reads : Tokens → Reading A} {written : Written} {before left : Tokens} {found : A} → Begin before (written ∷ []) left
    → (t : OneTaken reads before found left) → AreFirst (placed t.at t.token ∷ []) (written ∷ []) []
one_before {A} {reads} {written} {before} {left} begin t =
    let f = begin-first begin in
    let e : Next t.at t.token left ≡ Next f.at f.token f.rest = sym t.is ∙ f.is in
    let at : t.at ≡ f.at = cc in let token : t.token ≡ f.token = cc in
    (token ∙ f.stands, subst (IsKept written.at) (sym at) f.kept, refl)

abbrev RowTaken : {limit : ℕ} {B : Type 0} → Row limit B → Tokens → B → Tokens → Type 0
RowTaken {limit} row before found left = Taken limit (read_row row) (made row) (row_written row) (row_within row) before found left

pub row_taken : {limit : ℕ} {B : Type 0} (row : Row limit B) → IsLocalRow row → (before : Tokens) (found : B) (left : Tokens)
    → read_row row limit before ≡ Found found left → RowTaken row before found left
row_taken (Done thing) l before found left e = record {
  thing = tt;
  makes = found_thing e;
  front = [];
  is = found_left e;
  are_all = refl;
  fits = tt;
  again = λ wider h other heads. ap (λ thing. Found thing other) (found_thing e);
}
row_taken {limit} (ThenMark wanted others) l before found left e =
    let g = gone_on (read_mark wanted before) _ found left e in
    let t = one_taken (read_mark wanted) (mark_one wanted) before g.thing g.middle g.first in
    let f = one_before (mark_found wanted before g.middle g.thing g.first) t in
    let r = row_taken others l g.middle found left g.others in
    record {
      thing = r.thing;
      makes = r.makes;
      front = placed t.at t.token ∷ r.front;
      is = t.is ∙ ap (Next t.at t.token) r.is;
      are_all = (f.0, f.1, r.are_all);
      fits = r.fits;
      again = λ wider h other heads. ap (λ reading. then_read reading (λ _ tokens. read_row others wider tokens)) (t.again (joined r.front other)) ∙ r.again wider h other heads;
    }
row_taken {limit} (ThenWord wanted others) l before found left e =
    let g = gone_on (read_keyword wanted before) _ found left e in
    let t = one_taken (read_keyword wanted) (word_one wanted) before g.thing g.middle g.first in
    let f = one_before (word_found wanted before g.middle g.thing g.first) t in
    let r = row_taken others l g.middle found left g.others in
    record {
      thing = r.thing;
      makes = r.makes;
      front = placed t.at t.token ∷ r.front;
      is = t.is ∙ ap (Next t.at t.token) r.is;
      are_all = (f.0, f.1, r.are_all);
      fits = r.fits;
      again = λ wider h other heads. ap (λ reading. then_read reading (λ _ tokens. read_row others wider tokens)) (t.again (joined r.front other)) ∙ r.again wider h other heads;
    }
row_taken {limit} (ThenLower others) l before found left e =
    let g = gone_on (read_lower before) _ found left e in
    let t = one_taken read_lower lower_one before g.thing g.middle g.first in
    let f = one_before (lower_found before g.middle g.thing g.first) t in
    let r = row_taken (others g.thing) (l g.thing) g.middle found left g.others in
    record {
      thing = (g.thing, r.thing);
      makes = r.makes;
      front = placed t.at t.token ∷ r.front;
      is = t.is ∙ ap (Next t.at t.token) r.is;
      are_all = (f.0, f.1, r.are_all);
      fits = r.fits;
      again = λ wider h other heads. ap (λ reading. then_read reading (λ name tokens. read_row (others name) wider tokens)) (t.again (joined r.front other)) ∙ r.again wider h other heads;
    }
row_taken {limit} (ThenUpper others) l before found left e =
    let g = gone_on (read_upper before) _ found left e in
    let t = one_taken read_upper upper_one before g.thing g.middle g.first in
    let f = one_before (upper_found before g.middle g.thing g.first) t in
    let r = row_taken (others g.thing) (l g.thing) g.middle found left g.others in
    record {
      thing = (g.thing, r.thing);
      makes = r.makes;
      front = placed t.at t.token ∷ r.front;
      is = t.is ∙ ap (Next t.at t.token) r.is;
      are_all = (f.0, f.1, r.are_all);
      fits = r.fits;
      again = λ wider h other heads. ap (λ reading. then_read reading (λ name tokens. read_row (others name) wider tokens)) (t.again (joined r.front other)) ∙ r.again wider h other heads;
    }
row_taken {limit} (Then reader others) l before found left e =
    let g = gone_on (reader.read limit before) _ found left e in
    let t = l.0.taken before g.thing g.middle g.first in
    let r = row_taken (others g.thing) (l.1 g.thing) g.middle found left g.others in
    let same : t.thing ≡ g.thing = t.makes in
    record {
      thing = (g.thing, r.thing);
      makes = r.makes;
      front = t.front ++ r.front;
      is = t.is ∙ (ap (joined t.front) r.is ∙ sym (joined-append t.front r.front left));
      are_all = first-append t.front r.front (reader.written g.thing) (row_written (others g.thing) r.thing) []
          (subst (λ (a : reader.A). AreFirst t.front (reader.written a) []) same t.are_all) r.are_all;
      fits = (subst (reader.within limit) same t.fits, r.fits);
      again = λ wider h other heads.
          ap (λ ts. then_read (reader.read wider ts) (λ thing tokens. read_row (others thing) wider tokens)) (joined-append t.front r.front other)
          ∙ (ap (λ reading. then_read reading (λ thing tokens. read_row (others thing) wider tokens)) (t.again wider h (joined r.front other) (front_heads r.front left other g.middle r.is heads))
          ∙ r.again wider h other heads);
    }
row_taken {limit} (Last reader make) l before found left e =
    let g = gone_on (reader.read limit before) _ found left e in
    let t = l.taken before g.thing g.middle g.first in
    let same : g.middle ≡ left = found_left g.others in
    let thing : t.thing ≡ g.thing = t.makes in
    record {
      thing = g.thing;
      makes = found_thing g.others;
      front = t.front;
      is = t.is ∙ ap (joined t.front) same;
      are_all = subst (λ (a : reader.A). AreFirst t.front (reader.written a) []) thing t.are_all;
      fits = subst (reader.within limit) thing t.fits;
      again = λ wider h other heads.
          ap (λ reading. then_read reading (λ thing tokens. Found (make thing) tokens))
          (t.again wider h other (subst (λ (m : Tokens). AlikeHeads m other) (sym same) heads))
          ∙ ap (λ thing. Found thing other) (found_thing g.others);
    }

abbrev RowBegins : {limit : ℕ} {B : Type 0} → Row limit B → ℕ → List Placed → Type 0
RowBegins row = CanBegin (row_written row) (row_within row)

abbrev RowStuck : {limit : ℕ} {B : Type 0} → Row limit B → Tokens → SyntaxKind → Place → Type 0
RowStuck {limit} row before kind at = Stuck limit (read_row row) (RowBegins row) before kind at

-- nothing was taken yet
row_begins : {limit : ℕ} {B : Type 0} (row : Row limit B) → IsLocalRow row → RowBegins row (suc limit) []
row_begins {limit} row l =
    let s = some_things row l in record { thing = s.0; others = row_written row s.0; are_first = refl; fits = s.1 limit }

-- the first reader of a row fails
first_stuck : {A B : Type 0} (limit : ℕ) (reads : Tokens → Reading A) → IsOneToken reads → (row : Row limit B) → IsLocalRow row
    → (go : ℕ → A → Tokens → Reading B)
    → ((wider : ℕ) (tokens : Tokens) → read_row row wider tokens ≡ then_read (reads tokens) (go wider))
    → (before : Tokens) (kind : SyntaxKind) (at : Place) → reads before ≡ FaultAt kind at → RowStuck row before kind at
first_stuck limit reads one row l go reads_so before kind at e =
    stuck_behind limit (λ wider. reads) (RowBegins row) (read_row row) (RowBegins row) [] before before kind at refl (λ n next h b. b)
    (λ wider kind at other h heads x. reads_so wider other ∙ ap (λ reading. then_read reading (go wider)) x)
    (one_stuck limit reads one (RowBegins row) (row_begins row l) before kind at e)

pub row_stuck : {limit : ℕ} {B : Type 0} (row : Row limit B) → IsLocalRow row → (before : Tokens) (kind : SyntaxKind) (at : Place)
    → read_row row limit before ≡ FaultAt kind at → RowStuck row before kind at
row_stuck (Done thing) l before kind at e = absurd (cc)
row_stuck {limit} (ThenMark wanted others) l before kind at e =
    elim (stuck_on (read_mark wanted before) (λ _ tokens. read_row others limit tokens) kind at e) as (λ _. RowStuck (ThenMark wanted others) before kind at) [
      | inl h ↦ first_stuck limit (read_mark wanted) (mark_one wanted) (ThenMark wanted others) l (λ wider _ tokens. read_row others wider tokens) (λ wider tokens. refl) before kind at h
      | inr g ↦
          let t = one_taken (read_mark wanted) (mark_one wanted) before g.thing g.middle g.first in
          let f = one_before (mark_found wanted before g.middle g.thing g.first) t in
          stuck_behind limit (read_row others) (RowBegins others) (read_row (ThenMark wanted others)) (RowBegins (ThenMark wanted others)) (placed t.at t.token ∷ []) before g.middle kind at t.is
          (λ n next h b. record { thing = b.thing; others = b.others; are_first = (f.0, f.1, b.are_first); fits = b.fits })
          (λ wider kind at tokens h heads x. ap (λ reading. then_read reading (λ _ tokens. read_row others wider tokens)) (t.again tokens) ∙ x)
          (row_stuck others l g.middle kind at g.others)
    ]
row_stuck {limit} (ThenWord wanted others) l before kind at e =
    elim (stuck_on (read_keyword wanted before) (λ _ tokens. read_row others limit tokens) kind at e) as (λ _. RowStuck (ThenWord wanted others) before kind at) [
      | inl h ↦ first_stuck limit (read_keyword wanted) (word_one wanted) (ThenWord wanted others) l (λ wider _ tokens. read_row others wider tokens) (λ wider tokens. refl) before kind at h
      | inr g ↦
          let t = one_taken (read_keyword wanted) (word_one wanted) before g.thing g.middle g.first in
          let f = one_before (word_found wanted before g.middle g.thing g.first) t in
          stuck_behind limit (read_row others) (RowBegins others) (read_row (ThenWord wanted others)) (RowBegins (ThenWord wanted others)) (placed t.at t.token ∷ []) before g.middle kind at t.is
          (λ n next h b. record { thing = b.thing; others = b.others; are_first = (f.0, f.1, b.are_first); fits = b.fits })
          (λ wider kind at tokens h heads x. ap (λ reading. then_read reading (λ _ tokens. read_row others wider tokens)) (t.again tokens) ∙ x)
          (row_stuck others l g.middle kind at g.others)
    ]
row_stuck {limit} (ThenLower others) l before kind at e =
    elim (stuck_on (read_lower before) (λ name tokens. read_row (others name) limit tokens) kind at e) as (λ _. RowStuck (ThenLower others) before kind at) [
      | inl h ↦ first_stuck limit (read_lower) lower_one (ThenLower others) l (λ wider name tokens. read_row (others name) wider tokens) (λ wider tokens. refl) before kind at h
      | inr g ↦
          let t = one_taken (read_lower) lower_one before g.thing g.middle g.first in
          let f = one_before (lower_found before g.middle g.thing g.first) t in
          stuck_behind limit (read_row (others g.thing)) (RowBegins (others g.thing)) (read_row (ThenLower others)) (RowBegins (ThenLower others)) (placed t.at t.token ∷ []) before g.middle kind at t.is
          (λ n next h b. record { thing = (g.thing, b.thing); others = b.others; are_first = (f.0, f.1, b.are_first); fits = b.fits })
          (λ wider kind at tokens h heads x. ap (λ reading. then_read reading (λ name tokens. read_row (others name) wider tokens)) (t.again tokens) ∙ x)
          (row_stuck (others g.thing) (l g.thing) g.middle kind at g.others)
    ]
row_stuck {limit} (ThenUpper others) l before kind at e =
    elim (stuck_on (read_upper before) (λ name tokens. read_row (others name) limit tokens) kind at e) as (λ _. RowStuck (ThenUpper others) before kind at) [
      | inl h ↦ first_stuck limit (read_upper) upper_one (ThenUpper others) l (λ wider name tokens. read_row (others name) wider tokens) (λ wider tokens. refl) before kind at h
      | inr g ↦
          let t = one_taken (read_upper) upper_one before g.thing g.middle g.first in
          let f = one_before (upper_found before g.middle g.thing g.first) t in
          stuck_behind limit (read_row (others g.thing)) (RowBegins (others g.thing)) (read_row (ThenUpper others)) (RowBegins (ThenUpper others)) (placed t.at t.token ∷ []) before g.middle kind at t.is
          (λ n next h b. record { thing = (g.thing, b.thing); others = b.others; are_first = (f.0, f.1, b.are_first); fits = b.fits })
          (λ wider kind at tokens h heads x. ap (λ reading. then_read reading (λ name tokens. read_row (others name) wider tokens)) (t.again tokens) ∙ x)
          (row_stuck (others g.thing) (l g.thing) g.middle kind at g.others)
    ]
row_stuck {limit} (Then reader others) l before kind at e =
    elim (stuck_on (reader.read limit before) (λ thing tokens. read_row (others thing) limit tokens) kind at e)
    as (λ _. RowStuck (Then reader others) before kind at) [
      | inl h ↦
          stuck_behind limit reader.read (CanBegin reader.written reader.within) (read_row (Then reader others)) (RowBegins (Then reader others)) []
          before before kind at refl
          (λ n next h b.
          let s = some_things (others b.thing) (l.1 b.thing) in record {
            thing = (b.thing, s.0);
            others = b.others ++ row_written (others b.thing) s.0;
            are_first = first-longer next (reader.written b.thing) b.others (row_written (others b.thing) s.0) b.are_first;
            fits = (b.fits, s.1 n);
          })
          (λ wider kind at tokens h heads x. ap (λ reading. then_read reading (λ thing tokens. read_row (others thing) wider tokens)) x)
          (l.0.stuck before kind at h)
      | inr g ↦
          let t = l.0.taken before g.thing g.middle g.first in
          stuck_behind limit (read_row (others g.thing)) (RowBegins (others g.thing)) (read_row (Then reader others)) (RowBegins (Then reader others)) t.front
          before g.middle kind at t.is
          (λ n next h b. record {
            thing = (g.thing, b.thing);
            others = b.others;
            are_first = first-append t.front next (reader.written g.thing) (row_written (others g.thing) b.thing) b.others
                (subst (λ (a : reader.A). AreFirst t.front (reader.written a) []) t.makes t.are_all) b.are_first;
            fits = (l.0.widen limit (suc n) g.thing (omega arith) (subst (reader.within limit) t.makes t.fits), b.fits);
          })
          (λ wider kind at tokens h heads x.
          ap (λ reading. then_read reading (λ thing tokens. read_row (others thing) wider tokens)) (t.again wider h tokens heads) ∙ x)
          (row_stuck (others g.thing) (l.1 g.thing) g.middle kind at g.others)
    ]
row_stuck {limit} (Last reader make) l before kind at e =
    elim (stuck_on (reader.read limit before) (λ thing tokens. Found (make thing) tokens) kind at e) as (λ _. RowStuck (Last reader make) before kind at) [
      | inl h ↦
          stuck_behind limit reader.read (CanBegin reader.written reader.within) (read_row (Last reader make)) (RowBegins (Last reader make)) []
          before before kind at refl
          (λ n next h b. record { thing = b.thing; others = b.others; are_first = b.are_first; fits = b.fits })
          (λ wider kind at tokens h heads x. ap (λ reading. then_read reading (λ thing tokens. Found (make thing) tokens)) x)
          (l.stuck before kind at h)
      | inr g ↦ absurd (let e' = g.others in cc)
    ]
