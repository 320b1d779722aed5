-- What is read behind the token at the head, by a row of readers.
use Rattle.std.proofs.Common.{◌≡◌, ℕ, suc, ◌≤◌, List, [], ◌∷◌, ◌++◌, refl, sym, ap, subst, ◌∙◌}
use Rattle.lexemes.specs.declared.place.Place.{Place}
use Rattle.lexemes.specs.declared.fault.SyntaxKind.{SyntaxKind}
use Rattle.lexemes.specs.declared.fault.SyntaxKind.TheVariants.{Expected}
use Rattle.lexemes.specs.Tokens.{Token, Tokens, Next, End, Faulty}
use Rattle.auth_syntax.specs.Syntax.{NameSyntax}
use Rattle.auth_syntax.specs.Grammar.{Written, standing, lower}
use Rattle.lexemes.specs.Readings.{Reading, Found, FaultAt, refused}
use Rattle.auth_syntax.specs.Parsing.{read_lower}
use Rattle.auth_syntax.specs.FirstFaults.{Placed, placed, joined, AreFirst, IsInt}
use Rattle.auth_syntax.proofs.Beginnings.{Begin}
use Rattle.auth_syntax.proofs.Readers.{Row, Things, made, row_written, row_within, read_row, lower_found}
use Rattle.auth_syntax.proofs.Fronts.{joined-append, first-append, AlikeHeads, a_length, CanBegin, Taken, Blocked, Stuck, IsLocal, stuck_behind, IsOneToken, one_taken, one_stuck, front_heads, kind_is, place_is}
use Rattle.auth_syntax.proofs.FrontRows.{lower_one, one_before, some_name, IsLocalRow, row_taken, row_stuck}

module _ {B : Type 0} (limit : ℕ) (read : ℕ → Tokens → Reading B) (written : B → List Written) (within : ℕ → B → Type 0) where
  -- A row behind some tokens: what it makes is written with these tokens and those of the row, and it is read where what stands behind
  -- begins with the same token.
  pub record IsRead (head : List Placed) (head_written : List Written) (row : Row limit B) (behind : Tokens) : Type 0 where
    pub local : IsLocalRow row
    pub heads : AreFirst head head_written []
    pub makes : (n : ℕ) (things : Things row) → row_within row n things
        → (head_written ++ row_written row things ≡ written (made row things)) × within n (made row things)
    pub reads : (wider : ℕ) (other : Tokens) → AlikeHeads behind other → read wider (joined head other) ≡ read_row row wider other

  pub read_taken : (head : List Placed) (head_written : List Written) (row : Row limit B) (rest : Tokens) → IsRead head head_written row rest
      → (found : B) (left : Tokens) → read_row row limit rest ≡ Found found left
      → Taken limit read (λ thing. thing) written within (joined head rest) found left
  read_taken head head_written row rest p found left e =
      let t = row_taken row p.local rest found left e in
      let m = p.makes limit t.thing t.fits in
      record {
        thing = made row t.thing;
        makes = t.makes;
        front = head ++ t.front;
        is = ap (joined head) t.is ∙ sym (joined-append head t.front left);
        are_all = subst (λ (ws : List Written). AreFirst (head ++ t.front) ws []) m.0
            (first-append head t.front head_written (row_written row t.thing) [] p.heads t.are_all);
        fits = m.1;
        again = λ wider h other heads.
            ap (read wider) (joined-append head t.front other)
            ∙ (p.reads wider (joined t.front other) (front_heads t.front left other rest t.is heads) ∙ t.again wider h other heads);
      }

  pub read_stuck : (head : List Placed) (head_written : List Written) (row : Row limit B) (rest : Tokens) → IsRead head head_written row rest
      → (kind : SyntaxKind) (at : Place) → read_row row limit rest ≡ FaultAt kind at
      → Stuck limit read (CanBegin written within) (joined head rest) kind at
  read_stuck head head_written row rest p kind at e =
      stuck_behind limit (read_row row) (CanBegin (row_written row) (row_within row)) read (CanBegin written within) head (joined head rest) rest kind at refl
      (λ n next h b.
      let m = p.makes (suc n) b.thing b.fits in record {
        thing = made row b.thing;
        others = b.others;
        are_first = subst (λ (ws : List Written). AreFirst (head ++ next) ws b.others) m.0
            (first-append head next head_written (row_written row b.thing) b.others p.heads b.are_first);
        fits = m.1;
      })
      (λ wider kind at other h heads x. p.reads wider other heads ∙ x) (row_stuck row p.local rest kind at e)

  -- a thing on a single level
  pub record HasSome : Type 0 where
    pub some : B
    pub some_fits : (n : ℕ) → within (suc n) some

  begins_with_none : HasSome → CanBegin written within (suc limit) []
  begins_with_none h = record { thing = h.some; others = written h.some; are_first = refl; fits = h.some_fits limit }

  -- a token that is refused, and a length where it is an int; the end and a fault
  pub token_refused : HasSome → (at : Place) (token : Token) (rest : Tokens) (kind : SyntaxKind) (place : Place)
      → ((wider : ℕ) (rest : Tokens) → read wider (Next at token rest) ≡ FaultAt Expected at)
      → (IsInt token → (wider : ℕ) (rest : Tokens) → read wider (Next at a_length rest) ≡ FaultAt Expected at)
      → read limit (Next at token rest) ≡ FaultAt kind place → Stuck limit read (CanBegin written within) (Next at token rest) kind place
  token_refused some at token rest kind place refuses no_length e =
      let e' = sym e ∙ refuses limit rest in
      record {
        front = [];
        rest = Next at token rest;
        is = refl;
        can_go_on = begins_with_none some;
        blocked = subst (λ (kind : SyntaxKind). Blocked limit read (CanBegin written within) [] (Next at token rest) kind place) (sym (kind_is e'))
            (sym (place_is e'), λ wider h other. refuses wider other, λ int wider h other. no_length int wider other);
      }

  pub rest_refused : HasSome → (before : Tokens) (kind : SyntaxKind) (place : Place) → refused {A = B} before ≡ FaultAt kind place
      → ((at : Place) (token : Token) (rest : Tokens) → before ≡ Next at token rest → ⊥) → Stuck limit read (CanBegin written within) before kind place
  rest_refused some (Next at token rest) kind place e ends = absurd (ends at token rest refl)
  rest_refused some (End at) kind place e ends = record {
    front = [];
    rest = End at;
    is = refl;
    can_go_on = begins_with_none some;
    blocked = (sym (kind_is e), place_is e);
  }
  rest_refused some (Faulty at fault) kind place e ends = record {
    front = [];
    rest = Faulty at fault;
    is = refl;
    can_go_on = begins_with_none some;
    blocked = (sym (kind_is e), place_is e);
  }

  -- a row behind a token
  pub record IsHeaded (at : Place) (token : Token) (row : Row limit B) : Type 0 where
    pub local : IsLocalRow row
    pub makes : (n : ℕ) (things : Things row) → row_within row n things
        → (standing at token ∷ row_written row things ≡ written (made row things)) × within n (made row things)
    pub reads : (wider : ℕ) (rest : Tokens) → read wider (Next at token rest) ≡ read_row row wider rest

  as_read : (at : Place) (token : Token) (row : Row limit B) (rest : Tokens) → IsHeaded at token row
      → IsRead (placed at token ∷ []) (standing at token ∷ []) row rest
  as_read at token row rest p = record {
    local = p.local;
    heads = (refl, refl, refl);
    makes = p.makes;
    reads = λ wider rest heads. p.reads wider rest;
  }

  pub token_taken : (at : Place) (token : Token) (row : Row limit B) → IsHeaded at token row → (rest : Tokens) (found : B) (left : Tokens)
      → read limit (Next at token rest) ≡ Found found left → Taken limit read (λ thing. thing) written within (Next at token rest) found left
  token_taken at token row p rest found left e =
      read_taken (placed at token ∷ []) (standing at token ∷ []) row rest (as_read at token row rest p) found left (sym (p.reads limit rest) ∙ e)

  pub token_stuck : (at : Place) (token : Token) (row : Row limit B) → IsHeaded at token row
      → (rest : Tokens) (kind : SyntaxKind) (place : Place) → read limit (Next at token rest) ≡ FaultAt kind place
      → Stuck limit read (CanBegin written within) (Next at token rest) kind place
  token_stuck at token row p rest kind place e =
      read_stuck (placed at token ∷ []) (standing at token ∷ []) row rest (as_read at token row rest p) kind place (sym (p.reads limit rest) ∙ e)

-- a reader that is a row
pub row_local : {B : Type 0} (limit : ℕ) (row : Row limit B) (written : B → List Written) (within : ℕ → B → Type 0) → IsLocalRow row
    → ((n : ℕ) (things : Things row) → row_within row n things → (row_written row things ≡ written (made row things)) × within n (made row things))
    → (some : B) → ((n : ℕ) → within (suc n) some) → ((n wider : ℕ) (thing : B) → n ≤ wider → within n thing → within wider thing)
    → IsLocal limit (read_row row) written within
row_local limit row written within local makes some fits widen =
    let r : (rest : Tokens) → IsRead limit (read_row row) written within [] [] row rest =
    λ rest. record { local = local; heads = refl; makes = makes; reads = λ wider other heads. refl } in record {
      taken = λ before found left e. read_taken limit (read_row row) written within [] [] row before (r before) found left e;
      stuck = λ before kind at e. read_stuck limit (read_row row) written within [] [] row before (r before) kind at e;
      some = some;
      some_fits = fits;
      widen = widen;
    }

-- a reader of one token
pub one_local : {A : Type 0} (limit : ℕ) (reads : Tokens → Reading A) → IsOneToken reads → (written : A → Written)
    → ((tokens left : Tokens) (thing : A) → reads tokens ≡ Found thing left → Begin tokens (written thing ∷ []) left) → A
    → IsLocal limit (λ at_most. reads) (λ thing. written thing ∷ []) (λ at_most thing. Unit {0})
one_local {A} limit reads one written found some = record {
  taken = λ before thing left e.
      let t = one_taken reads one before thing left e in record {
        thing = thing;
        makes = refl;
        front = placed t.at t.token ∷ [];
        is = t.is;
        are_all = one_before (found before left thing e) t;
        fits = tt;
        again = λ wider h other heads. t.again other;
      };
  stuck = λ before kind at e.
      one_stuck limit reads one (CanBegin (λ (thing : A). written thing ∷ []) (λ at_most thing. Unit {0}))
      (record { thing = some; others = written some ∷ []; are_first = refl; fits = tt }) before kind at e;
  some = some;
  some_fits = λ n. tt;
  widen = λ n wider thing h fits. tt;
}

-- names
pub names_local : (limit : ℕ) → IsLocal limit (λ at_most. read_lower) (λ (name : NameSyntax). lower name ∷ []) (λ at_most name. Unit {0})
names_local limit = one_local limit read_lower lower_one lower lower_found some_name
