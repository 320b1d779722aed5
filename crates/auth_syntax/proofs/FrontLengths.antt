-- The reader of the length of an array, on tokens that only begin alike: the one reader that finds an int out of range.
use Rattle.std.proofs.Common.{◌≡◌, ℕ, Bool, true, false, cond, [], ◌∷◌, refl, sym, ap, subst, ◌∙◌}
use Rattle.std.specs.Prelude.{ℤ, pos, negsuc}
use Rattle.core_terms.specs.Types.{is_length}
use Rattle.lexemes.specs.declared.place.Place.{Place}
use Rattle.lexemes.specs.declared.fault.SyntaxKind.{SyntaxKind}
use Rattle.lexemes.specs.declared.fault.SyntaxKind.TheVariants.{Lexical}
use Rattle.lexemes.specs.declared.fault.LexicalFault.TheVariants.{NumberRange}
use Rattle.lexemes.specs.Tokens.{Token, IntToken, Tokens, Next, End, Faulty}
use Rattle.lexemes.specs.Readings.{Reading, Found, FaultAt}
use Rattle.auth_syntax.specs.Parsing.{read_int_length}
use Rattle.auth_syntax.specs.FirstFaults.{placed}
use Rattle.auth_syntax.proofs.Readers.{found_thing, found_left}
use Rattle.auth_syntax.proofs.Lengths.{int_written, is_within}
use Rattle.auth_syntax.proofs.Fronts.{CanBegin, Taken, Blocked, Stuck, IsLocal, kind_is, place_is}
use Rattle.auth_syntax.proofs.Productions.{HasSome, token_refused, rest_refused}

abbrev read : ℕ → Tokens → Reading ℕ
read at_most = read_int_length

module _ (limit : ℕ) where
  some_is : HasSome limit read int_written is_within
  some_is = record { some = 64; some_fits = λ n. refl }

  abbrev IsTaken : Tokens → ℕ → Tokens → Type 0
  IsTaken before found left = Taken limit read (λ n. n) int_written is_within before found left

  abbrev IsStuckAt : Tokens → SyntaxKind → Place → Type 0
  IsStuckAt before kind place = Stuck limit read (CanBegin int_written is_within) before kind place

  reads_so : (n : ℕ) (fits : Bool) → is_length n ≡ fits → (at : Place) (rest : Tokens)
      → read_int_length (Next at (IntToken (pos n)) rest) ≡ cond fits (Found n rest) (FaultAt (Lexical NumberRange) at)
  reads_so n fits h at rest = ap (λ fits. cond fits (Found n rest) (FaultAt (Lexical NumberRange) at)) h

  -- a length
  length_taken : (n : ℕ) → is_length n ≡ true → (at : Place) (rest : Tokens) (found : ℕ) (left : Tokens)
      → read_int_length (Next at (IntToken (pos n)) rest) ≡ Found found left → IsTaken (Next at (IntToken (pos n)) rest) found left
  length_taken n h at rest found left e =
      let e' : Found n rest ≡ Found found left = sym (reads_so n true h at rest) ∙ e in
      record {
        thing = n;
        makes = found_thing e';
        front = placed at (IntToken (pos n)) ∷ [];
        is = ap (Next at (IntToken (pos n))) (found_left e');
        are_all = (refl, tt, refl);
        fits = h;
        again = λ wider h' other heads. reads_so n true h at other ∙ ap (λ n. Found n other) (found_thing e');
      }

  -- an int that is none
  out_of_range : (at : Place) (z : ℤ) → ((rest : Tokens) → read_int_length (Next at (IntToken z) rest) ≡ FaultAt (Lexical NumberRange) at)
      → (rest : Tokens) (kind : SyntaxKind) (place : Place) → read_int_length (Next at (IntToken z) rest) ≡ FaultAt kind place
      → IsStuckAt (Next at (IntToken z) rest) kind place
  out_of_range at z refuses rest kind place e =
      let e' = sym e ∙ refuses rest in
      record {
        front = [];
        rest = Next at (IntToken z) rest;
        is = refl;
        can_go_on = record { thing = 64; others = int_written 64; are_first = refl; fits = refl };
        blocked = subst (λ (kind : SyntaxKind). Blocked limit read (CanBegin int_written is_within) [] (Next at (IntToken z) rest) kind place) (sym (kind_is e')) (
          sym (place_is e'),
          tt,
          record { thing = 64; others = []; are_first = (refl, tt, refl); fits = refl },
          λ wider h other. refuses other,
        );
      }

  natural_taken : (n : ℕ) (fits : Bool) → is_length n ≡ fits → (at : Place) (rest : Tokens) (found : ℕ) (left : Tokens)
      → read_int_length (Next at (IntToken (pos n)) rest) ≡ Found found left → IsTaken (Next at (IntToken (pos n)) rest) found left
  natural_taken n true h at rest found left e = length_taken n h at rest found left e
  natural_taken n false h at rest found left e = absurd (let e' = reads_so n false h at rest in cc)

  natural_stuck : (n : ℕ) (fits : Bool) → is_length n ≡ fits → (at : Place) (rest : Tokens) (kind : SyntaxKind) (place : Place)
      → read_int_length (Next at (IntToken (pos n)) rest) ≡ FaultAt kind place → IsStuckAt (Next at (IntToken (pos n)) rest) kind place
  natural_stuck n true h at rest kind place e = absurd (let e' = reads_so n true h at rest in cc)
  natural_stuck n false h at rest kind place e = out_of_range at (pos n) (reads_so n false h at) rest kind place e

  int_taken : (before : Tokens) (found : ℕ) (left : Tokens) → read_int_length before ≡ Found found left → IsTaken before found left
  int_taken (Next at (IntToken (pos n)) rest) found left e = natural_taken n (is_length n) refl at rest found left e
  int_taken before found left e = absurd (cc)

  token_stuck : (at : Place) (token : Token) (rest : Tokens) (kind : SyntaxKind) (place : Place) → read_int_length (Next at token rest) ≡ FaultAt kind place
      → IsStuckAt (Next at token rest) kind place
  token_stuck at (IntToken (pos n)) rest kind place e = natural_stuck n (is_length n) refl at rest kind place e
  token_stuck at (IntToken (negsuc n)) rest kind place e = out_of_range at (negsuc n) (λ rest. refl) rest kind place e
  token_stuck at token rest kind place e =
      token_refused limit read int_written is_within some_is at token rest kind place (λ wider rest. refl) (λ int. absurd int) e

  int_stuck : (before : Tokens) (kind : SyntaxKind) (place : Place) → read_int_length before ≡ FaultAt kind place → IsStuckAt before kind place
  int_stuck (Next at token rest) kind place e = token_stuck at token rest kind place e
  int_stuck (End at) kind place e = rest_refused limit read int_written is_within some_is (End at) kind place e (λ at token rest e. cc)
  int_stuck (Faulty at fault) kind place e =
      rest_refused limit read int_written is_within some_is (Faulty at fault) kind place e (λ at token rest e. cc)

  pub ints_local : IsLocal limit read int_written is_within
  ints_local = record { taken = int_taken; stuck = int_stuck; some = 64; some_fits = λ n. refl; widen = λ n wider length h fits. fits }
