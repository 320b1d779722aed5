-- The reader of types, on tokens that only begin alike.
use Rattle.std.proofs.Common.{◌≡◌, ℕ, zero, suc, ◌≤◌, true, false, [], ◌∷◌, ◌++◌, refl, arith}
use Rattle.lexemes.specs.declared.place.Place.{Place}
use Rattle.lexemes.specs.declared.fault.SyntaxKind.{SyntaxKind}
use Rattle.lexemes.specs.declared.fault.SyntaxKind.TheVariants.{Expected}
use Rattle.lexemes.specs.declared.token.Keyword.TheVariants.{Auth as AuthWord, Unit as UnitWord, Bool as BoolWord, Int as IntWord, Text as TextWord, Vec as VecWord}
use Rattle.lexemes.specs.declared.token.Mark.TheVariants.{LeftParenthesis, RightParenthesis, Comma}
use Rattle.lexemes.specs.Tokens.{Token, KeywordToken, MarkToken, LowerToken, IntToken, Tokens, Next, End, Faulty}
use Rattle.auth_syntax.specs.Syntax.{TypeSyntax, UnitTypeSyntax, BoolTypeSyntax, IntTypeSyntax, TextTypeSyntax, NamedTypeSyntax, AuthTypeSyntax, PairTypeSyntax, VecTypeSyntax}
use Rattle.auth_syntax.specs.Grammar.{standing, mark, length_tokens, type_tokens, IsType}
use Rattle.lexemes.specs.Readings.{Reading, Found, FaultAt}
use Rattle.auth_syntax.specs.Parsing.{read_type, begins_type}
use Rattle.auth_syntax.specs.FirstFaults.{placed, IsInt}
use Rattle.auth_syntax.proofs.Readers.{Row, Done}
use Rattle.auth_syntax.proofs.Types.{types_are, auth_row, pair_row, array_row, array_row-is, pair_written}
use Rattle.auth_syntax.proofs.Fronts.{CanBegin, Taken, a_length, Stuck, IsLocal}
use Rattle.auth_syntax.proofs.LevelSteps.{read_type-none}
use Rattle.auth_syntax.proofs.Levels.{outer_taken, outer_stuck, zero_stuck}
use Rattle.auth_syntax.proofs.FrontLengths.{ints_local}
use Rattle.auth_syntax.proofs.Productions.{HasSome, IsHeaded, token_taken, token_stuck, token_refused, rest_refused}

abbrev some_type : TypeSyntax
some_type = UnitTypeSyntax (record { offset = 0; line = 1; column = 1 })

abbrev pub AreTypesLocal : ℕ → Type 0
AreTypesLocal levels = IsLocal levels read_type type_tokens IsType

-- one level further out
abbrev outer : ℕ → Tokens → Reading TypeSyntax
outer levels = read_type (suc levels)

abbrev is_outer : ℕ → TypeSyntax → Type 0
is_outer levels = IsType (suc levels)

some_is : (levels : ℕ) → HasSome levels outer type_tokens is_outer
some_is levels = record { some = some_type; some_fits = λ n. (tt, omega arith) }

module _ (levels : ℕ) (local : AreTypesLocal levels) where
  abbrev Headed : Place → Token → Row levels TypeSyntax → Type 0
  Headed = IsHeaded levels outer type_tokens is_outer

  leaf : (at : Place) (token : Token) (t : TypeSyntax) → standing at token ∷ [] ≡ type_tokens t → ((n : ℕ) → is_outer n t)
      → ((wider : ℕ) (rest : Tokens) → outer wider (Next at token rest) ≡ Found t rest) → Headed at token (Done t)
  leaf at token t w h reads = record { local = tt; makes = λ n things fits. (w, h n); reads = reads }

  auth_is : (at : Place) → Headed at (KeywordToken AuthWord) (auth_row levels (types_are levels) at)
  auth_is at = record {
    local = local;
    makes = λ n inner fits. (refl, (fits.0, omega (arith, fits.1)));
    reads = λ wider rest. refl;
  }

  pair_is : (at : Place) → Headed at (MarkToken LeftParenthesis) (pair_row levels (types_are levels) at)
  pair_is at = record {
    local = (local, λ first. (local, λ second. tt));
    makes = λ n t w. (pair_written at t.0 t.1.0, ((w.0.0, w.1.0.0), omega (arith, w.0.1, w.1.0.1)));
    reads = λ wider rest. refl;
  }

  array_is : (at : Place) → Headed at (KeywordToken VecWord) (array_row levels (types_are levels) at)
  array_is at = record {
    local = (ints_local levels, λ n. local);
    makes = λ n t w. (refl, ((w.0, w.1.0), omega (arith, w.1.1)));
    reads = array_row-is levels (types_are levels) at;
  }

  type_taken : (at : Place) (token : Token) (rest : Tokens) (found : TypeSyntax) (left : Tokens) → outer levels (Next at token rest) ≡ Found found left
      → Taken levels outer (λ t. t) type_tokens is_outer (Next at token rest) found left
  type_taken at (KeywordToken UnitWord) rest found left e =
      token_taken levels outer type_tokens is_outer at _ (Done (UnitTypeSyntax at)) (leaf at _ _ refl (λ n. (tt, omega arith)) (λ wider rest. refl)) rest found left e
  type_taken at (KeywordToken BoolWord) rest found left e =
      token_taken levels outer type_tokens is_outer at _ (Done (BoolTypeSyntax at)) (leaf at _ _ refl (λ n. (tt, omega arith)) (λ wider rest. refl)) rest found left e
  type_taken at (KeywordToken IntWord) rest found left e =
      token_taken levels outer type_tokens is_outer at _ (Done (IntTypeSyntax at)) (leaf at _ _ refl (λ n. (tt, omega arith)) (λ wider rest. refl)) rest found left e
  type_taken at (KeywordToken TextWord) rest found left e =
      token_taken levels outer type_tokens is_outer at _ (Done (TextTypeSyntax at)) (leaf at _ _ refl (λ n. (tt, omega arith)) (λ wider rest. refl)) rest found left e
  type_taken at (LowerToken name) rest found left e =
      token_taken levels outer type_tokens is_outer at _ (Done (NamedTypeSyntax at name)) (leaf at _ _ refl (λ n. (tt, omega arith)) (λ wider rest. refl)) rest found left e
  type_taken at (KeywordToken AuthWord) rest found left e = token_taken levels outer type_tokens is_outer at _ _ (auth_is at) rest found left e
  type_taken at (MarkToken LeftParenthesis) rest found left e = token_taken levels outer type_tokens is_outer at _ _ (pair_is at) rest found left e
  type_taken at (KeywordToken VecWord) rest found left e = token_taken levels outer type_tokens is_outer at _ _ (array_is at) rest found left e
  type_taken at token rest found left e = absurd (cc)

  type_stuck : (at : Place) (token : Token) (rest : Tokens) (kind : SyntaxKind) (place : Place) → outer levels (Next at token rest) ≡ FaultAt kind place
      → Stuck levels outer (CanBegin type_tokens is_outer) (Next at token rest) kind place
  type_stuck at (KeywordToken UnitWord) rest kind place e = absurd (cc)
  type_stuck at (KeywordToken BoolWord) rest kind place e = absurd (cc)
  type_stuck at (KeywordToken IntWord) rest kind place e = absurd (cc)
  type_stuck at (KeywordToken TextWord) rest kind place e = absurd (cc)
  type_stuck at (LowerToken name) rest kind place e = absurd (cc)
  type_stuck at (KeywordToken AuthWord) rest kind place e = token_stuck levels outer type_tokens is_outer at _ _ (auth_is at) rest kind place e
  type_stuck at (MarkToken LeftParenthesis) rest kind place e = token_stuck levels outer type_tokens is_outer at _ _ (pair_is at) rest kind place e
  type_stuck at (KeywordToken VecWord) rest kind place e = token_stuck levels outer type_tokens is_outer at _ _ (array_is at) rest kind place e
  type_stuck at token rest kind place e =
      token_refused levels outer type_tokens is_outer (some_is levels) at token rest kind place (λ wider rest. refl) (λ int wider rest. refl) e

  all_taken : (before : Tokens) (found : TypeSyntax) (left : Tokens) → outer levels before ≡ Found found left
      → Taken levels outer (λ t. t) type_tokens is_outer before found left
  all_taken (Next at token rest) found left e = type_taken at token rest found left e
  all_taken (End at) found left e = absurd (cc)
  all_taken (Faulty at fault) found left e = absurd (cc)

  all_stuck : (before : Tokens) (kind : SyntaxKind) (place : Place) → outer levels before ≡ FaultAt kind place
      → Stuck levels outer (CanBegin type_tokens is_outer) before kind place
  all_stuck (Next at token rest) kind place e = type_stuck at token rest kind place e
  all_stuck (End at) kind place e =
      rest_refused levels outer type_tokens is_outer (some_is levels) (End at) kind place e (λ at token rest e. cc)
  all_stuck (Faulty at fault) kind place e =
      rest_refused levels outer type_tokens is_outer (some_is levels) (Faulty at fault) kind place e (λ at token rest e. cc)

-- a token that begins a type, and one that doesn't
started : (at : Place) (token : Token) → begins_type token ≡ true → CanBegin type_tokens IsType 2 (placed at token ∷ [])
started at (KeywordToken UnitWord) h = record { thing = UnitTypeSyntax at; others = []; are_first = (refl, refl, refl); fits = (tt, omega arith) }
started at (KeywordToken BoolWord) h = record { thing = BoolTypeSyntax at; others = []; are_first = (refl, refl, refl); fits = (tt, omega arith) }
started at (KeywordToken IntWord) h = record { thing = IntTypeSyntax at; others = []; are_first = (refl, refl, refl); fits = (tt, omega arith) }
started at (KeywordToken TextWord) h = record { thing = TextTypeSyntax at; others = []; are_first = (refl, refl, refl); fits = (tt, omega arith) }
started at (LowerToken name) h = record { thing = NamedTypeSyntax at name; others = []; are_first = (refl, refl, refl); fits = (tt, omega arith) }
started at (KeywordToken AuthWord) h = record {
  thing = AuthTypeSyntax at some_type;
  others = type_tokens some_type;
  are_first = (refl, refl, refl);
  fits = (tt, omega arith);
}
started at (MarkToken LeftParenthesis) h = record {
  thing = PairTypeSyntax at some_type some_type;
  others = type_tokens some_type ++ mark Comma ∷ type_tokens some_type ++ mark RightParenthesis ∷ [];
  are_first = (refl, refl, refl);
  fits = ((tt, tt), omega arith);
}
started at (KeywordToken VecWord) h = record {
  thing = VecTypeSyntax at 64 some_type;
  others = length_tokens 64 ++ type_tokens some_type;
  are_first = (refl, refl, refl);
  fits = ((refl, tt), omega arith);
}
started at token h = absurd (cc)

never : (at : Place) (token : Token) → begins_type token ≡ false → (wider : ℕ) (rest : Tokens)
    → read_type (suc wider) (Next at token rest) ≡ FaultAt Expected at
never at token h wider rest = read_type-none (suc wider) at token rest h

ints_alike : (token : Token) → IsInt token → begins_type a_length ≡ begins_type token
ints_alike (IntToken z) int = refl
ints_alike token int = absurd int

none_taken : (before : Tokens) (found : TypeSyntax) (left : Tokens) → read_type zero before ≡ Found found left
    → Taken zero read_type (λ t. t) type_tokens IsType before found left
none_taken (Next at token rest) found left e = absurd (cc)
none_taken (End at) found left e = absurd (cc)
none_taken (Faulty at fault) found left e = absurd (cc)

pub type_widen : (n wider : ℕ) (t : TypeSyntax) → n ≤ wider → IsType n t → IsType wider t
type_widen n wider t h fits = (fits.0, omega (arith, fits.1))

pub types_local : (levels : ℕ) → AreTypesLocal levels
types_local zero = record {
  taken = none_taken;
  stuck = zero_stuck read_type type_tokens IsType begins_type (record {
    some = record { some = some_type; some_fits = λ n. (tt, omega arith) };
    stops = λ tokens. refl;
    started = started;
    never = never;
    ints_alike = ints_alike;
  });
  some = some_type;
  some_fits = λ n. (tt, omega arith);
  widen = type_widen;
}
types_local (suc levels) = record {
  taken = λ before found left e.
      outer_taken read_type type_tokens IsType levels before found left (all_taken levels (types_local levels) before found left e);
  stuck = λ before kind place e.
      outer_stuck read_type type_tokens IsType levels before kind place (all_stuck levels (types_local levels) before kind place e);
  some = some_type;
  some_fits = λ n. (tt, omega arith);
  widen = type_widen;
}
