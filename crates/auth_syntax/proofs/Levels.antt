-- Readers that count levels down, on tokens that only begin alike.
use Rattle.std.proofs.Common.{◌≡◌, ℕ, zero, suc, ◌≤◌, Bool, true, false, cond, List, [], ◌∷◌, ◌++◌, refl, sym, ap, subst, ◌∙◌, arith}
use Rattle.lexemes.specs.declared.place.Place.{Place}
use Rattle.lexemes.specs.declared.fault.SyntaxKind.{SyntaxKind}
use Rattle.lexemes.specs.declared.fault.SyntaxKind.TheVariants.{Lexical, Expected, TooNested}
use Rattle.lexemes.specs.declared.fault.LexicalFault.TheVariants.{NumberRange}
use Rattle.lexemes.specs.Tokens.{Token, Tokens, Next, End, Faulty}
use Rattle.auth_syntax.specs.Grammar.{Written}
use Rattle.lexemes.specs.Readings.{Reading, Found, FaultAt}
use Rattle.auth_syntax.specs.Parsing.{too_nested}
use Rattle.auth_syntax.specs.FirstFaults.{Placed, placed, joined, IsInt}
use Rattle.auth_syntax.proofs.Fronts.{AlikeHeads, CanBegin, Taken, a_length, FailsAt, Fails, Blocked, Stuck, kind_is, place_is}
use Rattle.auth_syntax.proofs.Productions.{HasSome, rest_refused}

module _ {B : Type 0} (read : ℕ → Tokens → Reading B) (written : B → List Written) (within : ℕ → B → Type 0) where
  -- what is known one level further in is known there
  pub outer_taken : (limit : ℕ) (before : Tokens) (found : B) (left : Tokens)
      → Taken limit (λ levels. read (suc levels)) (λ thing. thing) written (λ levels. within (suc levels)) before found left
      → Taken (suc limit) read (λ thing. thing) written within before found left
  outer_taken limit before found left t = record {
    thing = t.thing;
    makes = t.makes;
    front = t.front;
    is = t.is;
    are_all = t.are_all;
    fits = t.fits;
    again = again;
  } where
    again : (wider : ℕ) → suc limit ≤ wider → (other : Tokens) → AlikeHeads left other → read wider (joined t.front other) ≡ Found found other
    again zero h other heads = absurd (omega arith)
    again (suc wider) h other heads = t.again wider (omega arith) other heads

  deeper : (limit : ℕ) (front : List Placed) → CanBegin written (λ levels. within (suc levels)) limit front → CanBegin written within (suc limit) front
  deeper limit front b = record { thing = b.thing; others = b.others; are_first = b.are_first; fits = b.fits }

  pub outer_stuck : (limit : ℕ) (before : Tokens) (kind : SyntaxKind) (place : Place)
      → Stuck limit (λ levels. read (suc levels)) (CanBegin written (λ levels. within (suc levels))) before kind place
      → Stuck (suc limit) read (CanBegin written within) before kind place
  outer_stuck limit before kind place s = record {
    front = s.front;
    rest = s.rest;
    is = s.is;
    can_go_on = deeper (suc limit) s.front s.can_go_on;
    blocked = lifted s.rest kind s.blocked;
  } where
    still : (at : Place) (token : Token) (kind : SyntaxKind) → FailsAt limit (Fails (λ levels. read (suc levels))) s.front at token kind
        → FailsAt (suc limit) (Fails read) s.front at token kind
    still at token kind b zero h other = absurd (omega arith)
    still at token kind b (suc wider) h other = b wider (omega arith) other

    lifted : (rest : Tokens) (kind : SyntaxKind)
        → Blocked limit (λ levels. read (suc levels)) (CanBegin written (λ levels. within (suc levels))) s.front rest kind place
        → Blocked (suc limit) read (CanBegin written within) s.front rest kind place
    lifted (Faulty at fault) kind b = b
    lifted (End at) kind b = b
    lifted (Next at token rest) Expected b = (b.0, still at token Expected b.1, λ int. still at a_length Expected (b.2 int))
    lifted (Next at token rest) (Lexical NumberRange) b =
        (b.0, b.1, deeper (suc limit) (s.front ++ placed at a_length ∷ []) b.2, still at token (Lexical NumberRange) b.3)
    lifted (Next at token rest) TooNested b = (b.0, deeper (suc (suc limit)) (s.front ++ placed at token ∷ []) b.1, b.2)
    lifted (Next at token rest) (Lexical fault) b = absurd b

  -- with no level left
  pub record StopsAtZero (begins : Token → Bool) : Type 0 where
    pub some : HasSome zero read written within
    pub stops : (tokens : Tokens) → read zero tokens ≡ too_nested begins tokens
    pub started : (at : Place) (token : Token) → begins token ≡ true → CanBegin written within 2 (placed at token ∷ [])
    pub never : (at : Place) (token : Token) → begins token ≡ false → (wider : ℕ) (rest : Tokens) → read (suc wider) (Next at token rest) ≡ FaultAt Expected at
    pub ints_alike : (token : Token) → IsInt token → begins a_length ≡ begins token

  zero_blocked : (begins : Token → Bool) → StopsAtZero begins → (at : Place) (token : Token) (rest : Tokens) (starts : Bool) → begins token ≡ starts
      → (kind : SyntaxKind) (place : Place) → ◌≡◌ {A = Reading B} (FaultAt (cond starts TooNested Expected) at) (FaultAt kind place)
      → Blocked zero read (CanBegin written within) [] (Next at token rest) kind place
  zero_blocked begins z at token rest true h kind place e =
      subst (λ (kind : SyntaxKind). Blocked zero read (CanBegin written within) [] (Next at token rest) kind place) (kind_is e) (
        place_is e,
        z.started at token h,
        λ other. z.stops (Next at token other) ∙ ap (λ starts. FaultAt (cond starts TooNested Expected) at) h,
      )
  zero_blocked begins z at token rest false h kind place e =
      subst (λ (kind : SyntaxKind). Blocked zero read (CanBegin written within) [] (Next at token rest) kind place) (kind_is e)
      (place_is e, still token h, λ int. still a_length (z.ints_alike token int ∙ h)) where
        still : (token : Token) → begins token ≡ false → FailsAt zero (Fails read) [] at token Expected
        still token h zero h' other = z.stops (Next at token other) ∙ ap (λ starts. FaultAt (cond starts TooNested Expected) at) h
        still token h (suc wider) h' other = z.never at token h wider other

  pub zero_stuck : (begins : Token → Bool) → StopsAtZero begins → (before : Tokens) (kind : SyntaxKind) (place : Place) → read zero before ≡ FaultAt kind place
      → Stuck zero read (CanBegin written within) before kind place
  zero_stuck begins z (Next at token rest) kind place e = record {
    front = [];
    rest = Next at token rest;
    is = refl;
    can_go_on = record { thing = z.some.some; others = written z.some.some; are_first = refl; fits = z.some.some_fits zero };
    blocked = zero_blocked begins z at token rest (begins token) refl kind place (sym (z.stops (Next at token rest)) ∙ e);
  }
  zero_stuck begins z (End at) kind place e =
      rest_refused zero read written within z.some (End at) kind place (sym (z.stops (End at)) ∙ e) (λ at token rest e. cc)
  zero_stuck begins z (Faulty at fault) kind place e =
      rest_refused zero read written within z.some (Faulty at fault) kind place (sym (z.stops (Faulty at fault)) ∙ e) (λ at token rest e. cc)
