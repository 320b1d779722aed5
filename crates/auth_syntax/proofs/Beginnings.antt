-- Tokens that begin with those of a tree.
use Rattle.std.proofs.Common.{◌≡◌, List, [], ◌∷◌, ◌++◌, refl, sym, subst}
use Rattle.lexemes.specs.declared.place.Place.{Place}
use Rattle.lexemes.specs.Tokens.{Token, Tokens, Next, End, Faulty}
use Rattle.auth_syntax.specs.Grammar.{Written, IsKept, AreWritten}

abbrev pub Begins : Tokens → List Written → Tokens → Type 0
Begins tokens [] left = tokens ≡ left
Begins (Next at token rest) (written ∷ others) left = (token ≡ written.token) × IsKept written.at at × Begins rest others left
Begins tokens (written ∷ others) left = ⊥

-- these tokens begin with the written ones, and behind them come those that are left
pub record Begin (tokens : Tokens) (written : List Written) (left : Tokens) : Type 0 where
  pub is : Begins tokens written left

pub begin-none : (tokens : Tokens) → Begin tokens [] tokens
begin-none tokens = record { is = refl }

pub begin-next : (at : Place) (token : Token) (written : Written) {rest : Tokens} {others : List Written} {left : Tokens} → token ≡ written.token
    → IsKept written.at at → Begin rest others left → Begin (Next at token rest) (written ∷ others) left
begin-next at token written h kept begun = record { is = (h, kept, begun.is) }

pub none-begin : {tokens left : Tokens} → Begin tokens [] left → tokens ≡ left
none-begin h = h.is

-- where tokens begin with a written one, that one stands at the head
pub record First (tokens : Tokens) (written : Written) (others : List Written) (left : Tokens) : Type 0 where
  pub at : Place
  pub token : Token
  pub rest : Tokens
  pub is : tokens ≡ Next at token rest
  pub stands : token ≡ written.token
  pub kept : IsKept written.at at
  pub begin : Begin rest others left

pub begin-first : {tokens : Tokens} {written : Written} {others : List Written} {left : Tokens} → Begin tokens (written ∷ others) left
    → First tokens written others left
begin-first {tokens} {written} {others} {left} h = first tokens written others left h.is where
  first : (tokens : Tokens) (written : Written) (others : List Written) (left : Tokens) → Begins tokens (written ∷ others) left
      → First tokens written others left
  first (Next at token rest) written others left h =
      record { at = at; token = token; rest = rest; is = refl; stands = h.0; kept = h.1; begin = record { is = h.2 } }
  first (End at) written others left h = absurd h
  first (Faulty at kind) written others left h = absurd h

pub begin-append : {tokens : Tokens} {ws : List Written} {middle : Tokens} {vs : List Written} {left : Tokens} → Begin tokens ws middle
    → Begin middle vs left → Begin tokens (ws ++ vs) left
begin-append {tokens} {ws} {middle} {vs} {left} h h' = record { is = joined ws tokens middle vs left h.is h'.is } where
  joined : (ws : List Written) (tokens middle : Tokens) (vs : List Written) (left : Tokens) → Begins tokens ws middle → Begins middle vs left
      → Begins tokens (ws ++ vs) left
  joined [] tokens middle vs left h h' = subst (λ (t : Tokens). Begins t vs left) (sym h) h'
  joined (w ∷ ws) (Next at token rest) middle vs left h h' = (h.0, h.1, joined ws rest middle vs left h.2 h')
  joined (w ∷ ws) (End at) middle vs left h h' = absurd h
  joined (w ∷ ws) (Faulty at kind) middle vs left h h' = absurd h

-- tokens that begin with two parts, one behind the other
pub record Parted (tokens : Tokens) (ws vs : List Written) (left : Tokens) : Type 0 where
  pub middle : Tokens
  pub begin : Begin tokens ws middle
  pub go_on : Begin middle vs left

pub begin-parted : (ws vs : List Written) (tokens left : Tokens) → Begin tokens (ws ++ vs) left → Parted tokens ws vs left
begin-parted ws vs tokens left h = parted ws tokens vs left h.is where
  parted : (ws : List Written) (tokens : Tokens) (vs : List Written) (left : Tokens) → Begins tokens (ws ++ vs) left → Parted tokens ws vs left
  parted [] tokens vs left h = record { middle = tokens; begin = record { is = refl }; go_on = record { is = h } }
  parted (w ∷ ws) (Next at token rest) vs left h =
      let p = parted ws rest vs left h.2 in record { middle = p.middle; begin = record { is = (h.0, h.1, p.begin.is) }; go_on = p.go_on }
  parted (w ∷ ws) (End at) vs left h = absurd h
  parted (w ∷ ws) (Faulty at kind) vs left h = absurd h

-- the same up to the end of the text
pub written-append : (ws : List Written) (tokens middle : Tokens) (vs : List Written) (end : Place) → Begins tokens ws middle → AreWritten middle vs end
    → AreWritten tokens (ws ++ vs) end
written-append [] tokens middle vs end h h' = subst (λ (t : Tokens). AreWritten t vs end) (sym h) h'
written-append (w ∷ ws) (Next at token rest) middle vs end h h' = (h.0, h.1, written-append ws rest middle vs end h.2 h')
written-append (w ∷ ws) (End at) middle vs end h h' = absurd h
written-append (w ∷ ws) (Faulty at kind) middle vs end h h' = absurd h

pub record PartedToEnd (tokens : Tokens) (ws vs : List Written) (end : Place) : Type 0 where
  pub middle : Tokens
  pub begin : Begin tokens ws middle
  pub go_on : AreWritten middle vs end

pub written-parted : (ws vs : List Written) (tokens : Tokens) (end : Place) → AreWritten tokens (ws ++ vs) end → PartedToEnd tokens ws vs end
written-parted [] vs tokens end h = record { middle = tokens; begin = record { is = refl }; go_on = h }
written-parted (w ∷ ws) vs (Next at token rest) end h =
    let p = written-parted ws vs rest end h.2 in record { middle = p.middle; begin = record { is = (h.0, h.1, p.begin.is) }; go_on = p.go_on }
written-parted (w ∷ ws) vs (End at) end h = absurd h
written-parted (w ∷ ws) vs (Faulty at kind) end h = absurd h

-- the same tokens, grouped otherwise
pub begin-as : {tokens : Tokens} {ws vs : List Written} {left : Tokens} → ws ≡ vs → Begin tokens ws left → Begin tokens vs left
begin-as {tokens} {ws} {vs} {left} e begin = subst (λ (ws : List Written). Begin tokens ws left) e begin
