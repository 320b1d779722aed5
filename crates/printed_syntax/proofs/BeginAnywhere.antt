-- Tokens that begin with those of a tree, wherever they stand.
use Rattle.std.proofs.Common.{◌≡◌, ◌+◌, List, [], ◌∷◌, ◌++◌, length, refl, sym, ap, subst, ◌∙◌, arith}
use Rattle.lexemes.specs.declared.place.Place.{Place}
use Rattle.lexemes.specs.Tokens.{Token, Tokens, Next, End, Faulty, count}
use Rattle.auth_syntax.specs.Grammar.{Written}
use Rattle.auth_syntax.proofs.Beginnings.{Begins, Begin}

abbrev pub TellsTokens : Tokens → List Written → Tokens → Type 0
TellsTokens tokens [] left = tokens ≡ left
TellsTokens (Next at token rest) (written ∷ others) left = (token ≡ written.token) × TellsTokens rest others left
TellsTokens tokens (written ∷ others) left = ⊥

-- the first of these tokens are those of the tree, and behind them come those that are left
pub record TellAnywhere (tokens : Tokens) (written : List Written) (left : Tokens) : Type 0 where
  pub is : TellsTokens tokens written left

pub tell-none : (tokens : Tokens) → TellAnywhere tokens [] tokens
tell-none tokens = record { is = refl }

pub tell-next : (at : Place) (token : Token) (written : Written) {rest : Tokens} {others : List Written} {left : Tokens} → token ≡ written.token
    → TellAnywhere rest others left → TellAnywhere (Next at token rest) (written ∷ others) left
tell-next at token written h told = record { is = (h, told.is) }

pub tell-append : {tokens : Tokens} {ws : List Written} {middle : Tokens} {vs : List Written} {left : Tokens} → TellAnywhere tokens ws middle
    → TellAnywhere middle vs left → TellAnywhere tokens (ws ++ vs) left
tell-append {tokens} {ws} {middle} {vs} {left} h h' = record { is = joined ws tokens middle vs left h.is h'.is } where
  joined : (ws : List Written) (tokens middle : Tokens) (vs : List Written) (left : Tokens) → TellsTokens tokens ws middle → TellsTokens middle vs left
      → TellsTokens tokens (ws ++ vs) left
  joined [] tokens middle vs left h h' = subst (λ (t : Tokens). TellsTokens t vs left) (sym h) h'
  joined (w ∷ ws) (Next at token rest) middle vs left h h' = (h.0, joined ws rest middle vs left h.1 h')
  joined (w ∷ ws) (End at) middle vs left h h' = absurd h
  joined (w ∷ ws) (Faulty at kind) middle vs left h h' = absurd h

-- the tokens of two parts, one behind the other
pub record ToldApart (tokens : Tokens) (ws vs : List Written) (left : Tokens) : Type 0 where
  pub middle : Tokens
  pub first : TellAnywhere tokens ws middle
  pub second : TellAnywhere middle vs left

pub tell-parted : (ws vs : List Written) (tokens left : Tokens) → TellAnywhere tokens (ws ++ vs) left → ToldApart tokens ws vs left
tell-parted ws vs tokens left h = parted ws tokens vs left h.is where
  parted : (ws : List Written) (tokens : Tokens) (vs : List Written) (left : Tokens) → TellsTokens tokens (ws ++ vs) left → ToldApart tokens ws vs left
  parted [] tokens vs left h = record { middle = tokens; first = record { is = refl }; second = record { is = h } }
  parted (w ∷ ws) (Next at token rest) vs left h =
      let p = parted ws rest vs left h.1 in record { middle = p.middle; first = record { is = (h.0, p.first.is) }; second = p.second }
  parted (w ∷ ws) (End at) vs left h = absurd h
  parted (w ∷ ws) (Faulty at kind) vs left h = absurd h

pub tell-count : (ws : List Written) (tokens left : Tokens) → TellAnywhere tokens ws left → count tokens ≡ length ws + count left
tell-count ws tokens left h = counted ws tokens left h.is where
  counted : (ws : List Written) (tokens left : Tokens) → TellsTokens tokens ws left → count tokens ≡ length ws + count left
  counted [] tokens left h = ap count h ∙ (omega arith)
  counted (w ∷ ws) (Next at token rest) left h = let more = counted ws rest left h.1 in omega arith
  counted (w ∷ ws) (End at) left h = absurd h
  counted (w ∷ ws) (Faulty at kind) left h = absurd h

-- what stands where the tree keeps it stands somewhere
pub begin-tell : (ws : List Written) (tokens left : Tokens) → Begin tokens ws left → TellAnywhere tokens ws left
begin-tell ws tokens left h = record { is = told ws tokens left h.is } where
  told : (ws : List Written) (tokens left : Tokens) → Begins tokens ws left → TellsTokens tokens ws left
  told [] tokens left h = h
  told (w ∷ ws) (Next at token rest) left h = (h.0, told ws rest left h.2)
  told (w ∷ ws) (End at) left h = absurd h
  told (w ∷ ws) (Faulty at kind) left h = absurd h
