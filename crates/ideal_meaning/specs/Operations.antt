-- What the operations on ints, texts and bools give, in the words of arithmetic and of byte strings.
-- Each stands on the first locals here: that operands are evaluated before it, from left to right, is in the table of rules.
use Rattle.std.specs.Prelude.{◌≡◌, ◌≢◌, ◌⊎◌, ℕ, ◌+◌, ◌-◌, ◌^◌, ◌<◌, ◌≤◌, Bool, true, false, List, ◌∷◌, ◌++◌, length, ℤ, pos, negsuc, ◌+ℤ◌, ◌-ℤ◌, ◌*ℤ◌, ◌≤ℤ◌, ◌<ℤ◌, nat_abs}
use Rattle.core_terms.specs.Values.{Value, BoolV, IntV, TextV, NoV, AndV}
use Rattle.core_terms.specs.declared.term.Arith.TheVariants.{Add, Sub, Mul, Div, Rem}
use Rattle.core_terms.specs.declared.term.Compare.TheVariants.{Eq, Lt, Le}
use Rattle.core_terms.specs.declared.term.TextCompare.TheVariants.{Eq as TEq, Lt as TLt}
use Rattle.core_terms.specs.Terms.{Expression, LocalE, NotE, LenE, ArithE, CompareE, TextCompareE, CatE, Program}
use Rattle.ideal_meaning.specs.Run.{Traps, Overflow, DivZero, TooBig, Gives, Ends}
use Rattle.ideal_meaning.specs.Ideal.{Opened}
use Rattle.ideal_meaning.specs.Table.{Evaluation, eval}

-- the ints of the language are those from -2^63 to 2^63 - 1; `negsuc n` is -(n + 1)
abbrev pub IsInt : ℤ → Type 0
IsInt z = (negsuc (2 ^ 63 - 1) ≤ℤ z) × (z ≤ℤ pos (2 ^ 63 - 1))

-- q and r are the quotient of a by b, truncated toward zero, and its remainder, which has the sign of a or is 0
pub record IsDivision (a b q r : ℤ) : Type 0 where
  pub sum : q *ℤ b +ℤ r ≡ a
  pub below : nat_abs r < nat_abs b
  pub not_negative : pos 0 ≤ℤ a → pos 0 ≤ℤ r
  pub not_positive : a ≤ℤ pos 0 → r ≤ℤ pos 0

-- xs comes before ys: behind what both begin with, xs ends and ys goes on, or xs goes on with the smaller byte
abbrev pub ComesBefore : List ℕ → List ℕ → Type 0
ComesBefore xs ys =
    (common : List ℕ) × (y : ℕ) × (later : List ℕ) × (ys ≡ common ++ y ∷ later)
    × ((xs ≡ common) ⊎ ((x : ℕ) × (rest : List ℕ) × (xs ≡ common ++ x ∷ rest) × (x < y)))

module _ (P : Program) (n : ℕ) where
  -- the evaluation of an expression where the only locals have these values
  abbrev pub on_one : Expression → Value → ℕ → List Opened → Evaluation Value
  on_one e a k s = eval P n e (AndV a NoV) k s

  abbrev pub on_two : Expression → (a b : Value) → ℕ → List Opened → Evaluation Value
  on_two e a b k s = eval P n e (AndV a (AndV b NoV)) k s

-- the int z where it is one, else the trap
abbrev pub IsExact : ℤ → ℕ → List Opened → Evaluation Value → Type 0
IsExact z k s e = (IsInt z → e ≡ Gives (IntV z) k s) × ((IsInt z → ⊥) → e ≡ Ends (Traps Overflow) k s)

-- true where the fact holds, false where it doesn't
abbrev pub SaysWhether : Type 0 → ℕ → List Opened → Evaluation Value → Type 0
SaysWhether Fact k s e = (Fact → e ≡ Gives (BoolV true) k s) × ((Fact → ⊥) → e ≡ Gives (BoolV false) k s)

-- a quotient q by a number other than 0, and the remainder r: both trap where the quotient is no int
pub record Divides (a b q r : ℤ) (k : ℕ) (s : List Opened) (quotient remainder : Evaluation Value) : Type 0 where
  pub division : IsDivision a b q r
  pub quotient_is : IsExact q k s quotient
  pub remainder_is : IsInt q → remainder ≡ Gives (IntV r) k s
  pub remainder_traps : (IsInt q → ⊥) → remainder ≡ Ends (Traps Overflow) k s

module _ (P : Program) (n : ℕ) where
  pub record OperationRules : Type 0 where
    -- the exact result, which traps where it is no int
    pub sum : (a b : ℤ) (k : ℕ) (s : List Opened) → IsExact (a +ℤ b) k s (on_two P n (ArithE Add (LocalE 0) (LocalE 1)) (IntV a) (IntV b) k s)
    pub difference : (a b : ℤ) (k : ℕ) (s : List Opened) → IsExact (a -ℤ b) k s (on_two P n (ArithE Sub (LocalE 0) (LocalE 1)) (IntV a) (IntV b) k s)
    pub product : (a b : ℤ) (k : ℕ) (s : List Opened) → IsExact (a *ℤ b) k s (on_two P n (ArithE Mul (LocalE 0) (LocalE 1)) (IntV a) (IntV b) k s)
    -- by 0 both trap, whatever is divided
    pub quotient_by_zero : (a : ℤ) (k : ℕ) (s : List Opened) → on_two P n (ArithE Div (LocalE 0) (LocalE 1)) (IntV a) (IntV (pos 0)) k s ≡ Ends (Traps DivZero) k s
    pub remainder_by_zero : (a : ℤ) (k : ℕ) (s : List Opened) → on_two P n (ArithE Rem (LocalE 0) (LocalE 1)) (IntV a) (IntV (pos 0)) k s ≡ Ends (Traps DivZero) k s
    pub division : (a b : ℤ) (k : ℕ) (s : List Opened) → b ≢ pos 0
        → (q : ℤ) × (r : ℤ) × Divides a b q r k s (on_two P n (ArithE Div (LocalE 0) (LocalE 1)) (IntV a) (IntV b) k s) (on_two P n (ArithE Rem (LocalE 0) (LocalE 1)) (IntV a) (IntV b) k s)
    pub equal : (a b : ℤ) (k : ℕ) (s : List Opened) → SaysWhether (a ≡ b) k s (on_two P n (CompareE Eq (LocalE 0) (LocalE 1)) (IntV a) (IntV b) k s)
    pub less : (a b : ℤ) (k : ℕ) (s : List Opened) → SaysWhether (a <ℤ b) k s (on_two P n (CompareE Lt (LocalE 0) (LocalE 1)) (IntV a) (IntV b) k s)
    pub at_most : (a b : ℤ) (k : ℕ) (s : List Opened) → SaysWhether (a ≤ℤ b) k s (on_two P n (CompareE Le (LocalE 0) (LocalE 1)) (IntV a) (IntV b) k s)
    -- texts are compared byte by byte; the order is strict: a text doesn't come before itself
    pub same_text : (xs ys : List ℕ) (k : ℕ) (s : List Opened) → SaysWhether (xs ≡ ys) k s (on_two P n (TextCompareE TEq (LocalE 0) (LocalE 1)) (TextV xs) (TextV ys) k s)
    pub text_before : (xs ys : List ℕ) (k : ℕ) (s : List Opened) → SaysWhether (ComesBefore xs ys) k s (on_two P n (TextCompareE TLt (LocalE 0) (LocalE 1)) (TextV xs) (TextV ys) k s)
    -- a joined text traps where its spelling, of 4 bytes and those of the text, would pass the limit
    pub joined : (xs ys : List ℕ) (k : ℕ) (s : List Opened) → 4 + length (xs ++ ys) ≤ P.format.limit → on_two P n (CatE (LocalE 0) (LocalE 1)) (TextV xs) (TextV ys) k s ≡ Gives (TextV (xs ++ ys)) k s
    pub joined_traps : (xs ys : List ℕ) (k : ℕ) (s : List Opened) → P.format.limit < 4 + length (xs ++ ys) → on_two P n (CatE (LocalE 0) (LocalE 1)) (TextV xs) (TextV ys) k s ≡ Ends (Traps TooBig) k s
    -- the number of bytes
    pub text_length : (xs : List ℕ) (k : ℕ) (s : List Opened) → on_one P n (LenE (LocalE 0)) (TextV xs) k s ≡ Gives (IntV (pos (length xs))) k s
    pub negation : (b : Bool) (k : ℕ) (s : List Opened) → SaysWhether (b ≡ false) k s (on_one P n (NotE (LocalE 0)) (BoolV b) k s)

-- the rules hold for every program and bound on nested calls
abbrev pub OperationTable : Type 0
OperationTable = (P : Program) (nesting : ℕ) → OperationRules P nesting
