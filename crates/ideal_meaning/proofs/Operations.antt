-- The operations on ints, texts and bools, in the words of arithmetic and of byte strings.
use Rattle.std.proofs.Common.{◌≡◌, ◌≢◌, inl, inr, ℕ, zero, suc, ◌+◌, ◌-◌, ◌%◌, ◌^◌, ◌<◌, Bool, true, false, not, ◌&&◌, ◌||◌, List, [], ◌∷◌, ◌++◌, length, ℤ, pos, negsuc, ◌+ℤ◌, ◌-ℤ◌, ◌*ℤ◌, neg_ℤ, ◌≤ℤ◌, ◌<ℤ◌, nat_abs, int_lt, int_le, int_div, int_rem, int_eq, nat_lt, nat_eq, bytes_eq, if◌then◌else◌, T, refl, sym, ap, ap₂, ◌∙◌, subst, append-nil, arith, le-ltb, lt-ltb, ltb-true, le→leb, leb→le, true≢false}
use Rattle.std.proofs.lemmas.Bool.Decides.{Decides-int_eq, Decides-eqb}
use Rattle.std.proofs.lemmas.Slice.Eq.{bytes_eq-Decides}
use Rattle.std.proofs.lemmas.Int.{quot-rem, rem_below}
use Rattle.std.specs.Prelude.{Decides}
use Rattle.core_terms.specs.Values.{int_fits, Value, BoolV, IntV, TextV}
use Rattle.ideal_meaning.specs.Run.{Traps, Overflow, TooBig, Gives, Ends, divided, text_lt}
use Rattle.ideal_meaning.specs.Ideal.{Opened}
use Rattle.ideal_meaning.specs.Table.{Evaluation}
use Rattle.ideal_meaning.specs.Operations.{OperationTable, IsInt, IsDivision, ComesBefore, SaysWhether, Divides}

true_is : (b : Bool) → b ≡ true → T b
true_is true e = tt
true_is false e = absurd (true≢false (sym e))

is_true : (b : Bool) → T b → b ≡ true
is_true true t = refl
is_true false t = absurd t

-- the ints are those that the test of the definitions passes
fits_int : (z : ℤ) → int_fits z ≡ true → IsInt z
fits_int (pos m) e = (record { le = tt }, record { le = le→leb m (2 ^ 63 - 1) (omega (arith, ltb-true m (2 ^ 63) e)) })
fits_int (negsuc m) e = (record { le = le→leb m (2 ^ 63 - 1) (omega (arith, ltb-true m (2 ^ 63) e)) }, record { le = tt })

int_fits_all : (z : ℤ) → IsInt z → int_fits z ≡ true
int_fits_all (pos m) h = lt-ltb m (2 ^ 63) (omega (arith, leb→le m (2 ^ 63 - 1) h.1.le))
int_fits_all (negsuc m) h = lt-ltb m (2 ^ 63) (omega (arith, leb→le m (2 ^ 63 - 1) h.0.le))

-- a test by that passes one of two ways
if_int : (z : ℤ) (yes' no' : Evaluation Value) → (IsInt z → (if int_fits z then yes' else no') ≡ yes') × ((IsInt z → ⊥) → (if int_fits z then yes' else no') ≡ no')
if_int z yes' no' = by (int_fits z) refl
  where
    by : (b : Bool) → int_fits z ≡ b → (IsInt z → (if b then yes' else no') ≡ yes') × ((IsInt z → ⊥) → (if b then yes' else no') ≡ no')
    by true e = (λ h. refl, λ none. absurd (none (fits_int z e)))
    by false e = (λ h. absurd (true≢false (sym (int_fits_all z h) ∙ e)), λ none. refl)

-- an answer by a test that decides the fact
says : (Fact : Type 0) (b : Bool) (k : ℕ) (s : List Opened) → Decides b Fact → SaysWhether Fact k s (Gives (BoolV b) k s)
says Fact true k s d = (λ h. refl, λ none. absurd (none (d.0 refl)))
says Fact false k s d = (λ h. absurd (true≢false (sym (d.1 h))), λ none. refl)

-- the sign of a remainder
not_negative : (a b : ℤ) → pos 0 ≤ℤ a → pos 0 ≤ℤ int_rem a b
not_negative (pos m) b h = record { le = le→leb 0 (m % nat_abs b) (omega arith) }
not_negative (negsuc m) b h = absurd h.le

neg_at_most : (m : ℕ) → neg_ℤ (pos m) ≤ℤ pos 0
neg_at_most zero = record { le = tt }
neg_at_most (suc m) = record { le = tt }

not_positive : (a b : ℤ) → a ≤ℤ pos 0 → int_rem a b ≤ℤ pos 0
not_positive (pos zero) b h = at_zero (nat_abs b)
  where
    at_zero : (d : ℕ) → pos (0 % d) ≤ℤ pos 0
    at_zero zero = record { le = tt }
    at_zero (suc d) = record { le = le→leb (0 % suc d) 0 (omega arith) }
not_positive (pos (suc m)) b h = absurd (omega (arith, leb→le (suc m) 0 h.le))
not_positive (negsuc m) b h = neg_at_most (suc m % nat_abs b)

abs_above : (b : ℤ) → b ≢ pos 0 → 0 < nat_abs b
abs_above (pos zero) h = absurd (h refl)
abs_above (pos (suc m)) h = omega arith
abs_above (negsuc m) h = omega arith

is_division : (a b : ℤ) → b ≢ pos 0 → IsDivision a b (int_div a b) (int_rem a b)
is_division a b h =
    record { sum = quot-rem a b; below = rem_below a b (abs_above b h); not_negative = not_negative a b; not_positive = not_positive a b }

-- by a number other than 0, a quotient or remainder z of x by y
divided_by : (z x y : ℤ) (k : ℕ) (s : List Opened) → y ≢ pos 0 → divided {C = ⊥} z x y k s ≡ (if int_fits (int_div x y) then Gives (IntV z) k s else Ends (Traps Overflow) k s)
divided_by z x (pos zero) k s h = absurd (h refl)
divided_by z x (pos (suc m)) k s h = refl
divided_by z x (negsuc m) k s h = refl

divides : (a b : ℤ) (k : ℕ) (s : List Opened) → b ≢ pos 0
    → (q : ℤ) × (r : ℤ) × Divides a b q r k s (divided (int_div a b) a b k s) (divided (int_rem a b) a b k s)
divides a b k s h =
    let by = λ (z : ℤ). if_int (int_div a b) (Gives (IntV z) k s) (Ends (Traps Overflow) k s) in (
      int_div a b,
      int_rem a b,
      record {
        division = is_division a b h;
        quotient_is = (λ i. divided_by (int_div a b) a b k s h ∙ (by (int_div a b)).0 i, λ i. divided_by (int_div a b) a b k s h ∙ (by (int_div a b)).1 i);
        remainder_is = λ i. divided_by (int_rem a b) a b k s h ∙ (by (int_rem a b)).0 i;
        remainder_traps = λ i. divided_by (int_rem a b) a b k s h ∙ (by (int_rem a b)).1 i;
      },
    )

less_decides : (a b : ℤ) → Decides (int_lt a b) (a <ℤ b)
less_decides a b = (λ e. record { lt = true_is (int_lt a b) e }, λ h. is_true (int_lt a b) h.lt)

at_most_decides : (a b : ℤ) → Decides (int_le a b) (a ≤ℤ b)
at_most_decides a b = (λ e. record { le = true_is (int_le a b) e }, λ h. is_true (int_le a b) h.le)

-- the order of texts
before_after : (x : ℕ) (xs ys : List ℕ) → ComesBefore xs ys → ComesBefore (x ∷ xs) (x ∷ ys)
before_after x xs ys (common, y, later, is, inl e) = (x ∷ common, y, later, ap (λ l. x ∷ l) is, inl (ap (λ l. x ∷ l) e))
before_after x xs ys (common, y, later, is, inr (z, rest, e, below)) = (x ∷ common, y, later, ap (λ l. x ∷ l) is, inr (z, rest, ap (λ l. x ∷ l) e, below))

first_bytes : (x y : ℕ) (xs ys : List ℕ) (b c : Bool) → nat_lt x y ≡ b → nat_eq x y ≡ c → (text_lt xs ys ≡ true → ComesBefore xs ys)
    → (b || (c && text_lt xs ys)) ≡ true → ComesBefore (x ∷ xs) (y ∷ ys)
first_bytes x y xs ys true c p q later e = ([], y, ys, refl, inr (x, xs, refl, ltb-true x y p))
first_bytes x y xs ys false true p q later e = subst (λ (z : ℕ). ComesBefore (x ∷ xs) (z ∷ ys)) ((Decides-eqb x y).0 q) (before_after x xs ys (later e))
first_bytes x y xs ys false false p q later e = absurd (true≢false (sym e))

lt_before : (xs ys : List ℕ) → text_lt xs ys ≡ true → ComesBefore xs ys
lt_before [] [] e = absurd (true≢false (sym e))
lt_before (x ∷ xs) [] e = absurd (true≢false (sym e))
lt_before [] (y ∷ ys) e = ([], y, ys, refl, inl refl)
lt_before (x ∷ xs) (y ∷ ys) e = first_bytes x y xs ys (nat_lt x y) (nat_eq x y) refl refl (lt_before xs ys) e

or_right : (b : Bool) {c : Bool} → c ≡ true → (b || c) ≡ true
or_right true e = refl
or_right false e = e

lt_behind : (common xs ys : List ℕ) → text_lt xs ys ≡ true → text_lt (common ++ xs) (common ++ ys) ≡ true
lt_behind [] xs ys e = e
lt_behind (c ∷ common) xs ys e =
    or_right (nat_lt c c) (ap (λ b. b && text_lt (common ++ xs) (common ++ ys)) ((Decides-eqb c c).1 refl) ∙ lt_behind common xs ys e)

before_lt : (xs ys : List ℕ) → ComesBefore xs ys → text_lt xs ys ≡ true
before_lt xs ys (common, y, later, is, inl e) =
    ap₂ text_lt (e ∙ sym (append-nil common)) is ∙ lt_behind common [] (y ∷ later) refl
before_lt xs ys (common, y, later, is, inr (x, rest, e, below)) =
    ap₂ text_lt e is ∙ lt_behind common (x ∷ rest) (y ∷ later) (ap (λ b. b || (nat_eq x y && text_lt rest later)) (lt-ltb x y below))

before_decides : (xs ys : List ℕ) → Decides (text_lt xs ys) (ComesBefore xs ys)
before_decides xs ys = (lt_before xs ys, before_lt xs ys)

negated : (b : Bool) → Decides (not b) (b ≡ false)
negated true = (λ e. absurd (true≢false (sym e)), λ e. absurd (true≢false e))
negated false = (λ e. refl, λ e. refl)

pub operation_table : OperationTable
operation_table P n = record {
  sum = λ a b k s. if_int (a +ℤ b) (Gives (IntV (a +ℤ b)) k s) (Ends (Traps Overflow) k s);
  difference = λ a b k s. if_int (a -ℤ b) (Gives (IntV (a -ℤ b)) k s) (Ends (Traps Overflow) k s);
  product = λ a b k s. if_int (a *ℤ b) (Gives (IntV (a *ℤ b)) k s) (Ends (Traps Overflow) k s);
  quotient_by_zero = λ a k s. refl;
  remainder_by_zero = λ a k s. refl;
  division = λ a b k s h. divides a b k s h;
  equal = λ a b k s. says (a ≡ b) (int_eq a b) k s (Decides-int_eq a b);
  less = λ a b k s. says (a <ℤ b) (int_lt a b) k s (less_decides a b);
  at_most = λ a b k s. says (a ≤ℤ b) (int_le a b) k s (at_most_decides a b);
  same_text = λ xs ys k s. says (xs ≡ ys) (bytes_eq xs ys) k s (bytes_eq-Decides xs ys);
  text_before = λ xs ys k s. says (ComesBefore xs ys) (text_lt xs ys) k s (before_decides xs ys);
  joined = λ xs ys k s h. ap (λ b. if b then Ends (Traps TooBig) k s else Gives (TextV (xs ++ ys)) k s) (le-ltb P.format.limit (4 + length (xs ++ ys)) h);
  joined_traps = λ xs ys k s h. ap (λ b. if b then Ends (Traps TooBig) k s else Gives (TextV (xs ++ ys)) k s) (lt-ltb P.format.limit (4 + length (xs ++ ys)) h);
  text_length = λ xs k s. refl;
  negation = λ b k s. says (b ≡ false) (not b) k s (negated b);
}
