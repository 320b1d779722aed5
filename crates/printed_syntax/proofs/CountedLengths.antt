-- Lengths as they are counted.
use Rattle.std.proofs.Common.{◌≡◌, ℕ, suc, ◌+◌, ◌-◌, ◌*◌, min, List, ◌++◌, codes, length, ap, ◌∙◌, arith, length-append}
use Rattle.std.proofs.Math.Nat.{suc-mul}
use Rattle.printed_syntax.specs.PrintedLengths.{counted, text_limit}

-- sums of what is counted already
pub counted_more : (a b : ℕ) → counted (counted a + b) ≡ counted (a + b)
counted_more a b = omega arith

pub counted_pair : (a b c : ℕ) → counted (counted a + counted b + c) ≡ counted (a + b + c)
counted_pair a b c = omega arith

pub counted_next : (a b c : ℕ) → counted (counted a + c + counted b) ≡ counted (a + c + b)
counted_next a b c = omega arith

pub counted_steps : (a b c : ℕ) → counted (counted (a + b) + c) ≡ counted (a + b + c)
counted_steps a b c = omega arith

pub counted_between : (a b : ℕ) → counted (counted (a + 2) + b) ≡ counted (a + b + 2)
counted_between a b = omega arith

pub counted_behind : (a b c : ℕ) → counted a ≡ counted b → counted (a + c) ≡ counted (b + c)
counted_behind a b c e = omega arith

-- an element more, before the others of an array
counted_before : (one long row rest : ℕ) → one ≡ counted long → counted row ≡ counted rest → counted (one + 2 + row) ≡ counted (long + 2 + rest)
counted_before one long row rest e f = omega arith

pub counted_row : (k one long rest : ℕ) → one ≡ counted long → counted (suc k * one + 2 * (suc k - 1)) ≡ counted rest
    → counted (suc (suc k) * one + 2 * (suc (suc k) - 1)) ≡ counted (long + 2 + rest)
counted_row k one long rest e f =
    let product = suc-mul (suc k) one in
    let more : suc (suc k) * one + 2 * (suc (suc k) - 1) ≡ one + 2 + (suc k * one + 2 * (suc k - 1)) = omega arith in
    ap counted more ∙ counted_before one long (suc k * one + 2 * (suc k - 1)) rest e f

-- the greatest length of a text is below the greatest that is counted
pub least_of_counted : (n : ℕ) → min (counted n) (text_limit + 1) ≡ min n (text_limit + 1)
least_of_counted n = omega arith

-- the lengths of texts in their marks
pub length_of_pair : (first second : List ℕ) → length (codes "(" ++ first ++ codes ", " ++ second ++ codes ")") ≡ length first + length second + 4
length_of_pair first second =
    let one = length-append first (codes ", ") in
    let two = length-append (first ++ codes ", ") second in
    let three = length-append (first ++ codes ", " ++ second) (codes ")") in
    omega arith

pub length_of_array : (row : List ℕ) → length (codes "[" ++ row ++ codes "]") ≡ length row + 2
length_of_array row = let one = length-append row (codes "]") in omega arith

pub length_of_row : (first rest : List ℕ) → length (first ++ codes ", " ++ rest) ≡ length first + 2 + length rest
length_of_row first rest =
    let one = length-append first (codes ", ") in
    let two = length-append (first ++ codes ", ") rest in
    omega arith
