-- How long the texts of values are, as it is counted before they are printed.
use Rattle.std.specs.Prelude.{◌≡◌, ℕ, ◌+◌, ◌-◌, ◌*◌, ◌<◌, ◌^◌, min, List, ◌++◌, length, map, Option, Some, None, option_map}
use Rattle.core_terms.specs.Types.{Ty, UnitTy, PairTy, VecTy}
use Rattle.core_terms.specs.Values.{Value, Values, IsShallow, AreShallow}
use Rattle.core_terms.specs.Spelling.{spelling, spellings}
use Rattle.core_terms.specs.Programs.{meaning, types_of}
use Rattle.core_terms.specs.declared.program.Program.{Program}
use Rattle.printed_syntax.specs.PrintedParts.{text_in, texts_in, comma_before}

-- the greatest length of a value's text that is printed
abbrev pub text_limit : ℕ
text_limit = 2 ^ 32

-- the length of the text of a shallow value of a program
abbrev pub printed_size : Program → Ty → Value → ℕ
printed_size p t v = length (text_in p t v)

-- A length as it is counted: 2^64 - 1 stands for all that are longer.
abbrev pub counted : ℕ → ℕ
counted n = min n (2 ^ 64 - 1)

-- The length of the text of a pair whose parts have these lengths, and of an array of n elements of one length: marks stand around them,
-- and a comma and a blank between two.
abbrev pub pair_size : ℕ → ℕ → ℕ
pair_size first second = counted (first + second + 4)

abbrev pub array_size : ℕ → ℕ → ℕ
array_size n item = counted (n * item + 2 * (n - 1) + 2)

-- that of values in a row with one more behind them, which has this number
abbrev pub next_size : (row index value : ℕ) → ℕ
next_size row index value = counted (row + length (comma_before index) + value)

-- of two that are both there
abbrev pub both : Option ℕ → Option ℕ → (ℕ → ℕ → ℕ) → Option ℕ
both (Some x) (Some y) f = Some (f x y)
both x y f = None

-- The length of the text of a type's value, where values of the type are spelled by nothing: so it is with unit, and with pairs and arrays
-- of such types. None for other types.
abbrev pub bare_size : Ty → Option ℕ
bare_size UnitTy = Some 2
bare_size (PairTy a b) = both (bare_size a) (bare_size b) pair_size
bare_size (VecTy n t) = option_map (array_size n) (bare_size t)
bare_size t = None

-- these lengths by the numbers of the types
abbrev pub bare_sizes : Program → List (Option ℕ)
bare_sizes p = map bare_size (types_of p)

-- where bytes begin with these spelled ones, this is the length of their text as it is counted, and the bytes behind them are left
abbrev pub IsMeasured : (spelled printed bytes : List ℕ) (size : ℕ) (left : List ℕ) → Type 0
IsMeasured spelled printed bytes size left = (behind : List ℕ) → bytes ≡ spelled ++ behind → (size ≡ counted (length printed)) × (left ≡ behind)

-- So it is with each shallow value of a type,
abbrev pub IsCounted : Program → Ty → (bytes : List ℕ) (size : ℕ) (left : List ℕ) → Type 0
IsCounted p t bytes size left = (v : Value) → IsShallow (meaning p).types t v → length bytes < 2 ^ 32 → IsMeasured (spelling v) (text_in p t v) bytes size left

-- and with shallow values of these types in a row.
abbrev pub AreCounted : Program → List Ty → (bytes : List ℕ) (size : ℕ) (left : List ℕ) → Type 0
AreCounted p ts bytes size left = (vs : Values) → AreShallow (meaning p).types ts vs → length bytes < 2 ^ 32 → IsMeasured (spellings vs) (texts_in p ts vs) bytes size left
