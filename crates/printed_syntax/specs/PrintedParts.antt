-- What is printed of bytes that begin with a spelling, and which bytes are left.
use Rattle.std.specs.Prelude.{◌≡◌, ◌<◌, ◌^◌, ℕ, zero, suc, List, [], ◌++◌, codes, length}
use Rattle.core_terms.specs.Types.{Ty}
use Rattle.core_terms.specs.Values.{Value, Values, IsShallow, AreShallow}
use Rattle.core_terms.specs.Spelling.{spelling, spellings}
use Rattle.core_terms.specs.Programs.{meaning, constructor_names}
use Rattle.core_terms.specs.declared.program.Program.{Program}
use Rattle.printed_syntax.specs.PrintedValues.{printed, printed_fields}

-- the text of a shallow value of a program
abbrev pub text_in : Program → Ty → Value → List ℕ
text_in p = printed (meaning p).types (constructor_names p.types.named.items)

-- the texts of shallow values in a row, with commas between them
abbrev pub texts_in : Program → List Ty → Values → List ℕ
texts_in p = printed_fields (meaning p).types (constructor_names p.types.named.items)

-- where bytes begin with these spelled ones, their text stands behind the text before, and the bytes behind them are left
abbrev pub IsTaken : (spelled printed bytes before text left : List ℕ) → Type 0
IsTaken spelled printed bytes before text left = (behind : List ℕ) → bytes ≡ spelled ++ behind → (text ≡ before ++ printed) × (left ≡ behind)

-- So it is with each shallow value of a type. (Of a text of 2^32 bytes or more the spelling doesn't tell the length.)
abbrev pub IsPrinted : Program → Ty → (bytes before text left : List ℕ) → Type 0
IsPrinted p t bytes before text left =
    (v : Value) → IsShallow (meaning p).types t v → length bytes < 2 ^ 32 → IsTaken (spelling v) (text_in p t v) bytes before text left

-- and with shallow values of these types in a row
abbrev pub ArePrinted : Program → List Ty → (bytes before text left : List ℕ) → Type 0
ArePrinted p ts bytes before text left =
    (vs : Values) → AreShallow (meaning p).types ts vs → length bytes < 2 ^ 32 → IsTaken (spellings vs) (texts_in p ts vs) bytes before text left

-- what stands before a value with a number in a row
abbrev pub comma_before : ℕ → List ℕ
comma_before zero = []
comma_before (suc index) = codes ", "
