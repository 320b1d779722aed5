-- Values as they are printed: as literals, an authenticated value as `#` and its digest, an array in brackets.
use Rattle.std.specs.Prelude.{ℕ, Bool, true, false, ◌==◌, List, [], ◌∷◌, ◌++◌, codes, slice_get, unwrap_or, if◌then◌else◌}
use Rattle.std.specs.Fmt.{signed_decimal}
use Rattle.hex.specs.Hex.{encode_lower}
use Rattle.core_terms.specs.Types.{Ty, UnitTy, BoolTy, IntTy, TextTy, PairTy, NamedTy, AuthTy, VecTy, Table, fields_at, item_types}
use Rattle.core_terms.specs.Values.{Value, UnitV, BoolV, IntV, TextV, PairV, ConV, DigestV, ItemsV, Values, NoV, AndV}
use Rattle.lexemes.specs.Tokens.{is_control}
use Rattle.printed_syntax.specs.Literals.{ConstructorNames}

-- a byte of a text between quotes: escaped where it is a quote, a backslash or a control, else as it is
abbrev pub escaped : ℕ → List ℕ
escaped b =
    if b == 34 then codes "\\\"" else
    if b == 92 then codes "\\\\" else
    if b == 10 then codes "\\n" else
    if b == 9 then codes "\\t" else
    if is_control b then codes "\\x" ++ encode_lower (b ∷ []) else
    b ∷ []

abbrev pub all_escaped : List ℕ → List ℕ
all_escaped [] = []
all_escaped (b ∷ bytes) = escaped b ++ all_escaped bytes

-- a text in its quotes
abbrev pub quoted_text : List ℕ → List ℕ
quoted_text bytes = codes "\"" ++ all_escaped bytes ++ codes "\""

abbrev pub bool_text : Bool → List ℕ
bool_text true = codes "true"
bool_text false = codes "false"

-- a constructor's name, and the text of its fields in parentheses, where it has any
abbrev pub with_fields : List ℕ → Values → List ℕ → List ℕ
with_fields name NoV text = name
with_fields name (AndV v vs) text = name ++ codes "(" ++ text ++ codes ")"

module _ (types : Table) (names : ConstructorNames) where
  abbrev mutual
    -- the text of a shallow value of a type. (It is empty, and of no meaning, where the value is of another type.)
    pub printed : Ty → Value → List ℕ
    printed UnitTy UnitV = codes "()"
    printed BoolTy (BoolV b) = bool_text b
    printed IntTy (IntV z) = signed_decimal z
    printed TextTy (TextV bytes) = quoted_text bytes
    printed (PairTy a b) (PairV x y) = codes "(" ++ printed a x ++ codes ", " ++ printed b y ++ codes ")"
    printed (NamedTy number) (ConV tag vs) =
        with_fields (unwrap_or (slice_get (names number) tag) []) vs (printed_fields (unwrap_or (fields_at types number tag) []) vs)
    printed (AuthTy t) (DigestV digest) = codes "#" ++ encode_lower digest
    printed (VecTy n t) (ItemsV vs) = codes "[" ++ printed_fields (item_types n t) vs ++ codes "]"
    printed t v = []

    -- values in a row, with commas between them
    pub printed_fields : List Ty → Values → List ℕ
    printed_fields (t ∷ []) (AndV v vs) = printed t v
    printed_fields (t ∷ next ∷ ts) (AndV v vs) = printed t v ++ codes ", " ++ printed_fields (next ∷ ts) vs
    printed_fields ts vs = []
