-- Printed values are read back.
use Rattle.std.proofs.Common.{◌≡◌, ℕ, zero, suc, ◌+◌, ◌≤◌, Bool, true, false, List, [], ◌∷◌, ◌++◌, Option, Some, None, slice_get, unwrap_or, option_map, if◌then◌else◌, codes, refl, sym, ap, subst, ◌∙◌, append_assoc, append-nil, arith, le-leb}
use Rattle.std.proofs.lemmas.Slice.Eq.{bytes_eq-Decides}
use Rattle.std.specs.Prelude.{bytes_eq}
use Rattle.std.specs.Fmt.{signed_decimal}
use Rattle.core_terms.specs.Types.{Ty, UnitTy, BoolTy, IntTy, TextTy, PairTy, NamedTy, AuthTy, VecTy, Table, fields_at, item_types, OnFields}
use Rattle.core_terms.specs.Formats.{depth_limit}
use Rattle.core_terms.specs.Formats as meant
use Rattle.core_terms.specs.ProgramFormats.{arrays_of}
use Rattle.core_terms.specs.declared.format.Format.{Format}
use Rattle.core_terms.specs.declared.format.Format.TheVariants.{First, Second}
use Rattle.core_terms.specs.Values.{Value, UnitV, BoolV, IntV, TextV, PairV, ConV, DigestV, ItemsV, Values, NoV, AndV, IsShallow, AreShallow, size, sizes, depth, depths}
use Rattle.lexemes.specs.declared.place.Place.{Place}
use Rattle.lexemes.specs.declared.token.Keyword.TheVariants.{True as TrueWord, False as FalseWord}
use Rattle.lexemes.specs.declared.token.Mark.{Mark}
use Rattle.lexemes.specs.declared.token.Mark.TheVariants.{LeftParenthesis, RightParenthesis, Comma, LeftBracket, RightBracket}
use Rattle.lexemes.specs.Places.{start, behind, behind_byte}
use Rattle.lexemes.proofs.Signs.{is_mark-same}
use Rattle.lexemes.specs.Tokens.{KeywordToken, MarkToken, UpperToken, IntToken, TextToken, Tokens, Next, tokens_from}
use Rattle.printed_syntax.specs.Literals.{ConstructorNames, LiteralReading, Means, FaultAt, then_means, behind_mark, bool_literal, int_literal, text_literal, pair_literal, values_up_to, fields_literal, array_literal, number_of_name, constructor_with, constructor_named, constructor_literal, literal_of, whole_literal, value_within, written_in, IsValue, FirstFault}
use Rattle.printed_syntax.specs.declared.fault.LiteralKind.TheVariants.{Mismatch, TooBig}
use Rattle.printed_syntax.specs.PrintedPrograms.{mark_text}
use Rattle.printed_syntax.specs.PrintedProgramLaws.{has_mark}
use Rattle.printed_syntax.specs.PrintedValues.{printed, printed_fields, quoted_text}
use Rattle.printed_syntax.specs.PrintedValueLaws.{HasLiteral, HaveLiterals, HasShortTexts, HaveShortTexts, AreNamed, PrintedValuesAreReadBack, FittingTextsAreShort}
use Rattle.printed_syntax.proofs.PrintedTokens.{IsParted, token_read, text_at_head, int_token}
use Rattle.printed_syntax.proofs.PrintedLines.{mark_at_head, mark_is_parted, upper_at_head, token_at_head}

-- a value within the limit is one that is read
is_within : (limit : ℕ) (types : Table) (t : Ty) (v : Value) → size types t v ≤ limit → value_within limit types t v ≡ IsValue v
is_within limit types t v h = ap (λ test. if test then IsValue v else FirstFault TooBig 0) (le-leb (size types t v) limit h)

-- what is read is this, and these bytes stand behind it, with the tokens of a format
abbrev IsReadTo : Format → {A : Type 0} → LiteralReading A → A → List ℕ → Type 0
IsReadTo format reading value rest = (after : Place) × (reading ≡ Means value (tokens_from format after rest))

then_read : (format : Format) {A B : Type 0} (reading : LiteralReading A) (go : A → Tokens → LiteralReading B) (v : A) (w : B) (middle rest : List ℕ)
    → IsReadTo format reading v middle → ((after : Place) → IsReadTo format (go v (tokens_from format after middle)) w rest)
    → IsReadTo format (then_means reading go) w rest
then_read format reading go v w middle rest first next =
    let more = next first.0 in (more.0, ap (λ reading. then_means reading go) first.1 ∙ more.1)

-- the marks
mark_read : (format : Format) (mark : Mark) (at : Place) (rest : List ℕ) → has_mark format mark ≡ true
    → IsReadTo format (behind_mark mark (tokens_from format at (mark_text mark ++ rest))) tt rest
mark_read format mark at rest stands = (
  behind at (mark_text mark),
  ap (behind_mark mark) (token_read format (mark_text mark) (MarkToken mark) rest at (mark_at_head format mark rest stands))
      ∙ ap (λ b. if b then Means tt (tokens_from format (behind at (mark_text mark)) rest) else FaultAt Mismatch at.offset) (is_mark-same mark),
)

comma_read : (format : Format) (at : Place) (rest : List ℕ) → IsReadTo format (behind_mark Comma (tokens_from format at (codes ", " ++ rest))) tt rest
comma_read format at rest =
    (behind_byte (behind at (codes ",")) 32, ap (behind_mark Comma) (token_read format (codes ",") (MarkToken Comma) (codes " " ++ rest) at (mark_at_head format Comma (codes " " ++ rest) refl)))

has_brackets : (format : meant.Format) → format.arrays ≡ true → arrays_of (written_in format) ≡ true
has_brackets format h = ap (λ b. arrays_of (if b then Second else First)) h

-- the place of a name that is that of no other
number_found : (names : List (List ℕ)) (name : List ℕ) (tag : ℕ) → slice_get names tag ≡ Some name → ((other : ℕ) → slice_get names other ≡ Some name → other ≡ tag)
    → number_of_name names name ≡ Some tag
number_found [] name zero is one = absurd (cc)
number_found [] name (suc tag) is one = absurd (cc)
number_found (other ∷ others) name tag is one = by (bytes_eq other name) refl tag is one (number_found others name) where
  by : (test : Bool) → bytes_eq other name ≡ test → (tag : ℕ) → slice_get (other ∷ others) tag ≡ Some name
      → ((k : ℕ) → slice_get (other ∷ others) k ≡ Some name → k ≡ tag)
      → ((tag : ℕ) → slice_get others tag ≡ Some name → ((k : ℕ) → slice_get others k ≡ Some name → k ≡ tag) → number_of_name others name ≡ Some tag)
      → number_of_name (other ∷ others) name ≡ Some tag
  by true e tag is one found =
      let same : other ≡ name = (bytes_eq-Decides other name).0 e in
      ap (λ test. if test then Some zero else option_map suc (number_of_name others name)) e ∙ ap Some (one zero (ap Some same))
  by false e zero is one found =
      let same : other ≡ name = cc in
      let equal : bytes_eq other name ≡ true = (bytes_eq-Decides other name).1 same in
      absurd (cc)
  by false e (suc tag) is one found =
      ap (λ test. if test then Some zero else option_map suc (number_of_name others name)) e
      ∙ ap (option_map suc) (found tag is (λ k h. let next : suc k ≡ suc tag = one (suc k) h in cc))

-- texts in a row, before others
five : (a b c d e rest : List ℕ) → (a ++ b ++ c ++ d ++ e) ++ rest ≡ a ++ (b ++ (c ++ (d ++ (e ++ rest))))
five a b c d e rest = simp append_assoc

four : (a b c d rest : List ℕ) → (a ++ b ++ c ++ d) ++ rest ≡ a ++ (b ++ (c ++ (d ++ rest)))
four a b c d rest = simp append_assoc

three : (a b c rest : List ℕ) → (a ++ b ++ c) ++ rest ≡ a ++ (b ++ (c ++ rest))
three a b c rest = simp append_assoc

-- a pair, whose values are read
module _ (format : Format) (one two : Tokens → LiteralReading Value) (x y : Value) (first second : List ℕ) (at : Place) (rest : List ℕ) where
  abbrev to_end : List ℕ
  to_end = codes ")" ++ rest

  abbrev to_second : List ℕ
  to_second = codes ", " ++ (second ++ to_end)

  abbrev behind_second : Value → Value → Tokens → LiteralReading Value
  behind_second x y tokens = then_means (behind_mark RightParenthesis tokens) (λ _ tokens. Means (PairV x y) tokens)

  pair_read : ((at : Place) → IsReadTo format (one (tokens_from format at (first ++ to_second))) x to_second)
      → ((at : Place) → IsReadTo format (two (tokens_from format at (second ++ to_end))) y to_end)
      → IsReadTo format (pair_literal one two (tokens_from format at ((codes "(" ++ first ++ codes ", " ++ second ++ codes ")") ++ rest))) (PairV x y) rest
  pair_read is_first is_second =
      subst (λ bytes. IsReadTo format (pair_literal one two (tokens_from format at bytes)) (PairV x y) rest) (sym (five (codes "(") first (codes ", ") second (codes ")") rest))
      (then_read format _ (λ _ tokens. then_means (one tokens) (λ x tokens. then_means (behind_mark Comma tokens) (λ _ tokens. then_means (two tokens) (behind_second x)))) tt (PairV x y)
      (first ++ to_second) rest (mark_read format LeftParenthesis at (first ++ to_second) refl)
      (λ at. then_read format _ (λ x tokens. then_means (behind_mark Comma tokens) (λ _ tokens. then_means (two tokens) (behind_second x))) x (PairV x y) to_second rest (is_first at)
      (λ at. then_read format _ (λ _ tokens. then_means (two tokens) (behind_second x)) tt (PairV x y) (second ++ to_end) rest (comma_read format at (second ++ to_end))
      (λ at. then_read format _ (behind_second x) y (PairV x y) to_end rest (is_second at)
      (λ at. then_read format _ (λ _ tokens. Means (PairV x y) tokens) tt (PairV x y) rest rest (mark_read format RightParenthesis at rest refl) (λ at. (at, refl)))))))

-- an array, whose elements are read
array_read : (format : Format) (one : Ty → Tokens → LiteralReading Value) (n : ℕ) (t : Ty) (vs : Values) (elements : List ℕ) (at : Place) (rest : List ℕ)
    → arrays_of format ≡ true
    → ((at : Place) → IsReadTo format (values_up_to RightBracket one (item_types n t) (tokens_from format at (elements ++ (codes "]" ++ rest)))) vs rest)
    → IsReadTo format (array_literal one n t (tokens_from format at ((codes "[" ++ elements ++ codes "]") ++ rest))) (ItemsV vs) rest
array_read format one n t vs elements at rest has row =
    subst (λ bytes. IsReadTo format (array_literal one n t (tokens_from format at bytes)) (ItemsV vs) rest) (sym (three (codes "[") elements (codes "]") rest))
    (then_read format _ (λ _ tokens. then_means (values_up_to RightBracket one (item_types n t) tokens) (λ vs tokens. Means (ItemsV vs) tokens)) tt (ItemsV vs)
    (elements ++ (codes "]" ++ rest)) rest (mark_read format LeftBracket at (elements ++ (codes "]" ++ rest)) has)
    (λ at. then_read format _ (λ vs tokens. Means (ItemsV vs) tokens) vs (ItemsV vs) rest rest (row at) (λ at. (at, refl))))

module _ (limits : meant.Format) (types : Table) (names : ConstructorNames) (named : AreNamed types names) where
  -- the format by whose tokens the text is read
  abbrev format : Format
  format = written_in limits

  -- no value has the depth 0
  positive : (t : Ty) (v : Value) → 1 ≤ depth types t v
  positive (PairTy a b) (PairV x y) = omega arith
  positive (NamedTy number) (ConV tag vs) = omega arith
  positive (VecTy n t) (ItemsV vs) = omega arith
  positive t v = omega arith

  -- a constructor, whose fields are read
  module _ (levels number tag : ℕ) where
    -- behind its name
    name_read : (ts : List Ty) (name : List ℕ) (at : Place) (behind : Tokens) (tokens : Tokens) → fields_at types number tag ≡ Some ts
        → slice_get (names number) tag ≡ Some name → ((other : ℕ) → slice_get (names number) other ≡ Some name → other ≡ tag)
        → tokens ≡ Next at (UpperToken name) behind
        → constructor_literal types names (literal_of types names levels) number tokens
        ≡ then_means (fields_literal (literal_of types names levels) ts behind) (λ vs tokens. Means (ConV tag vs) tokens)
    name_read ts name at behind tokens e is alone h =
        ap (constructor_literal types names (literal_of types names levels) number) h
        ∙ ap (λ found. constructor_named types names (literal_of types names levels) at.offset number found behind) (number_found (names number) name tag is alone)
        ∙ ap (λ found. constructor_with (literal_of types names levels) at.offset tag found behind) e

    con_read : (o : Option (List Ty)) (vs : Values) (at : Place) (rest : List ℕ) → fields_at types number tag ≡ o → OnFields o (λ ts. AreShallow types ts vs) → IsParted rest
        → ((ts : List Ty) (at : Place) → fields_at types number tag ≡ Some ts → AreShallow types ts vs
        → IsReadTo format (values_up_to RightParenthesis (literal_of types names levels) ts (tokens_from format at (printed_fields types names ts vs ++ (codes ")" ++ rest)))) vs rest)
        → IsReadTo format (constructor_literal types names (literal_of types names levels) number (tokens_from format at (printed types names (NamedTy number) (ConV tag vs) ++ rest)))
        (ConV tag vs) rest
    con_read None vs at rest e shape parted row = absurd shape
    con_read (Some []) NoV at rest e shape parted row =
        let n = named number tag [] e in
        let token = token_read format n.0 (UpperToken n.0) rest at (upper_at_head format n.0 rest n.2 parted) in
        let same : tokens_from format at (printed types names (NamedTy number) (ConV tag NoV) ++ rest) ≡ Next at (UpperToken n.0) (tokens_from format (behind at n.0) rest) =
        ap (λ o. tokens_from format at (unwrap_or o [] ++ rest)) n.1 ∙ token in
        (behind at n.0, name_read [] n.0 at _ _ e n.1 n.3 same)
    con_read (Some (t ∷ ts)) (AndV v vs) at rest e shape parted row =
        let n = named number tag (t ∷ ts) e in
        let fields = printed_fields types names (t ∷ ts) (AndV v vs) in
        let others = codes "(" ++ (fields ++ (codes ")" ++ rest)) in
        let token = token_read format n.0 (UpperToken n.0) others at (upper_at_head format n.0 others n.2 refl) in
        let same : tokens_from format at (printed types names (NamedTy number) (ConV tag (AndV v vs)) ++ rest) ≡ Next at (UpperToken n.0) (tokens_from format (behind at n.0) others) =
        ap (λ o. tokens_from format at ((unwrap_or o [] ++ codes "(" ++ printed_fields types names (unwrap_or (fields_at types number tag) []) (AndV v vs) ++ codes ")") ++ rest)) n.1
        ∙ ap (λ o. tokens_from format at ((n.0 ++ codes "(" ++ printed_fields types names (unwrap_or o []) (AndV v vs) ++ codes ")") ++ rest)) e
        ∙ ap (tokens_from format at) (four n.0 (codes "(") fields (codes ")") rest) ∙ token in
        let read = then_read format _ (λ vs tokens. Means (ConV tag vs) tokens) (AndV v vs) (ConV tag (AndV v vs)) rest rest
        (then_read format _ (λ _ tokens. values_up_to RightParenthesis (literal_of types names levels) (t ∷ ts) tokens) tt (AndV v vs) (fields ++ (codes ")" ++ rest)) rest
        (mark_read format LeftParenthesis (behind at n.0) (fields ++ (codes ")" ++ rest)) refl)
        (λ after. row (t ∷ ts) after e shape)) (λ after. (after, refl)) in
        (read.0, name_read (t ∷ ts) n.0 at _ _ e n.1 n.3 same ∙ read.1)
    con_read (Some []) (AndV v vs) at rest e shape parted row = elim shape [ ]
    con_read (Some (t ∷ ts)) NoV at rest e shape parted row = elim shape [ ]

  mutual
    -- the text of a value, and of values in a row up to the mark that ends them, before other bytes
    read_printed : (levels : ℕ) (t : Ty) (v : Value) (at : Place) (rest : List ℕ) → IsShallow types t v → HasLiteral limits v → HasShortTexts v → depth types t v ≤ levels
        → IsParted rest → IsReadTo format (literal_of types names levels t (tokens_from format at (printed types names t v ++ rest))) v rest
    read_printed zero t v at rest shape plain short deep parted = absurd (omega (arith, deep, positive t v))
    read_printed (suc levels) UnitTy UnitV at rest shape plain short deep parted =
        then_read format _ (λ _ tokens. then_means (behind_mark RightParenthesis tokens) (λ _ tokens. Means UnitV tokens)) tt UnitV (codes ")" ++ rest) rest
        (mark_read format LeftParenthesis at (codes ")" ++ rest) refl)
        (λ after. then_read format _ (λ _ tokens. Means UnitV tokens) tt UnitV rest rest (mark_read format RightParenthesis after rest refl) (λ after. (after, refl)))
    read_printed (suc levels) BoolTy (BoolV true) at rest shape plain short deep parted =
        (behind at (codes "true"), ap bool_literal (token_read format (codes "true") (KeywordToken TrueWord) rest at (token_at_head format (KeywordToken TrueWord) rest refl (λ _. parted))))
    read_printed (suc levels) BoolTy (BoolV false) at rest shape plain short deep parted =
        (behind at (codes "false"), ap bool_literal (token_read format (codes "false") (KeywordToken FalseWord) rest at (token_at_head format (KeywordToken FalseWord) rest refl (λ _. parted))))
    read_printed (suc levels) IntTy (IntV z) at rest shape plain short deep parted =
        (behind at (signed_decimal z), ap int_literal (token_read format (signed_decimal z) (IntToken z) rest at (int_token format z rest shape parted)))
    read_printed (suc levels) TextTy (TextV bytes) at rest shape plain short deep parted =
        (behind at (quoted_text bytes), ap text_literal (token_read format (quoted_text bytes) (TextToken bytes) rest at (text_at_head format bytes rest shape short)))
    read_printed (suc levels) (PairTy a b) (PairV x y) at rest shape plain short deep parted =
        pair_read format (literal_of types names levels a) (literal_of types names levels b) x y (printed types names a x) (printed types names b y) at rest
        (λ at. read_printed levels a x at _ shape.0 plain.0 short.0 (omega (arith, deep)) refl)
        (λ at. read_printed levels b y at _ shape.1 plain.1 short.1 (omega (arith, deep)) refl)
    read_printed (suc levels) (NamedTy number) (ConV tag vs) at rest shape plain short deep parted =
        con_read levels number tag (fields_at types number tag) vs at rest refl shape parted
        (λ ts at e shape. read_row levels RightParenthesis refl ts vs at rest shape plain short
        (let h : 1 + depths types (unwrap_or (Some ts) []) vs ≤ suc levels = subst (λ o. 1 + depths types (unwrap_or o []) vs ≤ suc levels) e deep in omega (arith, h)))
    read_printed (suc levels) (AuthTy t) (DigestV digest) at rest shape plain short deep parted = absurd plain
    read_printed (suc levels) (VecTy n t) (ItemsV vs) at rest shape plain short deep parted =
        let has = has_brackets limits plain.0 in
        array_read format (literal_of types names levels) n t vs (printed_fields types names (item_types n t) vs) at rest has
        (λ at. read_row levels RightBracket has (item_types n t) vs at rest shape plain.1 short (omega (arith, deep)))
    read_printed (suc levels) t v at rest shape plain short deep parted = elim shape [ ]

    read_row : (levels : ℕ) (ending : Mark) → has_mark format ending ≡ true → (ts : List Ty) (vs : Values) (at : Place) (rest : List ℕ) → AreShallow types ts vs
        → HaveLiterals limits vs → HaveShortTexts vs → depths types ts vs ≤ levels
        → IsReadTo format (values_up_to ending (literal_of types names levels) ts (tokens_from format at (printed_fields types names ts vs ++ (mark_text ending ++ rest)))) vs rest
    read_row levels ending has [] NoV at rest shape plain short deep =
        then_read format _ (λ _ tokens. Means NoV tokens) tt NoV rest rest (mark_read format ending at rest has) (λ after. (after, refl))
    read_row levels ending has (t ∷ []) (AndV v NoV) at rest shape plain short deep =
        then_read format _ _ v (AndV v NoV) (mark_text ending ++ rest) rest
        (read_printed levels t v at (mark_text ending ++ rest) shape.0 plain.0 short.0 (omega (arith, deep)) (mark_is_parted ending rest))
        (λ after. then_read format _ (λ vs tokens. Means (AndV v vs) tokens) NoV (AndV v NoV) rest rest
        (then_read format _ (λ _ tokens. Means NoV tokens) tt NoV rest rest (mark_read format ending after rest has) (λ after. (after, refl))) (λ after. (after, refl)))
    read_row levels ending has (t ∷ next ∷ ts) (AndV v vs) at rest shape plain short deep =
        let others = printed_fields types names (next ∷ ts) vs ++ (mark_text ending ++ rest) in
        subst (λ bytes. IsReadTo format (values_up_to ending (literal_of types names levels) (t ∷ next ∷ ts) (tokens_from format at bytes)) (AndV v vs) rest)
        (sym (three (printed types names t v) (codes ", ") (printed_fields types names (next ∷ ts) vs) (mark_text ending ++ rest)))
        (then_read format _ _ v (AndV v vs) (codes ", " ++ others) rest (read_printed levels t v at (codes ", " ++ others) shape.0 plain.0 short.0 (omega (arith, deep)) refl)
        (λ after. then_read format _ (λ vs tokens. Means (AndV v vs) tokens) vs (AndV v vs) rest rest
        (then_read format _ (λ _ tokens. values_up_to ending (literal_of types names levels) (next ∷ ts) tokens) tt vs others rest (comma_read format after others)
        (λ after. read_row levels ending has (next ∷ ts) vs after rest shape.1 plain.1 short.1 (omega (arith, deep)))) (λ after. (after, refl))))
    read_row levels ending has (t ∷ []) (AndV v (AndV w ws)) at rest shape plain short deep = elim shape.1 [ ]
    read_row levels ending has (t ∷ ts) NoV at rest shape plain short deep = elim shape [ ]
    read_row levels ending has [] (AndV v vs) at rest shape plain short deep = elim shape [ ]

pub printed_values_are_read_back : PrintedValuesAreReadBack
printed_values_are_read_back P names named t v shape plain short fits =
    let text = printed P.types names t v in
    let read = read_printed P.format P.types names named depth_limit t v start [] shape plain short fits.depth_fits tt in
    ap (λ bytes. whole_literal P.format.limit P.types t (literal_of P.types names depth_limit t (tokens_from (written_in P.format) start bytes))) (sym (append-nil text))
    ∙ ap (whole_literal P.format.limit P.types t) read.1
    ∙ is_within P.format.limit P.types t v fits.size_fits

-- texts within a limit
module _ (types : Table) where
  of_fields : (o : Option (List Ty)) (vs : Values) → OnFields o (λ ts. AreShallow types ts vs) → 1 + sizes types (unwrap_or o []) vs ≤ 65536
      → ((ts : List Ty) → AreShallow types ts vs → sizes types ts vs ≤ 65536 → HaveShortTexts vs) → HaveShortTexts vs
  of_fields None vs shape small row = absurd shape
  of_fields (Some ts) vs shape small row = row ts shape (omega (arith, small))

  mutual
    short_texts : (t : Ty) (v : Value) → IsShallow types t v → size types t v ≤ 65536 → HasShortTexts v
    short_texts UnitTy UnitV shape small = tt
    short_texts BoolTy (BoolV b) shape small = tt
    short_texts IntTy (IntV z) shape small = tt
    short_texts TextTy (TextV bytes) shape small = omega (arith, small)
    short_texts (PairTy a b) (PairV x y) shape small = (short_texts a x shape.0 (omega (arith, small)), short_texts b y shape.1 (omega (arith, small)))
    short_texts (NamedTy number) (ConV tag vs) shape small = of_fields (fields_at types number tag) vs shape small (λ ts shape small. short_row ts vs shape small)
    short_texts (AuthTy t) (DigestV digest) shape small = tt
    short_texts (VecTy n t) (ItemsV vs) shape small = short_row (item_types n t) vs shape small
    short_texts t v shape small = elim shape [ ]

    short_row : (ts : List Ty) (vs : Values) → AreShallow types ts vs → sizes types ts vs ≤ 65536 → HaveShortTexts vs
    short_row [] NoV shape small = tt
    short_row (t ∷ ts) (AndV v vs) shape small = (short_texts t v shape.0 (omega (arith, small)), short_row ts vs shape.1 (omega (arith, small)))
    short_row (t ∷ ts) NoV shape small = elim shape [ ]
    short_row [] (AndV v vs) shape small = elim shape [ ]

pub fitting_texts_are_short : FittingTextsAreShort
fitting_texts_are_short P limit t v shape fits = short_texts P.types t v shape (omega (arith, fits.size_fits, limit))
