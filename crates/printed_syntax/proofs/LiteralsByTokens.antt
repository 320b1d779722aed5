-- What is read as a literal of a type, by the rules on the tokens: a value exactly where its literal stands there, a fault exactly where it is broken.
use Rattle.std.proofs.Common.{◌≡◌, ℕ, zero, suc, ◌<◌, Bool, true, false, List, [], ◌∷◌, Option, Some, None, option_map, slice_get, bytes_eq, inl, inr, refl, sym, ap, ◌∙◌, subst, if◌then◌else◌, arith}
use Rattle.std.specs.Prelude.{nat_le}
use Rattle.std.specs.Bool.{Decides}
use Rattle.std.proofs.lemmas.Slice.Eq.{bytes_eq-Decides}
use Rattle.std.proofs.lemmas.Bool.{leb-true, leb-false, le-leb, lt-leb}
use Rattle.core_terms.specs.Types.{Ty, UnitTy, BoolTy, IntTy, TextTy, PairTy, NamedTy, AuthTy, VecTy, Table, fields_at}
use Rattle.core_terms.specs.Formats.{depth_limit}
use Rattle.core_terms.specs.Values.{Value, UnitV, BoolV, IntV, TextV, PairV, ConV, DigestV, ItemsV, Values, NoV, AndV, size}
use Rattle.lexemes.specs.Tokens.{KeywordToken, UpperToken, IntToken, TextToken, Tokens, Next, End, Faulty, tokens}
use Rattle.lexemes.specs.declared.place.Place.{Place}
use Rattle.lexemes.specs.declared.token.Keyword.{Keyword}
use Rattle.lexemes.specs.declared.token.Keyword.TheVariants.{True as TrueWord, False as FalseWord}
use Rattle.printed_syntax.specs.Literals.{ConstructorNames, LiteralReading, Means, FaultAt, then_means, mismatch, too_deep, unit_literal, bool_literal, int_literal, text_literal, pair_literal, array_literal, number_of_name, constructor_with, constructor_named, constructor_literal, literal_of, Literal, IsValue, FirstFault, at_end, value_within, whole_literal, written_in}
use Rattle.printed_syntax.specs.LiteralLaws.{LiteralsAreByTheirTokens}
use Rattle.printed_syntax.specs.LiteralRules.{IsUnfit, IsTooDeep, unit_parts, pair_parts, field_parts, array_parts, ArePartsAt, OnePartBreaks, IsFirstName, IsConstructorAt, IsLiteral, BreaksLiteral, IsWholeLiteral, BreaksWholeLiteral}
use Rattle.printed_syntax.specs.declared.fault.LiteralKind.{LiteralKind}
use Rattle.printed_syntax.specs.declared.fault.LiteralKind.TheVariants.{Mismatch, TooBig}
use Rattle.printed_syntax.proofs.RuledReadings.{Judges, Ruled, judges_then, judges_more, then_value, then_fault, IsNone, head_ruled, row, fields, elements, Makes, row_ruled}

-- the first of some names that is this one
names_first : (names : List (List ℕ)) (name : List ℕ) (place : ℕ) → IsFirstName names name place → number_of_name names name ≡ Some place
names_first [] name place h = let none : None ≡ Some name = h.there in absurd (cc)
names_first (other ∷ others) name zero h =
    let here : Some other ≡ Some name = h.there in
    let same : other ≡ name = cc in
    ap (λ b. if b then Some zero else option_map suc (number_of_name others name)) ((bytes_eq-Decides other name).1 same)
names_first (other ∷ others) name (suc place) h =
    by (bytes_eq other name) (bytes_eq-Decides other name)
    (names_first others name place (record { there = h.there; new = λ earlier below is. h.new (suc earlier) (omega (arith, below)) is }))
  where
    by : (b : Bool) → Decides b (other ≡ name) → number_of_name others name ≡ Some place
        → (if b then Some zero else option_map suc (number_of_name others name)) ≡ Some (suc place)
    by true d rest = absurd (h.new zero (omega arith) (ap Some (d.0 refl)))
    by false d rest = ap (option_map suc) rest

first_named : (names : List (List ℕ)) (name : List ℕ) (place : ℕ) → number_of_name names name ≡ Some place → IsFirstName names name place
first_named [] name place is = absurd (cc)
first_named (other ∷ others) name place is =
    by (bytes_eq other name) (bytes_eq-Decides other name) (number_of_name others name) refl (λ later e. first_named others name later e) is
  where
    by : (b : Bool) → Decides b (other ≡ name) → (found : Option ℕ) → number_of_name others name ≡ found
        → ((later : ℕ) → number_of_name others name ≡ Some later → IsFirstName others name later) → (if b then Some zero else option_map suc found) ≡ Some place
        → IsFirstName (other ∷ others) name place
    by true d found e first is =
        let head : zero ≡ place = cc in
        subst (IsFirstName (other ∷ others) name) head (record { there = ap Some (d.0 refl); new = λ earlier below here. absurd (omega (arith, below)) })
    by false d None e first is = absurd (cc)
    by false d (Some later) e first is =
        let at : suc later ≡ place = cc in
        let rest = first later e in
        subst (IsFirstName (other ∷ others) name) at (record { there = rest.there; new = λ earlier below here. none_before rest earlier below here })
      where
        none_before : IsFirstName others name later → (earlier : ℕ) → earlier < suc later → slice_get (other ∷ others) earlier ≡ Some name → ⊥
        none_before rest zero below here =
            let same : other ≡ name = cc in
            let e : false ≡ true = d.1 same in
            absurd (cc)
        none_before rest (suc earlier) below here = rest.new earlier (omega (arith, below)) here

module _ (types : Table) (names : ConstructorNames) where
  -- a constructor by its name
  record Head : Type 0 where
    tag : ℕ
    of : List Ty

  abbrev head_with : ℕ → ℕ → Option (List Ty) → Tokens → LiteralReading Head
  head_with offset tag None rest = FaultAt Mismatch offset
  head_with offset tag (Some ts) rest = Means (record { tag = tag; of = ts }) rest

  abbrev head_named : ℕ → ℕ → Option ℕ → Tokens → LiteralReading Head
  head_named offset number None rest = FaultAt Mismatch offset
  head_named offset number (Some tag) rest = head_with offset tag (fields_at types number tag) rest

  abbrev head : ℕ → Tokens → LiteralReading Head
  head number (Next at (UpperToken name) rest) = head_named at.offset number (number_of_name (names number) name) rest
  head number tokens = mismatch tokens

  abbrev IsHead : ℕ → Tokens → Head → Tokens → Type 0
  IsHead number before h behind = IsConstructorAt types names number h.tag h.of before behind

  head_judged : (number : ℕ) (before : Tokens) → Judges (IsHead number before) (IsUnfit before) (head number before)
  head_judged number (Next at (UpperToken name) rest) = by (number_of_name (names number) name) refl
    where
      of_tag : (tag : ℕ) → number_of_name (names number) name ≡ Some tag → (found : Option (List Ty)) → fields_at types number tag ≡ found
          → Judges (IsHead number (Next at (UpperToken name) rest)) (IsUnfit (Next at (UpperToken name) rest)) (head_with at.offset tag found rest)
      of_tag tag is None e = (refl, refl)
      of_tag tag is (Some ts) e = (name, (at, refl), first_named (names number) name tag is, e)

      by : (found : Option ℕ) → number_of_name (names number) name ≡ found
          → Judges (IsHead number (Next at (UpperToken name) rest)) (IsUnfit (Next at (UpperToken name) rest)) (head_named at.offset number found rest)
      by None e = (refl, refl)
      by (Some tag) e = of_tag tag e (fields_at types number tag) refl
  head_judged number (Next at token rest) = (refl, refl)
  head_judged number (End at) = (refl, refl)
  head_judged number (Faulty at kind) = (refl, refl)

  head_passes : (number : ℕ) (before : Tokens) (h : Head) (behind : Tokens) → IsHead number before h behind → head number before ≡ Means h behind
  head_passes number before h behind (name, (at, is), first, of) =
      ap (head number) is
      ∙ ap (λ found. head_named at.offset number found behind) (names_first (names number) name h.tag first)
      ∙ ap (λ found. head_with at.offset h.tag found behind) of

  constructor_is : (one : Ty → Tokens → LiteralReading Value) (number : ℕ) (before : Tokens)
      → constructor_literal types names one number before
      ≡ then_means (head number before) (λ h tokens. row one (field_parts h.of) (λ vs tokens. Means (ConV h.tag vs) tokens) tokens)
  constructor_is one number (Next at (UpperToken name) rest) = by (number_of_name (names number) name)
    where
      of_tag : (tag : ℕ) (found : Option (List Ty)) → constructor_with one at.offset tag found rest
          ≡ then_means (head_with at.offset tag found rest) (λ h tokens. row one (field_parts h.of) (λ vs tokens. Means (ConV h.tag vs) tokens) tokens)
      of_tag tag None = refl
      of_tag tag (Some ts) = fields one ts (λ vs tokens. Means (ConV tag vs) tokens) rest

      by : (found : Option ℕ) → constructor_named types names one at.offset number found rest
          ≡ then_means (head_named at.offset number found rest) (λ h tokens. row one (field_parts h.of) (λ vs tokens. Means (ConV h.tag vs) tokens) tokens)
      by None = refl
      by (Some tag) = of_tag tag (fields_at types number tag)
  constructor_is one number (Next at token rest) = refl
  constructor_is one number (End at) = refl
  constructor_is one number (Faulty at kind) = refl

  -- the literal of a type, on a level with so many levels from there on
  abbrev Literally : ℕ → Ty → Tokens → Value → Tokens → Type 0
  Literally levels t before v after = IsLiteral types names levels t v before after

  abbrev LiteralRuled : ℕ → Ty → Tokens → LiteralReading Value → Type 0
  LiteralRuled levels t before reading = Ruled reading (Literally levels t before) (BreaksLiteral types names levels t before)

  deep_judged : (t : Ty) (before : Tokens) → Judges (Literally zero t before) (IsTooDeep before) (too_deep before)
  deep_judged t (Next at token rest) = (refl, refl)
  deep_judged t (End at) = (refl, refl)
  deep_judged t (Faulty at kind) = (refl, refl)

  deep_tells : (before : Tokens) (kind : LiteralKind) (offset : ℕ) → IsTooDeep before kind offset → too_deep {A = Value} before ≡ FaultAt kind offset
  deep_tells (Next at token rest) kind offset h = cc
  deep_tells (End at) kind offset h = cc
  deep_tells (Faulty at fault) kind offset h = cc

  deep_ruled : (t : Ty) (before : Tokens) → LiteralRuled zero t before (too_deep before)
  deep_ruled t before = record { judged = deep_judged t before; passes = λ v after h. absurd h; tells = deep_tells before }

  -- types whose literals are one token
  bool_passes : (levels : ℕ) (before : Tokens) (v : Value) (after : Tokens) → Literally (suc levels) BoolTy before v after → bool_literal before ≡ Means v after
  bool_passes levels before (BoolV true) after (at, is) = ap bool_literal is
  bool_passes levels before (BoolV false) after (at, is) = ap bool_literal is
  bool_passes levels before UnitV after h = absurd h
  bool_passes levels before (IntV z) after h = absurd h
  bool_passes levels before (TextV bytes) after h = absurd h
  bool_passes levels before (PairV x y) after h = absurd h
  bool_passes levels before (ConV tag vs) after h = absurd h
  bool_passes levels before (DigestV bytes) after h = absurd h
  bool_passes levels before (ItemsV vs) after h = absurd h

  word_judged : (levels : ℕ) (at : Place) (rest : Tokens) (keyword : Keyword)
      → Judges (Literally (suc levels) BoolTy (Next at (KeywordToken keyword) rest)) (IsUnfit (Next at (KeywordToken keyword) rest)) (bool_literal (Next at (KeywordToken keyword) rest))
  word_judged levels at rest TrueWord = (at, refl)
  word_judged levels at rest FalseWord = (at, refl)
  word_judged levels at rest keyword = (refl, refl)

  bool_judged : (levels : ℕ) (before : Tokens) → Judges (Literally (suc levels) BoolTy before) (IsUnfit before) (bool_literal before)
  bool_judged levels (Next at (KeywordToken keyword) rest) = word_judged levels at rest keyword
  bool_judged levels (Next at token rest) = (refl, refl)
  bool_judged levels (End at) = (refl, refl)
  bool_judged levels (Faulty at kind) = (refl, refl)

  int_passes : (levels : ℕ) (before : Tokens) (v : Value) (after : Tokens) → Literally (suc levels) IntTy before v after → int_literal before ≡ Means v after
  int_passes levels before (IntV z) after (at, is) = ap int_literal is
  int_passes levels before UnitV after h = absurd h
  int_passes levels before (BoolV b) after h = absurd h
  int_passes levels before (TextV bytes) after h = absurd h
  int_passes levels before (PairV x y) after h = absurd h
  int_passes levels before (ConV tag vs) after h = absurd h
  int_passes levels before (DigestV bytes) after h = absurd h
  int_passes levels before (ItemsV vs) after h = absurd h

  int_judged : (levels : ℕ) (before : Tokens) → Judges (Literally (suc levels) IntTy before) (IsUnfit before) (int_literal before)
  int_judged levels (Next at (IntToken z) rest) = (at, refl)
  int_judged levels (Next at token rest) = (refl, refl)
  int_judged levels (End at) = (refl, refl)
  int_judged levels (Faulty at kind) = (refl, refl)

  text_passes : (levels : ℕ) (before : Tokens) (v : Value) (after : Tokens) → Literally (suc levels) TextTy before v after → text_literal before ≡ Means v after
  text_passes levels before (TextV bytes) after (at, is) = ap text_literal is
  text_passes levels before UnitV after h = absurd h
  text_passes levels before (BoolV b) after h = absurd h
  text_passes levels before (IntV z) after h = absurd h
  text_passes levels before (PairV x y) after h = absurd h
  text_passes levels before (ConV tag vs) after h = absurd h
  text_passes levels before (DigestV bytes) after h = absurd h
  text_passes levels before (ItemsV vs) after h = absurd h

  text_judged : (levels : ℕ) (before : Tokens) → Judges (Literally (suc levels) TextTy before) (IsUnfit before) (text_literal before)
  text_judged levels (Next at (TextToken bytes) rest) = (at, refl)
  text_judged levels (Next at token rest) = (refl, refl)
  text_judged levels (End at) = (refl, refl)
  text_judged levels (Faulty at kind) = (refl, refl)

  none_authenticated : (levels : ℕ) (t : Ty) (before : Tokens) → Judges (Literally (suc levels) (AuthTy t) before) (IsUnfit before) (mismatch before)
  none_authenticated levels t (Next at token rest) = (refl, refl)
  none_authenticated levels t (End at) = (refl, refl)
  none_authenticated levels t (Faulty at kind) = (refl, refl)

  -- types whose literals have parts, where the literals of the parts are by the rules
  module _ (levels : ℕ) (each : (t : Ty) (before : Tokens) → LiteralRuled levels t before (literal_of types names levels t before)) where
    abbrev one : Ty → Tokens → LiteralReading Value
    one t tokens = literal_of types names levels t tokens

    abbrev Is : Ty → Value → Tokens → Tokens → Type 0
    Is t v before after = IsLiteral types names levels t v before after

    abbrev Broken : Ty → Tokens → LiteralKind → ℕ → Type 0
    Broken t before kind offset = BreaksLiteral types names levels t before kind offset

    a_unit : (before after : Tokens) (vs : Values) → ArePartsAt Is unit_parts vs before after → ArePartsAt Is unit_parts NoV before after
    a_unit before after NoV h = h
    a_unit before after (AndV v vs) (b, m, (c, n, never)) = absurd never

    unit_ruled : (before : Tokens) → LiteralRuled (suc levels) UnitTy before (unit_literal before)
    unit_ruled before =
        let make : Values → Value = λ vs. UnitV in
        let r : Ruled (row one unit_parts (λ vs tokens. Means (make vs) tokens) before) (Makes one Is Broken each unit_parts make before) (OnePartBreaks Is Broken unit_parts before)
        = row_ruled one Is Broken each unit_parts make before in
        record {
          judged = judges_more (Makes one Is Broken each unit_parts make before) (Literally (suc levels) UnitTy before) (OnePartBreaks Is Broken unit_parts before)
              (BreaksLiteral types names (suc levels) UnitTy before)
              (unit_literal before) (λ w after (vs, made, there). subst (λ w. Literally (suc levels) UnitTy before w after) made (a_unit before after vs there)) (λ kind offset f. f) r.judged;
          passes = λ w after h. unit_passes w after h;
          tells = r.tells;
        }
      where
        unit_passes : (w : Value) (after : Tokens) → Literally (suc levels) UnitTy before w after → unit_literal before ≡ Means w after
        unit_passes UnitV after h = (row_ruled one Is Broken each unit_parts (λ vs. UnitV) before).passes UnitV after (NoV, refl, h)
        unit_passes (BoolV b) after h = absurd h
        unit_passes (IntV z) after h = absurd h
        unit_passes (TextV bytes) after h = absurd h
        unit_passes (PairV x y) after h = absurd h
        unit_passes (ConV tag vs) after h = absurd h
        unit_passes (DigestV bytes) after h = absurd h
        unit_passes (ItemsV vs) after h = absurd h

    abbrev paired : Values → Value
    paired (AndV x (AndV y vs)) = PairV x y
    paired vs = UnitV

    a_pair : (a b : Ty) (before after : Tokens) (vs : Values) → ArePartsAt Is (pair_parts a b) vs before after → Literally (suc levels) (PairTy a b) before (paired vs) after
    a_pair a b before after (AndV x (AndV y NoV)) h = h
    a_pair a b before after NoV (m, k, never) = absurd never
    a_pair a b before after (AndV x NoV) (m, k, (n, l, (o, p, never))) = absurd never
    a_pair a b before after (AndV x (AndV y (AndV z vs))) (m, k, (n, l, (o, p, (q, r, (s, u, never))))) = absurd never

    pair_ruled : (a b : Ty) (before : Tokens) → LiteralRuled (suc levels) (PairTy a b) before (pair_literal (one a) (one b) before)
    pair_ruled a b before =
        let r : Ruled (row one (pair_parts a b) (λ vs tokens. Means (paired vs) tokens) before) (Makes one Is Broken each (pair_parts a b) paired before)
        (OnePartBreaks Is Broken (pair_parts a b) before)
        = row_ruled one Is Broken each (pair_parts a b) paired before in
        record {
          judged = judges_more (Makes one Is Broken each (pair_parts a b) paired before) (Literally (suc levels) (PairTy a b) before) (OnePartBreaks Is Broken (pair_parts a b) before)
              (BreaksLiteral types names (suc levels) (PairTy a b) before)
              (pair_literal (one a) (one b) before)
              (λ w after (vs, made, there). subst (λ w. Literally (suc levels) (PairTy a b) before w after) made (a_pair a b before after vs there)) (λ kind offset f. f) r.judged;
          passes = λ w after h. pair_passes w after h;
          tells = r.tells;
        }
      where
        pair_passes : (w : Value) (after : Tokens) → Literally (suc levels) (PairTy a b) before w after → pair_literal (one a) (one b) before ≡ Means w after
        pair_passes (PairV x y) after h = (row_ruled one Is Broken each (pair_parts a b) paired before).passes (PairV x y) after (AndV x (AndV y NoV), refl, h)
        pair_passes UnitV after h = absurd h
        pair_passes (BoolV b) after h = absurd h
        pair_passes (IntV z) after h = absurd h
        pair_passes (TextV bytes) after h = absurd h
        pair_passes (ConV tag vs) after h = absurd h
        pair_passes (DigestV bytes) after h = absurd h
        pair_passes (ItemsV vs) after h = absurd h

    array_ruled : (n : ℕ) (t : Ty) (before : Tokens) → LiteralRuled (suc levels) (VecTy n t) before (array_literal one n t before)
    array_ruled n t before =
        let r : Ruled (row one (array_parts n t) (λ vs tokens. Means (ItemsV vs) tokens) before) (Makes one Is Broken each (array_parts n t) (λ vs. ItemsV vs) before)
        (OnePartBreaks Is Broken (array_parts n t) before)
        = row_ruled one Is Broken each (array_parts n t) (λ vs. ItemsV vs) before in
        subst (LiteralRuled (suc levels) (VecTy n t) before) (sym (elements one n t before)) (record {
          judged = judges_more (Makes one Is Broken each (array_parts n t) (λ vs. ItemsV vs) before) (Literally (suc levels) (VecTy n t) before)
              (OnePartBreaks Is Broken (array_parts n t) before) (BreaksLiteral types names (suc levels) (VecTy n t) before)
              (row one (array_parts n t) (λ vs tokens. Means (ItemsV vs) tokens) before)
              (λ w after (vs, made, there). subst (λ w. Literally (suc levels) (VecTy n t) before w after) made there) (λ kind offset f. f) r.judged;
          passes = λ w after h. array_passes w after h;
          tells = r.tells;
        })
      where
        array_passes : (w : Value) (after : Tokens) → Literally (suc levels) (VecTy n t) before w after
            → row one (array_parts n t) (λ vs tokens. Means (ItemsV vs) tokens) before ≡ Means w after
        array_passes (ItemsV vs) after h = (row_ruled one Is Broken each (array_parts n t) (λ vs. ItemsV vs) before).passes (ItemsV vs) after (vs, refl, h)
        array_passes UnitV after h = absurd h
        array_passes (BoolV b) after h = absurd h
        array_passes (IntV z) after h = absurd h
        array_passes (TextV bytes) after h = absurd h
        array_passes (PairV x y) after h = absurd h
        array_passes (ConV tag vs) after h = absurd h
        array_passes (DigestV bytes) after h = absurd h

    abbrev behind_head : Head → Tokens → LiteralReading Value
    behind_head h tokens = row one (field_parts h.of) (λ vs tokens. Means (ConV h.tag vs) tokens) tokens

    fields_ruled : (h : Head) (before : Tokens)
        → Ruled (behind_head h before) (Makes one Is Broken each (field_parts h.of) (λ vs. ConV h.tag vs) before) (OnePartBreaks Is Broken (field_parts h.of) before)
    fields_ruled h before = row_ruled one Is Broken each (field_parts h.of) (λ vs. ConV h.tag vs) before

    head_rule : (number : ℕ) (before : Tokens) → Ruled (head number before) (IsHead number before) (λ kind offset. IsNone (IsHead number before) before × IsUnfit before kind offset)
    head_rule number before = head_ruled (IsHead number before) before (head number before) (head_passes number before) (head_judged number before)

    named_judged : (number : ℕ) (before : Tokens)
        → Judges (Literally (suc levels) (NamedTy number) before) (BreaksLiteral types names (suc levels) (NamedTy number) before) (then_means (head number before) behind_head)
    named_judged number before =
        judges_then (IsHead number before) (λ kind offset. IsNone (IsHead number before) before × IsUnfit before kind offset)
        (Literally (suc levels) (NamedTy number) before) (BreaksLiteral types names (suc levels) (NamedTy number) before) (head number before) behind_head
        (head_rule number before).judged
        (λ kind offset f. inl (λ tag ts behind h. f.0 (record { tag = tag; of = ts }) behind h, f.1))
        (λ h behind is. judges_more (Makes one Is Broken each (field_parts h.of) (λ vs. ConV h.tag vs) behind) (Literally (suc levels) (NamedTy number) before)
        (OnePartBreaks Is Broken (field_parts h.of) behind) (BreaksLiteral types names (suc levels) (NamedTy number) before) (behind_head h behind)
        (λ w after (vs, made, there). subst (λ w. Literally (suc levels) (NamedTy number) before w after) made (h.of, behind, is, there))
        (λ kind offset f. inr (h.tag, h.of, behind, is, f)) (fields_ruled h behind).judged)

    named_passes : (number : ℕ) (before : Tokens) (w : Value) (after : Tokens) → Literally (suc levels) (NamedTy number) before w after
        → then_means (head number before) behind_head ≡ Means w after
    named_passes number before (ConV tag vs) after (ts, behind, is, there) =
        let h : Head = record { tag = tag; of = ts } in
        then_value (head number before) behind_head h behind (head_passes number before h behind is)
        ∙ (fields_ruled h behind).passes (ConV tag vs) after (vs, refl, there)
    named_passes number before UnitV after h = absurd h
    named_passes number before (BoolV b) after h = absurd h
    named_passes number before (IntV z) after h = absurd h
    named_passes number before (TextV bytes) after h = absurd h
    named_passes number before (PairV x y) after h = absurd h
    named_passes number before (DigestV bytes) after h = absurd h
    named_passes number before (ItemsV vs) after h = absurd h

    named_tells : (number : ℕ) (before : Tokens) (kind : LiteralKind) (offset : ℕ) → BreaksLiteral types names (suc levels) (NamedTy number) before kind offset
        → then_means (head number before) behind_head ≡ FaultAt kind offset
    named_tells number before kind offset (inl f) =
        then_fault (head number before) behind_head kind offset ((head_rule number before).tells kind offset (λ h behind is. f.0 h.tag h.of behind is, f.1))
    named_tells number before kind offset (inr (tag, ts, behind, is, f)) =
        let h : Head = record { tag = tag; of = ts } in
        then_value (head number before) behind_head h behind (head_passes number before h behind is)
        ∙ (fields_ruled h behind).tells kind offset f

    named_ruled : (number : ℕ) (before : Tokens) → LiteralRuled (suc levels) (NamedTy number) before (constructor_literal types names one number before)
    named_ruled number before = subst (LiteralRuled (suc levels) (NamedTy number) before) (sym (constructor_is one number before))
        (record { judged = named_judged number before; passes = named_passes number before; tells = named_tells number before })

  literal_ruled : (levels : ℕ) (t : Ty) (before : Tokens) → LiteralRuled levels t before (literal_of types names levels t before)
  literal_ruled zero t before = deep_ruled t before
  literal_ruled (suc levels) UnitTy before = unit_ruled levels (literal_ruled levels) before
  literal_ruled (suc levels) BoolTy before = head_ruled (Literally (suc levels) BoolTy before) before (bool_literal before) (bool_passes levels before) (bool_judged levels before)
  literal_ruled (suc levels) IntTy before = head_ruled (Literally (suc levels) IntTy before) before (int_literal before) (int_passes levels before) (int_judged levels before)
  literal_ruled (suc levels) TextTy before = head_ruled (Literally (suc levels) TextTy before) before (text_literal before) (text_passes levels before) (text_judged levels before)
  literal_ruled (suc levels) (PairTy a b) before = pair_ruled levels (literal_ruled levels) a b before
  literal_ruled (suc levels) (NamedTy number) before = named_ruled levels (literal_ruled levels) number before
  literal_ruled (suc levels) (AuthTy t) before =
      head_ruled (Literally (suc levels) (AuthTy t) before) before (mismatch before) (λ v after h. absurd h) (none_authenticated levels t before)
  literal_ruled (suc levels) (VecTy n t) before = array_ruled levels (literal_ruled levels) n t before

-- the whole of some tokens
module _ (limit : ℕ) (types : Table) (names : ConstructorNames) (t : Ty) where
  abbrev Answers : Tokens → Literal → Type 0
  Answers tokens (IsValue v) = IsWholeLiteral limit types names t v tokens
  Answers tokens (FirstFault kind offset) = BreaksWholeLiteral limit types names t tokens kind offset

  by_size : (tokens : Tokens) (v : Value) (end : Place) → IsLiteral types names depth_limit t v tokens (End end) → (b : Bool) → nat_le (size types t v) limit ≡ b
      → Answers tokens (if b then IsValue v else FirstFault TooBig 0)
  by_size tokens v end h true e = (end, h, leb-true (size types t v) limit e)
  by_size tokens v end h false e = inr (inr (v, end, h, leb-false (size types t v) limit e, refl, refl))

  ending : (tokens : Tokens) (v : Value) (behind : Tokens) → IsLiteral types names depth_limit t v tokens behind → Answers tokens (at_end behind (value_within limit types t v))
  ending tokens v (Next at token rest) h = inr (inl (v, Next at token rest, h, (λ end is. absurd (cc)), (refl, refl)))
  ending tokens v (End at) h = by_size tokens v at h (nat_le (size types t v) limit) refl
  ending tokens v (Faulty at kind) h = inr (inl (v, Faulty at kind, h, (λ end is. absurd (cc)), (refl, refl)))

  whole_judged : (tokens : Tokens) (reading : LiteralReading Value) → Judges (λ v after. IsLiteral types names depth_limit t v tokens after) (BreaksLiteral types names depth_limit t tokens) reading
      → Answers tokens (whole_literal limit types t reading)
  whole_judged tokens (Means v behind) h = ending tokens v behind h
  whole_judged tokens (FaultAt kind offset) h = inl h

  ends_with : (v : Value) (behind : Tokens) (kind : LiteralKind) (offset : ℕ) → ((end : Place) → behind ≡ End end → ⊥) → IsUnfit behind kind offset
      → at_end behind (value_within limit types t v) ≡ FirstFault kind offset
  ends_with v (Next at token rest) kind offset never h = cc
  ends_with v (End at) kind offset never h = absurd (never at refl)
  ends_with v (Faulty at fault) kind offset never h = cc

  too_big : (v : Value) → limit < size types t v → value_within limit types t v ≡ FirstFault TooBig 0
  too_big v over = ap (λ b. if b then IsValue v else FirstFault TooBig 0) (lt-leb (size types t v) limit over)

  module _ (tokens : Tokens) where
    abbrev reads : LiteralReading Value
    reads = literal_of types names depth_limit t tokens

    rule : LiteralRuled types names depth_limit t tokens reads
    rule = literal_ruled types names depth_limit t tokens

    whole_passes : (v : Value) → IsWholeLiteral limit types names t v tokens → whole_literal limit types t reads ≡ IsValue v
    whole_passes v (end, h, within) =
        ap (whole_literal limit types t) (rule.passes v (End end) h) ∙ ap (λ b. if b then IsValue v else FirstFault TooBig 0) (le-leb (size types t v) limit within)

    whole_tells : (kind : LiteralKind) (offset : ℕ) → BreaksWholeLiteral limit types names t tokens kind offset → whole_literal limit types t reads ≡ FirstFault kind offset
    whole_tells kind offset (inl f) = ap (whole_literal limit types t) (rule.tells kind offset f)
    whole_tells kind offset (inr (inl (v, behind, h, never, f))) = ap (whole_literal limit types t) (rule.passes v behind h) ∙ ends_with v behind kind offset never f
    whole_tells kind offset (inr (inr (v, end, h, over, is, here))) =
        ap (whole_literal limit types t) (rule.passes v (End end) h) ∙ too_big v over ∙ ap (λ k. FirstFault k 0) (sym is) ∙ ap (FirstFault kind) (sym here)

    answers : Answers tokens (whole_literal limit types t reads)
    answers = whole_judged tokens reads rule.judged

pub literals_are_by_their_tokens : LiteralsAreByTheirTokens
literals_are_by_their_tokens P names t text =
    let read = tokens (written_in P.format) text in (
      λ v. (
        λ is. subst (Answers P.format.limit P.types names t read) is (answers P.format.limit P.types names t read),
        λ h. whole_passes P.format.limit P.types names t read v h,
      ),
      λ kind offset. (
        λ is. subst (Answers P.format.limit P.types names t read) is (answers P.format.limit P.types names t read),
        λ h. whole_tells P.format.limit P.types names t read kind offset h,
      ),
    )
