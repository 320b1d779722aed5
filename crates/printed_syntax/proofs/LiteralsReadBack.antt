-- The value of a literal is one of its type, and is read back from its spelling.
use Rattle.std.proofs.Common.{◌≡◌, ℕ, zero, suc, ◌+◌, ◌<◌, ◌≤◌, ◌^◌, Bool, true, false, List, [], ◌∷◌, Option, Some, None, unwrap_or, refl, sym, subst, arith, cond, leb-true}
use Rattle.std.specs.Prelude.{nat_le}
use Rattle.core_terms.specs.Types.{Ty, UnitTy, BoolTy, IntTy, TextTy, PairTy, NamedTy, AuthTy, VecTy, Table, fields_at, item_types, OnFields}
use Rattle.core_terms.specs.Formats.{depth_limit}
use Rattle.core_terms.specs.Values.{Value, PairV, ConV, ItemsV, Values, NoV, AndV, IsIdeal, AreIdeal, IsShallow, AreShallow, size, depth, depths}
use Rattle.core_terms.specs.Spelling.{spelling}
use Rattle.core_terms.specs.Terms.{Program}
use Rattle.core_terms.specs.declared.format.Format.{Format}
use Rattle.core_terms.specs.Projection.{Fits}
use Rattle.core_terms.proofs.Spelled.{spells_read}
use Rattle.lexemes.specs.Places.{start}
use Rattle.lexemes.specs.Readings.{is_mark}
use Rattle.lexemes.specs.Tokens.{KeywordToken, MarkToken, UpperToken, IntToken, TextToken, Tokens, Next, End, Faulty, tokens}
use Rattle.printed_syntax.specs.Literals.{ConstructorNames, LiteralReading, Means, FaultAt, then_means, mismatch, too_deep, behind_mark, unit_literal, bool_literal, int_literal, text_literal, pair_literal, more_values, values_up_to, fields_literal, array_literal, number_of_name, constructor_with, constructor_named, constructor_literal, literal_of, IsValue, FirstFault, at_end, value_within, whole_literal, written_in}
use Rattle.printed_syntax.specs.LiteralLaws.{IsLiteralValue, LiteralsAreReadBack}
use Rattle.printed_syntax.specs.declared.fault.LiteralKind.TheVariants.{TooBig}
use Rattle.lexemes.specs.declared.token.Keyword.TheVariants.{True as TrueWord, False as FalseWord}
use Rattle.lexemes.specs.declared.token.Mark.{Mark}
use Rattle.lexemes.specs.declared.token.Mark.TheVariants.{LeftParenthesis, RightParenthesis, Comma, LeftBracket, RightBracket}
use Rattle.printed_syntax.proofs.TokenValues.{HaveValues, tokens_values}

-- what is read has this property, and the tokens behind it have values
abbrev Gives : {A : Type 0} → (A → Type 0) → LiteralReading A → Type 0
Gives Q (Means value rest) = Q value × HaveValues rest
Gives Q (FaultAt kind offset) = Unit {0}

-- so it is with what is read of any tokens that have values
abbrev AlwaysGives : {A : Type 0} → (A → Type 0) → (Tokens → LiteralReading A) → Type 0
AlwaysGives Q read = (tokens : Tokens) → HaveValues tokens → Gives Q (read tokens)

gives_then : {A B : Type 0} (Q : A → Type 0) (R : B → Type 0) (reading : LiteralReading A) (go : A → Tokens → LiteralReading B) → Gives Q reading
    → ((value : A) (rest : Tokens) → Q value → HaveValues rest → Gives R (go value rest)) → Gives R (then_means reading go)
gives_then Q R (Means value rest) go h on = on value rest h.0 h.1
gives_then Q R (FaultAt kind offset) go h on = tt

gives_either : {A : Type 0} (Q : A → Type 0) (test : Bool) (first other : LiteralReading A) → Gives Q first → Gives Q other
    → Gives Q (cond test first other)
gives_either Q true first other h h' = h
gives_either Q false first other h h' = h'

mismatch_gives : {A : Type 0} (Q : A → Type 0) (tokens : Tokens) → Gives Q (mismatch tokens)
mismatch_gives Q (Next at token rest) = tt
mismatch_gives Q (End at) = tt
mismatch_gives Q (Faulty at kind) = tt

too_deep_gives : {A : Type 0} (Q : A → Type 0) (tokens : Tokens) → Gives Q (too_deep tokens)
too_deep_gives Q (Next at token rest) = tt
too_deep_gives Q (End at) = tt
too_deep_gives Q (Faulty at kind) = tt

-- nothing is said of a mark
abbrev Any : Unit {0} → Type 0
Any u = Unit {0}

mark_gives : (wanted : Mark) → AlwaysGives Any (behind_mark wanted)
mark_gives wanted (Next at (MarkToken found) rest) h = gives_either Any (is_mark wanted found) _ _ (tt, h.1) tt
mark_gives wanted tokens h = mismatch_gives Any tokens

module _ (types : Table) where
  -- a value of a type, within so many levels, in which nothing is authenticated
  record IsOf (levels : ℕ) (t : Ty) (v : Value) : Type 0 where
    ideal : IsIdeal types t v
    shallow : IsShallow types t v
    deep : depth types t v ≤ levels

  record AreOf (levels : ℕ) (ts : List Ty) (vs : Values) : Type 0 where
    ideal : AreIdeal types ts vs
    shallow : AreShallow types ts vs
    deep : depths types ts vs ≤ levels

  unit_gives : (levels : ℕ) → AlwaysGives (IsOf (suc levels) UnitTy) unit_literal
  unit_gives levels tokens h =
      gives_then Any _ _ _ (mark_gives LeftParenthesis tokens h) (λ _ tokens _ h.
      gives_then Any _ _ _ (mark_gives RightParenthesis tokens h) (λ _ tokens _ h. (record { ideal = tt; shallow = tt; deep = omega arith }, h)))

  bool_gives : (levels : ℕ) → AlwaysGives (IsOf (suc levels) BoolTy) bool_literal
  bool_gives levels (Next at (KeywordToken TrueWord) rest) h = (record { ideal = tt; shallow = tt; deep = omega arith }, h.1)
  bool_gives levels (Next at (KeywordToken FalseWord) rest) h = (record { ideal = tt; shallow = tt; deep = omega arith }, h.1)
  bool_gives levels tokens h = mismatch_gives (IsOf (suc levels) BoolTy) tokens

  int_gives : (levels : ℕ) → AlwaysGives (IsOf (suc levels) IntTy) int_literal
  int_gives levels (Next at (IntToken z) rest) h = (record { ideal = h.0; shallow = h.0; deep = omega arith }, h.1)
  int_gives levels tokens h = mismatch_gives (IsOf (suc levels) IntTy) tokens

  text_gives : (levels : ℕ) → AlwaysGives (IsOf (suc levels) TextTy) text_literal
  text_gives levels (Next at (TextToken bytes) rest) h = (record { ideal = h.0; shallow = h.0; deep = omega arith }, h.1)
  text_gives levels tokens h = mismatch_gives (IsOf (suc levels) TextTy) tokens

  paired : (levels : ℕ) (a b : Ty) (x y : Value) → IsOf levels a x → IsOf levels b y → IsOf (suc levels) (PairTy a b) (PairV x y)
  paired levels a b x y h j =
      record { ideal = (h.ideal, j.ideal); shallow = (h.shallow, j.shallow); deep = omega (arith, h.deep, j.deep) }

  pair_gives : (levels : ℕ) (a b : Ty) (first second : Tokens → LiteralReading Value) → AlwaysGives (IsOf levels a) first
      → AlwaysGives (IsOf levels b) second → AlwaysGives (IsOf (suc levels) (PairTy a b)) (pair_literal first second)
  pair_gives levels a b first second one two tokens h =
      gives_then Any _ _ _ (mark_gives LeftParenthesis tokens h) (λ _ tokens _ h.
      gives_then (IsOf levels a) _ _ _ (one tokens h) (λ x tokens of_a h.
      gives_then Any _ _ _ (mark_gives Comma tokens h) (λ _ tokens _ h.
      gives_then (IsOf levels b) _ _ _ (two tokens h) (λ y tokens of_b h.
      gives_then Any _ _ _ (mark_gives RightParenthesis tokens h) (λ _ tokens _ h. (paired levels a b x y of_a of_b, h))))))

  none_of : (levels : ℕ) → AreOf levels [] NoV
  none_of levels = record { ideal = tt; shallow = tt; deep = omega arith }

  one_more : (levels : ℕ) (t : Ty) (ts : List Ty) (v : Value) (vs : Values) → IsOf levels t v → AreOf levels ts vs → AreOf levels (t ∷ ts) (AndV v vs)
  one_more levels t ts v vs h j =
      record { ideal = (h.ideal, j.ideal); shallow = (h.shallow, j.shallow); deep = omega (arith, h.deep, j.deep) }

  -- a constructor of these field types, with its fields
  built : (levels number tag : ℕ) (ts : List Ty) (vs : Values) → fields_at types number tag ≡ Some ts → AreOf levels ts vs
      → IsOf (suc levels) (NamedTy number) (ConV tag vs)
  built levels number tag ts vs e h =
      record {
        ideal = subst (λ o. OnFields o (λ ts. AreIdeal types ts vs)) (sym e) h.ideal;
        shallow = subst (λ o. OnFields o (λ ts. AreShallow types ts vs)) (sym e) h.shallow;
        deep = subst (λ o. 1 + depths types (unwrap_or o []) vs ≤ suc levels) (sym e) (omega (arith, h.deep));
      }

  module _ (levels : ℕ) (one : Ty → Tokens → LiteralReading Value) (each : (t : Ty) → AlwaysGives (IsOf levels t) (one t)) where
    more_give : (ending : Mark) (ts : List Ty) → AlwaysGives (AreOf levels ts) (more_values ending one ts)
    more_give ending [] tokens h = gives_then Any _ _ _ (mark_gives ending tokens h) (λ _ tokens _ h. (none_of levels, h))
    more_give ending (t ∷ ts) tokens h =
        gives_then Any _ _ _ (mark_gives Comma tokens h) (λ _ tokens _ h.
        gives_then (IsOf levels t) _ _ _ (each t tokens h) (λ v tokens of_t h.
        gives_then (AreOf levels ts) _ _ _ (more_give ending ts tokens h) (λ vs tokens of_ts h. (one_more levels t ts v vs of_t of_ts, h))))

    values_give : (ending : Mark) (ts : List Ty) → AlwaysGives (AreOf levels ts) (values_up_to ending one ts)
    values_give ending [] tokens h = gives_then Any _ _ _ (mark_gives ending tokens h) (λ _ tokens _ h. (none_of levels, h))
    values_give ending (t ∷ ts) tokens h =
        gives_then (IsOf levels t) _ _ _ (each t tokens h) (λ v tokens of_t h.
        gives_then (AreOf levels ts) _ _ _ (more_give ending ts tokens h) (λ vs tokens of_ts h. (one_more levels t ts v vs of_t of_ts, h)))

    fields_give : (ts : List Ty) → AlwaysGives (AreOf levels ts) (fields_literal one ts)
    fields_give [] tokens h = (none_of levels, h)
    fields_give (t ∷ ts) tokens h =
        gives_then Any _ _ _ (mark_gives LeftParenthesis tokens h) (λ _ tokens _ h. values_give RightParenthesis (t ∷ ts) tokens h)

    -- an array of these elements
    filled : (n : ℕ) (t : Ty) (vs : Values) → AreOf levels (item_types n t) vs → IsOf (suc levels) (VecTy n t) (ItemsV vs)
    filled n t vs h = record { ideal = h.ideal; shallow = h.shallow; deep = omega (arith, h.deep) }

    array_gives : (n : ℕ) (t : Ty) → AlwaysGives (IsOf (suc levels) (VecTy n t)) (array_literal one n t)
    array_gives n t tokens h =
        gives_then Any _ _ _ (mark_gives LeftBracket tokens h) (λ _ tokens _ h.
        gives_then (AreOf levels (item_types n t)) _ _ _ (values_give RightBracket (item_types n t) tokens h) (λ vs tokens of_ts h. (filled n t vs of_ts, h)))

    constructor_gives : (offset number tag : ℕ) (found : Option (List Ty)) → fields_at types number tag ≡ found
        → AlwaysGives (IsOf (suc levels) (NamedTy number)) (constructor_with one offset tag found)
    constructor_gives offset number tag None e tokens h = tt
    constructor_gives offset number tag (Some ts) e tokens h =
        gives_then (AreOf levels ts) _ _ _ (fields_give ts tokens h) (λ vs tokens of_ts h. (built levels number tag ts vs e of_ts, h))

    named_gives : (names : ConstructorNames) (offset number : ℕ) (found : Option ℕ)
        → AlwaysGives (IsOf (suc levels) (NamedTy number)) (constructor_named types names one offset number found)
    named_gives names offset number None tokens h = tt
    named_gives names offset number (Some tag) tokens h = constructor_gives offset number tag (fields_at types number tag) refl tokens h

    constructor_literal_gives : (names : ConstructorNames) (number : ℕ)
        → AlwaysGives (IsOf (suc levels) (NamedTy number)) (constructor_literal types names one number)
    constructor_literal_gives names number (Next at (UpperToken name) rest) h =
        named_gives names at.offset number (number_of_name (names number) name) rest h.1
    constructor_literal_gives names number tokens h = mismatch_gives (IsOf (suc levels) (NamedTy number)) tokens

  literal_gives : (names : ConstructorNames) (levels : ℕ) (t : Ty) → AlwaysGives (IsOf levels t) (literal_of types names levels t)
  literal_gives names zero t tokens h = too_deep_gives (IsOf zero t) tokens
  literal_gives names (suc levels) UnitTy tokens h = unit_gives levels tokens h
  literal_gives names (suc levels) BoolTy tokens h = bool_gives levels tokens h
  literal_gives names (suc levels) IntTy tokens h = int_gives levels tokens h
  literal_gives names (suc levels) TextTy tokens h = text_gives levels tokens h
  literal_gives names (suc levels) (PairTy a b) tokens h =
      pair_gives levels a b (literal_of types names levels a) (literal_of types names levels b) (literal_gives names levels a) (literal_gives names levels b) tokens h
  literal_gives names (suc levels) (NamedTy number) tokens h =
      constructor_literal_gives levels (literal_of types names levels) (literal_gives names levels) names number tokens h
  literal_gives names (suc levels) (AuthTy t) tokens h = mismatch_gives (IsOf (suc levels) (AuthTy t)) tokens
  literal_gives names (suc levels) (VecTy n t) tokens h = array_gives levels (literal_of types names levels) (literal_gives names levels) n t tokens h

-- the value that the tokens of a text begin with is a shallow one of the type
pub literal_is_shallow : (format : Format) (types : Table) (names : ConstructorNames) (t : Ty) (text : List ℕ) (v : Value) (rest : Tokens)
    → literal_of types names depth_limit t (tokens format text) ≡ Means v rest → IsShallow types t v
literal_is_shallow format types names t text v rest e =
    let given : Gives (IsOf types depth_limit t) (Means v rest) =
    subst (Gives (IsOf types depth_limit t)) e (literal_gives types names depth_limit t (tokens format text) (tokens_values format 0 start text)) in
    given.0.shallow

-- what is read, where it is within the limit
record Found (limit : ℕ) (types : Table) (t : Ty) (v : Value) : Type 0 where
  of_type : IsOf types depth_limit t v
  size_fits : size types t v ≤ limit

module _ (limit : ℕ) (types : Table) (t : Ty) (v : Value) where
  by_size : (u : Value) → IsOf types depth_limit t u → (test : Bool) → nat_le (size types t u) limit ≡ test
      → cond test (IsValue u) (FirstFault TooBig 0) ≡ IsValue v → Found limit types t v
  by_size u h true within e =
      let same : u ≡ v = cc in
      subst (λ v. Found limit types t v) same (record { of_type = h; size_fits = leb-true (size types t u) limit within })
  by_size u h false within e = absurd (cc)

  at_end_found : (u : Value) (rest : Tokens) → IsOf types depth_limit t u → at_end rest (value_within limit types t u) ≡ IsValue v → Found limit types t v
  at_end_found u (End at) h e = by_size u h (nat_le (size types t u) limit) refl e
  at_end_found u (Next at token rest) h e = absurd (cc)
  at_end_found u (Faulty at kind) h e = absurd (cc)

  found : (reading : LiteralReading Value) → Gives (IsOf types depth_limit t) reading → whole_literal limit types t reading ≡ IsValue v → Found limit types t v
  found (Means u rest) h e = at_end_found u rest h.0 e
  found (FaultAt kind offset) h e = absurd (cc)

written : (P : Program) → P.format.limit < 2 ^ 32 → (t : Ty) (v : Value) → Found P.format.limit P.types t v → IsLiteralValue P t v
written P fits t v h =
    let within : Fits P t v = record { size_fits = h.size_fits; depth_fits = h.of_type.deep } in
    record {
      ideal = h.of_type.ideal;
      shallow = h.of_type.shallow;
      fits = within;
      read_back = spells_read P.types P.format.limit fits (spelling v) t v (record { shape = h.of_type.shallow; within = within; is = refl });
    }

pub literals_are_read_back : LiteralsAreReadBack
literals_are_read_back P fits names t text v e =
    written P fits t v
    (found P.format.limit P.types t v (literal_of P.types names depth_limit t (tokens (written_in P.format) text))
    (literal_gives P.types names depth_limit t (tokens (written_in P.format) text) (tokens_values (written_in P.format) 0 start text)) e)
