-- A reading of literals that gives a value exactly where a rule holds, and tells a fault exactly where another one does: step by step.
use Rattle.std.proofs.Common.{◌≡◌, ℕ, Bool, true, false, List, [], ◌∷◌, inl, inr, refl, sym, ap, ◌∙◌, subst, if◌then◌else◌}
use Rattle.core_terms.specs.Types.{Ty, item_types}
use Rattle.core_terms.specs.Values.{Value, ItemsV, Values, NoV, AndV}
use Rattle.lexemes.specs.Readings.{is_mark}
use Rattle.lexemes.specs.Tokens.{MarkToken, Tokens, Next, End, Faulty}
use Rattle.lexemes.specs.declared.place.Place.{Place}
use Rattle.lexemes.specs.declared.token.Mark.{Mark}
use Rattle.lexemes.specs.declared.token.Mark.TheVariants.{RightParenthesis, Comma, LeftParenthesis, LeftBracket, RightBracket}
use Rattle.lexemes.proofs.Signs.{is_mark-true, is_mark-same}
use Rattle.printed_syntax.specs.Literals.{LiteralReading, Means, FaultAt, then_means, behind_mark, more_values, values_up_to, fields_literal, array_literal}
use Rattle.printed_syntax.specs.LiteralRules.{IsTokenAt, IsUnfit, Part, TheMark, ValueOf, more_parts, parts_up_to, field_parts, array_parts, ArePartsAt, OnePartBreaks}
use Rattle.printed_syntax.specs.declared.fault.LiteralKind.{LiteralKind}
use Rattle.printed_syntax.specs.declared.fault.LiteralKind.TheVariants.{Mismatch}

-- P holds of what is read and of the tokens behind it, or F of the fault
abbrev pub Judges : {A : Type 0} → (A → Tokens → Type 0) → (LiteralKind → ℕ → Type 0) → LiteralReading A → Type 0
Judges P F (Means value rest) = P value rest
Judges P F (FaultAt kind offset) = F kind offset

pub record Ruled {A : Type 0} (reading : LiteralReading A) (P : A → Tokens → Type 0) (F : LiteralKind → ℕ → Type 0) : Type 0 where
  pub judged : Judges P F reading
  pub passes : (value : A) (rest : Tokens) → P value rest → reading ≡ Means value rest
  pub tells : (kind : LiteralKind) (offset : ℕ) → F kind offset → reading ≡ FaultAt kind offset

pub judges_then : {A B : Type 0} (Q : A → Tokens → Type 0) (F : LiteralKind → ℕ → Type 0) (R : B → Tokens → Type 0) (G : LiteralKind → ℕ → Type 0)
    (reading : LiteralReading A) (go : A → Tokens → LiteralReading B) → Judges Q F reading → ((kind : LiteralKind) (offset : ℕ) → F kind offset → G kind offset)
    → ((value : A) (rest : Tokens) → Q value rest → Judges R G (go value rest)) → Judges R G (then_means reading go)
judges_then Q F R G (Means value rest) go first faults second = second value rest first
judges_then Q F R G (FaultAt kind offset) go first faults second = faults kind offset first

pub judges_more : {A : Type 0} (P Q : A → Tokens → Type 0) (F G : LiteralKind → ℕ → Type 0) (reading : LiteralReading A)
    → ((value : A) (rest : Tokens) → P value rest → Q value rest) → ((kind : LiteralKind) (offset : ℕ) → F kind offset → G kind offset) → Judges P F reading → Judges Q G reading
judges_more P Q F G (Means value rest) more faults h = more value rest h
judges_more P Q F G (FaultAt kind offset) more faults h = faults kind offset h

pub judged_fault : {A : Type 0} (P : A → Tokens → Type 0) (F : LiteralKind → ℕ → Type 0) (reading : LiteralReading A) (kind : LiteralKind) (offset : ℕ)
    → Judges P F reading → reading ≡ FaultAt kind offset → F kind offset
judged_fault P F reading kind offset h is = subst (Judges P F) is h

pub then_value : {A B : Type 0} (reading : LiteralReading A) (go : A → Tokens → LiteralReading B) (value : A) (rest : Tokens) → reading ≡ Means value rest
    → then_means reading go ≡ go value rest
then_value reading go value rest is = ap (λ r. then_means r go) is

pub then_fault : {A B : Type 0} (reading : LiteralReading A) (go : A → Tokens → LiteralReading B) (kind : LiteralKind) (offset : ℕ) → reading ≡ FaultAt kind offset
    → then_means reading go ≡ FaultAt kind offset
then_fault reading go kind offset is = ap (λ r. then_means r go) is

pub then_then : {A B C : Type 0} (reading : LiteralReading A) (f : A → Tokens → LiteralReading B) (g : B → Tokens → LiteralReading C)
    → then_means (then_means reading f) g ≡ then_means reading (λ a rest. then_means (f a rest) g)
then_then (Means value rest) f g = refl
then_then (FaultAt kind offset) f g = refl

pub then_alike : {A B : Type 0} (reading : LiteralReading A) (f g : A → Tokens → LiteralReading B) → ((value : A) (rest : Tokens) → f value rest ≡ g value rest)
    → then_means reading f ≡ then_means reading g
then_alike (Means value rest) f g same = same value rest
then_alike (FaultAt kind offset) f g same = refl

-- a fault is told of no value
apart : {A : Type 0} (kind : LiteralKind) (offset : ℕ) (value : A) (rest : Tokens) → FaultAt kind offset ≡ Means value rest → ⊥
apart kind offset value rest is = absurd (cc)

-- what is told at a head is one fault
abbrev fault_of : (A : Type 0) → LiteralKind → ℕ → LiteralReading A
fault_of A kind offset = FaultAt kind offset

one_unfit : (A : Type 0) (before : Tokens) (kind other : LiteralKind) (offset place : ℕ) → IsUnfit before kind offset → IsUnfit before other place
    → fault_of A kind offset ≡ fault_of A other place
one_unfit A (Next at token rest) kind other offset place h k = cc
one_unfit A (End at) kind other offset place h k = cc
one_unfit A (Faulty at fault) kind other offset place h k = cc

module _ {A : Type 0} (P : A → Tokens → Type 0) (before : Tokens) where
  -- nothing is there that the rule takes
  abbrev pub IsNone : Type 0
  IsNone = (value : A) (rest : Tokens) → P value rest → ⊥

  -- what is read at the head alone
  pub head_ruled : (reading : LiteralReading A) → ((value : A) (rest : Tokens) → P value rest → reading ≡ Means value rest) → Judges P (IsUnfit before) reading
      → Ruled reading P (λ kind offset. IsNone × IsUnfit before kind offset)
  head_ruled (Means value rest) passes h = record {
    judged = h;
    passes = passes;
    tells = λ kind offset f. absurd (f.0 value rest h);
  }
  head_ruled (FaultAt kind offset) passes h = record {
    judged = (λ value rest p. apart kind offset value rest (passes value rest p), h);
    passes = passes;
    tells = λ other place f. one_unfit A before kind other offset place h f.1;
  }

-- a mark, where the test of it says this
abbrev tested : Bool → Place → Tokens → LiteralReading (Unit {0})
tested b at rest = if b then Means tt rest else FaultAt Mismatch at.offset

mark_judged : (mark : Mark) (before : Tokens) → Judges (λ _ behind. IsTokenAt (MarkToken mark) before behind) (IsUnfit before) (behind_mark mark before)
mark_judged mark (Next at (MarkToken found) rest) = by (is_mark mark found) refl
  where
    by : (b : Bool) → is_mark mark found ≡ b
        → Judges (λ _ behind. IsTokenAt (MarkToken mark) (Next at (MarkToken found) rest) behind) (IsUnfit (Next at (MarkToken found) rest)) (tested b at rest)
    by true e = (at, ap (λ m. Next at (MarkToken m) rest) (sym (is_mark-true mark found e)))
    by false e = (refl, refl)
mark_judged mark (Next at token rest) = (refl, refl)
mark_judged mark (End at) = (refl, refl)
mark_judged mark (Faulty at kind) = (refl, refl)

mark_passes : (mark : Mark) (before behind : Tokens) → IsTokenAt (MarkToken mark) before behind → behind_mark mark before ≡ Means tt behind
mark_passes mark before behind (at, is) = ap (behind_mark mark) is ∙ ap (λ b. tested b at behind) (is_mark-same mark)

mark_ruled : (mark : Mark) (before : Tokens) → Ruled (behind_mark mark before) (λ _ behind. IsTokenAt (MarkToken mark) before behind)
    (λ kind offset. IsNone (λ (_ : Unit {0}) behind. IsTokenAt (MarkToken mark) before behind) before × IsUnfit before kind offset)
mark_ruled mark before =
    head_ruled (λ _ behind. IsTokenAt (MarkToken mark) before behind) before (behind_mark mark before) (λ u behind h. mark_passes mark before behind h) (mark_judged mark before)

-- parts, one behind the other, and the value that they make
module _ (one : Ty → Tokens → LiteralReading Value) where
  abbrev pub row : {B : Type 0} → List Part → (Values → Tokens → LiteralReading B) → Tokens → LiteralReading B
  row [] go tokens = go NoV tokens
  row (TheMark mark ∷ parts) go tokens = then_means (behind_mark mark tokens) (λ _ tokens. row parts go tokens)
  row (ValueOf t ∷ parts) go tokens = then_means (one t tokens) (λ v tokens. row parts (λ vs tokens. go (AndV v vs) tokens) tokens)

  more : {B : Type 0} (ending : Mark) (ts : List Ty) (go : Values → Tokens → LiteralReading B) (tokens : Tokens)
      → then_means (more_values ending one ts tokens) go ≡ row (more_parts ending ts) go tokens
  more ending [] go tokens = then_then (behind_mark ending tokens) _ go
  more ending (t ∷ ts) go tokens =
      then_then (behind_mark Comma tokens) _ go
      ∙ then_alike (behind_mark Comma tokens) _ _ (λ _ tokens. then_then (one t tokens) _ go
      ∙ then_alike (one t tokens) _ _ (λ v tokens. then_then (more_values ending one ts tokens) _ go ∙ more ending ts (λ vs tokens. go (AndV v vs) tokens) tokens))

  up_to : {B : Type 0} (ending : Mark) (ts : List Ty) (go : Values → Tokens → LiteralReading B) (tokens : Tokens)
      → then_means (values_up_to ending one ts tokens) go ≡ row (parts_up_to ending ts) go tokens
  up_to ending [] go tokens = then_then (behind_mark ending tokens) _ go
  up_to ending (t ∷ ts) go tokens =
      then_then (one t tokens) _ go
      ∙ then_alike (one t tokens) _ _ (λ v tokens. then_then (more_values ending one ts tokens) _ go ∙ more ending ts (λ vs tokens. go (AndV v vs) tokens) tokens)

  pub fields : {B : Type 0} (ts : List Ty) (go : Values → Tokens → LiteralReading B) (tokens : Tokens)
      → then_means (fields_literal one ts tokens) go ≡ row (field_parts ts) go tokens
  fields [] go tokens = refl
  fields (t ∷ ts) go tokens =
      then_then (behind_mark LeftParenthesis tokens) _ go
      ∙ then_alike (behind_mark LeftParenthesis tokens) _ _ (λ _ tokens. up_to RightParenthesis (t ∷ ts) go tokens)

  pub elements : (n : ℕ) (t : Ty) (tokens : Tokens) → array_literal one n t tokens ≡ row (array_parts n t) (λ vs tokens. Means (ItemsV vs) tokens) tokens
  elements n t tokens =
      then_alike (behind_mark LeftBracket tokens) _ _ (λ _ tokens. up_to RightBracket (item_types n t) (λ vs tokens. Means (ItemsV vs) tokens) tokens)

  module _ (Is : Ty → Value → Tokens → Tokens → Type 0) (BreaksValue : Ty → Tokens → LiteralKind → ℕ → Type 0)
      (each : (t : Ty) (before : Tokens) → Ruled (one t before) (λ v after. Is t v before after) (BreaksValue t before)) where
    -- the parts are there, and make this value
    abbrev pub Makes : List Part → (Values → Value) → Tokens → Value → Tokens → Type 0
    Makes parts make before w after = (vs : Values) × (make vs ≡ w) × ArePartsAt Is parts vs before after

    row_judged : (parts : List Part) (make : Values → Value) (before : Tokens)
        → Judges (Makes parts make before) (OnePartBreaks Is BreaksValue parts before) (row parts (λ vs tokens. Means (make vs) tokens) before)
    row_judged [] make before = (NoV, refl, refl)
    row_judged (TheMark mark ∷ parts) make before =
        let F : LiteralKind → ℕ → Type 0 = λ kind offset. IsNone (λ (_ : Unit {0}) behind. IsTokenAt (MarkToken mark) before behind) before × IsUnfit before kind offset in
        judges_then (λ _ behind. IsTokenAt (MarkToken mark) before behind) F (Makes (TheMark mark ∷ parts) make before) (OnePartBreaks Is BreaksValue (TheMark mark ∷ parts) before)
        (behind_mark mark before) (λ _ tokens. row parts (λ vs tokens. Means (make vs) tokens) tokens) (mark_ruled mark before).judged
        (λ kind offset f. inl (λ behind h. f.0 tt behind h, f.1))
        (λ _ behind here. judges_more (Makes parts make behind) (Makes (TheMark mark ∷ parts) make before) (OnePartBreaks Is BreaksValue parts behind)
        (OnePartBreaks Is BreaksValue (TheMark mark ∷ parts) before)
        (row parts (λ vs tokens. Means (make vs) tokens) behind) (λ w after (vs, made, there). (vs, made, (behind, here, there))) (λ kind offset f. inr (behind, here, f))
        (row_judged parts make behind))
    row_judged (ValueOf t ∷ parts) make before =
        judges_then (λ v after. Is t v before after) (BreaksValue t before) (Makes (ValueOf t ∷ parts) make before) (OnePartBreaks Is BreaksValue (ValueOf t ∷ parts) before)
        (one t before) (λ v tokens. row parts (λ vs tokens. Means (make (AndV v vs)) tokens) tokens) (each t before).judged
        (λ kind offset f. inl f)
        (λ v behind here. judges_more (Makes parts (λ vs. make (AndV v vs)) behind) (Makes (ValueOf t ∷ parts) make before) (OnePartBreaks Is BreaksValue parts behind)
        (OnePartBreaks Is BreaksValue (ValueOf t ∷ parts) before)
        (row parts (λ vs tokens. Means (make (AndV v vs)) tokens) behind) (λ w after (vs, made, there). (AndV v vs, made, (behind, here, there)))
        (λ kind offset f. inr (behind, (v, here), f)) (row_judged parts (λ vs. make (AndV v vs)) behind))

    row_passes : (parts : List Part) (make : Values → Value) (vs : Values) (before after : Tokens) → ArePartsAt Is parts vs before after
        → row parts (λ vs tokens. Means (make vs) tokens) before ≡ Means (make vs) after
    row_passes [] make NoV before after h = ap (Means (make NoV)) h
    row_passes [] make (AndV v vs) before after h = absurd h
    row_passes (TheMark mark ∷ parts) make vs before after (behind, here, there) =
        then_value (behind_mark mark before) (λ _ tokens. row parts (λ vs tokens. Means (make vs) tokens) tokens) tt behind (mark_passes mark before behind here)
        ∙ row_passes parts make vs behind after there
    row_passes (ValueOf t ∷ parts) make NoV before after h = absurd h
    row_passes (ValueOf t ∷ parts) make (AndV v vs) before after (behind, here, there) =
        then_value (one t before) (λ v tokens. row parts (λ vs tokens. Means (make (AndV v vs)) tokens) tokens) v behind ((each t before).passes v behind here)
        ∙ row_passes parts (λ vs. make (AndV v vs)) vs behind after there

    row_tells : (parts : List Part) (make : Values → Value) (before : Tokens) (kind : LiteralKind) (offset : ℕ) → OnePartBreaks Is BreaksValue parts before kind offset
        → row parts (λ vs tokens. Means (make vs) tokens) before ≡ FaultAt kind offset
    row_tells [] make before kind offset h = absurd h
    row_tells (TheMark mark ∷ parts) make before kind offset (inl f) =
        then_fault (behind_mark mark before) (λ _ tokens. row parts (λ vs tokens. Means (make vs) tokens) tokens) kind offset
        ((mark_ruled mark before).tells kind offset (λ _ behind h. f.0 behind h, f.1))
    row_tells (TheMark mark ∷ parts) make before kind offset (inr (behind, here, f)) =
        then_value (behind_mark mark before) (λ _ tokens. row parts (λ vs tokens. Means (make vs) tokens) tokens) tt behind (mark_passes mark before behind here)
        ∙ row_tells parts make behind kind offset f
    row_tells (ValueOf t ∷ parts) make before kind offset (inl f) =
        then_fault (one t before) (λ v tokens. row parts (λ vs tokens. Means (make (AndV v vs)) tokens) tokens) kind offset ((each t before).tells kind offset f)
    row_tells (ValueOf t ∷ parts) make before kind offset (inr (behind, (v, here), f)) =
        then_value (one t before) (λ v tokens. row parts (λ vs tokens. Means (make (AndV v vs)) tokens) tokens) v behind ((each t before).passes v behind here)
        ∙ row_tells parts (λ vs. make (AndV v vs)) behind kind offset f

    pub row_ruled : (parts : List Part) (make : Values → Value) (before : Tokens)
        → Ruled (row parts (λ vs tokens. Means (make vs) tokens) before) (Makes parts make before) (OnePartBreaks Is BreaksValue parts before)
    row_ruled parts make before = record {
      judged = row_judged parts make before;
      passes = λ w after (vs, made, there). row_passes parts make vs before after there ∙ ap (λ w. Means w after) made;
      tells = row_tells parts make before;
    }
