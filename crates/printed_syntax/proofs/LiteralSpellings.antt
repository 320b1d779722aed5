-- The spelling of what is read of a literal, from part to part.
use Rattle.std.proofs.Common.{◌≡◌, ◌≢◌, ℕ, zero, suc, ◌+◌, ◌-◌, ◌<◌, ◌∙◌, List, [], ◌∷◌, ◌++◌, Some, None, Result, Ok, Err, bytes_eq, option_map, if◌then◌else◌, refl, ap, ap₂, sym, arith, append_assoc, append-nil}
use Rattle.std.specs.List.{position}
use Rattle.core_terms.specs.Types.{Ty, Table, fields_at, item_types}
use Rattle.core_terms.specs.Values.{Value, UnitV, ConV, Values, AndV}
use Rattle.core_terms.specs.Spelling.{spelling, spellings}
use Rattle.core_terms.specs.declared.program.Program.{Program}
use Rattle.core_terms.proofs.Places.{first_place}
use Rattle.lexemes.specs.Readings.{SyntaxFault}
use Rattle.core_terms.specs.declared.fault.Fault.TheVariants.{At, NoMemory}
use Rattle.printed_syntax.specs.declared.fault.LiteralKind.{LiteralKind}
use Rattle.printed_syntax.specs.declared.fault.LiteralKind.TheVariants.{Mismatch}
use Rattle.lexemes.specs.declared.place.Place.{Place}
use Rattle.lexemes.specs.declared.token.Mark.{Mark}
use Rattle.lexemes.specs.declared.token.Mark.TheVariants.{LeftParenthesis, RightParenthesis, Comma}
use Rattle.lexemes.specs.Tokens.{UpperToken, Tokens, Next}
use Rattle.printed_syntax.specs.Literals.{ConstructorNames, LiteralReading, Means, FaultAt, then_means, behind_mark, more_values, values_up_to, fields_literal, number_of_name, constructor_with, constructor_named, constructor_literal}
use Rattle.printed_syntax.specs.LiteralSteps.{ReadsPart, behind_comma, values_from, literal_on, spelled}

-- where each value that may be read goes on as here, so does what is read, spelled
spelled_then : {A B : Type 0} (spell : A → List ℕ) (all : B → List ℕ) (before bytes : List ℕ) (reading : LiteralReading A) (go : A → Tokens → LiteralReading B)
    (on : List ℕ → Tokens → LiteralReading (List ℕ)) → ((v : A) (rest : Tokens) → spelled all before (go v rest) ≡ on (bytes ++ spell v) rest)
    → spelled all before (then_means reading go) ≡ then_means (spelled spell bytes reading) on
spelled_then spell all before bytes (Means v rest) go on h = h v rest
spelled_then spell all before bytes (FaultAt kind offset) go on h = refl

-- the same behind a mark, which is spelled by nothing
spelled_mark : {A B : Type 0} (all : B → List ℕ) (before : List ℕ) (reading : LiteralReading A) (go : A → Tokens → LiteralReading B)
    (on : A → Tokens → LiteralReading (List ℕ)) → ((v : A) (rest : Tokens) → spelled all before (go v rest) ≡ on v rest)
    → spelled all before (then_means reading go) ≡ then_means reading on
spelled_mark all before (Means v rest) go on h = h v rest
spelled_mark all before (FaultAt kind offset) go on h = refl

-- values behind a first one
and_spelled : (before : List ℕ) (v : Value) (reading : LiteralReading Values)
    → spelled spellings before (then_means reading (λ vs tokens. Means (AndV v vs) tokens)) ≡ spelled spellings (before ++ spelling v) reading
and_spelled before v (Means vs rest) = ap (λ bytes. Means bytes rest) (sym (append_assoc before (spelling v) (spellings vs)))
and_spelled before v (FaultAt kind offset) = refl

-- the place of a name is that where it stands first
number_position : (names : List (List ℕ)) (name : List ℕ) → position (λ other. bytes_eq other name) names ≡ number_of_name names name
number_position [] name = refl
number_position (other ∷ others) name =
    first_place (λ other. bytes_eq other name) other others ∙ ap (λ place. if bytes_eq other name then Some 0 else option_map suc place) (number_position others name)

-- values in a row, up to the mark that ends them
module _ (ending : Mark) (one : Ty → Tokens → LiteralReading Value) where
  abbrev next_spelling : Ty → List Ty → List ℕ → Tokens → LiteralReading (List ℕ)
  next_spelling t ts before tokens =
      then_means (spelled spelling before (one t tokens)) (λ bytes tokens. spelled spellings bytes (more_values ending one ts tokens))

  next_spelled : (t : Ty) (ts : List Ty) (before : List ℕ) (tokens : Tokens)
      → spelled spellings before (values_up_to ending one (t ∷ ts) tokens) ≡ next_spelling t ts before tokens
  next_spelled t ts before tokens = spelled_then spelling spellings before before (one t tokens) _ _ (λ v tokens. and_spelled before v (more_values ending one ts tokens))

  from_spelled : (i : ℕ) (t : Ty) (ts : List Ty) (before : List ℕ) (tokens : Tokens)
      → spelled spellings before (values_from i ending one (t ∷ ts) tokens) ≡ then_means (behind_comma i tokens) (λ _ tokens. next_spelling t ts before tokens)
  from_spelled zero t ts before tokens = next_spelled t ts before tokens
  from_spelled (suc i) t ts before tokens = spelled_mark spellings before (behind_mark Comma tokens) _ _ (λ _ tokens. next_spelled t ts before tokens)

  last_spelled : (i : ℕ) (before : List ℕ) (tokens : Tokens)
      → spelled spellings before (values_from i ending one [] tokens) ≡ then_means (behind_mark ending tokens) (λ _ tokens. Means before tokens)
  last_spelled zero before tokens =
      spelled_mark spellings before (behind_mark ending tokens) _ _ (λ _ tokens. ap (λ bytes. Means bytes tokens) (append-nil before))
  last_spelled (suc i) before tokens =
      spelled_mark spellings before (behind_mark ending tokens) _ _ (λ _ tokens. ap (λ bytes. Means bytes tokens) (append-nil before))

  -- the first of them, behind what stands before it
  pub value_read : (i : ℕ) (t : Ty) (ts : List Ty) (before bytes : List ℕ) (tokens behind rest : Tokens) → behind_comma i tokens ≡ Means tt behind
      → spelled spelling before (one t behind) ≡ Means bytes rest
      → spelled spellings before (values_from i ending one (t ∷ ts) tokens) ≡ spelled spellings bytes (more_values ending one ts rest)
  value_read i t ts before bytes tokens behind rest h e =
      from_spelled i t ts before tokens
      ∙ ap (λ reading. then_means reading (λ _ tokens. next_spelling t ts before tokens)) h
      ∙ ap (λ reading. then_means reading (λ bytes tokens. spelled spellings bytes (more_values ending one ts tokens))) e

  -- a fault at what stands before it, and one in it
  pub no_comma : (i : ℕ) (t : Ty) (ts : List Ty) (before after : List ℕ) (tokens rest : Tokens) (fault : SyntaxFault)
      → ReadsPart (λ (_ : Unit {0}). tt) (behind_comma i tokens) (Err fault) rest
      → ReadsPart (λ (_ : Unit {0}). after) (spelled spellings before (values_from i ending one (t ∷ ts) tokens)) (Err fault) rest
  no_comma i t ts before after tokens rest (At kind at) h =
      from_spelled i t ts before tokens ∙ ap (λ reading. then_means reading (λ _ tokens. next_spelling t ts before tokens)) h
  no_comma i t ts before after tokens rest NoMemory h = tt

  pub no_value : (i : ℕ) (t : Ty) (ts : List Ty) (before after : List ℕ) (tokens behind rest : Tokens) (fault : SyntaxFault) → behind_comma i tokens ≡ Means tt behind
      → ReadsPart (λ (_ : Unit {0}). after) (spelled spelling before (one t behind)) (Err fault) rest
      → ReadsPart (λ (_ : Unit {0}). after) (spelled spellings before (values_from i ending one (t ∷ ts) tokens)) (Err fault) rest
  no_value i t ts before after tokens behind rest (At kind at) h e =
      from_spelled i t ts before tokens
      ∙ ap (λ reading. then_means reading (λ _ tokens. next_spelling t ts before tokens)) h
      ∙ ap (λ reading. then_means reading (λ bytes tokens. spelled spellings bytes (more_values ending one ts tokens))) e
  no_value i t ts before after tokens behind rest NoMemory h e = tt

  -- the mark that ends them
  pub last_read : (i : ℕ) (before : List ℕ) (tokens rest : Tokens) (result : Result (Unit {0}) SyntaxFault) → ReadsPart (λ (_ : Unit {0}). tt) (behind_mark ending tokens) result rest
      → ReadsPart (λ (_ : Unit {0}). before) (spelled spellings before (values_from i ending one [] tokens)) result rest
  last_read i before tokens rest (Ok u) h = last_spelled i before tokens ∙ ap (λ reading. then_means reading (λ _ tokens. Means before tokens)) h
  last_read i before tokens rest (Err (At kind at)) h = last_spelled i before tokens ∙ ap (λ reading. then_means reading (λ _ tokens. Means before tokens)) h
  last_read i before tokens rest (Err NoMemory) h = tt

module _ (one : Ty → Tokens → LiteralReading Value) where
  -- fields, of which the first stands behind a parenthesis
  pub none_spelled : (before : List ℕ) (tokens : Tokens) → spelled spellings before (fields_literal one [] tokens) ≡ Means before tokens
  none_spelled before tokens = ap (λ bytes. Means bytes tokens) (append-nil before)

  pub fields_read : (t : Ty) (ts : List Ty) (before bytes : List ℕ) (tokens behind rest : Tokens) → behind_mark LeftParenthesis tokens ≡ Means tt behind
      → spelled spelling before (one t behind) ≡ Means bytes rest
      → spelled spellings before (fields_literal one (t ∷ ts) tokens) ≡ spelled spellings bytes (more_values RightParenthesis one ts rest)
  fields_read t ts before bytes tokens behind rest h e =
      ap (λ reading. spelled spellings before (then_means reading (λ _ tokens. values_up_to RightParenthesis one (t ∷ ts) tokens))) h
      ∙ value_read RightParenthesis one zero t ts before bytes behind behind rest refl e

  -- the fields of a constructor, behind its tag
  tag_spelled : (before : List ℕ) (tag : ℕ) (reading : LiteralReading Values)
      → spelled spelling before (then_means reading (λ vs tokens. Means (ConV tag vs) tokens)) ≡ spelled spellings (before ++ tag ∷ []) reading
  tag_spelled before tag (Means vs rest) = ap (λ bytes. Means bytes rest) (sym (append_assoc before (tag ∷ []) (spellings vs)))
  tag_spelled before tag (FaultAt kind offset) = refl

  -- a constructor that is found by its name, and one that isn't
  pub constructor_spelled : (types : Table) (names : ConstructorNames) (number tag : ℕ) (ts : List Ty) (before name : List ℕ) (at : Place) (rest : Tokens)
      → Some tag ≡ position (λ other. bytes_eq other name) (names number) → fields_at types number tag ≡ Some ts
      → spelled spelling before (constructor_literal types names one number (Next at (UpperToken name) rest)) ≡ spelled spellings (before ++ tag ∷ []) (fields_literal one ts rest)
  constructor_spelled types names number tag ts before name at rest e fields =
      ap (λ found. spelled spelling before (constructor_named types names one at.offset number found rest)) (sym (e ∙ number_position (names number) name))
      ∙ ap (λ found. spelled spelling before (constructor_with one at.offset tag found rest)) fields
      ∙ tag_spelled before tag (fields_literal one ts rest)

  pub no_constructor_spelled : (types : Table) (names : ConstructorNames) (number : ℕ) (before name : List ℕ) (at : Place) (rest : Tokens)
      → None ≡ position (λ other. bytes_eq other name) (names number)
      → spelled spelling before (constructor_literal types names one number (Next at (UpperToken name) rest)) ≡ FaultAt Mismatch at.offset
  no_constructor_spelled types names number before name at rest e =
      ap (λ found. spelled spelling before (constructor_named types names one at.offset number found rest)) (sym (e ∙ number_position (names number) name))

-- what is spelled by nothing, and what is refused
pub unit_spelled : (before : List ℕ) (reading : LiteralReading Value) (result : Result (Unit {0}) SyntaxFault) (rest : Tokens)
    → ReadsPart (λ (_ : Unit {0}). UnitV) reading result rest → ReadsPart (λ (_ : Unit {0}). before) (spelled spelling before reading) result rest
unit_spelled before reading (Ok u) rest e = ap (spelled spelling before) e ∙ ap (λ bytes. Means bytes rest) (append-nil before)
unit_spelled before reading (Err (At kind at)) rest e = ap (spelled spelling before) e
unit_spelled before reading (Err NoMemory) rest e = tt

-- of so many elements one is left, and others
pub one_left : (n i : ℕ) (t : Ty) → i < n → item_types (n - i) t ≡ t ∷ item_types (n - (i + 1)) t
one_left n i t h = ap (λ left. item_types left t) (one_less n i h)
  where
    one_less : (n i : ℕ) → i < n → n - i ≡ suc (n - (i + 1))
    one_less n i h = omega arith

-- a level that is there has others from there on, one less
level_is : (levels : ℕ) → levels ≢ 0 → levels ≡ suc (levels - 1)
level_is zero some = absurd (some refl)
level_is (suc n) some = ap suc (less_one n)
  where
    less_one : (n : ℕ) → n ≡ suc n - 1
    less_one n = omega arith

-- a level that is there, at a type known by its form
pub at_level : (program : Program) (levels : ℕ) (t u : Ty) (tokens : Tokens) → levels ≢ 0 → u ≡ t
    → literal_on program (suc (levels - 1)) u tokens ≡ literal_on program levels t tokens
at_level program levels t u tokens some same = ap₂ (λ n t. literal_on program n t tokens) (sym (level_is levels some)) same

-- the spelling that was read is that of a value that was read
pub spelled_found : (before after : List ℕ) (reading : LiteralReading Value) (rest : Tokens) → spelled spelling before reading ≡ Means after rest
    → (v : Value) × (reading ≡ Means v rest) × (before ++ spelling v ≡ after)
spelled_found before after (Means v behind) rest e =
    let same : behind ≡ rest = cc in
    let bytes : before ++ spelling v ≡ after = cc in
    (v, ap (Means v) same, bytes)
spelled_found before after (FaultAt kind offset) rest e = absurd (cc)

pub spelled_fault : (before : List ℕ) (reading : LiteralReading Value) (kind : LiteralKind) (offset : ℕ) → spelled spelling before reading ≡ FaultAt kind offset
    → reading ≡ FaultAt kind offset
spelled_fault before (Means v behind) kind offset e = absurd (cc)
spelled_fault before (FaultAt k o) kind offset e =
    let kinds : k ≡ kind = cc in
    let offsets : o ≡ offset = cc in
    ap (λ k. FaultAt k o) kinds ∙ ap (FaultAt kind) offsets
