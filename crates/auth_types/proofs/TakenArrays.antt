-- An operation on arrays is taken exactly where the rule of operations takes its first operand, and what the rule says of it.
use Rattle.std.proofs.Common.{◌≡◌, ℕ, Bool, true, false, List, [], ◌∷◌, ◌⊎◌, inl, inr, length, refl, sym, ap, subst}
use Rattle.core_terms.specs.ProgramFormats.{arrays_of}
use Rattle.core_terms.specs.Terms.{Operation, VecFill, VecGet, VecPut, operand_types}
use Rattle.core_terms.specs.TypingRules.{is_operation}
use Rattle.core_terms.specs.Types.{Ty, UnitTy, BoolTy, IntTy, TextTy, PairTy, NamedTy, AuthTy, VecTy}
use Rattle.core_terms.specs.declared.format.Format.{Format}
use Rattle.core_terms.proofs.SameTypes.{second_of}
use Rattle.lexemes.specs.declared.place.Place.{Place}
use Rattle.auth_syntax.specs.Nesting.{others_of}
use Rattle.auth_syntax.specs.Syntax.{ArrayOperation, FillOperation, GetOperation, PutOperation}
use Rattle.declared_types.specs.Checking.{Checking, FaultAt, unless_fault}
use Rattle.declared_types.specs.WrittenTypes.{may_have}
use Rattle.declared_types.specs.declared.fault.TypeKind.TheVariants.{NotVec}
use Rattle.auth_types.specs.Bodies.{Taken, array_at, may_begin, taken, taken_by}
use Rattle.auth_types.specs.TypingRules.{TakesFirst, Fills, Gets, Puts}

module _ {format : Format} where
  -- what is taken by the rule is taken by the checker
  pub takes_is : {operation : ArrayOperation} {t : Ty} {op : Operation} {ts : List Ty} → (at : Place) → TakesFirst format operation t op ts
      → taken_by format operation at t ≡ taken op ts
  takes_is at (Fills may) = refl
  takes_is at (Gets {n = n} {t = t} may) = ap (λ b. unless_fault b NotVec at (taken (VecGet n t) (IntTy ∷ []))) may
  takes_is at (Puts {n = n} {t = t} may) = ap (λ b. unless_fault b NotVec at (taken (VecPut n t) (IntTy ∷ t ∷ []))) may

  -- a fill is of an array that the program may have
  pub takes_begin : {operation : ArrayOperation} {t : Ty} {op : Operation} {ts : List Ty} → TakesFirst format operation t op ts → may_begin format operation ≡ true
  takes_begin (Fills may) = may
  takes_begin (Gets may) = refl
  takes_begin (Puts may) = refl

  -- the operands of what is taken: the first one's type and the others', as many as the operation wants
  pub takes_operands : {operation : ArrayOperation} {t : Ty} {op : Operation} {ts : List Ty} → TakesFirst format operation t op ts → operand_types op ≡ t ∷ ts
  takes_operands (Fills may) = refl
  takes_operands (Gets may) = refl
  takes_operands (Puts may) = refl

  pub takes_count : {operation : ArrayOperation} {t : Ty} {op : Operation} {ts : List Ty} → TakesFirst format operation t op ts → length ts ≡ others_of operation
  takes_count (Fills may) = refl
  takes_count (Gets may) = refl
  takes_count (Puts may) = refl

  -- its array has as many elements as one may have
  pub takes_operation : {operation : ArrayOperation} {t : Ty} {op : Operation} {ts : List Ty} → TakesFirst format operation t op ts → is_operation op ≡ true
  takes_operation (Fills may) = second_of (arrays_of format) _ may
  takes_operation (Gets may) = second_of (arrays_of format) _ may
  takes_operation (Puts may) = second_of (arrays_of format) _ may

module _ (format : Format) where
  -- a type of arrays that the program may have
  abbrev IsArray : Ty → Type 0
  IsArray t = (n : ℕ) × (item : Ty) × (t ≡ VecTy n item) × (may_have format n ≡ true)

  got_array : {t : Ty} {op : Operation} {ts : List Ty} → TakesFirst format GetOperation t op ts → IsArray t
  got_array (Gets {n = n} {t = item} may) = (n, item, refl, may)

  put_array : {t : Ty} {op : Operation} {ts : List Ty} → TakesFirst format PutOperation t op ts → IsArray t
  put_array (Puts {n = n} {t = item} may) = (n, item, refl, may)

  -- what is found of a type: one of arrays, of which something is made; or another one, which is refused
  abbrev IsFound : Place → Ty → (ℕ → Ty → Checking Taken) → Type 0
  IsFound at t make = ((n : ℕ) × (item : Ty) × (t ≡ VecTy n item) × (may_have format n ≡ true) × (array_at format at t make ≡ make n item))
      ⊎ ((IsArray t → ⊥) × (array_at format at t make ≡ FaultAt NotVec at))

  array_found : (at : Place) (t : Ty) (make : ℕ → Ty → Checking Taken) → IsFound at t make
  array_found at (VecTy n item) make = by (may_have format n) refl
    where
      by : (b : Bool) → may_have format n ≡ b → IsFound at (VecTy n item) make
      by true is = inl (n, item, refl, is, ap (λ b. unless_fault b NotVec at (make n item)) is)
      by false is = inr (
        λ (m, other, same, may). let count : n ≡ m = cc in absurd (let both : true ≡ false = cc in cc),
        ap (λ b. unless_fault b NotVec at (make n item)) is,
      )
  array_found at UnitTy make = inr (λ (n, item, same, may). absurd (cc), refl)
  array_found at BoolTy make = inr (λ (n, item, same, may). absurd (cc), refl)
  array_found at IntTy make = inr (λ (n, item, same, may). absurd (cc), refl)
  array_found at TextTy make = inr (λ (n, item, same, may). absurd (cc), refl)
  array_found at (PairTy a b) make = inr (λ (n, item, same, may). absurd (cc), refl)
  array_found at (NamedTy number) make = inr (λ (n, item, same, may). absurd (cc), refl)
  array_found at (AuthTy t) make = inr (λ (n, item, same, may). absurd (cc), refl)

  -- by the rule no operation takes a first operand of this type
  abbrev pub TakesNone : ArrayOperation → Ty → Type 0
  TakesNone operation t = (op : Operation) (ts : List Ty) → TakesFirst format operation t op ts → ⊥

  abbrev pub IsRuled : ArrayOperation → Place → Ty → Type 0
  IsRuled operation at t =
      ((op : Operation) × (ts : List Ty) × TakesFirst format operation t op ts × (taken_by format operation at t ≡ taken op ts))
      ⊎ (TakesNone operation t × (taken_by format operation at t ≡ FaultAt NotVec at))

  pub taken_ruled : (operation : ArrayOperation) (at : Place) (t : Ty) → may_begin format operation ≡ true → IsRuled operation at t
  taken_ruled (FillOperation n) at t may = inl (VecFill n t, [], Fills may, refl)
  taken_ruled GetOperation at t may = by (array_found at t (λ n item. taken (VecGet n item) (IntTy ∷ [])))
    where
      by : IsFound at t (λ n item. taken (VecGet n item) (IntTy ∷ [])) → IsRuled GetOperation at t
      by (inl (n, item, same, may, is)) =
          inl (VecGet n item, IntTy ∷ [], subst (λ t. TakesFirst format GetOperation t (VecGet n item) (IntTy ∷ [])) (sym same) (Gets may), is)
      by (inr (never, is)) = inr (λ op ts takes. never (got_array takes), is)
  taken_ruled PutOperation at t may = by (array_found at t (λ n item. taken (VecPut n item) (IntTy ∷ item ∷ [])))
    where
      by : IsFound at t (λ n item. taken (VecPut n item) (IntTy ∷ item ∷ [])) → IsRuled PutOperation at t
      by (inl (n, item, same, may, is)) =
          inl (VecPut n item, IntTy ∷ item ∷ [], subst (λ t. TakesFirst format PutOperation t (VecPut n item) (IntTy ∷ item ∷ [])) (sym same) (Puts may), is)
      by (inr (never, is)) = inr (λ op ts takes. never (put_array takes), is)

  -- what none takes is refused
  pub none_taken : (operation : ArrayOperation) (at : Place) (t : Ty) → may_begin format operation ≡ true → TakesNone operation t
      → taken_by format operation at t ≡ FaultAt NotVec at
  none_taken operation at t may none = by (taken_ruled operation at t may)
    where
      by : IsRuled operation at t → taken_by format operation at t ≡ FaultAt NotVec at
      by (inl (op, ts, takes, is)) = absurd (none op ts takes)
      by (inr (never, is)) = is
