-- Accepted code is never stuck: what it is for a value to be of a type in a mode, and for a mode to keep that.
use Rattle.std.specs.Prelude.{◌≡◌, ℕ, Bool, true, List, [], ◌∷◌}
use Rattle.core_terms.specs.Types.{Ty, UnitTy, BoolTy, IntTy, TextTy, PairTy, NamedTy, AuthTy, VecTy, Table, fields_at, item_types, OnFields}
use Rattle.core_terms.specs.Values.{Value, UnitV, BoolV, IntV, TextV, PairV, ConV, ItemsV, Values, NoV, AndV}
use Rattle.core_terms.specs.Bodies.{Body, code_at}
use Rattle.core_terms.specs.Accepted.{IsAccepted}
use Rattle.ideal_meaning.specs.Run.{Run, Gives, Ends, Mode, with_fuel}
use Rattle.ideal_meaning.specs.Execution.{Coded, Ran, Stuck, call_code_from}

module _ (types : Table) (A : Ty → Value → Bool) where
  -- The value is of this type, where A tells which values stand for authenticated ones of a type: digests in the checked mode, the
  -- values themselves in the ideal one.
  abbrev mutual
    pub IsOf : Ty → Value → Type 0
    IsOf (AuthTy t) v = A t v ≡ true
    IsOf UnitTy UnitV = Unit {0}
    IsOf BoolTy (BoolV b) = Unit {0}
    IsOf IntTy (IntV z) = Unit {0}
    IsOf TextTy (TextV bytes) = Unit {0}
    IsOf (PairTy a b) (PairV x y) = IsOf a x × IsOf b y
    IsOf (NamedTy number) (ConV tag vs) = OnFields (fields_at types number tag) (λ ts. AreOf ts vs)
    IsOf (VecTy n t) (ItemsV vs) = AreOf (item_types n t) vs
    IsOf t v = ⊥

    pub AreOf : List Ty → Values → Type 0
    AreOf [] NoV = Unit {0}
    AreOf (t ∷ ts) (AndV v vs) = IsOf t v × AreOf ts vs
    AreOf ts vs = ⊥

-- what a run gives has a property
abbrev pub Holds : {C W A : Type 0} → (A → Type 0) → Run C W A → Type 0
Holds Q (Gives a k w) = Q a
Holds Q (Ends stop k w) = Unit {0}

-- The laws of a mode. What `auth` gives is one of the values of A, and what `unauth` opens, if it opens, has the type.
pub record IsMode {C W : Type 0} (types : Table) (A : Ty → Value → Bool) (mode : Mode C W) : Type 0 where
  pub auths : (t : Ty) (v : Value) → IsOf types A t v → A t (mode.auth t v) ≡ true
  pub opens : (t : Ty) (v : Value) (k : ℕ) (w : W) → A t v ≡ true → Holds (IsOf types A t) (with_fuel k (mode.unauth t v w))

-- it ends as a run, and what it gives has the property
abbrev pub Goes : {C W : Type 0} → (Value → Type 0) → Coded C W → Type 0
Goes Q (Ran r) = Holds Q r
Goes Q Stuck = ⊥

-- Accepted code is never stuck, in any mode. A mode has its laws for A, which tells the values of authenticated types in it; then a
-- function that is called on values of its parameters' types gives, where it gives anything, a value of its result type.
abbrev pub NeverStuck : {C W : Type 0} → Mode C W → (Ty → Value → Bool) → Type 0
NeverStuck {W = W} mode A = (B : Body) → IsAccepted B → IsMode B.types A mode
    → (f : ℕ) (args : Values) (k : ℕ) (w : W) → AreOf B.types A (code_at B f).parameters args
    → Goes (IsOf B.types A (code_at B f).result) (call_code_from B mode f args k w)
