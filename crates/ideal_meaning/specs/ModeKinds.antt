-- The values that stand for authenticated ones, in the ideal and in the checked mode.
use Rattle.std.specs.Prelude.{Bool, true, false, ◌&&◌, List, [], ◌∷◌}
use Rattle.core_terms.specs.Types.{Ty, UnitTy, BoolTy, IntTy, TextTy, PairTy, NamedTy, AuthTy, VecTy, Table, fields_at, item_types}
use Rattle.core_terms.specs.Values.{Value, UnitV, BoolV, IntV, TextV, PairV, ConV, DigestV, ItemsV, Values, NoV, AndV}
use Rattle.core_terms.specs.Typing.{fields_test}

-- In the ideal mode an authenticated value of a type is a value of the type.
module _ (types : Table) where
  abbrev mutual
    pub ideal_kind : Ty → Value → Bool
    ideal_kind (AuthTy t) v = ideal_kind t v
    ideal_kind UnitTy UnitV = true
    ideal_kind BoolTy (BoolV b) = true
    ideal_kind IntTy (IntV z) = true
    ideal_kind TextTy (TextV bytes) = true
    ideal_kind (PairTy a b) (PairV x y) = ideal_kind a x && ideal_kind b y
    ideal_kind (NamedTy number) (ConV tag vs) = fields_test (fields_at types number tag) (λ ts. ideal_kinds ts vs)
    ideal_kind (VecTy n t) (ItemsV vs) = ideal_kinds (item_types n t) vs
    ideal_kind t v = false

    pub ideal_kinds : List Ty → Values → Bool
    ideal_kinds [] NoV = true
    ideal_kinds (t ∷ ts) (AndV v vs) = ideal_kind t v && ideal_kinds ts vs
    ideal_kinds ts vs = false

-- in the checked mode it is a digest
abbrev pub digest_kind : Ty → Value → Bool
digest_kind t (DigestV bytes) = true
digest_kind t _ = false
