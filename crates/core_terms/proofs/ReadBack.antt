-- The projection of an ideal value is a shallow value, and is read back from its spelling exactly where it is within the limits.
use Rattle.std.proofs.Common.{◌≡◌, ◌⊎◌, inl, inr, ℕ, ◌<◌, ◌^◌, List, [], ◌∷◌, length, Option, Some, unwrap_or, ◌∙◌, arith}
use Rattle.core_terms.specs.Types.{Ty, UnitTy, BoolTy, IntTy, TextTy, PairTy, NamedTy, AuthTy, VecTy, Table, fields_at, item_types, OnFields}
use Rattle.core_terms.specs.Values.{Value, UnitV, BoolV, IntV, TextV, PairV, ConV, ItemsV, Values, NoV, AndV, IsIdeal, AreIdeal, IsShallow, AreShallow, IsWithin, size}
use Rattle.core_terms.specs.Spelling.{spelling, shallow, shallow_all}
use Rattle.core_terms.specs.Reading.{Good, BadAt, read}
use Rattle.core_terms.proofs.Projection.{size_shallow, depth_shallow}
use Rattle.core_terms.proofs.Spelled.{ReadsWhole, reads_whole, length_spelling}

module _ (digest : Ty → List ℕ → List ℕ) (long : (t : Ty) (bytes : List ℕ) → length (digest t bytes) ≡ 32) (types : Table) where
  -- a projection is a shallow value
  mutual
    pub shallow_is : (t : Ty) (v : Value) → IsIdeal types t v → IsShallow types t (shallow digest types t v)
    shallow_is (AuthTy t) v h = long t _
    shallow_is UnitTy UnitV h = h
    shallow_is BoolTy (BoolV b) h = h
    shallow_is IntTy (IntV z) h = h
    shallow_is TextTy (TextV bytes) h = h
    shallow_is (PairTy a b) (PairV x y) h = (shallow_is a x h.0, shallow_is b y h.1)
    shallow_is (NamedTy n) (ConV tag vs) h = shallow_are (fields_at types n tag) vs h
    shallow_is (VecTy n t) (ItemsV vs) h = shallow_are (Some (item_types n t)) vs h
    shallow_is t v h = elim h [ ]

    shallow_are : (o : Option (List Ty)) (vs : Values) → OnFields o (λ ts. AreIdeal types ts vs) → OnFields o (λ ts. AreShallow types ts (shallow_all digest types (unwrap_or o []) vs))
    shallow_are (Some []) NoV h = tt
    shallow_are (Some (t ∷ ts)) (AndV v vs) h = (shallow_is t v h.0, shallow_are (Some ts) vs h.1)
    shallow_are o vs h = elim h [ ]

  -- the spelling of a projection has as many bytes as the value's size says
  pub length_piece : (t : Ty) (v : Value) → IsIdeal types t v → length (spelling (shallow digest types t v)) ≡ size types t v
  length_piece t v h = length_spelling types t (shallow digest types t v) (shallow_is t v h) ∙ size_shallow digest types t v

  module _ (limit : ℕ) where
    within_up : (t : Ty) (v : Value) → IsWithin limit types t (shallow digest types t v) → IsWithin limit types t v
    within_up t v w = record { size_fits = omega (arith, w.size_fits, size_shallow digest types t v); depth_fits = omega (arith, w.depth_fits, depth_shallow digest types t v) }

    within_down : (t : Ty) (v : Value) → IsWithin limit types t v → IsWithin limit types t (shallow digest types t v)
    within_down t v w = record { size_fits = omega (arith, w.size_fits, size_shallow digest types t v); depth_fits = omega (arith, w.depth_fits, depth_shallow digest types t v) }

    pub reads_back : limit < 2 ^ 32 → (t : Ty) (v : Value) → IsIdeal types t v
        → (IsWithin limit types t v × ((place : ℕ) × (read limit types t (spelling (shallow digest types t v)) ≡ Good (shallow digest types t v) [] place)))
        ⊎ ((IsWithin limit types t v → ⊥) × ((place : ℕ) × (read limit types t (spelling (shallow digest types t v)) ≡ BadAt place)))
    reads_back fits t v h = by (reads_whole types limit fits t (shallow digest types t v) (shallow_is t v h))
      where
        by : ReadsWhole types limit fits t (shallow digest types t v)
            → (IsWithin limit types t v × ((place : ℕ) × (read limit types t (spelling (shallow digest types t v)) ≡ Good (shallow digest types t v) [] place)))
            ⊎ ((IsWithin limit types t v → ⊥) × ((place : ℕ) × (read limit types t (spelling (shallow digest types t v)) ≡ BadAt place)))
        by (inl j) = inl (within_up t v j.0, j.1)
        by (inr j) = inr ((λ w. j.0 (within_down t v w)), j.1)
