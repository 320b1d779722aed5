-- Projections: their size and depth, their shape, and how their spelling is read back.
use Rattle.std.proofs.Common.{◌≡◌, ℕ, ◌+◌, max, List, [], ◌∷◌, Option, Some, unwrap_or, refl, ap, ap₂}
use Rattle.core_terms.specs.Types.{Ty, PairTy, NamedTy, VecTy, Table, fields_at, item_types}
use Rattle.core_terms.specs.Values.{Value, PairV, ConV, ItemsV, Values, AndV, size, sizes, depth, depths}
use Rattle.core_terms.specs.Spelling.{shallow, shallow_all}

module _ (digest : Ty → List ℕ → List ℕ) (types : Table) where
  mutual
    pub size_shallow : (t : Ty) (v : Value) → size types t (shallow digest types t v) ≡ size types t v
    size_shallow (PairTy a b) (PairV x y) = ap₂ (λ m n. m + n) (size_shallow a x) (size_shallow b y)
    size_shallow (NamedTy n) (ConV tag vs) = ap (λ m. 1 + m) (sizes_shallow (fields_at types n tag) vs)
    size_shallow (VecTy n t) (ItemsV vs) = sizes_shallow (Some (item_types n t)) vs
    size_shallow t v = refl

    sizes_shallow : (ts : Option (List Ty)) (vs : Values) → sizes types (unwrap_or ts []) (shallow_all digest types (unwrap_or ts []) vs) ≡ sizes types (unwrap_or ts []) vs
    sizes_shallow (Some (t ∷ ts)) (AndV v vs) = ap₂ (λ m n. m + n) (size_shallow t v) (sizes_shallow (Some ts) vs)
    sizes_shallow ts vs = refl

  mutual
    pub depth_shallow : (t : Ty) (v : Value) → depth types t (shallow digest types t v) ≡ depth types t v
    depth_shallow (PairTy a b) (PairV x y) = ap₂ (λ m n. 1 + max m n) (depth_shallow a x) (depth_shallow b y)
    depth_shallow (NamedTy n) (ConV tag vs) = ap (λ m. 1 + m) (depths_shallow (fields_at types n tag) vs)
    depth_shallow (VecTy n t) (ItemsV vs) = ap (λ m. 1 + m) (depths_shallow (Some (item_types n t)) vs)
    depth_shallow t v = refl

    depths_shallow : (ts : Option (List Ty)) (vs : Values) → depths types (unwrap_or ts []) (shallow_all digest types (unwrap_or ts []) vs) ≡ depths types (unwrap_or ts []) vs
    depths_shallow (Some (t ∷ ts)) (AndV v vs) = ap₂ (λ m n. max m n) (depth_shallow t v) (depths_shallow (Some ts) vs)
    depths_shallow ts vs = refl
