-- The sizes and depths of values in a row, one more at a time.
use Rattle.std.proofs.Common.{◌≡◌, ℕ, zero, suc, ◌+◌, ◌<◌, ◌≤◌, max, List, [], ◌∷◌, length, take, slice_index_or, slice_get, Option, Some, None, refl, sym, ap, ap₂, subst, ◌∙◌, arith}
use Rattle.std.specs.Prelude.{option_map}
use Rattle.std.proofs.lemmas.Option.{slice_get-map}
use Rattle.core_terms.specs.ProgramTrees.{types_at}
use Rattle.core_terms.specs.TypeTables.{type_at}
use Rattle.core_terms.specs.declared.types.TyId.{TyId}
use Rattle.core_terms.specs.Types.{Ty, Table, item_types}
use Rattle.core_terms.specs.Values.{Value, NoV, size, sizes, depth, depths}
use Rattle.reference_run.specs.Measured.{IsMeasured}
use Rattle.reference_run.specs.declared.measures.Measures.{Measures}
use Rattle.reference_run.specs.PlainValues.{plain_of, plains_of}
use Rattle.reference_run.specs.declared.values.Plain.{Plain}

nothing : (n : ℕ) → n + 0 ≡ n
nothing n = omega arith

least : (n : ℕ) → max n 0 ≡ n
least n = omega arith

module _ (types : Table) where
  -- the size and the depth at a place of the row, which has a type or none
  abbrev pub size_at : Option Ty → Value → ℕ
  size_at (Some t) v = size types t v
  size_at None v = 0

  abbrev pub depth_at : Option Ty → Value → ℕ
  depth_at (Some t) v = depth types t v
  depth_at None v = 0

  sizes_none : (ts : List Ty) → sizes types ts NoV ≡ 0
  sizes_none [] = refl
  sizes_none (t ∷ ts) = refl

  depths_none : (ts : List Ty) → depths types ts NoV ≡ 0
  depths_none [] = refl
  depths_none (t ∷ ts) = refl

  sizes_next : (ts : List Ty) (vs : List Plain) (i : ℕ) (d : Plain) → i < length vs
      → sizes types ts (plains_of (take (suc i) vs)) ≡ sizes types ts (plains_of (take i vs)) + size_at (slice_get ts i) (plain_of (slice_index_or vs i d))
  sizes_next ts [] i d h = absurd (omega arith)
  sizes_next [] (v ∷ vs) zero d h = omega arith
  sizes_next [] (v ∷ vs) (suc i) d h = omega arith
  sizes_next (t ∷ ts) (v ∷ vs) zero d h = omega (arith, sizes_none ts)
  sizes_next (t ∷ ts) (v ∷ vs) (suc i) d h = omega (arith, sizes_next ts vs i d (omega arith))

  depths_next : (ts : List Ty) (vs : List Plain) (i : ℕ) (d : Plain) → i < length vs
      → depths types ts (plains_of (take (suc i) vs)) ≡ max (depths types ts (plains_of (take i vs))) (depth_at (slice_get ts i) (plain_of (slice_index_or vs i d)))
  depths_next ts [] i d h = absurd (omega arith)
  depths_next [] (v ∷ vs) zero d h = omega arith
  depths_next [] (v ∷ vs) (suc i) d h = omega arith
  depths_next (t ∷ ts) (v ∷ vs) zero d h = omega (arith, depths_none ts)
  depths_next (t ∷ ts) (v ∷ vs) (suc i) d h = omega (arith, depths_next ts vs i d (omega arith))

  pub sizes_more : (ts : List Ty) (vs : List Plain) (i : ℕ) (d : Plain) → i < length vs
      → sizes types ts (plains_of (take (i + 1) vs)) ≡ sizes types ts (plains_of (take i vs)) + size_at (slice_get ts i) (plain_of (slice_index_or vs i d))
  sizes_more ts vs i d h =
      let e : i + 1 ≡ suc i = omega arith in
      ap (λ n. sizes types ts (plains_of (take n vs))) e ∙ sizes_next ts vs i d h

  pub depths_more : (ts : List Ty) (vs : List Plain) (i : ℕ) (d : Plain) → i < length vs
      → depths types ts (plains_of (take (i + 1) vs)) ≡ max (depths types ts (plains_of (take i vs))) (depth_at (slice_get ts i) (plain_of (slice_index_or vs i d)))
  depths_more ts vs i d h =
      let e : i + 1 ≡ suc i = omega arith in
      ap (λ n. depths types ts (plains_of (take n vs))) e ∙ depths_next ts vs i d h

  -- the measures of one value more, at a place that has a type and at one that has none
  pub next_measures : (ts : List Ty) (vs : List Plain) (i : ℕ) (v : Plain) (t : Ty) (row : Measures) → i < length vs → v ≡ slice_index_or vs i v → slice_get ts i ≡ Some t
      → IsMeasured row (sizes types ts (plains_of (take i vs)) + size types t (plain_of v)) (max (depths types ts (plains_of (take i vs))) (depth types t (plain_of v)))
      → IsMeasured row (sizes types ts (plains_of (take (i + 1) vs))) (depths types ts (plains_of (take (i + 1) vs)))
  next_measures ts vs i v t row inside is at h =
      let s : sizes types ts (plains_of (take (i + 1) vs)) ≡ sizes types ts (plains_of (take i vs)) + size types t (plain_of v) =
      sizes_more ts vs i v inside ∙ ap₂ (λ o w. sizes types ts (plains_of (take i vs)) + size_at o (plain_of w)) at (sym is) in
      let d : depths types ts (plains_of (take (i + 1) vs)) ≡ max (depths types ts (plains_of (take i vs))) (depth types t (plain_of v)) =
      depths_more ts vs i v inside ∙ ap₂ (λ o w. max (depths types ts (plains_of (take i vs))) (depth_at o (plain_of w))) at (sym is) in
      subst (λ n. IsMeasured row n (depths types ts (plains_of (take (i + 1) vs)))) (sym s) (subst
      (λ n. IsMeasured row (sizes types ts (plains_of (take i vs)) + size types t (plain_of v)) n) (sym d) h)

  pub same_measures : (ts : List Ty) (vs : List Plain) (i : ℕ) (v : Plain) (row : Measures) → i < length vs → slice_get ts i ≡ None
      → IsMeasured row (sizes types ts (plains_of (take i vs))) (depths types ts (plains_of (take i vs)))
      → IsMeasured row (sizes types ts (plains_of (take (i + 1) vs))) (depths types ts (plains_of (take (i + 1) vs)))
  same_measures ts vs i v row inside at h =
      let s : sizes types ts (plains_of (take i vs)) ≡ sizes types ts (plains_of (take (i + 1) vs)) =
      sym (sizes_more ts vs i v inside ∙ ap (λ o. sizes types ts (plains_of (take i vs)) + size_at o (plain_of (slice_index_or vs i v))) at ∙ nothing (sizes types ts (plains_of (take i vs)))) in
      let d : depths types ts (plains_of (take i vs)) ≡ depths types ts (plains_of (take (i + 1) vs)) =
      sym (depths_more ts vs i v inside ∙ ap (λ o. max (depths types ts (plains_of (take i vs))) (depth_at o (plain_of (slice_index_or vs i v)))) at
      ∙ least (depths types ts (plains_of (take i vs)))) in
      subst (λ n. IsMeasured row n (depths types ts (plains_of (take (i + 1) vs)))) s (subst (λ n. IsMeasured row (sizes types ts (plains_of (take i vs))) n) d h)

-- the type at a place of an array, which has so many
pub no_item_type : (n i : ℕ) (t : Ty) → n ≤ i → slice_get (item_types n t) i ≡ None
no_item_type zero i t h = refl
no_item_type (suc n) zero t h = absurd (omega (arith, h))
no_item_type (suc n) (suc i) t h = let k : n ≤ i = omega (arith, h) in no_item_type n i t k

-- the type at a place
pub type_there : (types : List Ty) (ids : List TyId) (i : ℕ) (ty : TyId) → slice_get ids i ≡ Some ty → slice_get (types_at types ids) i ≡ Some (type_at types ty)
type_there types ids i ty e = slice_get-map (type_at types) ids i ∙ ap (option_map (type_at types)) e

pub type_past : (types : List Ty) (ids : List TyId) (i : ℕ) → slice_get ids i ≡ None → slice_get (types_at types ids) i ≡ None
type_past types ids i e = slice_get-map (type_at types) ids i ∙ ap (option_map (type_at types)) e
