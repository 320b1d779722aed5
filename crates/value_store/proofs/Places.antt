-- Lists that others are put behind, or that are cut, and what is read of them.
use Rattle.std.proofs.Common.{◌≡◌, ◌⊎◌, inl, inr, ℕ, zero, suc, ◌+◌, ◌-◌, ◌<◌, ◌≤◌, List, [], ◌∷◌, ◌++◌, length, take, drop, map, Some, None, slice_get, refl, sym, ap, ap₂, ◌∙◌, arith}
use Rattle.std.specs.Prelude.{slice_range}
use Rattle.std.proofs.lemmas.Option.{slice_get_past}
use Rattle.std.proofs.lemmas.List.{length-take, take-map, drop-map, drop-take}
use Rattle.std.proofs.Math.Seq.{drop-append-add}
use Rattle.value_store.proofs.NodeLists.{slice_get_take}

pub none_is : {X : Type 0} (x : X) → None ≡ Some x → ⊥
none_is x h = cc

pub some_is : {X : Type 0} (x y : X) → Some x ≡ Some y → x ≡ y
some_is x y h = cc

module _ {X : Type 0} where
  -- an element of two lists is one of the first, or one of the second
  pub append_at : (xs ys : List X) (i : ℕ) (y : X) → slice_get (xs ++ ys) i ≡ Some y
      → ((slice_get xs i ≡ Some y) × (i < length xs)) ⊎ ((j : ℕ) × (i ≡ length xs + j) × (slice_get ys j ≡ Some y))
  append_at [] ys i y e = inr (i, omega arith, e)
  append_at (x ∷ xs) ys zero y e = inl (e, omega arith)
  append_at (x ∷ xs) ys (suc i) y e = next (append_at xs ys i y e)
    where
      next : ((slice_get xs i ≡ Some y) × (i < length xs)) ⊎ ((j : ℕ) × (i ≡ length xs + j) × (slice_get ys j ≡ Some y))
          → ((slice_get xs i ≡ Some y) × (suc i < suc (length xs))) ⊎ ((j : ℕ) × (suc i ≡ suc (length xs) + j) × (slice_get ys j ≡ Some y))
      next (inl h) = let below = h.1 in inl (h.0, omega (arith, below))
      next (inr h) = let is = h.1 in inr (h.0, omega (arith, is), h.2)

  -- an element of the first n
  pub taken_at : (xs : List X) (n i : ℕ) (x : X) → slice_get (take n xs) i ≡ Some x → (i < n) × (slice_get xs i ≡ Some x)
  taken_at xs n i x e = by side
    where
      side : (i < n) ⊎ (length (take n xs) ≤ i)
      side = grind (arith, length-take n xs)

      by : (i < n) ⊎ (length (take n xs) ≤ i) → (i < n) × (slice_get xs i ≡ Some x)
      by (inl h) = (h, sym (slice_get_take xs n i h) ∙ e)
      by (inr past) = absurd (none_is x (sym (slice_get_past (take n xs) i past) ∙ e))

  -- where the first elements are the same, so is one of them, and a range of them
  pub get_same : (old new : List X) (e i : ℕ) → i < e → take e new ≡ take e old → slice_get new i ≡ slice_get old i
  get_same old new e i below same = sym (slice_get_take new e i below) ∙ ap (λ xs. slice_get xs i) same ∙ slice_get_take old e i below

  range_taken : (xs : List X) (a e : ℕ) → a ≤ e → drop a (take e xs) ≡ slice_range xs a e
  range_taken xs a e le =
      let whole : e ≡ a + (e - a) = omega (arith, le) in
      ap (λ n. drop a (take n xs)) whole ∙ drop-take a (e - a) xs

  pub range_same : (old new : List X) (a e : ℕ) → a ≤ e → take e new ≡ take e old → slice_range new a e ≡ slice_range old a e
  range_same old new a e le same = sym (range_taken new a e le) ∙ ap (drop a) same ∙ range_taken old a e le

  -- a range of what stands behind others
  pub range_past : (xs ys : List X) (a e : ℕ) → slice_range (xs ++ ys) (a + length xs) (e + length xs) ≡ slice_range ys a e
  range_past xs ys a e =
      let long : (e + length xs) - (a + length xs) ≡ e - a = omega arith in
      let begin : a + length xs ≡ length xs + a = omega arith in
      ap₂ (λ n m. take n (drop m (xs ++ ys))) long begin ∙ ap (take (e - a)) (drop-append-add xs ys a)

module _ {A B : Type 0} (f : A → B) where
  pub range_map : (xs : List A) (a e : ℕ) → slice_range (map f xs) a e ≡ map f (slice_range xs a e)
  range_map xs a e = ap (take (e - a)) (drop-map f a xs) ∙ take-map f (e - a) (drop a xs)

  -- what is made of each element
  pub map_same : (g : A → B) (xs : List A) → ((i : ℕ) (x : A) → slice_get xs i ≡ Some x → f x ≡ g x) → map f xs ≡ map g xs
  map_same g [] h = refl
  map_same g (x ∷ xs) h = ap₂ (λ y ys. y ∷ ys) (h 0 x refl) (map_same g xs (λ i y e. h (suc i) y e))

pub map_twice : {A B C D : Type 0} (f : B → D) (g : A → B) (h : C → D) (k : A → C) (xs : List A)
    → ((i : ℕ) (x : A) → slice_get xs i ≡ Some x → f (g x) ≡ h (k x)) → map f (map g xs) ≡ map h (map k xs)
map_twice f g h k [] same = refl
map_twice f g h k (x ∷ xs) same = ap₂ (λ y ys. y ∷ ys) (same 0 x refl) (map_twice f g h k xs (λ i y e. same (suc i) y e))
