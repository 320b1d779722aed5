-- What is kept of a list of types beside its type.
use Rattle.std.specs.Prelude.{◌≡◌, ◌<◌, ◌≤◌, ℕ, zero, suc, List, length, Some, slice_get}
use Rattle.core_terms.specs.Types.{Ty, PairTy}
use Rattle.code_check.specs.declared.spans.Span.{Span}

-- how many types a type has, where it is a list; of any type, how often there is a pair in the second part of a pair
abbrev pub count_of : Ty → ℕ
count_of (PairTy t u) = suc (count_of u)
count_of t = 0

-- the list without so many types at its front
abbrev pub rest_of : ℕ → Ty → Ty
rest_of zero t = t
rest_of (suc n) (PairTy t u) = rest_of n u
rest_of (suc n) t = t

-- The span is that of the type with this number. Whether there is such a type or not, its numbers are at most that one, so no sum of them wraps.
pub record IsSpan (types : List Ty) (i : ℕ) (span : Span) : Type 0 where
  pub over : span.over ≤ span.count
  pub low : span.count ≤ i
  pub before : span.behind.0 ≤ i
  pub count : (t : Ty) → slice_get types i ≡ Some t → span.count ≡ count_of t
  pub behind : (t : Ty) → slice_get types i ≡ Some t → 0 < span.over → slice_get types span.behind.0 ≡ Some (rest_of span.over t)

-- the spans of all types
abbrev pub AreSpans : List Ty → List Span → Type 0
AreSpans types spans = (length spans ≡ length types) × ((i : ℕ) (span : Span) → slice_get spans i ≡ Some span → IsSpan types i span)

-- the span of a list that comes behind these types, by the list of all its types but the first
pub record IsListSpan (types : List Ty) (others : Ty) (span : Span) : Type 0 where
  pub over : span.over ≤ span.count
  pub low : span.count ≤ length types
  pub count : span.count ≡ suc (count_of others)
  pub some : 0 < span.over
  pub before : span.behind.0 < length types
  pub behind : (t : Ty) → slice_get types span.behind.0 ≡ Some (rest_of span.over (PairTy t others))
