-- A list by its span, and the spans of a table that grows.
use Rattle.std.proofs.Common.{◌≡◌, ◌⊎◌, inl, inr, ◌<◌, ◌≤◌, ◌+◌, ◌-◌, ℕ, zero, suc, List, [], ◌∷◌, ◌++◌, length, drop, Option, Some, None, slice_get, refl, sym, ap, ◌∙◌, subst, arith}
use Rattle.std.proofs.lemmas.List.{length_push}
use Rattle.std.proofs.lemmas.Option.{slice_get-get_or, slice_get_within}
use Rattle.core_terms.specs.Types.{Ty, UnitTy, PairTy}
use Rattle.core_terms.specs.TypeTables.{type_at}
use Rattle.core_terms.specs.declared.types.TyId.{TyId}
use Rattle.code_check.specs.declared.lists.Top.{Top}
use Rattle.code_check.specs.declared.spans.Span.{Span}
use Rattle.code_check.specs.Spans.{AreSpans, IsListSpan, IsSpan, count_of, rest_of}
use Rattle.code_check.specs.TypeLists.{IsLeft, IsList, IsThere, IsTop, first_off, list_of}
use Rattle.code_check.proofs.ListsOfTypes.{there_stays}

abbrev pub span : ℕ → ℕ → TyId → Span
span n m id = record { count = n; over = m; behind = id }

-- A LIST BY ITS SPAN
count_list : (ts : List Ty) → count_of (list_of ts) ≡ length ts
count_list [] = refl
count_list (t ∷ ts) = ap suc (count_list ts)

rest_list : (n : ℕ) (ts : List Ty) → n ≤ length ts → rest_of n (list_of ts) ≡ list_of (drop n ts)
rest_list zero ts l = refl
rest_list (suc n) [] l = absurd (omega (arith, l))
rest_list (suc n) (t ∷ ts) l = rest_list n ts (omega (arith, l))

pub counted_by : (types : List Ty) (id : TyId) (s : Span) (ts : List Ty) → IsSpan types id.0 s → IsList types id ts → s.count ≡ length ts
counted_by types id s ts is h = is.count (list_of ts) h ∙ count_list ts

-- the list behind is what its span says
list_behind : (types : List Ty) (id : TyId) (s : Span) (ts : List Ty) → IsSpan types id.0 s → 0 < s.over → IsList types id ts → IsList types s.behind (drop s.over ts)
list_behind types id s ts is some h =
    let low : s.over ≤ length ts = omega (arith, is.over, counted_by types id s ts is h) in
    is.behind (list_of ts) h some ∙ ap Some (rest_list s.over ts low)

off_drop : (m n : ℕ) (ts : List Ty) → m ≤ n → m ≤ length ts → first_off (n - m) (drop m ts) ≡ first_off n ts
off_drop zero n ts l k = ap (λ n. first_off n ts) (same n)
  where
    same : (n : ℕ) → n - 0 ≡ n
    same n = omega arith
off_drop (suc m) zero ts l k = absurd (omega (arith, l))
off_drop (suc m) (suc n) [] l k = absurd (omega (arith, k))
off_drop (suc m) (suc n) (t ∷ ts) l k = ap (λ n. first_off n (drop m ts)) (less m n) ∙ off_drop m n ts (omega (arith, l)) (omega (arith, k))
  where
    less : (m n : ℕ) → suc n - suc m ≡ n - m
    less m n = omega arith

-- what is left behind it is what is left of the whole list
pub left_behind : (types : List Ty) (id : TyId) (s : Span) (n : ℕ) (ts : List Ty) (r : Option TyId) → IsSpan types id.0 s → 0 < s.over → s.over ≤ n → IsList types id ts
    → ((us : List Ty) → IsList types s.behind us → IsLeft types (first_off (n - s.over) us) r) → IsLeft types (first_off n ts) r
left_behind types id s n ts r is some l h f =
    let low : s.over ≤ length ts = omega (arith, is.over, counted_by types id s ts is h) in
    subst (λ o. IsLeft types o r) (off_drop s.over n ts l low) (f (drop s.over ts) (list_behind types id s ts is some h))

-- the type at a place is the first of what is left without those before it
pub nothing_at : (types : List Ty) (n : ℕ) (ts : List Ty) → IsLeft types (first_off n ts) None → IsThere types (slice_get ts n) None
nothing_at types zero ts h = elim h [ ]
nothing_at types (suc n) [] h = tt
nothing_at types (suc n) (t ∷ ts) h = nothing_at types n ts h

pub none_left : (types : List Ty) (n : ℕ) (ts : List Ty) (rest : TyId) → IsLeft types (first_off n ts) (Some rest) → ((us : List Ty) → IsList types rest us → IsTop types us None)
    → IsThere types (slice_get ts n) None
none_left types zero [] rest h f = tt
none_left types zero (t ∷ ts) rest h f = elim (f (t ∷ ts) h) [ ]
none_left types (suc n) [] rest h f = tt
none_left types (suc n) (t ∷ ts) rest h f = none_left types n ts rest h f

pub first_left : (types : List Ty) (n : ℕ) (ts : List Ty) (rest : TyId) (top : Top) → IsLeft types (first_off n ts) (Some rest)
    → ((us : List Ty) → IsList types rest us → IsTop types us (Some top)) → IsThere types (slice_get ts n) (Some top.first)
first_left types zero [] rest top h f = elim (f [] h) [ ]
first_left types zero (t ∷ ts) rest top h f = (f (t ∷ ts) h).0
first_left types (suc n) [] rest top h f = elim h [ ]
first_left types (suc n) (t ∷ ts) rest top h f = first_left types n ts rest top h f

-- SPANS OF ALL TYPES
last_at : {A : Type 0} (xs : List A) (x y : A) (i : ℕ) → slice_get (xs ++ x ∷ []) i ≡ Some y → (slice_get xs i ≡ Some y) ⊎ ((i ≡ length xs) × (x ≡ y))
last_at [] x y zero h = inr (refl, (let e : x ≡ y = cc in e))
last_at [] x y (suc i) h = absurd (cc)
last_at (z ∷ xs) x y zero h = inl h
last_at (z ∷ xs) x y (suc i) h = by (last_at xs x y i h)
  where
    by : (slice_get xs i ≡ Some y) ⊎ ((i ≡ length xs) × (x ≡ y)) → (slice_get xs i ≡ Some y) ⊎ ((suc i ≡ suc (length xs)) × (x ≡ y))
    by (inl e) = inl e
    by (inr e) = inr (ap suc e.0, e.1)

-- a span stays where a type comes behind the others
span_stays : (types : List Ty) (t : Ty) (i : ℕ) (s : Span) → i < length types → IsSpan types i s → IsSpan (types ++ t ∷ []) i s
span_stays types t i s l is = record {
  over = is.over;
  low = is.low;
  before = is.before;
  count = λ u h. is.count u (back u (last_at types t u i h));
  behind = λ u h some. there_stays types (types ++ t ∷ []) s.behind.0 (rest_of s.over u) (t ∷ [], refl) (is.behind u (back u (last_at types t u i h)) some);
}
  where
    back : (u : Ty) → (slice_get types i ≡ Some u) ⊎ ((i ≡ length types) × (t ≡ u)) → slice_get types i ≡ Some u
    back u (inl e) = e
    back u (inr e) = absurd (omega (arith, l, e.0))

spans_more : (types : List Ty) (t : Ty) (spans : List Span) (s : Span) → AreSpans types spans → IsSpan (types ++ t ∷ []) (length types) s → AreSpans (types ++ t ∷ []) (spans ++ s ∷ [])
spans_more types t spans s all is =
    (omega (arith, all.0, length_push types t, length_push spans s), λ i x h. by i x (last_at spans s x i h))
  where
    by : (i : ℕ) (x : Span) → (slice_get spans i ≡ Some x) ⊎ ((i ≡ length spans) × (s ≡ x)) → IsSpan (types ++ t ∷ []) i x
    by i x (inl e) = span_stays types t i x (omega (arith, all.0, slice_get_within spans i x e)) (all.1 i x e)
    by i x (inr e) = subst (λ (x : Span). IsSpan (types ++ t ∷ []) i x) e.1 (subst (λ i. IsSpan (types ++ t ∷ []) i s) (sym (e.0 ∙ all.0)) is)

-- the table grew by a type, whose span came behind the others
pub added : (old new : List Ty) (t : Ty) (spans : List Span) (s : Span) → AreSpans old spans → IsSpan (old ++ t ∷ []) (length old) s → (new ≡ old) ⊎ (new ≡ old ++ t ∷ [])
    → length spans < length new → AreSpans new (spans ++ s ∷ [])
added old new t spans s all is (inl e) more = absurd (omega (arith, more, all.0, ap length e))
added old new t spans s all is (inr e) more = subst (λ types. AreSpans types (spans ++ s ∷ [])) (sym e) (spans_more old t spans s all is)

-- SPANS THAT ARE MADE
-- one type over, or two ways and one type
pub one_over : (types : List Ty) (others : TyId) (under : Span) → others.0 < length types → IsSpan types others.0 under
    → IsListSpan types (type_at types others) (span (under.count + 1) 1 others)
one_over types others under low is =
    let there : slice_get types others.0 ≡ Some (type_at types others) = slice_get-get_or types others.0 UnitTy low in
    let count : under.count ≡ count_of (type_at types others) = is.count (type_at types others) there in
    record {
      over = omega arith;
      low = omega (arith, is.low, low);
      count = omega (arith, count);
      some = omega arith;
      before = low;
      behind = λ t. there;
    }

rest_rest : (m n : ℕ) (t : Ty) → m ≤ count_of t → rest_of n (rest_of m t) ≡ rest_of (m + n) t
rest_rest zero n t l = ap (λ m. rest_of m t) (none n)
  where
    none : (n : ℕ) → n ≡ 0 + n
    none n = omega arith
rest_rest (suc m) n (PairTy t u) l = rest_rest m n u (omega (arith, l)) ∙ ap (λ k. rest_of k (PairTy t u)) (up m n)
  where
    up : (m n : ℕ) → suc (m + n) ≡ suc m + n
    up m n = omega arith
rest_rest (suc m) n t l = absurd (omega (arith, l))

count_rest : (m : ℕ) (t : Ty) → m ≤ count_of t → m + count_of (rest_of m t) ≡ count_of t
count_rest zero t l = none (count_of t)
  where
    none : (n : ℕ) → 0 + n ≡ n
    none n = omega arith
count_rest (suc m) (PairTy t u) l = more m (count_of (rest_of m u)) (count_of u) (count_rest m u (omega (arith, l)))
  where
    more : (a b c : ℕ) → a + b ≡ c → suc a + b ≡ suc c
    more a b c e = omega (arith, e)
count_rest (suc m) t l = absurd (omega (arith, l))

pub both_over : (types : List Ty) (others : TyId) (under far : Span) → others.0 < length types → IsSpan types others.0 under → IsSpan types under.behind.0 far → 0 < under.over
    → under.over ≡ far.over → IsListSpan types (type_at types others) (span (under.count + 1) (under.over + far.over + 1) far.behind)
both_over types others under far low is at some same =
    let t = type_at types others in
    let there : slice_get types others.0 ≡ Some (type_at types others) = slice_get-get_or types others.0 UnitTy low in
    let count : under.count ≡ count_of (type_at types others) = is.count t there in
    let behind = is.behind t there some in
    let further : far.count ≡ count_of (rest_of under.over t) = at.count (rest_of under.over t) behind in
    let low_over : under.over ≤ count_of t = omega (arith, is.over, count) in
    let sum : under.over + count_of (rest_of under.over t) ≡ count_of t = count_rest under.over t low_over in
    record {
      over = omega (arith, count, further, sum, at.over);
      low = omega (arith, is.low, low);
      count = omega (arith, count);
      some = omega arith;
      before = omega (arith, at.before, is.before, low);
      behind = λ u. at.behind (rest_of under.over t) behind (omega (arith, some, same)) ∙ ap Some (rest_rest under.over far.over t low_over) ∙ ap (λ n. Some (rest_of n (PairTy u t))) (up under.over far.over);
    }
  where
    up : (m n : ℕ) → suc (m + n) ≡ m + n + 1
    up m n = omega arith
