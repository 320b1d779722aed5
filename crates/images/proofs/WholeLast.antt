-- A value is no part of itself, so it stands last among its parts.
use Rattle.std.proofs.Common.{◌≡◌, ℕ, ◌+◌, ◌≤◌, Bool, true, false, List, [], ◌∷◌, ◌++◌, length, unwrap_or, refl, ap, ◌∙◌, arith, length-append}
use Rattle.std.specs.List.{All}
use Rattle.std.proofs.lemmas.List.Elements.{All-append, All-nil, All-push, All-same, All-weaker}
use Rattle.core_terms.specs.Types.{Ty, PairTy, NamedTy, AuthTy, VecTy, Table, fields_at, item_types}
use Rattle.core_terms.specs.Values.{Value, PairV, ConV, ItemsV, Values, NoV, AndV}
use Rattle.images.specs.Images.{Entry, entry}
use Rattle.images.specs.SavedImages.{distinct, is_entry_of, walk}
use Rattle.images.proofs.AmongEntries.{all_among}
use Rattle.images.proofs.DistinctEntries.{distinct_append, distinct_new, distinct_without}
use Rattle.images.proofs.EntryParts.{fields, parts, walk_parts, walks}

module _ (types : Table) where
  -- the walk over the entry meets so many entries at most
  abbrev IsShort : ℕ → Entry → Type 0
  IsShort n e = length (walk types e.of_type e.value) ≤ n

  -- the walk over each of these meets as many entries at most as these are
  abbrev AreShort : List Entry → Type 0
  AreShort xs = All (IsShort (length xs)) xs

  shorter : (m n : ℕ) (xs : List Entry) → m ≤ n → All (IsShort m) xs → All (IsShort n) xs
  shorter m n xs h all = All-weaker (IsShort m) (IsShort n) (λ x k. omega (arith, h, k)) xs all

  short_append : (xs ys : List Entry) → AreShort xs → AreShort ys → AreShort (xs ++ ys)
  short_append xs ys h j =
      let all = length-append xs ys in
      All-append (IsShort (length (xs ++ ys))) xs ys (shorter (length xs) (length (xs ++ ys)) xs (omega (arith, all)) h)
      (shorter (length ys) (length (xs ++ ys)) ys (omega (arith, all)) j)

  length_walk : (t : Ty) (v : Value) → length (walk types t v) ≡ length (walks types (parts types t v)) + 1
  length_walk t v = ap length (walk_parts types t v) ∙ length-append (walks types (parts types t v)) (entry t v ∷ [])

  short_whole : (t : Ty) (v : Value) → AreShort (walks types (parts types t v)) → AreShort (walk types t v)
  short_whole t v h =
      let n = length (walk types t v) in
      let met = walks types (parts types t v) in
      let long = length_walk t v in
      All-same (IsShort n) (walk types t v) (met ++ entry t v ∷ []) (walk_parts types t v)
      (All-push (IsShort n) met (entry t v) (shorter (length met) n met (omega (arith, long)) h) (omega arith))

  mutual
    short_parts : (t : Ty) (v : Value) → AreShort (walks types (parts types t v))
    short_parts (PairTy a b) (PairV x y) =
        short_append (walk types a x) (walk types b y ++ []) (short_whole a x (short_parts a x))
        (short_append (walk types b y) [] (short_whole b y (short_parts b y)) (All-nil (IsShort 0)))
    short_parts (NamedTy number) (ConV tag vs) = short_fields (unwrap_or (fields_at types number tag) []) vs
    short_parts (VecTy n t) (ItemsV vs) = short_fields (item_types n t) vs
    short_parts (AuthTy t) v = short_append (walk types t v) [] (short_whole t v (short_parts t v)) (All-nil (IsShort 0))
    short_parts t v = All-nil (IsShort 0)

    short_fields : (ts : List Ty) (vs : Values) → AreShort (walks types (fields ts vs))
    short_fields (t ∷ ts) (AndV v vs) = short_append (walk types t v) (walks types (fields ts vs)) (short_whole t v (short_parts t v)) (short_fields ts vs)
    short_fields [] vs = All-nil (IsShort 0)
    short_fields (t ∷ ts) NoV = All-nil (IsShort 0)

  no_part_of_itself : (t : Ty) (v : Value) → is_entry_of (entry t v) (walks types (parts types t v)) ≡ false
  no_part_of_itself t v = by (is_entry_of (entry t v) met) refl
    where
      met : List Entry
      met = walks types (parts types t v)

      by : (b : Bool) → is_entry_of (entry t v) met ≡ b → b ≡ false
      by true g =
          let short : length (walk types t v) ≤ length met = all_among (IsShort (length met)) met (entry t v) (short_parts t v) g in
          let long : length (walk types t v) ≡ length met + 1 = length_walk t v in
          absurd (omega (arith, short, long))
      by false g = refl

  -- of the entries that a walk meets, each once, the whole is the last
  pub whole_last : (t : Ty) (v : Value) → distinct [] (walk types t v) ≡ distinct [] (walks types (parts types t v)) ++ entry t v ∷ []
  whole_last t v =
      let met = walks types (parts types t v) in
      ap (distinct []) (walk_parts types t v)
      ∙ distinct_append [] met (entry t v ∷ [])
      ∙ distinct_new (distinct [] met) (entry t v) [] (distinct_without met (entry t v) (no_part_of_itself t v))
